use Rattle.club_games.proofs.ShogiFaults.{refused-reading}
use Rattle.club_games.proofs.shogi.ShogiRules.read_move.Goals as goal

pub returns-in-Err-BadText : goal.returns-in-Err-BadText
returns-in-Err-BadText c =
    refused-reading _ _ (rw c.in-Err-BadText.field-0-is at c.in-Err-BadText.ensures.fault)
