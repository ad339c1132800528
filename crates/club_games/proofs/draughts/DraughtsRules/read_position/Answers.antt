use Rattle.club_games.proofs.DraughtsFaults.{no-position}
use Rattle.club_games.proofs.draughts.DraughtsRules.read_position.Goals as goal

pub returns-in-Err-BadText : goal.returns-in-Err-BadText
returns-in-Err-BadText c p is =
    no-position _ _ p (rw c.in-Err-BadText.field-0-is at c.in-Err-BadText.ensures.fault) is
