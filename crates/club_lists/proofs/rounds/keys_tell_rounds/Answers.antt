use Rattle.club_lists.proofs.RoundLemmas.{told}
use Rattle.club_lists.proofs.rounds.keys_tell_rounds.Goals as goal

pub returns : goal.returns
returns c =
    told c.args.round c.args.board c.requires.round_from c.requires.round_to c.requires.board_from c.requires.board_to
