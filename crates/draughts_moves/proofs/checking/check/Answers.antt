use Rattle.draughts_moves.proofs.CheckLemmas.{IsCheck-same, check_of-is}
use Rattle.draughts_moves.proofs.checking.check.Goals as goal

pub returns-then-is_empty-clause-value : goal.returns-then-is_empty-clause-value
returns-then-is_empty-clause-value c = IsCheck-same _ _ _ _ c.check_quiet.ensures
    (check_of-is c.args.position.now c.args.played.now)

pub returns-clause-value : goal.returns-clause-value
returns-clause-value c = IsCheck-same _ _ _ _ c.check_capture.ensures
    (check_of-is c.args.position.now c.args.played.now)
