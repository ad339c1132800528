use Rattle.club_games.proofs.DraughtsFaults.{no-illegal}
use Rattle.club_games.proofs.draughts.DraughtsRules.judge.Goals as goal

pub unreachable-requires : goal.unreachable-requires
unreachable-requires c =
    no-illegal _ _ _ _ c.requires (rw c.in-Err-Illegal.field-0-is at c.in-Err-Illegal.ensures.fault)
