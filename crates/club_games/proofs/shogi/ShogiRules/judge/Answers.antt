use Rattle.club_games.specs.internal.ShogiEnds.{end-computed}
use Rattle.club_games.proofs.ShogiFaults.{no-illegal, none-after}
use Rattle.club_games.proofs.shogi.ShogiRules.judge.Goals as goal

pub unreachable-requires : goal.unreachable-requires
unreachable-requires c =
    no-illegal _ _ _ _ c.requires (rw c.in-Err-Illegal.field-0-is at c.in-Err-Illegal.ensures.fault)

pub unreachable-requires-in-Err-AfterEnd : goal.unreachable-requires-in-Err-AfterEnd
unreachable-requires-in-Err-AfterEnd c =
    none-after _ _ _ c.requires (rw c.in-Err-AfterEnd.field-0-is at c.in-Err-AfterEnd.ensures.fault)

pub returns-in-Ok : goal.returns-in-Ok
returns-in-Ok c = end-computed c.args.start.now c.args.moves.now c.in-Ok.end c.in-Ok.ensures.end
