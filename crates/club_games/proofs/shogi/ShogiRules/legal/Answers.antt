use Rattle.club_games.specs.internal.ShogiLaws.{shogi-listed}
use Rattle.club_games.proofs.shogi.ShogiRules.legal.Goals as goal

pub returns-in-Ok : goal.returns-in-Ok
returns-in-Ok c = shogi-listed c.args.position.now c.in-Ok.moves.items c.in-Ok.ensures.in_order c.in-Ok.ensures.members
