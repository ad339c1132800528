use Rattle.club_games.specs.internal.DraughtsLaws.{draughts-listed}
use Rattle.club_games.proofs.draughts.DraughtsRules.legal.Goals as goal

pub returns-in-Ok : goal.returns-in-Ok
returns-in-Ok c = draughts-listed c.args.position.now c.in-Ok.moves.items c.in-Ok.ensures.in_order
    c.in-Ok.ensures.members
