use Rattle.pdn.proofs.Proved.{text-one}
use Rattle.club_games.specs.internal.DraughtsLaws.{check-legal}
use Rattle.club_games.proofs.draughts.DraughtsRules.write_move.Goals as goal

pub write_move-requires : goal.write_move-requires
write_move-requires c = check-legal c.args.position.now c.args.made.now c.requires

pub returns-in-Ok : goal.returns-in-Ok
returns-in-Ok c = text-one _ _ _ (check-legal c.args.position.now c.args.made.now c.requires) c.in-Ok.ensures
