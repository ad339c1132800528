use Rattle.club_games.specs.internal.DraughtsLaws.{check-legal}
use Rattle.club_games.proofs.draughts.DraughtsRules.play.Goals as goal

pub play-requires : goal.play-requires
play-requires c = check-legal c.args.position.now c.args.made.now c.requires
