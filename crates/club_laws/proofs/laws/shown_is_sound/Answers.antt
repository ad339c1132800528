use Rattle.club_laws.proofs.Sound.{shown-sound}
use Rattle.club_laws.proofs.laws.shown_is_sound.Goals as goal

pub returns : goal.returns
returns g c = λ game ply. shown-sound g.R.Rules.rules game c.args.view.now ply g.met.R.Rules.numbers_are_few
