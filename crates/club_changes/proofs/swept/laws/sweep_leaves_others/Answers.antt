use Rattle.club_changes.proofs.LateGames.{leaves_others}
use Rattle.club_changes.proofs.swept.laws.sweep_leaves_others.Goals as goal

pub returns : goal.returns
returns c = λ s moment. leaves_others s moment
