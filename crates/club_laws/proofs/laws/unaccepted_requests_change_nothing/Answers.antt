use Rattle.club_core.specs.ClubRules.{both}
use Rattle.club_core.specs.State.{step}
use Rattle.club_laws.proofs.Folds.{unmoved}
use Rattle.club_laws.proofs.laws.unaccepted_requests_change_nothing.Goals as goal

pub returns : goal.returns
returns g c =
    λ s r kept. unmoved s (step (both g.D.Rules.rules g.S.Rules.rules g.D.Records.records g.S.Records.records) s r) kept
