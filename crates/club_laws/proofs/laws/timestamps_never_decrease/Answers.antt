use Rattle.club_core.specs.ClubRules.{both}
use Rattle.club_laws.proofs.Folds.{next-raises}
use Rattle.club_laws.proofs.laws.timestamps_never_decrease.Goals as goal

pub returns : goal.returns
returns g c = next-raises (both g.D.Rules.rules g.S.Rules.rules g.D.Records.records g.S.Records.records)
