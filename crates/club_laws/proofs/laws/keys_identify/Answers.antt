use Rattle.club_core.specs.ClubRules.{both}
use Rattle.club_laws.proofs.KeyOwners.{key-owner}
use Rattle.club_laws.proofs.laws.keys_identify.Goals as goal

pub returns : goal.returns
returns g c =
    λ s id n m key legal.
    key-owner (both g.D.Rules.rules g.S.Rules.rules g.D.Records.records g.S.Records.records) s legal id n m key
