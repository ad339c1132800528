use Rattle.club_core.specs.ClubRules.{both}
use Rattle.club_laws.proofs.Offers.{offers-passed}
use Rattle.club_laws.proofs.laws.outdated_offers_are_refused.Goals as goal

pub returns : goal.returns
returns g c = offers-passed (both g.D.Rules.rules g.S.Rules.rules g.D.Records.records g.S.Records.records)
