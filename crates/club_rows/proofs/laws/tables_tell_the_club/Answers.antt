use Rattle.club_core.specs.ClubRules.{both}
use Rattle.club_rows.proofs.ClubsAlike.{clubs-alike}
use Rattle.club_rows.proofs.laws.tables_tell_the_club.Goals as goal

pub returns : goal.returns
returns g c = clubs-alike (both g.D.Rules.rules g.S.Rules.rules g.D.Records.records g.S.Records.records)
    g.met.D.Rules.reads_back g.met.S.Rules.reads_back
