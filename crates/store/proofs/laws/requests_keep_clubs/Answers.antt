use Rattle.store.proofs.LegalLemmas.{club_stays}
use Rattle.store.proofs.laws.requests_keep_clubs.Goals as goal

pub returns : goal.returns
returns c = club_stays
