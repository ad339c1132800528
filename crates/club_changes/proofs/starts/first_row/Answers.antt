use Rattle.club_changes.proofs.starts.first_row.Goals as goal

pub returns-in-Some : goal.returns-in-Some
returns-in-Some g c = rw c.in-Some.is c.seated_row.ensures

pub returns-in-None : goal.returns-in-None
returns-in-None g c = rw c.in-None.is c.keyless_row.ensures
