use Rattle.club_core.proofs.seats.seated_row.Goals as goal

pub returns : goal.returns
returns g c = rw c.in_ok-key.ensures.ok at c.started_row.ensures
