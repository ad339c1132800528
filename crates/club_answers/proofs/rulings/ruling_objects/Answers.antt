use Rattle.std.proofs.Common.{refl}
use Rattle.store_tables.proofs.Proved.{ended}
use Rattle.club_answers.proofs.rulings.ruling_objects.Goals as goal

pub returns-in_ok-rulings_json-in-Some-clause-found : goal.returns-in_ok-rulings_json-in-Some-clause-found
returns-in_ok-rulings_json-in-Some-clause-found g c clean s is_club version k =
    let (game, at, same) = rw c.in-Some.is at (c.in_ok-rulings.ensures.found clean s is_club version k) in
    (game, at, rw (c.deref.ensures.value, same) at c.in_ok-rulings_json-in-Some.ensures)

pub returns-in-None-clause-found : goal.returns-in-None-clause-found
returns-in-None-clause-found g c clean s is_club version k =
    (rw c.in-None.is at (c.in_ok-rulings.ensures.found clean s is_club version k), refl)
