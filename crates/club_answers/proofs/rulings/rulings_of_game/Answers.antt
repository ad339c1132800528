use Rattle.std.proofs.Common.{◌≡◌, Some, sym, subst}
use Rattle.store_tables.proofs.Proved.{reads_on}
use Rattle.club_core.specs.State.{place}
use Rattle.club_rows.proofs.Proved.{stores-rows}
use Rattle.club_answers.proofs.CallLemmas.{between}
use Rattle.club_answers.proofs.rulings.rulings_of_game.Goals as goal

pub returns-in_ok-rulings-in-Some-clause-reads : goal.returns-in_ok-rulings-in-Some-clause-reads
returns-in_ok-rulings-in-Some-clause-reads g c =
    reads_on c.in_ok-stored.ensures.reads c.in_ok-rulings-in-Some.ensures.reads

pub returns-in_ok-rulings-in-Some-clause-found : goal.returns-in_ok-rulings-in-Some-clause-found
returns-in_ok-rulings-in-Some-clause-found g c clean s is_club version k =
    let (first, kept) = between s c.in_ok-stored.ensures.reads c.in_ok-rulings-in-Some.ensures.reads clean k in
    let (any, at, stored) =
    rw c.in-Some.is at (c.in_ok-stored.ensures.found first s is_club (stores-rows s _ k)) in
    let here = subst (λ i. place s.games i ≡ Some any) (sym stored.id_is) at in
    (any, at, c.in_ok-rulings-in-Some.ensures.rulings clean s any is_club version kept here)

pub returns-in-None-clause-found : goal.returns-in-None-clause-found
returns-in-None-clause-found g c clean s is_club version k =
    rw c.in-None.is at (c.in_ok-stored.ensures.found clean s is_club (stores-rows s _ k))
