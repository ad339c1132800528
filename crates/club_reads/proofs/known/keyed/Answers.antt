use Rattle.std.proofs.Common.{sym, subst, ◌∙◌}
use Rattle.club_changes.specs.internal.Importing.{IsUnder}
use Rattle.club_reads.proofs.known.keyed.Goals as goal

pub returns-in_ok-ids_in-in-Some : goal.returns-in_ok-ids_in-in-Some
returns-in_ok-ids_in-in-Some c s key under =
    let is = subst (IsUnder s key) c.in-Some.is under in
    c.in_ok-ids_in-in-Some.ensures s is.id is.game is.stored_is.row ∙ sym is.keyed

pub returns-in-None : goal.returns-in-None
returns-in-None c s key under = let is = subst (IsUnder s key) c.in-None.is under in sym is.1
