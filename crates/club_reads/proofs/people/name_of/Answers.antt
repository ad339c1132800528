use Rattle.std.proofs.Common.{[], ◌∷◌, map, SFits, w64, to_z-of_z, sym, subst, ◌∙◌, arith}
use Rattle.std.proofs.lemmas.Int.{ints}
use Rattle.sqlite.specs.declared.types.Value.TheVariants.{Int}
use Rattle.store_tables.specs.internal.Cells.{member_cells}
use Rattle.store_tables.specs.internal.Contents.{AreThose}
use Rattle.club_rows.specs.Club.{tables}
use Rattle.club_changes.proofs.Proved.{member_found, name_same, first_mapped}
use Rattle.club_reads.proofs.people.name_of.Goals as goal

pub returns-in-Some-clause-found : goal.returns-in-Some-clause-found
returns-in-Some-clause-found g c clean s k known at =
    let rows = c.in_ok-find_by_first.field-0.items in
    let fits : SFits w64 c.from-number.result =
    subst (SFits w64) (sym c.from-number.ensures) (omega (arith, ints, c.ranges.member.fits)) in
    let found = c.in_ok-find_by_first.ensures.rows clean (tables s) k in
    let those = subst (λ z. AreThose (0 ∷ []) (Int z ∷ []) (tables s 1) (map member_cells rows))
    (to_z-of_z fits ∙ c.from-number.ensures) found.0 in
    name_same c.in-Some.row c.args.member known
    (member_found s c.args.member (map member_cells rows) (member_cells c.in-Some.row) known those
    (first_mapped member_cells rows c.in-Some.row (sym c.first.ensures ∙ c.in-Some.is)) at)
