use Rattle.std.proofs.Common.{◌≡◌, [], length, map, ap, rules}
use Rattle.std.proofs.lemmas.List.{nil_from_length}
use Rattle.store_tables.specs.internal.Cells.{key_cells}
use Rattle.club_reads.proofs.HolderLemmas.{first_given_up, first_held, some_row}
use Rattle.club_reads.proofs.people.first_holder.Goals as goal

pub returns-then-is_empty-clause-found : goal.returns-then-is_empty-clause-found
returns-then-is_empty-clause-found g c clean s is_club version k n m at cells =
    let those = c.in_ok-keys.ensures.rows clean s is_club version k in
    let none : length c.in_ok-keys.keys.items ≡ 0 = search rules in
    first_held s is_club n m c.args.row c.in_ok-keys.keys.items at cells those
    (ap (map key_cells) (nil_from_length _ none))

pub returns-clause-found : goal.returns-clause-found
returns-clause-found g c clean s is_club version k n m at cells =
    let those = c.in_ok-keys.ensures.rows clean s is_club version k in
    let some : c.in_ok-keys.keys.items ≡ [] → ⊥ = search rules in
    let (z, has) = some_row c.in_ok-keys.keys.items some in
    first_given_up s is_club n m c.args.row c.in_ok-keys.keys.items z at cells those has
