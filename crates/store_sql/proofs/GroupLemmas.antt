-- What a SELECT by the first column tells of whatever database.
use Rattle.std.proofs.Common.{◌≡◌, ℕ, ℤ, Bool, true, false, List, [], ◌∷◌, ◌++◌, map, filter, flat_map, get_or}
use Rattle.std.proofs.Common.{refl, ap, sym, subst, subst₂, ◌∙◌, inl, inr, ◌⊎◌, All, Ordering}
use Rattle.std.specs.Prelude.{if◌then◌else◌}
use Rattle.std.specs.List.{AllByRecursion, list_all}
use Rattle.std.specs.List.Sorted.{IsPermutation}
use Rattle.std.proofs.lemmas.List.Sorted.{IsPermutation-map, IsPermutation-sym}
use Rattle.sqlite_value.specs.declared.value.Value.TheVariants.{Null}
use Rattle.store_tables.specs.Sql.{Row, Table, Schema, Database, State, Has}
use Rattle.sqlite.specs.Effect.{Reads}
use Rattle.sqlite.specs.Command.TheVariants.{Select}
use Rattle.sqlite.specs.declared.types.Value.TheVariants.{Int}
use Rattle.sqlite_trees.proofs.ListLemmas.{filter-map, map-map}
use Rattle.sqlite_sql.specs.Term.{holds}
use Rattle.sqlite_sql.specs.Query.{IsAnswer, Output, output}
use Rattle.sqlite_sql.specs.Program.{overlay}
use Rattle.store_tables.specs.Content.{cells, same_key, Keeps}
use Rattle.store_tables.specs.internal.Put.{selects}
use Rattle.store_tables.specs.Placed.{club_trees}
use Rattle.store_tables.specs.internal.Queries.{Finds}
use Rattle.store_tables.proofs.Proved.{has_index, has_mapped, has_turned}
use Rattle.sqlite_rules.proofs.ListLemmas.{all_has, has_filtered}
use Rattle.store_sql.specs.declared.fault.ReadFault.{ReadFault}
use Rattle.store_sql.specs.declared.fault.ReadFault.TheVariants.{WrongType, Memory}
use Rattle.store_sql.specs.Read.{beginning_with}
use Rattle.store_sql.specs.internal.Read.{AreReadOf, Blames}

passing : {A B : Type 0} (p : A → Bool) (g : A → B) (xs : List A)
    → flat_map (λ x. if p x then g x ∷ [] else []) xs ≡ map g (filter p xs)
passing p g [] = refl
passing p g (x ∷ xs) =
    elim (p x) as (λ b. (if b then g x ∷ [] else []) ++ flat_map (λ y. if p y then g y ∷ [] else []) xs
    ≡ map g (if b then x ∷ filter p xs else filter p xs))
    [ true ↦ ap (λ l. g x ∷ l) (passing p g xs) | false ↦ passing p g xs ]

-- a row is shown for each row of the table that has the wanted values
pub each_found : (schema : Schema) (table : Table) (place : ℕ) (key : List ℕ) (wanted params : Row) (sql : List ℕ)
    (cmp : Row → Row → Ordering) (by : Finds schema table place key wanted params sql cmp) (db : Database)
    (rows : List Row)
    → Reads (Select (record { lets = []; body = selects table.tree by.filter by.project by.order }) by.names) db params
    rows → IsPermutation (filter (λ x. same_key key x wanted) (map (cells table) (db.trees table.tree))) rows
each_found schema table place key wanted params sql cmp by db rows h =
    let q = selects table.tree by.filter by.project by.order in
    let a : IsAnswer q (overlay db.trees []) params rows = h.answer Null in
    let env = λ (r : Row). params ∷ r ∷ [] in
    let passes = λ (r : Row). list_all (holds (params ∷ r ∷ [])) by.filter in
    let chosen = filter passes (db.trees table.tree) in
    let staged : a.staged ≡ map env chosen = a.grouped
    ∙ ap (flat_map (λ r. if passes r then env r ∷ [] else [])) (by.overlaid db.trees)
    ∙ passing passes env (db.trees table.tree) in
    subst₂ IsPermutation (ap (map (λ (o : Output). o.1)) (a.distinct ∙ ap (map (output q)) staged)
    ∙ map-map (λ (o : Output). o.1) (output q) (map env chosen) ∙ map-map (λ e. (output q e).1) env chosen
    ∙ (λ i. map (λ r. by.shows r i) (filter (λ r. by.picks r i) (db.trees table.tree)))
    ∙ sym (filter-map (λ x. same_key key x wanted) (cells table) (db.trees table.tree))) (sym a.shown)
    (IsPermutation-map (λ (o : Output). o.1) a.kept a.ordered a.same)

-- each row that is shown is one of the table
pub shown_typed : (table : Table) (width : ℕ) (n : ℤ) (IsTyped : Row → Type 0) (old new : State) (shown : List Row)
    → AreReadOf table width n shown old new → (rows : List Row) → Keeps table (club_trees old.now) rows
    → AllByRecursion IsTyped rows → All IsTyped shown
shown_typed table width n IsTyped old new shown read rows kept all i d within =
    let x = get_or shown i d in
    let mapped = map (cells table) (club_trees old.now table.tree) in
    let chosen = has_turned shown (beginning_with n mapped) x (IsPermutation-sym _ _ read.once)
    (has_index shown i d within) in
    let (r, stored, is) = has_mapped (cells table) (club_trees old.now table.tree) x
    (has_filtered (λ z. same_key (0 ∷ []) z (Int n ∷ [])) mapped x chosen).0 in
    all_has IsTyped rows x all (subst (Has rows) (sym is) (kept.only r stored))

-- a value of another type than its column
pub blame : (table : Table) (IsTyped : Row → Type 0) (old : State) (slice shown : List Row) (e : ReadFault)
    → slice ≡ shown
    → ((rows : List Row) → Keeps table (club_trees old.now) rows → AllByRecursion IsTyped rows → All IsTyped shown)
    → (e ≡ Memory) ⊎ ((e ≡ WrongType) × (¬ All IsTyped slice)) → Blames table IsTyped old e
blame table IsTyped old slice shown e is typed (inl memory) = inr (inl memory)
blame table IsTyped old slice shown e is typed (inr (named, wrong)) =
    inr (inr (named, λ rows kept apart all. (rw is at wrong) (typed rows kept all)))

-- rows that were read, of which one has a value of another type, are rows of the table
pub untyped_begun : (table : Table) (width : ℕ) (n : ℤ) (IsTyped : Row → Type 0) (old new : State)
    (slice shown : List Row) (e : ReadFault) → slice ≡ shown → AreReadOf table width n shown old new
    → (e ≡ Memory) ⊎ ((e ≡ WrongType) × (¬ All IsTyped slice)) → e ≡ WrongType
    → ¬ AllByRecursion IsTyped (beginning_with n (map (cells table) (club_trees old.now table.tree)))
untyped_begun table width n IsTyped old new slice shown e is read (inl memory) wrong all = cc
untyped_begun table width n IsTyped old new slice shown e is read (inr (named, none)) wrong all =
    (rw is at none) (λ i d within.
    all_has IsTyped (beginning_with n (map (cells table) (club_trees old.now table.tree))) (get_or shown i d) all
    (has_turned shown _ (get_or shown i d) (IsPermutation-sym _ _ read.once) (has_index shown i d within)))
