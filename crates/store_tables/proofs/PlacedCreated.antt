-- A table of a club that is made stands, behind whatever tables, and goes on standing when further ones are made.
use Rattle.std.proofs.Common.{◌≡◌, ℕ, zero, suc, ◌+◌, ◌==◌, ◌<◌, ◌^◌, true, false, Bool, cond, List, [], ◌∷◌, ◌++◌}
use Rattle.std.proofs.Common.{Option, Some, None, refl, ◌∙◌, slice_get, length, inl, inr, arith, find, nat_lt, eq-eqb}
use Rattle.std.proofs.lemmas.Grind.{common_steps}
use Rattle.std.proofs.lemmas.List.Folds.{find-append}
use Rattle.std.specs.List.{position_from}
use Rattle.std.specs.Option.{option_or}
use Rattle.store_tables.specs.Sql.{Schema, Table, Has}
use Rattle.sqlite_catalog.proofs.StepLemmas.{table_below}
use Rattle.sqlite_catalog.specs.Change.{automatics, created, next_tree}
use Rattle.sqlite_catalog.specs.Listing.{automatic}
use Rattle.sqlite_rules.proofs.ListLemmas.{has_left, has_right}
use Rattle.sqlite_schema.specs.Names.{same_name, table_named}
use Rattle.store_tables.specs.Names.{table_name}
use Rattle.store_tables.specs.Placed.{HasTableAt}
use Rattle.store_tables.specs.Tables.{indexes_of, made_as}
use Rattle.store_tables.specs.declared.names.Table as of_club
use Rattle.store_tables.specs.declared.names.Table.TheVariants.{Meta}
use Rattle.store_tables.proofs.ExcludedLemmas.{slice_last}
use Rattle.store_tables.proofs.PlacedSelects.{tree_is}
use Rattle.store_tables.proofs.PlacedTerms.{with_tree}

-- ---- the indexes of the UNIQUE keys of a table

pub automatics_have : (table : Table) (keys : List (List ℕ)) (from tree at n : ℕ) (key : List ℕ) → from + at ≡ n
    → slice_get keys at ≡ Some key → (t : ℕ) × Has (automatics table from tree keys) (automatic table n key t)
automatics_have table [] from tree at n key sum is = absurd cc
automatics_have table (k ∷ keys) from tree zero n key sum is =
    let same : key ≡ k = cc in
    let first : n ≡ from = omega (arith, sum) in
    (tree, inl (λ i. automatic table (first i) (same i) tree))
automatics_have table (k ∷ keys) from tree (suc at) n key sum is =
    let rest = automatics_have table keys (from + 1) (tree + 1) at n key (omega (arith, sum)) is in
    (rest.0, inr rest.1)

-- ---- a list that grows at its end

module _ {X : Type 0} (p : X → Bool) where
  if_first : (b : Bool) (from at : ℕ) (old new : Option ℕ) → (old ≡ Some at → new ≡ Some at)
      → cond b (Some from) old ≡ Some at → cond b (Some from) new ≡ Some at
  if_first true from at old new step h = h
  if_first false from at old new step h = step h

  pub position_kept : (xs ys : List X) (from at : ℕ) → position_from p from xs ≡ Some at
      → position_from p from (xs ++ ys) ≡ Some at
  position_kept [] ys from at is = absurd cc
  position_kept (x ∷ xs) ys from at is =
      if_first (p x) from at (position_from p (from + 1) xs) (position_from p (from + 1) (xs ++ ys))
      (position_kept xs ys (from + 1) at) is

  none_later : (b : Bool) (from : ℕ) (later : Option ℕ) → cond b (Some from) later ≡ None → (b ≡ false) × (later ≡ None)
  none_later true from later is = absurd cc
  none_later false from later is = (refl, is)

  pub position_last : (xs : List X) (x : X) (from n : ℕ) → from + length xs ≡ n → position_from p from xs ≡ None
      → p x ≡ true → position_from p from (xs ++ x ∷ []) ≡ Some n
  position_last [] x from n sum none is =
      let first : from ≡ n = omega (arith, sum) in
      λ i. cond (is i) (Some (first i)) None
  position_last (y ∷ xs) x from n sum none is =
      let rest = none_later (p y) from (position_from p (from + 1) xs) none in
      (λ i. cond (rest.0 i) (Some from) (position_from p (from + 1) (xs ++ x ∷ [])))
      ∙ position_last xs x (from + 1) n (omega (arith, sum)) rest.1 is

  pub find_none : (xs : List X) → ((x : X) → Has xs x → p x ≡ false) → find p xs ≡ None
  find_none [] none = refl
  find_none (x ∷ xs) none =
      (λ i. cond (none x (inl refl) i) (Some x) (find p xs)) ∙ find_none xs (λ y has. none y (inr has))

pub slice_kept : {X : Type 0} (xs ys : List X) (at : ℕ) (x : X) → slice_get xs at ≡ Some x
    → slice_get (xs ++ ys) at ≡ Some x
slice_kept [] ys at x is = absurd cc
slice_kept (y ∷ xs) ys zero x is = is
slice_kept (y ∷ xs) ys (suc at) x is = slice_kept xs ys at x is

-- ---- a table more

-- the schema with a table more, and the indexes of its UNIQUE keys
abbrev pub grown : Schema → Table → Schema
grown schema table =
    record schema { tables = schema.tables ++ table ∷ []; indexes = schema.indexes ++ indexes_of table }

abbrev pub stands_kept : (schema : Schema) (new : Table) (table : of_club.Table) → HasTableAt schema table
    → HasTableAt (grown schema new) table
stands_kept schema new table stands = record {
  place = stands.place;
  tree = stands.tree;
  named = position_kept (λ (t : Table). same_name t.name (table_name table)) schema.tables (new ∷ []) 0 stands.place
      stands.named;
  at = slice_kept schema.tables (new ∷ []) stands.place (made_as table stands.tree) stands.at;
  own = find-append (λ (t : Table). t.tree == stands.tree) schema.tables (new ∷ [])
      ∙ (λ i. option_or (stands.own i) (find (λ (t : Table). t.tree == stands.tree) (new ∷ [])));
  stored = stands.stored;
  guarded = λ at key is.
      let own = stands.guarded at key is in
      (own.0, has_left schema.indexes (indexes_of new) (automatic (made_as table stands.tree) at key own.0) own.1);
}

-- What stood before another table was made stands.
unfoldable pub stands_on : (schema : Schema) (new : Table) (table : of_club.Table) → HasTableAt schema table
    → HasTableAt (created schema new) table
stands_on schema new table = stands_kept schema (record new { tree = next_tree schema }) table

pub same_table : (table : of_club.Table) (tree : ℕ) → with_tree (made_as table 0) tree ≡ made_as table tree
same_table Meta tree = refl
same_table _ tree = refl

pub called : (table : of_club.Table) (tree : ℕ) → same_name (made_as table tree).name (table_name table) ≡ true
unfolding same_name
called Meta tree = refl
called _ tree = refl

-- a table more has a tree below the next one
pub next_rises : (schema : Schema) (table : Table) → next_tree schema < next_tree (created schema table)
next_rises schema table =
    let new : Table = record table { tree = next_tree schema } in
    table_below (created schema table) new (has_right schema.tables (new ∷ []) new (inl refl))

pub apart : (n m : ℕ) → n < m → (n == m) ≡ false
apart n m less = grind (arith, common_steps, less)

module _ (schema : Schema) (table : of_club.Table) (free : table_named schema (table_name table) ≡ None)
    (stored : nat_lt (next_tree schema) (2 ^ 31) ≡ true) where
  abbrev pub made : Table
  made = made_as table (next_tree schema)

  abbrev pub stands_grown : HasTableAt (grown schema made) table
  stands_grown = record {
    place = length schema.tables;
    tree = next_tree schema;
    named = position_last (λ (t : Table). same_name t.name (table_name table)) schema.tables made 0
        (length schema.tables) (omega arith) free (called table (next_tree schema));
    at = slice_last schema.tables made;
    own = find-append (λ (t : Table). t.tree == next_tree schema) schema.tables (made ∷ [])
        ∙ (λ i. option_or (before i) (find (λ (t : Table). t.tree == next_tree schema) (made ∷ [])))
        ∙ (λ i. cond (its i) (Some made) None);
    stored = stored;
    guarded = λ at key is.
        let own = automatics_have made made.uniques 0 (made.tree + 1) at at key (omega arith) is in
        (own.0, has_right schema.indexes (indexes_of made) (automatic made at key own.0) own.1);
  }
    where
      before : find (λ (t : Table). t.tree == next_tree schema) schema.tables ≡ None
      before =
          find_none (λ (t : Table). t.tree == next_tree schema) schema.tables
          (λ t has. apart t.tree (next_tree schema) (table_below schema t has))

      its : (made.tree == next_tree schema) ≡ true
      its = eq-eqb made.tree (next_tree schema) (tree_is table (next_tree schema))
