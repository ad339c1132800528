-- The rows of a club by its own numbers, and where they stand.
use Rattle.std.proofs.Common.{true, ◌≡◌, ℕ, ◌==◌, Bool, false, List, [], ◌∷◌, Some, None, refl, sym, ap, ◌∙◌, inl, inr}
use Rattle.std.proofs.Common.{◌⊎◌, true≢false, if◌then◌else◌, eq-eqb, eqb-true, IsTrue, arith, slice_get, take, zero, suc}
use Rattle.std.proofs.Common.{◌<◌, nat_lt}
use Rattle.std.proofs.lemmas.Bool.{cases_Bool}
use Rattle.std.proofs.lemmas.Grind.{common_steps}
use Rattle.std.specs.List.{AllByRecursion}
use Rattle.sqlite_rules.proofs.ListLemmas.{has_found}
use Rattle.store_tables.specs.Sql.{Schema, Has}
use Rattle.sqlite_schema.specs.Names.{table_named}
use Rattle.store_tables.specs.Contents.{Content}
use Rattle.store_tables.specs.Names.{in_order, table_count, table_name, tree_of}
use Rattle.store_tables.specs.internal.Names.{place_of}
use Rattle.store_tables.specs.internal.Tables.{has_table}
use Rattle.store_tables.specs.Over.{Neighbours, is_tree, over, over_each}
use Rattle.store_tables.specs.Placed.{HasTableAt, HasTables, by_club, rows_at, tables_of, tree_at, tree_in, tree_of_found}
use Rattle.store_tables.specs.declared.names.Table as of_club
use Rattle.store_tables.specs.declared.names.Table.TheVariants.{Meta}
use Rattle.store_tables.specs.declared.names.Version.{Version}
use Rattle.store_tables.proofs.PlacedSelects.{tree_is}
use Rattle.store_tables.proofs.PlacedSteps.{numbered_back, two_tables}

-- ---- the tree of a table that stands, or does not

pub tree_found : (schema : Schema) (table : of_club.Table) (stands : HasTableAt schema table)
    → tree_in schema table ≡ Some stands.tree
unfolding tree_in
tree_found schema table stands =
    ap (tree_at schema) stands.named ∙ ap tree_of_found stands.at ∙ ap Some (tree_is table stands.tree)

pub tree_missing : (schema : Schema) (table : of_club.Table) → table_named schema (table_name table) ≡ None
    → tree_in schema table ≡ None
unfolding tree_in
tree_missing schema table missing = ap (tree_at schema) missing

at_table : (schema : Schema) (content : Content) (table : of_club.Table)
    → by_club schema content (tree_of table) ≡ rows_at content (tree_in schema table)
unfolding by_club
at_table schema content Meta = refl
at_table schema content _ = refl

pub by_club_at : (schema : Schema) (content : Content) (table : of_club.Table) (stands : HasTableAt schema table)
    → by_club schema content (tree_of table) ≡ content stands.tree
by_club_at schema content table stands =
    at_table schema content table ∙ ap (rows_at content) (tree_found schema table stands)

-- ---- the rows of all tables

abbrev is_at : Schema → ℕ → of_club.Table → Bool
is_at schema n table = is_tree n (tree_in schema table)

standing_at : (schema : Schema) (n : ℕ) (table : of_club.Table) (stands : HasTableAt schema table)
    → is_at schema n table ≡ (n == stands.tree)
standing_at schema n table stands = ap (is_tree n) (tree_found schema table stands)

found_at : (schema : Schema) (n : ℕ) (table : of_club.Table) (stands : HasTableAt schema table)
    → is_at schema n table ≡ true → n ≡ stands.tree
found_at schema n table stands here = eqb-true n stands.tree (sym (standing_at schema n table stands) ∙ here)

module _ (schema : Schema) (club others : Content) where
  -- A table that stands has its rows of the club.
  over_in : (tables : List of_club.Table) → AllByRecursion (HasTableAt schema) tables → (table : of_club.Table)
      (stands : HasTableAt schema table) → Has tables table
      → over_each schema tables club others stands.tree ≡ club (tree_of table)
  over_in [] all table stands has = absurd has
  over_in (t ∷ tables) all table stands has = elim (cases_Bool (is_at schema stands.tree t)) [
    | inl here ↦
        let same = found_at schema stands.tree t all.0 here in
        (λ i. if here i then club (tree_of t) else over_each schema tables club others stands.tree)
        ∙ ap (λ u. club (tree_of u)) (sym (two_tables schema table t stands all.0 same))
    | inr past ↦
        (λ i. if past i then club (tree_of t) else over_each schema tables club others stands.tree)
        ∙ elim has [
          | inl same ↦ absurd (true≢false
              (sym (ap (λ u. is_at schema stands.tree u) (sym same)
              ∙ standing_at schema stands.tree table stands
              ∙ eq-eqb stands.tree stands.tree refl) ∙ past))
          | inr rest ↦ over_in tables all.1 table stands rest
        ]
  ]

  -- A tree that is none of the club's has its own rows.
  past_each : (tables : List of_club.Table) (n : ℕ)
      → AllByRecursion (λ table. is_at schema n table ≡ false) tables
      → over_each schema tables club others n ≡ others n
  past_each [] n past = refl
  past_each (t ∷ tables) n past =
      (λ i. if past.0 i then club (tree_of t) else over_each schema tables club others n)
      ∙ past_each tables n past.1

-- the table at its place
pub at_place : (table : of_club.Table) → slice_get in_order (place_of table) ≡ Some table
at_place Meta = refl
at_place _ = refl

-- an element at a place is among the first so many
has_taken : (tables : List of_club.Table) (n at : ℕ) (table : of_club.Table) → slice_get tables at ≡ Some table
    → at < n → Has (take n tables) table
has_taken [] n at table is less = absurd (cc)
has_taken (t ∷ tables) zero at table is less = absurd (omega (arith, less))
has_taken (t ∷ tables) (suc n) zero table is less = inl (cc)
has_taken (t ∷ tables) (suc n) (suc at) table is less = inr (has_taken tables n at table is (omega (arith, less)))

-- each table of a club is one of them
pub in_all : (table : of_club.Table) → Has in_order table
in_all table = (has_found (λ t. tree_of t == tree_of table) in_order table (numbered_back table)).0

less_of : (m n : ℕ) → nat_lt m n ≡ true → m < n
less_of m n less = grind (arith, common_steps)

-- and it is one of those of a version that has it
pub among_tables : (version : Version) (table : of_club.Table) → IsTrue (has_table version table)
    → Has (tables_of version) table
among_tables version table has =
    has_taken in_order (table_count version) (place_of table) table (at_place table)
    (less_of (place_of table) (table_count version) has)

module _ (them : Neighbours) (club : HasTables them.version them.schema) (content : Content) where
  pub over_at : (table : of_club.Table) → Has (tables_of them.version) table → (stands : HasTableAt them.schema table)
      → over them content stands.tree ≡ content (tree_of table)
  unfolding over
  over_at table has stands =
      over_in them.schema content them.rows (tables_of them.version) club table stands has

  -- The rows of a club that are over others are the club's.
  pub over_club : (table : of_club.Table) → Has (tables_of them.version) table → HasTableAt them.schema table
      → by_club them.schema (over them content) (tree_of table) ≡ content (tree_of table)
  over_club table has stands = by_club_at them.schema (over them content) table stands ∙ over_at table has stands

pub over_past : (them : Neighbours) (content : Content) (n : ℕ)
    → AllByRecursion (λ table. is_tree n (tree_in them.schema table) ≡ false) (tables_of them.version)
    → over them content n ≡ them.rows n
unfolding over
over_past them content n past = past_each them.schema content them.rows (tables_of them.version) n past

-- ---- a tree is one of the club's, or it is not

pub one_or_none : (schema : Schema) (n : ℕ) (tables : List of_club.Table)
    → AllByRecursion (HasTableAt schema) tables
    → ((table : of_club.Table) × (stands : HasTableAt schema table) × (n ≡ stands.tree) × Has tables table)
    ⊎ AllByRecursion (λ table. is_tree n (tree_in schema table) ≡ false) tables
one_or_none schema n [] all = inr tt
one_or_none schema n (t ∷ tables) all = elim (cases_Bool (is_tree n (tree_in schema t))) [
  | inl here ↦ inl (t, all.0, found_at schema n t all.0 here, inl refl)
  | inr past ↦
      elim (one_or_none schema n tables all.1) [
        | inl found ↦ inl (found.0, found.1, found.2, inr found.3)
        | inr none ↦ inr (past, none)
      ]
]
