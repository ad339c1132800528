-- A migration from one schema version to a later one: what stands stays, and what is new has no rows.
use Rattle.std.proofs.Common.{◌≡◌, ◌≤◌, ℕ, ◌==◌, false, List, [], ◌∷◌, ◌++◌, Option, None, Some, refl, sym, ap}
use Rattle.std.proofs.Common.{subst, ◌∙◌, inl, inr, arith, eqb-true, le_refl, true≢false}
use Rattle.std.proofs.lemmas.Bool.{cases_Bool}
use Rattle.std.proofs.lemmas.List.{take-append-drop, take-take}
use Rattle.std.specs.List.{AllByRecursion}
use Rattle.sqlite_catalog.specs.Change.{created, is_used, next_tree}
use Rattle.sqlite_trees.proofs.ListLemmas.{all_of}
use Rattle.store_tables.specs.Sql.{Database, Has, Schema, State, Trees}
use Rattle.sqlite_rules.proofs.ListLemmas.{all_has, has_either, has_left}
use Rattle.sqlite_schema.specs.Names.{table_named}
use Rattle.store_tables.specs.Contents as of_schema
use Rattle.store_tables.specs.Contents.{Content, Holds, nothing}
use Rattle.store_tables.specs.Migrations.{HoldsInVersion, LeavesInVersion, MigratesTo, added_tables}
use Rattle.store_tables.specs.Names.{in_order, table_count, table_name, tree_of}
use Rattle.store_tables.specs.Over.{HoldsClubAmong, LeavesBeside, Neighbours, alone, over}
use Rattle.store_tables.specs.internal.Over.{HoldsBeside}
use Rattle.store_tables.specs.Placed.{EachStanding, HasTableAt, HasTables, HasTablesOf, TakesClub, excluded_tables}
use Rattle.store_tables.specs.Placed.{rows_at, tables_of, tree_in}
use Rattle.store_tables.specs.Reading.{KeepsContent}
use Rattle.store_tables.specs.Room.{AreUnused, made_in}
use Rattle.store_tables.specs.internal.Room.{AreBare, MakesHere}
use Rattle.store_tables.specs.Tables.{IsServed, made_as, schema_after, schema_number, schema_of}
use Rattle.store_tables.specs.declared.names.Table as of_club
use Rattle.store_tables.specs.declared.names.Version.{Version}
use Rattle.store_tables.specs.declared.names.Version.TheVariants.{V1, V2, V3}
use Rattle.store_tables.proofs.OverLemmas.{alone_takes, beside_alone, leaves_beside, made_alone, still_beside, unused_first}
use Rattle.store_tables.proofs.PlacedCreated.{grown, same_table, stands_grown, stands_on}
use Rattle.store_tables.proofs.PlacedCreates.{is_free}
use Rattle.store_tables.proofs.PlacedMakes.{made_parts, unused_parts}
use Rattle.store_tables.proofs.PlacedOver.{held_over, past_over}
use Rattle.store_tables.proofs.PlacedSteps.{each_at, each_from, one_tree, two_tables}
use Rattle.store_tables.proofs.PlacedTrees.{over_at, tree_found}

-- ---- tables that are made behind those that stand

-- A table that stands keeps its tree.
record StandsStill (schema : Schema) (table : of_club.Table) (tree : ℕ) : Type 0 where
  pub stands : HasTableAt schema table
  pub same : stands.tree ≡ tree

still_there : (tables : List of_club.Table) (schema : Schema) (table : of_club.Table) (s : HasTableAt schema table)
    → StandsStill (made_in schema tables) table s.tree
unfolding stands_on
still_there [] schema table s = record { stands = s; same = refl }
still_there (t ∷ tables) schema table s =
    still_there tables (created schema (made_as t 0)) table (stands_on schema (made_as t 0) table s)

-- None of those that are made stands before.
never_unused : (tables : List of_club.Table) (schema : Schema) → AreUnused schema tables → (table : of_club.Table)
    → Has tables table → HasTableAt schema table → ⊥
never_unused [] schema unused table has s = absurd has
never_unused (t ∷ tables) schema (free, stored, counted, rest) table (inl same) s =
    let missing = (is_free schema (table_name t) free).table in
    let is : ◌≡◌ {A = Option ℕ} (Some s.place) None =
    sym s.named ∙ ap (λ u. table_named schema (table_name u)) same ∙ missing in
    absurd (cc)
never_unused (t ∷ tables) schema (free, stored, counted, rest) table (inr has) s =
    never_unused tables (created schema (made_as t 0)) rest table has (stands_on schema (made_as t 0) table s)

-- ---- the tables of two versions

fewer_tables : (one other : Version) → schema_number one ≤ schema_number other → table_count one ≤ table_count other
fewer_tables V1 V1 less = omega arith
fewer_tables V1 V2 less = omega arith
fewer_tables V1 V3 less = omega arith
fewer_tables V2 V1 less = absurd (omega (arith, less))
fewer_tables V2 V2 less = omega arith
fewer_tables V2 V3 less = omega arith
fewer_tables V3 V1 less = absurd (omega (arith, less))
fewer_tables V3 V2 less = absurd (omega (arith, less))
fewer_tables V3 V3 less = omega arith

parted : (one other : Version) → table_count one ≤ table_count other
    → tables_of one ++ added_tables one other ≡ tables_of other
parted one other less =
    ap (λ l. l ++ added_tables one other) (sym (take-take (table_count one) (table_count other) in_order less))
    ∙ take-append-drop (table_count one) (tables_of other)

-- ---- the rows after the tables were made

module _ (before after : Neighbours) (migrates : MigratesTo before after)
    (club : HasTables before.version before.schema) (content : Content)
    (none : AllByRecursion (λ table. content (tree_of table) ≡ []) (added_tables before.version after.version)) where
  abbrev whole : Content
  whole = over before content

  abbrev added : List of_club.Table
  added = added_tables before.version after.version

  is_parted : tables_of before.version ++ added ≡ tables_of after.version
  is_parted = parted before.version after.version (fewer_tables before.version after.version migrates.later)

  -- a table stands where it stood
  still : (table : of_club.Table) (s : HasTableAt before.schema table) → StandsStill after.schema table s.tree
  still table s = subst (λ schema. StandsStill schema table s.tree) (sym migrates.is)
      (still_there added before.schema table s)

  stood : (table : of_club.Table) → Has (tables_of before.version) table → HasTableAt before.schema table
  stood table has = all_has (HasTableAt before.schema) (tables_of before.version) table club has

  same_place : (table : of_club.Table) (was : HasTableAt before.schema table) (s : HasTableAt after.schema table)
      → s.tree ≡ was.tree
  same_place table was s =
      let it = still table was in
      one_tree after.schema table s it.stands ∙ it.same

  -- it has its rows
  had : (table : of_club.Table) → Has (tables_of before.version) table → (s : HasTableAt after.schema table)
      → whole s.tree ≡ content (tree_of table)
  had table has s =
      let was = stood table has in
      ap whole (same_place table was s) ∙ over_at before club content table has was

  -- A tree that no table had, has the rows of the others.
  outside : (n : ℕ)
      → ((table : of_club.Table) → Has (tables_of before.version) table → (was : HasTableAt before.schema table)
      → (n == was.tree) ≡ false)
      → whole n ≡ before.rows n
  outside n other =
      past_over before club content n
      (each_from before.schema (λ table was. (n == was.tree) ≡ false) (tables_of before.version) club other)

  -- A new table has none.
  apart : (table : of_club.Table) → Has added table → (s : HasTableAt after.schema table) → (old : of_club.Table)
      → (was : HasTableAt before.schema old) → (s.tree == was.tree) ≡ false
  apart table new s old was = elim (cases_Bool (s.tree == was.tree)) [
    | inl same ↦
        let it = still old was in
        let is = two_tables after.schema table old s it.stands (eqb-true s.tree was.tree same ∙ sym it.same) in
        absurd (never_unused added before.schema migrates.unused old (subst (Has added) is new) was)
    | inr other ↦ other
  ]

  pub new_bare : (table : of_club.Table) → Has added table → (s : HasTableAt after.schema table) → whole s.tree ≡ []
  new_bare table new s =
      outside s.tree (λ old has was. apart table new s old was)
      ∙ ap (rows_at before.rows) (sym (tree_found after.schema table s))
      ∙ all_has (λ u. rows_at before.rows (tree_in after.schema u) ≡ []) added table migrates.bare new

  each_here : (table : of_club.Table) → Has (tables_of after.version) table → (s : HasTableAt after.schema table)
      → whole s.tree ≡ content (tree_of table)
  each_here table has s =
      elim (has_either (tables_of before.version) added table (subst (λ l. Has l table) (sym is_parted) has)) [
        | inl old ↦ had table old s
        | inr new ↦
            new_bare table new s ∙ sym (all_has (λ u. content (tree_of u) ≡ []) added table none new)
      ]

  has_later : (table : of_club.Table) → Has (tables_of before.version) table → Has (tables_of after.version) table
  has_later table has = subst (λ l. Has l table) is_parted (has_left (tables_of before.version) added table has)

  -- What is no tree of the club after the migration was none before.
  others : (n : ℕ)
      → EachStanding after.schema (λ table s. (n == s.tree) ≡ false) (tables_of after.version) migrates.clear.club
      → whole n ≡ after.rows n
  others n past = outside n (λ table has was.
      let it = still table was in
      subst (λ m. (n == m) ≡ false) it.same
      (each_at after.schema (λ t m. (n == m) ≡ false) (tables_of after.version) migrates.clear.club past table
      (has_later table has) it.stands))
      ∙ ap (λ (rows : Content). rows n) (sym migrates.rows)

  pub migrated_over : (db : Database) → Holds after.schema db whole → HoldsBeside after content db
  migrated_over db k =
      held_over after migrates.clear.club content whole
      (each_from after.schema (λ table s. whole s.tree ≡ content (tree_of table)) (tables_of after.version)
      migrates.clear.club each_here) others db k

-- ---- neighbours before a migration

pub leaves_in_version : (version : Version) (them : Neighbours) (content : Content) (s : State)
    → HoldsInVersion version them content s → (db : Trees) → s.may_leave db → LeavesInVersion version them content db
leaves_in_version version them content s k db h = record {
  before = k.before;
  is = k.is;
  migrates = k.migrates;
  leaves = leaves_beside k.before content s k.holds db h;
}

pub still_in_version : (old new : State) → KeepsContent old new → (version : Version) (them : Neighbours)
    (content : Content) → HoldsInVersion version them content old → HoldsInVersion version them content new
still_in_version old new kept version them content k = record {
  before = k.before;
  is = k.is;
  migrates = k.migrates;
  holds = still_beside old new kept k.before content k.holds;
}

none_added : (version : Version) → added_tables version version ≡ []
none_added V1 = refl
none_added V2 = refl
none_added V3 = refl

-- each version migrates to itself
pub migrates_itself : (them : Neighbours) → TakesClub them.version them.schema → MigratesTo them them
migrates_itself them takes =
    let none = none_added them.version in
    record {
      later = le_refl (schema_number them.version);
      unused = subst (AreUnused them.schema) (sym none) tt;
      is = ap (made_in them.schema) (sym none);
      rows = refl;
      bare = subst (AllByRecursion (λ table. rows_at them.rows (tree_in them.schema table) ≡ [])) (sym none) tt;
      clear = takes;
    }

pub holds_itself : (version : Version) (them : Neighbours) (content : Content) (s : State) → them.version ≡ version
    → HoldsClubAmong them content s → HoldsInVersion version them content s
holds_itself version them content s is k =
    record { before = them; is = is; migrates = migrates_itself them k.clear; holds = k }

pub leaves_itself : (version : Version) (them : Neighbours) (content : Content) (db : Trees) → them.version ≡ version
    → LeavesBeside them content db → LeavesInVersion version them content db
leaves_itself version them content db is k =
    record { before = them; is = is; migrates = migrates_itself them k.clear; leaves = k }

-- it leads nowhere else
pub migrates_nowhere : (before after : Neighbours) → before.version ≡ after.version → MigratesTo before after
    → before ≡ after
migrates_nowhere before after same migrates =
    let none : added_tables before.version after.version ≡ [] =
    ap (added_tables before.version) (sym same) ∙ none_added before.version in
    let schema : before.schema ≡ after.schema = sym (migrates.is ∙ ap (made_in before.schema) none) in
    let rows = sym migrates.rows in
    λ i. record { version = same i; schema = schema i; rows = rows i }

pub held_itself : (version : Version) (them : Neighbours) (content : Content) (s : State) → them.version ≡ version
    → HoldsInVersion version them content s → HoldsClubAmong them content s
held_itself version them content s is k =
    subst (λ n. HoldsClubAmong n content s) (migrates_nowhere k.before them (k.is ∙ sym is) k.migrates) k.holds

pub left_itself : (version : Version) (them : Neighbours) (content : Content) (db : Trees) → them.version ≡ version
    → LeavesInVersion version them content db → LeavesBeside them content db
left_itself version them content db is k =
    subst (λ n. LeavesBeside n content db) (migrates_nowhere k.before them (k.is ∙ sym is) k.migrates) k.leaves

-- What migrates to a served version has the tables of its own version alone.
unused_now : (version to : Version) → IsServed to → (schema : Schema) → AreUnused schema (added_tables version to)
    → AllByRecursion (λ table. is_used schema (table_name table) ≡ false) (excluded_tables version)
unused_now V1 V1 served schema unused = absurd (true≢false (sym served))
unused_now V1 V2 served schema unused = (unused.0, tt)
unused_now V1 V3 served schema unused = (unused.0, tt)
unused_now V2 to served schema unused = tt
unused_now V3 to served schema unused = tt

pub tables_before : (before after : Neighbours) → IsServed after.version → MigratesTo before after
    → HasTables before.version before.schema → HasTablesOf before.version before.schema
tables_before before after served migrates club =
    (club, unused_now before.version after.version served before.schema migrates.unused)

-- A club alone migrates to each later version.
no_rows_at : (tree : Option ℕ) → rows_at nothing tree ≡ []
no_rows_at None = refl
no_rows_at (Some tree) = refl

pub migrates_alone : (version to : Version) → schema_number version ≤ schema_number to
    → MigratesTo (alone version) (alone to)
migrates_alone version to later =
    let whole = parted version to (fewer_tables version to later) in
    let all = subst (AreUnused (schema_after 0)) (sym whole) (unused_first to) in
    let begun = made_alone version in
    record {
      later = later;
      unused = subst (λ s. AreUnused s (added_tables version to)) begun
          (unused_parts (schema_after 0) (tables_of version) (added_tables version to) all).1;
      is = sym (made_alone to) ∙ ap (made_in (schema_after 0)) (sym whole)
          ∙ made_parts (schema_after 0) (tables_of version) (added_tables version to)
          ∙ ap (λ s. made_in s (added_tables version to)) begun;
      rows = refl;
      bare = all_of (λ table. rows_at nothing (tree_in (schema_of to) table) ≡ [])
          (λ table. no_rows_at (tree_in (schema_of to) table)) (added_tables version to);
      clear = alone_takes to;
    }

pub alone_in_version : (version to : Version) → schema_number version ≤ schema_number to → (content : Content)
    (s : State) → of_schema.IsExactly (schema_of version) content s → HoldsInVersion version (alone to) content s
alone_in_version version to later content s k = record {
  before = alone version;
  is = refl;
  migrates = migrates_alone version to later;
  holds = beside_alone version content s k;
}

-- ---- the tables that a migration adds

-- The trees of the tables that are made have no rows where those of the later schema have none.
bare_here : (tables : List of_club.Table) (schema : Schema) (content : Content) → AreUnused schema tables
    → ((table : of_club.Table) → Has tables table → (s : HasTableAt (made_in schema tables) table)
    → content s.tree ≡ [])
    → AreBare schema content tables
unfolding stands_on
bare_here [] schema content unused none = tt
bare_here (t ∷ tables) schema content (free, stored, counted, rest) none =
    let next = created schema (made_as t 0) in
    let new : StandsStill next t (next_tree schema) =
    subst (λ s. StandsStill s t (next_tree schema)) (ap (grown schema) (sym (same_table t (next_tree schema))))
    (record { stands = stands_grown schema t (is_free schema (table_name t) free).table stored; same = refl }) in
    let still = still_there tables next t new.stands in (
      ap content (sym (still.same ∙ new.same)) ∙ none t (inl refl) still.stands,
      bare_here tables next content rest (λ table has s. none table (inr has) s),
    )

-- Inside a transaction the tables that a migration adds were made behind what stands; nothing was committed.
pub widens : (from to : Version) (old new : State) → MakesHere (added_tables from to) old new
    → (before : Neighbours) → before.version ≡ from → (after : Neighbours) → after.version ≡ to
    → MigratesTo before after → HasTables from before.schema → (content : Content)
    → AllByRecursion (λ table. content (tree_of table) ≡ []) (added_tables from to)
    → HoldsBeside before content old.now → HoldsBeside after content new.now
widens from to old new made before first after last migrates club content none k =
    let added = added_tables before.version after.version in
    let same : added ≡ added_tables from to = λ i. added_tables (first i) (last i) in
    let here : MakesHere added old new = subst (λ l. MakesHere l old new) (sym same) made in
    let club_here = subst (λ v. HasTables v before.schema) (sym first) club in
    let none_here = subst (AllByRecursion (λ table. content (tree_of table) ≡ [])) (sym same) none in
    let whole = over before content in
    let bare = new_bare before after migrates club_here content none_here in
    let free : AreBare before.schema whole added =
    bare_here added before.schema whole migrates.unused (λ table has s.
    subst (λ schema. (s : HasTableAt schema table) → whole s.tree ≡ []) migrates.is (bare table has) s) in
    migrated_over before after migrates club_here content none_here new.now
    (subst (λ s. Holds s new.now whole) (sym migrates.is)
    (here.made before.schema migrates.unused whole k free))
