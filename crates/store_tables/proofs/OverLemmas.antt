-- A club among its neighbours: what of it is the club's, what stays, and a club alone.
use Rattle.std.proofs.lemmas.Bool.{and_parts, not-true}
use Rattle.std.proofs.lemmas.List.{take-append-drop, take-map}
use Rattle.std.proofs.Common.{true, Bool, not, ◌&&◌, ◌≡◌, ℕ, false, List, [], ◌∷◌, Option, Some, None, refl, ap, sym}
use Rattle.std.proofs.Common.{subst, ◌∙◌, inl, inr, map, arith, nat_lt, ◌^◌, ◌≤◌, zero, suc, take, drop, IsTrue, true≢false}
use Rattle.std.proofs.lemmas.Option.{same_Some}
use Rattle.std.specs.List.{AllByRecursion}
use Rattle.store_tables.specs.Sql.{Database, Has, Row, State, Schema, Table, Trees}
use Rattle.sqlite_catalog.specs.Change.{created, is_used, next_tree}
use Rattle.sqlite.specs.Does.{lacks_sequence}
use Rattle.sqlite_rules.proofs.ListLemmas.{all_from, all_has, has_got}
use Rattle.sqlite_trees.proofs.ListLemmas.{all-map, all_both, all_from_map, all_of, all_weaker}
use Rattle.sqlite_schema.specs.Names.{same_name}
use Rattle.store_tables.specs.Changes.{HaveSame}
use Rattle.store_tables.specs.internal.Changes.{AreSame}
use Rattle.store_tables.specs.Content.{AreApart, Keeps, cells}
use Rattle.store_tables.specs.Contents as of_schema
use Rattle.store_tables.specs.Contents.{AreStored, Content, Stores, nothing}
use Rattle.store_tables.specs.Names.{in_order, table_count, table_name, tree_of}
use Rattle.store_tables.specs.Over.{HasRowsIn, HoldsClubAmong, LeavesBeside, Neighbours, alone, over}
use Rattle.store_tables.specs.internal.Over.{HasRows, HoldsBeside}
use Rattle.store_tables.specs.Placed.{HasTables, HasTablesOf, HasTableAt, TakesClub, by_club, club_trees}
use Rattle.store_tables.specs.Placed.{excluded_tables, tables_of, tree_in}
use Rattle.store_tables.specs.Reading.{KeepsContent}
use Rattle.store_tables.specs.Room.{AreUnused, HasRoom, IsWithoutClub, LeavesNoClub, made_in}
use Rattle.store_tables.specs.Tables.{IsServed, made_as, schema_after, schema_of, standing}
use Rattle.store_tables.specs.internal.Tables.{club_schema, has_table}
use Rattle.store_tables.specs.declared.names.Table as of_club
use Rattle.store_tables.specs.declared.names.Table.TheVariants.{EventRules, Meta}
use Rattle.store_tables.specs.declared.names.Version.{Version}
use Rattle.store_tables.specs.declared.names.Version.TheVariants.{V1, V2, V3}
use Rattle.store_tables.proofs.AlterLemmas.{same_by}
use Rattle.store_tables.proofs.SameLemmas.{exactly_on, leaves_on}
use Rattle.store_tables.proofs.PlacedCreates.{is_free}
use Rattle.store_tables.proofs.PlacedMakes.{unused_parts}
use Rattle.store_tables.proofs.PlacedSteps.{LeavesRoom}
use Rattle.store_tables.proofs.PlacedSelects.{tree_is}
use Rattle.store_tables.proofs.PlacedTaken.{made_takes_club}
use Rattle.store_tables.proofs.PlacedTrees.{among_tables, by_club_at, in_all, one_or_none, over_at, over_club, over_past, tree_found}

-- ---- contents that have the same rows of a club

tree_is_of : (table : of_club.Table) → (standing table).tree ≡ tree_of table
tree_is_of table = tree_is table (tree_of table)

-- each table of a club is one of those that stand alone
alike_at : (one other : Content) → AreSame club_schema one other → (table : of_club.Table)
    → HaveSame (one (tree_of table)) (other (tree_of table))
alike_at one other same table =
    let P = λ (t : Table). HaveSame (one t.tree) (other t.tree) in
    subst (λ n. HaveSame (one n) (other n)) (tree_is_of table)
    (all_has (λ t. P (standing t)) in_order table (all_from_map P standing in_order same) (in_all table))

module _ (one other : Content) (same : AreSame club_schema one other) where
  over_same : (them : Neighbours) → HasTables them.version them.schema → (n : ℕ)
      → HaveSame (over them one n) (over them other n)
  over_same them club n = elim (one_or_none them.schema n (tables_of them.version) club) [
    | inl found ↦
        let (table, s, is, has) = found in
        let first = ap (over them one) is ∙ over_at them club one table has s in
        let last = ap (over them other) is ∙ over_at them club other table has s in
        subst (λ l. HaveSame l (over them other n)) (sym first)
        (subst (λ l. HaveSame (one (tree_of table)) l) (sym last) (alike_at one other same table))
    | inr past ↦ same_by _ _ (over_past them one n past ∙ sym (over_past them other n past))
  ]

  all_same : (them : Neighbours) → TakesClub them.version them.schema
      → AreSame them.schema (over them one) (over them other)
  all_same them takes =
      all_of (λ (t : Table). HaveSame (over them one t.tree) (over them other t.tree))
      (λ t. over_same them takes.club t.tree) them.schema.tables

  pub beside_same : (them : Neighbours) (s : State) → HoldsClubAmong them one s → HoldsClubAmong them other s
  beside_same them s k = record {
    clear = k.clear;
    exactly = exactly_on them.schema (over them one) (over them other) s
        (all_same them k.clear) k.exactly;
  }

  pub left_same : (them : Neighbours) (db : Trees) → LeavesBeside them one db → LeavesBeside them other db
  left_same them db left = record {
    clear = left.clear;
    leaves = leaves_on them.schema (over them one) (over them other) db
        (all_same them left.clear) left.leaves;
  }

-- ---- what a stop may leave, and what a call that answered leaves

pub leaves_beside : (them : Neighbours) (content : Content) (s : State) → HoldsClubAmong them content s → (db : Trees)
    → s.may_leave db → LeavesBeside them content db
leaves_beside them content s k db h = record { clear = k.clear; leaves = k.exactly.may_leave db h }

pub leaves_no_club : (them : Neighbours) (s : State) → IsWithoutClub them s → (db : Trees) → s.may_leave db
    → LeavesNoClub them db
leaves_no_club them s k db h = record { schema = k.schema; before = k.before; leaves = k.exactly.may_leave db h }

pub still_beside : (old new : State) → KeepsContent old new → (them : Neighbours) (content : Content)
    → HoldsClubAmong them content old → HoldsClubAmong them content new
still_beside old new kept them content k = record { clear = k.clear; exactly = kept _ _ k.exactly }

-- ---- the rows of a club among those of all tables

pub fewer : {A : Type 0} (P : A → Type 0) (xs : List A) (m n : ℕ) → m ≤ n → AllByRecursion P (take n xs)
    → AllByRecursion P (take m xs)
fewer P xs zero n less all = tt
fewer P [] (suc m) n less all = tt
fewer P (x ∷ xs) (suc m) zero less all = absurd (omega (arith, less))
fewer P (x ∷ xs) (suc m) (suc n) less all = (all.0, fewer P xs m n (omega (arith, less)) all.1)

pub rows_in : (them : Neighbours) (content : Content) (s : State) → HoldsClubAmong them content s
    → HasRowsIn them.version content s
rows_in them content s k =
    let whole = over them content in
    record {
      schema = them.schema;
      whole = whole;
      club = k.clear.club;
      are = all_from (λ table. by_club them.schema whole (tree_of table) ≡ content (tree_of table))
          (tables_of them.version) (λ table has. over_club them k.clear.club content table has
          (all_has (HasTableAt them.schema) (tables_of them.version) table k.clear.club has));
      exactly = k.exactly;
    }

-- A club of a later version has the rows of an earlier one.
pub fewer_rows : (from to : Version) → table_count from ≤ table_count to → (content : Content) (s : State)
    → HasRowsIn to content s → HasRowsIn from content s
fewer_rows from to less content s k = record {
  schema = k.schema;
  whole = k.whole;
  club = fewer (HasTableAt k.schema) in_order (table_count from) (table_count to) less k.club;
  are = fewer (λ table. by_club k.schema k.whole (tree_of table) ≡ content (tree_of table)) in_order (table_count from)
      (table_count to) less k.are;
  exactly = k.exactly;
}

-- A club that the program serves has the rows of schema 2.
pub served_rows : (version : Version) → IsServed version → (content : Content) (s : State)
    → HasRowsIn version content s → HasRows content s
served_rows V1 served content s k = absurd (true≢false (sym served))
served_rows V2 served content s k = k
served_rows V3 served content s k = fewer_rows V2 V3 (omega arith) content s k

pub rows_beside : (them : Neighbours) (content : Content) (s : State) → IsServed them.version
    → HoldsClubAmong them content s → HasRows content s
rows_beside them content s served k = served_rows them.version served content s (rows_in them content s k)

-- A table of a club keeps its rows where it stands.
pub cells_are : (table : of_club.Table) (tree : ℕ) (r : Row) → cells (made_as table tree) r ≡ cells (standing table) r
cells_are Meta tree r = refl
cells_are _ tree r = refl

-- the rows of one table are those of another with the same columns
pub keeps_moved : (one other : Table) (here there : Trees) (rows wanted : List Row)
    → ((r : Row) → cells one r ≡ cells other r) → here one.tree ≡ there other.tree → rows ≡ wanted
    → Keeps one here rows → Keeps other there wanted
keeps_moved one other here there rows wanted alike trees are keeps = record {
  stored = λ row h.
      let (r, has, is) = keeps.stored row (subst (λ l. Has l row) (sym are) h) in
      (r, subst (λ l. Has l r) trees has, sym (alike r) ∙ is);
  only = λ r h.
      subst (λ x. Has wanted x) (alike r)
      (subst (λ l. Has l (cells one r)) are (keeps.only r (subst (λ l. Has l r) (sym trees) h)));
}

module _ (schema : Schema) (trees : Trees) where
  pub trees_here : (table : of_club.Table) (s : HasTableAt schema table)
      → trees (made_as table s.tree).tree ≡ by_club schema trees (standing table).tree
  trees_here table s =
      ap trees (tree_is table s.tree) ∙ sym (by_club_at schema trees table s)
      ∙ ap (by_club schema trees) (sym (tree_is_of table))

  stores_here : (table : of_club.Table) (s : HasTableAt schema table) (whole content : Content)
      → Stores (made_as table s.tree) trees whole → whole s.tree ≡ content (tree_of table)
      → Stores (standing table) (by_club schema trees) content
  stores_here table s whole content was are = record {
    rows = keeps_moved (made_as table s.tree) (standing table) trees (by_club schema trees)
        (whole (made_as table s.tree).tree) (content (standing table).tree) (cells_are table s.tree)
        (trees_here table s)
        (ap whole (tree_is table s.tree) ∙ are ∙ ap content (sym (tree_is_of table))) was.rows;
    apart = subst AreApart (trees_here table s) was.apart;
  }

  -- What all tables keep, those of the club keep.
  each_stored : (whole content : Content) → AreStored schema trees whole → (tables : List of_club.Table)
      → AllByRecursion (HasTableAt schema) tables
      → AllByRecursion (λ table. (s : HasTableAt schema table) → whole s.tree ≡ content (tree_of table)) tables
      → AllByRecursion (λ t. Stores t (by_club schema trees) content) (map standing tables)
  each_stored whole content all tables stand are =
      all-map (λ t. Stores t (by_club schema trees) content) standing tables
      (all_both (HasTableAt schema) (λ table. (s : HasTableAt schema table) → whole s.tree ≡ content (tree_of table))
      (λ table. Stores (standing table) (by_club schema trees) content) (λ table s is.
      stores_here table s whole content
      (all_has (λ t. Stores t trees whole) schema.tables (made_as table s.tree) all
      (has_got schema.tables s.place (made_as table s.tree) s.at)) (is s)) tables stand are)

-- the tables of a version in a database with only a club
pub tables_are : (version : Version) → map standing (tables_of version) ≡ (schema_of version).tables
tables_are version = sym (take-map standing (table_count version) in_order)

-- So they do of rows that are over those of others.
pub club_held : (them : Neighbours) (content : Content) (db : Database) → HasTables them.version them.schema
    → HoldsBeside them content db → AreStored (schema_of them.version) (club_trees db) content
club_held them content db club k =
    subst (AllByRecursion (λ t. Stores t (club_trees db) content)) (tables_are them.version)
    (subst (λ s. AllByRecursion (λ t. Stores t (by_club s db.trees) content) (map standing (tables_of them.version)))
    (sym k.schema)
    (each_stored them.schema db.trees (over them content) content k.tables (tables_of them.version) club
    (all_from (λ table. (s : HasTableAt them.schema table) → over them content s.tree ≡ content (tree_of table))
    (tables_of them.version) (λ table has s. over_at them club content table has s))))

-- the rows of a table of the club, where it stands
pub rows_standing : (version : Version) (content : Content) (s : State) (k : HasRowsIn version content s)
    (table : of_club.Table) → IsTrue (has_table version table)
    → (stands : HasTableAt k.schema table) × (k.whole stands.tree ≡ content (tree_of table))
rows_standing version content s k table has =
    let among = among_tables version table has in
    let stands = all_has (HasTableAt k.schema) (tables_of version) table k.club among in (
      stands,
      sym (by_club_at k.schema k.whole table stands)
          ∙ all_has (λ t. by_club k.schema k.whole (tree_of t) ≡ content (tree_of t)) (tables_of version) table k.are
          among,
    )

pub rows_stored : (version : Version) (content : Content) (s : State) → HasRowsIn version content s
    → AreStored (schema_of version) (club_trees s.now) content
rows_stored version content s k =
    subst (AllByRecursion (λ t. Stores t (club_trees s.now) content)) (tables_are version)
    (subst (λ d. AllByRecursion (λ t. Stores t (by_club d s.now.trees) content) (map standing (tables_of version)))
    (sym k.exactly.now.schema)
    (each_stored k.schema s.now.trees k.whole content k.exactly.now.tables (tables_of version) k.club
    (all_weaker (λ table. by_club k.schema k.whole (tree_of table) ≡ content (tree_of table))
    (λ table. (stands : HasTableAt k.schema table) → k.whole stands.tree ≡ content (tree_of table))
    (λ table is stands. sym (by_club_at k.schema k.whole table stands) ∙ is) (tables_of version) k.are)))

-- ---- the versions

fewest : (version : Version) → table_count V1 ≤ table_count version
fewest V1 = omega arith
fewest V2 = omega arith
fewest V3 = omega arith

-- each version has the tables of the first
pub has_first_tables : (version : Version) (schema : Schema) → HasTables version schema → HasTables V1 schema
has_first_tables version schema =
    fewer (HasTableAt schema) in_order (table_count V1) (table_count version) (fewest version)

-- A schema with the tables of a served version is none of schema 1.
pub versions_apart : (schema : Schema) (version : Version) → IsServed version → HasTablesOf V1 schema
    → HasTables version schema → ⊥
versions_apart schema version served first tables =
    let stands = all_has (HasTableAt schema) (tables_of version) EventRules tables
    (among_tables version EventRules (has_rules version served)) in
    let missing = (is_free schema (table_name EventRules) first.1.0).table in
    let is : ◌≡◌ {A = Option ℕ} (Some stands.place) None = sym stands.named ∙ missing in
    absurd (cc)
  where
    has_rules : (version : Version) → IsServed version → IsTrue (has_table version EventRules)
    has_rules V1 served = absurd (true≢false (sym served))
    has_rules V2 served = refl
    has_rules V3 served = refl

-- ---- a club alone

-- In an empty database a club can be made, since every name is free.
room_alone : (version : Version) → LeavesRoom version (schema_after 0)
room_alone version = record { trees = tt; owned = tt; unrelated = tt }

-- as a test
abbrev are_unused : List of_club.Table → Schema → Bool
are_unused [] schema = true
are_unused (table ∷ tables) schema =
    not (is_used schema (table_name table)) && (nat_lt (next_tree schema) (2 ^ 31)
    && (not (lacks_sequence (created schema (made_as table 0)))
    && are_unused tables (created schema (made_as table 0))))

unused_by : (tables : List of_club.Table) (schema : Schema) → are_unused tables schema ≡ true → AreUnused schema tables
unused_by [] schema all = tt
unused_by (table ∷ tables) schema all =
    let free = and_parts _ _ all in
    let stored = and_parts _ _ free.1 in
    let counted = and_parts _ _ stored.1 in
    let rest = unused_by tables (created schema (made_as table 0)) counted.1 in
    (not-true _ free.0, stored.0, not-true _ counted.0, rest)

pub unused_alone : AreUnused (schema_after 0) in_order
unfolding same_name
unused_alone = unused_by in_order (schema_after 0) refl

-- those of each version
pub unused_first : (version : Version) → AreUnused (schema_after 0) (tables_of version)
unused_first version =
    (unused_parts (schema_after 0) (tables_of version) (drop (table_count version) in_order)
    (subst (AreUnused (schema_after 0)) (sym (take-append-drop (table_count version) in_order)) unused_alone)).0

pub made_alone : (version : Version) → made_in (schema_after 0) (tables_of version) ≡ schema_of version
made_alone V1 = refl
made_alone V2 = refl
made_alone V3 = refl

pub alone_room : (version : Version) → IsServed version → HasRoom (schema_after 0) (alone version)
alone_room version served = record {
  served = served;
  trees = tt;
  unrelated = tt;
  unused = unused_first version;
  is = sym (made_alone version);
  bare = λ tree late. refl;
}

pub alone_takes : (version : Version) → TakesClub version (schema_of version)
alone_takes version =
    subst (TakesClub version) (made_alone version)
    (made_takes_club version (schema_after 0) (room_alone version) (unused_first version) nothing (λ tree late. refl)).0

unused_excluded : (version : Version)
    → AllByRecursion (λ table. is_used (schema_of version) (table_name table) ≡ false) (excluded_tables version)
unfolding same_name
unused_excluded V1 = (refl, tt)
unused_excluded V2 = tt
unused_excluded V3 = tt

-- A club that stands alone has the tables of its version.
pub tables_alone : (version : Version) → HasTablesOf version (schema_of version)
tables_alone version = ((alone_takes version).club, unused_excluded version)

-- Its tables stand where the club gives them their trees.
trees_alone : (version : Version)
    → AllByRecursion (λ table. tree_in (schema_of version) table ≡ Some (tree_of table)) (tables_of version)
unfolding tree_in same_name
trees_alone V1 = (refl, (refl, (refl, (refl, (refl, (refl, (refl, (refl, tt))))))))
trees_alone V2 = (refl, (refl, (refl, (refl, (refl, (refl, (refl, (refl, (refl, tt)))))))))
trees_alone V3 = (refl, (refl, (refl, (refl, (refl, (refl, (refl, (refl, (refl, (refl, (refl, (refl, tt))))))))))))

module _ (version : Version) (content : Content) where
  abbrev rows_alone : Content
  rows_alone = over (alone version) content

  same_alone : AreSame (schema_of version) content rows_alone
  same_alone =
      subst (AllByRecursion (λ (t : Table). HaveSame (content t.tree) (rows_alone t.tree))) (tables_are version)
      (all-map (λ (t : Table). HaveSame (content t.tree) (rows_alone t.tree)) standing (tables_of version)
      (all_from (λ table. HaveSame (content (standing table).tree) (rows_alone (standing table).tree))
      (tables_of version) (λ table has.
      let club = (alone_takes version).club in
      let s = all_has (HasTableAt (schema_of version)) (tables_of version) table club has in
      let is = all_has (λ u. tree_in (schema_of version) u ≡ Some (tree_of u)) (tables_of version) table
      (trees_alone version) has in
      same_by _ _ (ap content (tree_is_of table)
      ∙ sym (over_at (alone version) club content table has s)
      ∙ ap rows_alone (same_Some _ _ (sym (tree_found (schema_of version) table s) ∙ is) ∙ sym (tree_is_of table))))))

  same_back : AreSame (schema_of version) rows_alone content
  same_back =
      all_weaker (λ (t : Table). HaveSame (content t.tree) (rows_alone t.tree))
      (λ (t : Table). HaveSame (rows_alone t.tree) (content t.tree))
      (λ t same. record { there = same.back; back = same.there }) (schema_of version).tables same_alone

  pub beside_alone : (s : State) → of_schema.IsExactly (schema_of version) content s
      → HoldsClubAmong (alone version) content s
  beside_alone s k = record {
    clear = alone_takes version;
    exactly = exactly_on (schema_of version) content rows_alone s same_alone k;
  }

  pub alone_exactly : (s : State) → HoldsClubAmong (alone version) content s
      → of_schema.IsExactly (schema_of version) content s
  alone_exactly s k = exactly_on (schema_of version) rows_alone content s same_back k.exactly

  pub left_alone : (db : Trees) → of_schema.Leaves (schema_of version) content db
      → LeavesBeside (alone version) content db
  left_alone db left = record {
    clear = alone_takes version;
    leaves = leaves_on (schema_of version) content rows_alone db same_alone left;
  }

  pub alone_leaves : (db : Trees) → LeavesBeside (alone version) content db
      → of_schema.Leaves (schema_of version) content db
  alone_leaves db left = leaves_on (schema_of version) rows_alone content db same_back left.leaves

-- What a database holds that has the tables of a version alone, it holds by the club's numbers.
pub stored_alone : (version : Version) (db : Database) (content : Content)
    → of_schema.Holds (schema_of version) db content → AreStored (schema_of version) (club_trees db) content
stored_alone version db content k =
    let schema = schema_of version in
    subst (AllByRecursion (λ t. Stores t (club_trees db) content)) (tables_are version)
    (subst (λ s. AllByRecursion (λ t. Stores t (by_club s db.trees) content) (map standing (tables_of version)))
    (sym k.schema)
    (each_stored schema db.trees content content k.tables (tables_of version) (alone_takes version).club
    (all_weaker (λ table. tree_in schema table ≡ Some (tree_of table))
    (λ table. (s : HasTableAt schema table) → content s.tree ≡ content (tree_of table))
    (λ table is s. ap content (same_Some _ _ (sym (tree_found schema table s) ∙ is))) (tables_of version)
    (trees_alone version))))
