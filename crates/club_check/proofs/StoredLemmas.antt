-- What a database has of a club, in whatever version of its tables.
use Rattle.std.proofs.Common.{◌≡◌, Bool, true, false, true≢false, List, [], ◌∷◌, refl, sym, subst, ◌∙◌, arith}
use Rattle.sqlite_catalog.specs.Change.{is_used}
use Rattle.store_tables.specs.Names.{in_order, table_count, table_name}
use Rattle.std.specs.List.{AllByRecursion}
use Rattle.sqlite.specs.Effect.{Database}
use Rattle.sqlite.specs.Order.{Row}
use Rattle.sqlite.specs.Schema.{Schema}
use Rattle.sqlite.specs.Table.{Table as Definition}
use Rattle.sqlite.specs.Tree.{Trees}
use Rattle.sqlite_rules.specs.Lists.{Has}
use Rattle.sqlite_schema.specs.Names.{same_name}
use Rattle.sqlite_schema.specs.Rules.{clashes}
use Rattle.sqlite_value.specs.Keys.{plain}
use Rattle.store_tables.specs.Placed.{HasClubTables, HasTables, HasTablesOf, HasTableAt, by_club, club_trees, tree_in}
use Rattle.store_tables.specs.Content.{AreApart}
use Rattle.store_tables.specs.Contents.{AreStored, Content, Stores}
use Rattle.store_tables.proofs.Proved.{fewer, has_first_tables, keeps_moved, tables_alone, unique_here, versions_apart}
use Rattle.store_tables.specs.Tables.{IsServed, schema_of}
use Rattle.store_tables.specs.declared.names.Table.{Table}
use Rattle.store_tables.specs.declared.names.Table.TheVariants.{Members, Events, EventRules, Challenges, Moves, Games}
use Rattle.store_tables.specs.declared.names.Table.TheVariants.{Seen, Scores, Meta, Keys, Rulings, Closings}
use Rattle.store_tables.specs.declared.names.Version.{Version}
use Rattle.store_tables.specs.declared.names.Version.TheVariants.{V1, V2, V3}
use Rattle.club_rows.specs.Club.{ClubState, IsClub}
use Rattle.club_rows.specs.FirstSchema.{IsClubOf}
use Rattle.club_check.specs.RightTables.{HasTable}
use Rattle.club_check.specs.Versions.{HoldsRows}

-- ---- the versions

-- the schema tells schema 1 from the later ones
pub first_alone : (version : Version) (schema : Schema) → HasTablesOf V1 schema → HasTablesOf version schema
    → version ≡ V1
first_alone V1 schema first has = refl
first_alone V2 schema first has = absurd (versions_apart schema V2 refl first has.0)
first_alone V3 schema first has = absurd (versions_apart schema V3 refl first has.0)

-- those of a club alone are those of a version
pub alone_of : (version : Version) (schema : Schema) → schema ≡ schema_of version → HasTablesOf version schema
alone_of version schema is = subst (HasTablesOf version) (sym is) (tables_alone version)

-- the first tables of each version stand
pub first_stand : (schema : Schema) → HasClubTables schema → HasTables V1 schema
first_stand schema (version, has) = has_first_tables version schema has.0

-- each of them
pub stands : (t : Table) → HasTable t V1 → {schema : Schema} → HasClubTables schema → HasTableAt schema t
stands Meta there {schema} has = (first_stand schema has).0
stands Members there {schema} has = (first_stand schema has).1.0
stands Events there {schema} has = (first_stand schema has).1.1.0
stands Challenges there {schema} has = (first_stand schema has).1.1.1.0
stands Moves there {schema} has = (first_stand schema has).1.1.1.1.0
stands Games there {schema} has = (first_stand schema has).1.1.1.1.1.0
stands Seen there {schema} has = (first_stand schema has).1.1.1.1.1.1.0
stands Scores there {schema} has = (first_stand schema has).1.1.1.1.1.1.1.0
stands EventRules there has = absurd there
stands Keys there has = absurd there
stands Rulings there has = absurd there
stands Closings there has = absurd there

-- that of the rules of events
pub rules_stand : (version : Version) (schema : Schema) → HasTable EventRules version → HasTablesOf version schema
    → HasTableAt schema EventRules
rules_stand V1 schema there has = absurd there
rules_stand V2 schema there has = has.0.1.1.1.1.1.1.1.1.0
rules_stand V3 schema there has = has.0.1.1.1.1.1.1.1.1.0

-- those of schema 3
pub keys_stand : (schema : Schema) → HasTablesOf V3 schema → HasTableAt schema Keys
keys_stand schema has = has.0.1.1.1.1.1.1.1.1.1.0

pub closings_stand : (schema : Schema) → HasTablesOf V3 schema → HasTableAt schema Closings
closings_stand schema has = has.0.1.1.1.1.1.1.1.1.1.1.1.0

-- each of these tables that schema 3 has and schema 1 has not
pub third_stands : (schema : Schema) → HasTables V3 schema → HasTableAt schema EventRules × HasTableAt schema Keys
    × HasTableAt schema Rulings × HasTableAt schema Closings
third_stands schema has = (
  has.1.1.1.1.1.1.1.1.0,
  has.1.1.1.1.1.1.1.1.1.0,
  has.1.1.1.1.1.1.1.1.1.1.0,
  has.1.1.1.1.1.1.1.1.1.1.1.0,
)

-- a schema with the tables of schema 3 has those of schema 2
second_of_third : (schema : Schema) → HasTablesOf V3 schema → HasTablesOf V2 schema
second_of_third schema has =
    (fewer (HasTableAt schema) in_order (table_count V2) (table_count V3) (omega arith) has.0, tt)

-- A club's tables are those of schema 1 if it has no table of rules of events, and else those of schema 2, which a
-- club of schema 3 has too.
pub rules_missing : (schema : Schema) (there : Bool) → HasClubTables schema
    → (HasTableAt schema EventRules → there ≡ true) → there ≡ false → HasTablesOf V1 schema
rules_missing schema there (V1, has) stands fits = has
rules_missing schema there (V2, has) stands fits =
    absurd (true≢false (sym (stands (rules_stand V2 schema tt has)) ∙ fits))
rules_missing schema there (V3, has) stands fits =
    absurd (true≢false (sym (stands (rules_stand V3 schema tt has)) ∙ fits))

pub rules_found : (schema : Schema) (there : Bool) → HasClubTables schema
    → (is_used schema (table_name EventRules) ≡ false → there ≡ false) → there ≡ true → HasTablesOf V2 schema
rules_found schema there (V1, has) missing fits = absurd (true≢false (sym fits ∙ missing has.1.0))
rules_found schema there (V2, has) missing fits = has
rules_found schema there (V3, has) missing fits = second_of_third schema has

-- a served version has this table
pub has_rules : (version : Version) → IsServed version → HasTable EventRules version
has_rules V1 served = absurd (true≢false (sym served))
has_rules V2 served = tt
has_rules V3 served = tt

-- Where it stands alone its tables have the trees that it gives them.
trees_alone : (version : Version) (trees : Trees)
    → AllByRecursion (λ t. by_club (schema_of version) trees t.tree ≡ trees t.tree) (schema_of version).tables
unfolding by_club tree_in same_name
trees_alone V1 trees = (refl, (refl, (refl, (refl, (refl, (refl, (refl, (refl, tt))))))))
trees_alone V2 trees = (refl, (refl, (refl, (refl, (refl, (refl, (refl, (refl, (refl, tt)))))))))
trees_alone V3 trees =
    (refl, (refl, (refl, (refl, (refl, (refl, (refl, (refl, (refl, (refl, (refl, (refl, tt))))))))))))

-- what some trees store others store that have the same rows
stored_by : (here there : Trees) (content : Content) (tables : List Definition)
    → AllByRecursion (λ t. here t.tree ≡ there t.tree) tables → AllByRecursion (λ t. Stores t here content) tables
    → AllByRecursion (λ t. Stores t there content) tables
stored_by here there content [] same all = tt
stored_by here there content (t ∷ tables) same all = (
  record {
    rows = keeps_moved t t here there (content t.tree) (content t.tree) (λ r. refl) same.0 refl all.0.rows;
    apart = subst AreApart same.0 all.0.apart;
  },
  stored_by here there content tables same.1 all.1,
)

-- what a club has that stands alone, the trees have
pub held_alone : (version : Version) (db : Database) (content : Content) → db.schema ≡ schema_of version
    → AreStored (schema_of version) (club_trees db) content → AreStored (schema_of version) db.trees content
held_alone version db content is stored =
    stored_by (by_club (schema_of version) db.trees) db.trees content (schema_of version).tables
    (trees_alone version db.trees)
    (subst (λ s. AreStored (schema_of version) (by_club s db.trees) content) is stored)

pub club_of_version : (version : Version) (s : ClubState) → IsClubOf version s → IsClub s
club_of_version V1 s is = is.club
club_of_version V2 s is = is.0
club_of_version V3 s is = is.0

-- ---- no two rows have one key

-- No row has the key of another, in the tables whose key has several columns.
pub record AreUnique (trees : Trees) : Type 0 where
  pub challenges : (r : Row) → Has (trees 6) r → clashes plain (1 ∷ 2 ∷ []) (trees 6) r ≡ false
  pub moves : (r : Row) → Has (trees 8) r → clashes plain (1 ∷ 2 ∷ []) (trees 8) r ≡ false
  pub seen : (r : Row) → Has (trees 12) r → clashes plain (1 ∷ 2 ∷ []) (trees 12) r ≡ false
  pub scores : (r : Row) → Has (trees 14) r → clashes plain (1 ∷ 2 ∷ 3 ∷ []) (trees 14) r ≡ false

pub unique_of : (version : Version) (db : Database) (content : Content) → HoldsRows version content db
    → AreUnique (club_trees db)
unique_of version db content holds =
    let has : HasClubTables db.schema = (version, holds.schema) in
    let sound = holds.sound in
    record {
      challenges = unique_here db.schema db.trees sound Challenges (stands Challenges tt has) (1 ∷ 2 ∷ []) refl refl;
      moves = unique_here db.schema db.trees sound Moves (stands Moves tt has) (1 ∷ 2 ∷ []) refl refl;
      seen = unique_here db.schema db.trees sound Seen (stands Seen tt has) (1 ∷ 2 ∷ []) refl refl;
      scores = unique_here db.schema db.trees sound Scores (stands Scores tt has) (1 ∷ 2 ∷ 3 ∷ []) refl refl;
    }

pub rulings_unique : (db : Database) (content : Content) → HoldsRows V3 content db → (r : Row)
    → Has (club_trees db 20) r → clashes plain (1 ∷ 2 ∷ []) (club_trees db 20) r ≡ false
rulings_unique db content holds =
    unique_here db.schema db.trees holds.sound Rulings (third_stands db.schema holds.schema.0).2 (1 ∷ 2 ∷ []) refl refl
