-- What a statement that puts a row does to the rows of a club, wherever its tables stand.
use Rattle.std.proofs.Common.{false, ◌≡◌, ℕ, ◌==◌, List, [], ◌∷◌, Option, Some, Ok, refl, sym, ap, subst, ◌∙◌, length}
use Rattle.std.proofs.Common.{inl, inr, slice_get, None, true≢false, if◌then◌else◌, find, ◌≤◌, true, eq-eqb, eqb-true}
use Rattle.std.proofs.Common.{bytes_eq}
use Rattle.std.proofs.lemmas.Bool.{cases_Bool}
use Rattle.std.proofs.lemmas.Option.{same_Some}
use Rattle.std.specs.List.{AllByRecursion}
use Rattle.store_tables.specs.Sql.{Row, Schema, State, Table, Has, Trees, Database, IsDatabase, understood}
use Rattle.sqlite.specs.State.{ExecutesInside, mode_of, Executes}
use Rattle.sqlite_rules.proofs.ListLemmas.{all_has, has_got, all_from}
use Rattle.sqlite_trees.specs.Tree.{IsAscending}
use Rattle.store_tables.specs.Contents.{Content, Stores, AreStored, Holds}
use Rattle.store_tables.specs.internal.Contents.{Steps, put_in}
use Rattle.store_tables.specs.Names.{in_order, table_name, tree_of}
use Rattle.store_tables.specs.Content.{AreApart, Keeps}
use Rattle.store_tables.specs.internal.Content.{put}
use Rattle.store_tables.specs.Placed.{EachStanding, IsLeftAlone, HasTableAt, tables_of, HasTables, TakesClub}
use Rattle.store_tables.specs.Tables.{made_as, standing}
use Rattle.store_tables.specs.internal.Texts.{put_text}
use Rattle.store_tables.specs.declared.names.Table as of_club
use Rattle.store_tables.specs.declared.names.Table.TheVariants.{Meta}
use Rattle.store_tables.proofs.Meanings.{source_of, updates_of}
use Rattle.store_tables.proofs.PlacedPuts.{PutsAnywhere, same_test, key_of}
use Rattle.store_tables.proofs.PlacedSelects.{is_found, name_is, tree_is}
use Rattle.store_tables.proofs.PlacedUpserts.{put_command, put_plain, puts_meant}
use Rattle.sqlite_schema.specs.declared.schema.Keys.TheVariants.{Enforced}
use Rattle.sqlite.specs.Does.{Tally, Does, AtPlace, OnRows}
use Rattle.sqlite.specs.Command.TheVariants.{InsertOr}
use Rattle.sqlite_schema.specs.declared.command.Conflict.TheVariants.{Abort}
use Rattle.sqlite_rules.proofs.RuleLemmas.{same_table}
use Rattle.sqlite.proofs.Callers.{statement_of, runs_as}
use Rattle.store_tables.specs.internal.Put.{HasPut, on_key}
use Rattle.store_tables.proofs.MakeLemmas.{stores_by}
use Rattle.store_tables.proofs.UpsertLemmas.{went, same_value}
use Rattle.store_tables.proofs.PutLemmas.{puts}
use Rattle.sqlite_schema.specs.declared.schema.Index.{Index}
use Rattle.store_tables.specs.Room.{IsUnrelated}
use Rattle.store_tables.specs.declared.names.Version.{Version}

-- ---- the rows of a club where its tables stand, and those of the tables of other programs

-- The rows of a club's tables, by the numbers that the club gives them, are those that stand at their trees here.
abbrev pub AreHere : (version : Version) (schema : Schema) → HasTables version schema → (whole content : Content)
    → Type 0
AreHere version schema club whole content =
    EachStanding schema (λ table stands. whole stands.tree ≡ content (tree_of table)) (tables_of version) club

-- The rows of the tables of other programs, which have no tree of the club's, are as they were.
abbrev pub KeepsOthers : (version : Version) (schema : Schema) → HasTables version schema → (old new : Content)
    → Type 0
KeepsOthers version schema club old new = (n : ℕ)
    → EachStanding schema (λ table stands. (n == stands.tree) ≡ false) (tables_of version) club → new n ≡ old n

-- Inside a transaction the rows of a club of this version changed so, wherever its tables stand, and nothing was committed.
pub record StepsHere (version : Version) (change : Content → Content) (old new : State) : Type 0 where
  pub holds : (schema : Schema) (takes : TakesClub version schema) (whole content : Content)
      → Holds schema old.now whole → AreHere version schema takes.club whole content
      → (next : Content) × Holds schema new.now next × AreHere version schema takes.club next (change content)
      × KeepsOthers version schema takes.club whole next
  pub committed : new.committed ≡ old.committed
  pub inside : new.in_transaction ≡ true

-- no tree from this one on has a row
abbrev pub IsEmptyFrom : ℕ → Content → Type 0
IsEmptyFrom tree content = (n : ℕ) → tree ≤ n → content n ≡ []

-- the index is of one of the tables
abbrev pub IsOwned : Schema → Index → Type 0
IsOwned schema index = (table : Table) × Has schema.tables table × (index.table ≡ table.tree)

-- A schema in which a club of this version can be made: no two tables have one tree, each index is of one of them, and
-- no FOREIGN KEY names a table of a club.
pub record LeavesRoom (version : Version) (schema : Schema) : Type 0 where
  pub trees : IsAscending (λ (a b : Table). a.tree ≡ b.tree → ⊥) schema.tables
  pub owned : AllByRecursion (IsOwned schema) schema.indexes
  pub unrelated : AllByRecursion (IsUnrelated version) schema.tables

-- ---- a table is known by its name, and by the club's number

abbrev by_name : List ℕ → Option of_club.Table
by_name name = find (λ t. bytes_eq (table_name t) name) in_order

named_back : (table : of_club.Table) → by_name (table_name table) ≡ Some table
named_back Meta = refl
named_back _ = refl

abbrev pub by_number : ℕ → Option of_club.Table
by_number n = find (λ t. tree_of t == n) in_order

pub numbered_back : (table : of_club.Table) → by_number (tree_of table) ≡ Some table
numbered_back Meta = refl
numbered_back _ = refl

same_text : (table : of_club.Table) (tree : ℕ) → put_text (standing table) ≡ put_text (made_as table tree)
same_text Meta tree = refl
same_text _ tree = refl

-- ---- what holds of each table where it stands

pub each_has : (schema : Schema) (P : (table : of_club.Table) → HasTableAt schema table → Type 0)
    (tables : List of_club.Table) (stand : AllByRecursion (HasTableAt schema) tables) → EachStanding schema P tables stand
    → (table : of_club.Table) → Has tables table → (stands : HasTableAt schema table) × P table stands
each_has schema P [] stand each table has = absurd has
each_has schema P (t ∷ tables) stand each table (inl same) =
    subst (λ u. (stands : HasTableAt schema u) × P u stands) (sym same) (stand.0, each.0)
each_has schema P (t ∷ tables) stand each table (inr has) = each_has schema P tables stand.1 each.1 table has

pub each_from : (schema : Schema) (P : (table : of_club.Table) → HasTableAt schema table → Type 0)
    (tables : List of_club.Table) (stand : AllByRecursion (HasTableAt schema) tables)
    → ((table : of_club.Table) → Has tables table → (stands : HasTableAt schema table) → P table stands)
    → EachStanding schema P tables stand
each_from schema P [] stand each = tt
each_from schema P (t ∷ tables) stand each =
    (each t (inl refl) stand.0, each_from schema P tables stand.1 (λ table has. each table (inr has)))

-- ---- one table has one tree, and two have two

module _ (schema : Schema) where
  pub one_tree : (table : of_club.Table) (one two : HasTableAt schema table) → one.tree ≡ two.tree
  one_tree table one two =
      let place = same_Some _ _ (sym one.named ∙ two.named) in
      let same = same_Some _ _ (sym one.at ∙ ap (slice_get schema.tables) place ∙ two.at) in
      sym (tree_is table one.tree) ∙ ap (λ (t : Table). t.tree) same ∙ tree_is table two.tree

  pub two_tables : (table other : of_club.Table) (one : HasTableAt schema table) (two : HasTableAt schema other)
      → one.tree ≡ two.tree → table ≡ other
  two_tables table other one two trees =
      let same = same_Some _ _
      (sym one.own ∙ ap (λ n. find (λ (t : Table). t.tree == n) schema.tables) trees ∙ two.own) in
      let name : table_name table ≡ table_name other =
      sym (name_is table one.tree) ∙ ap (λ (t : Table). t.name) same ∙ name_is other two.tree in
      same_Some _ _ (sym (named_back table) ∙ ap by_name name ∙ named_back other)

  -- What holds of each table of its tree, holds wherever the table is said to stand.
  pub each_at : (Q : of_club.Table → ℕ → Type 0) (tables : List of_club.Table)
      (stand : AllByRecursion (HasTableAt schema) tables) → EachStanding schema (λ table s. Q table s.tree) tables stand
      → (table : of_club.Table) → Has tables table → (s : HasTableAt schema table) → Q table s.tree
  each_at Q tables stand each table has s =
      let found = each_has schema (λ t it. Q t it.tree) tables stand each table has in
      subst (Q table) (one_tree table found.0 s) found.1

  -- They have one tree if the club gives them one number.
  trees_agree : (table other : of_club.Table) (one : HasTableAt schema table) (two : HasTableAt schema other)
      → (one.tree == two.tree) ≡ (tree_of table == tree_of other)
  trees_agree table other one two =
      same_test (one.tree == two.tree) (tree_of table == tree_of other)
      (λ h. eq-eqb (tree_of table) (tree_of other)
      (ap tree_of (two_tables table other one two (eqb-true one.tree two.tree h))))
      (λ h.
      let number = eqb-true (tree_of table) (tree_of other) h in
      let same = same_Some _ _ (sym (numbered_back table) ∙ ap by_number number ∙ numbered_back other) in
      eq-eqb one.tree two.tree
      (subst (λ t. (it : HasTableAt schema t) → one.tree ≡ it.tree) same (λ it. one_tree table one it) two))

  -- A row that is put into the table here is put into the club's.
  pub put_here : (tables : List of_club.Table) (stand : AllByRecursion (HasTableAt schema) tables) (whole content : Content)
      → EachStanding schema (λ t s. whole s.tree ≡ content (tree_of t)) tables stand
      → (table : of_club.Table) (it : HasTableAt schema table) (key : List ℕ) (row : Row)
      → EachStanding schema
      (λ t s. put_in it.tree key row whole s.tree ≡ put_in (tree_of table) key row content (tree_of t)) tables stand
  put_here tables stand whole content are table it key row =
      each_from schema (λ t s. put_in it.tree key row whole s.tree ≡ put_in (tree_of table) key row content (tree_of t))
      tables stand (λ t has s.
      let is = each_at (λ u n. whole n ≡ content (tree_of u)) tables stand are t has s in
      λ i. if trees_agree t table s it i then put key row (is i) else is i)

-- ---- the text that puts a row

module _ (schema : Schema) (apart : IsAscending (λ (a b : Table). a.tree ≡ b.tree → ⊥) schema.tables)
    (of_this : of_club.Table) (stands : HasTableAt schema of_this)
    (clear : IsLeftAlone schema (made_as of_this stands.tree)) (row : Row) (is_put : PutsAnywhere of_this row) where
  abbrev there : Table
  there = made_as of_this stands.tree

  abbrev key : List ℕ
  key = key_of of_this

  listed : Has schema.tables there
  listed = has_got schema.tables stands.place there stands.at

  -- what the text makes of the trees
  put_by : (old new : State) (count : ℕ) → old.now.schema ≡ schema → AreApart (old.now.trees there.tree)
      → Executes (put_text there) row old new (Ok count)
      → (new.now.schema ≡ schema) × HasPut schema there key row old.now.trees new.now.trees × IsDatabase new.now
  put_by old new count has shaped h =
      let upserts = on_key there.primary there.tree (length there.columns) (updates_of there) in
      let does = InsertOr stands.place Abort (source_of there) upserts in
      let meant = puts_meant of_this stands.tree in
      let found = is_found schema of_this stands in
      let text = statement_of (put_text there) (understood schema (put_text there)) in
      let w = runs_as (put_text there) row old new schema has does
      (put_command there meant schema stands.place found clear.keyed)
      (put_plain there meant schema stands.place found clear.keyed) count h in
      let changed =
      subst
      (λ s. Does old.step_limit (mode_of old) row (record old.now { schema = s }) text None does
      (Ok (w.tally, new.now))) has w.changed in
      let on =
      subst
      (λ o.
      AtPlace
      (λ (t : Table).
      OnRows (record { limit = old.step_limit; keys = Enforced; schema = schema; table = t; params = row })
      (mode_of old) None does old.now.trees) o (Ok (w.tally, new.now))) stands.at changed in
      let written = went on in
      let last = went (went written.2).2 in
      let now = ap (λ (p : Tally × Database). p.1) (same_value last.2) in (
        ap (λ (d : Database). d.schema) now,
        puts old.step_limit schema there row key row (source_of there) there.primary (length there.columns)
            (updates_of there) (is_put schema stands clear) old.now.trees new.now.trees shaped apart listed written.0
            written.1 (sym (ap (λ (d : Database). d.trees) now)),
        w.sound,
      )

  turn_by : (old new : Trees) (content : Content) → HasPut schema there key row old new
      → AreStored schema old content → AreStored schema new (put_in there.tree key row content)
  turn_by old new content it h = all_from _ schema.tables (λ t known. elim (cases_Bool (t.tree == there.tree)) [
    | inl same ↦
        let is_it : t ≡ there = same_table schema.tables t there apart known listed
        (eqb-true _ _ same) in
        let was = all_has _ schema.tables there h listed in
        let now : Stores there new (put_in there.tree key row content) = record {
          rows = subst (λ b. Keeps there new (if b then put key row (content there.tree) else content there.tree))
              (sym (eq-eqb there.tree there.tree refl)) (it.kept _ was.rows);
          apart = it.apart;
        } in
        subst (λ u. Stores u new (put_in there.tree key row content)) (sym is_it) now
    | inr other ↦
        let was = all_has _ schema.tables t h known in
        let same : new t.tree ≡ old t.tree = all_has _ schema.tables t it.others known
        (λ e. true≢false (sym (eq-eqb _ _ e) ∙ other)) in
        let still = stores_by t old new content same was in
        record {
          rows = subst (λ b. Keeps t new (if b then put key row (content t.tree) else content t.tree)) (sym other)
              still.rows;
          apart = still.apart;
        }
  ])

  put_inside : (old new : State) (count : ℕ) → ExecutesInside 0 (put_text there) row old new (Ok count)
      → Steps schema (put_in there.tree key row) old new
  put_inside old new count h = record {
    holds = λ content k.
        let stored : Stores there old.now.trees content =
        all_has (λ t. Stores t old.now.trees content) schema.tables there k.tables listed in
        let did = put_by old new count k.schema stored.apart h.0 in
        record {
          schema = did.0;
          sound = did.2;
          tables = turn_by old.now.trees new.now.trees content did.1 k.tables;
        };
    committed = h.1.committed_is;
    inside = h.1.mode;
  }

-- The text of a table, run inside a transaction, puts the row into the club's table wherever it stands.
pub put_row_here : (version : Version) (table : of_club.Table) → Has (tables_of version) table → (row : Row) → PutsAnywhere table row
    → (old new : State) (count : ℕ) → ExecutesInside 0 (put_text (standing table)) row old new (Ok count)
    → StepsHere version (put_in (tree_of table) (key_of table) row) old new
put_row_here version table listed row is_put old new count h = record {
  holds = λ schema takes whole content k are.
      let found = each_has schema (λ t s. IsLeftAlone schema (made_as t s.tree)) (tables_of version) takes.club
      takes.clear table listed in
      let stands = found.0 in
      let steps = subst (λ n. Steps schema (put_in n (key_of table) row) old new) (tree_is table stands.tree)
      (put_inside schema takes.trees table stands found.1 row is_put old new count
      (subst (λ text. ExecutesInside 0 text row old new (Ok count)) (same_text table stands.tree) h)) in (
        put_in stands.tree (key_of table) row whole,
        steps.holds whole k,
        put_here schema (tables_of version) takes.club whole content are table stands (key_of table) row,
        λ n apart.
            let there = each_at schema (λ t m. (n == m) ≡ false) (tables_of version) takes.club apart table listed
            stands in
            λ i. if there i then put (key_of table) row (whole n) else whole n,
      );
  committed = h.1.committed_is;
  inside = h.1.mode;
}
