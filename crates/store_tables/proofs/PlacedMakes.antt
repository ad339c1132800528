-- What the texts that make the tables of a club do, behind the tables of other programs.
use Rattle.std.proofs.Common.{◌≡◌, true, false, List, [], ◌∷◌, ◌++◌, Ok, None, refl, sym, ap, subst, ◌∙◌, arith}
use Rattle.std.proofs.Common.{le_refl}
use Rattle.sqlite.proofs.Callers.{runs_as}
use Rattle.sqlite_catalog.specs.Change.{created, next_tree, KeepsRows, is_used}
use Rattle.sqlite.specs.Command.TheVariants.{CreateTable}
use Rattle.sqlite.specs.Does.{Tally, lacks_sequence}
use Rattle.store_tables.specs.Sql.{Database, Schema, State, Table}
use Rattle.sqlite.specs.State.{Writes}
use Rattle.sqlite_trees.proofs.ListLemmas.{all-append, all_both}
use Rattle.store_tables.specs.Contents.{Content, Holds, Stores}
use Rattle.store_tables.specs.internal.Contents.{Ran}
use Rattle.store_tables.specs.Names.{table_name}
use Rattle.store_tables.proofs.PlacedCreated.{next_rises}
use Rattle.store_tables.specs.Room.{AreUnused, made_in}
use Rattle.store_tables.specs.internal.Room.{AreBare, MakesHere}
use Rattle.store_tables.proofs.PlacedSteps.{IsEmptyFrom}
use Rattle.store_tables.specs.Tables.{made_as}
use Rattle.store_tables.specs.internal.Texts.{create_of}
use Rattle.store_tables.specs.declared.names.Table as of_club
use Rattle.store_tables.proofs.MakeLemmas.{stores_by, stores_none}
use Rattle.store_tables.proofs.Meanings.{defined}
use Rattle.store_tables.proofs.PlacedCreates.{creates_here}
use Rattle.store_tables.proofs.UpsertLemmas.{same_value, went}

module _ (table : of_club.Table) (schema : Schema) (unused : is_used schema (table_name table) ≡ false)
    (uncounted : lacks_sequence (created schema (made_as table 0)) ≡ false) (old new : State)
    (h : Ran (create_of table) old new) where
  abbrev made : Table
  made = made_as table 0

  abbrev after : Schema
  after = created schema made

  -- Beside rows that stay, the text makes the table, with no row.
  pub makes_one : (content : Content) → Holds schema old.now content → content (next_tree schema) ≡ []
      → Holds after new.now content
  makes_one content k free =
      let is_create = creates_here table schema unused in
      let w = subst (λ t. Writes old new None CreateTable t [] h.count) is_create.text
      (runs_as (create_of table) [] old new schema k.schema CreateTable is_create.command is_create.plain h.count
      h.runs.0) in
      let all = went w.changed in
      let first = went all.1 in
      let it = first.1 in
      let both : Ok it.table ≡ Ok made = sym it.defined ∙ defined table in
      let is : first.0.schema ≡ after = it.is ∙ ap (λ s. created s it.table) k.schema
      ∙ ap (created schema) (same_value both) in
      let none : lacks_sequence first.0.schema ≡ false = ap lacks_sequence is ∙ uncounted in
      let now : new.now ≡ first.0 = ap (λ (p : Tally × Database). p.1) (same_value all.2)
      ∙ same_value (rw none at first.2) in
      let empty : first.0.trees (next_tree schema) ≡ [] =
      subst (λ s. first.0.trees (next_tree s) ≡ []) k.schema it.empty in
      let kept : KeepsRows schema.tables old.now.trees first.0.trees =
      subst (λ s. KeepsRows s.tables old.now.trees first.0.trees) k.schema it.others in
      let fresh : Table = record made { tree = next_tree schema } in
      record {
        schema = ap (λ (d : Database). d.schema) now ∙ is;
        sound = w.sound;
        tables = all-append (λ t. Stores t new.now.trees content) schema.tables (fresh ∷ [])
            (all_both (λ t. first.0.trees t.tree ≡ old.now.trees t.tree) (λ t. Stores t old.now.trees content)
            (λ t. Stores t new.now.trees content) (λ t same was.
            stores_by t old.now.trees new.now.trees content (ap (λ (d : Database). d.trees t.tree) now ∙ same) was)
            schema.tables kept k.tables)
            (stores_none fresh new.now.trees content (ap (λ (d : Database). d.trees fresh.tree) now ∙ empty) free, tt);
      }

later : (schema : Schema) (table : Table) (content : Content) → IsEmptyFrom (next_tree schema) content
    → IsEmptyFrom (next_tree (created schema table)) content
later schema table content empty n from =
    let rises = next_rises schema table in
    empty n (omega (arith, rises, from))

-- ---- one table after those that were made

made_push : (schema : Schema) (tables : List of_club.Table) (table : of_club.Table)
    → made_in schema (tables ++ table ∷ []) ≡ created (made_in schema tables) (made_as table 0)
made_push schema [] table = refl
made_push schema (t ∷ tables) table = made_push (created schema (made_as t 0)) tables table

pub made_parts : (schema : Schema) (tables more : List of_club.Table)
    → made_in schema (tables ++ more) ≡ made_in (made_in schema tables) more
made_parts schema [] more = refl
made_parts schema (t ∷ tables) more = made_parts (created schema (made_as t 0)) tables more

-- Those that are made first can be, and then the rest.
pub unused_parts : (schema : Schema) (tables more : List of_club.Table) → AreUnused schema (tables ++ more)
    → AreUnused schema tables × AreUnused (made_in schema tables) more
unused_parts schema [] more unused = (tt, unused)
unused_parts schema (t ∷ tables) more (free, stored, counted, rest) =
    let parts = unused_parts (created schema (made_as t 0)) tables more rest in
    ((free, stored, counted, parts.0), parts.1)

-- so do trees from the next one on
pub bare_from : (tables : List of_club.Table) (schema : Schema) (content : Content)
    → IsEmptyFrom (next_tree schema) content → AreBare schema content tables
bare_from [] schema content empty = tt
bare_from (t ∷ tables) schema content empty = (
  empty (next_tree schema) (le_refl (next_tree schema)),
  bare_from tables (created schema (made_as t 0)) content (later schema (made_as t 0) content empty),
)

bare_parts : (schema : Schema) (content : Content) (tables more : List of_club.Table)
    → AreBare schema content (tables ++ more)
    → AreBare schema content tables × AreBare (made_in schema tables) content more
bare_parts schema content [] more bare = (tt, bare)
bare_parts schema content (t ∷ tables) more bare =
    let parts = bare_parts (created schema (made_as t 0)) content tables more bare.1 in
    ((bare.0, parts.0), parts.1)

-- one table more
pub makes_next : (tables : List of_club.Table) (table : of_club.Table) (a b c : State) → MakesHere tables a b
    → Ran (create_of table) b c → MakesHere (tables ++ table ∷ []) a c
makes_next tables table a b c one two = record {
  made = λ schema unused content k bare.
      let parts = unused_parts schema tables (table ∷ []) unused in
      let (free, stored, counted, rest) = parts.1 in
      let bares = bare_parts schema content tables (table ∷ []) bare in
      let before = made_in schema tables in
      subst (λ s. Holds s c.now content) (sym (made_push schema tables table))
      (makes_one table before free counted b c two content
      (one.made schema parts.0 content k bares.0) bares.1.0);
  committed = two.runs.1.committed_is ∙ one.committed;
  inside = two.runs.1.mode;
}

pub makes_no_more : (s : State) → s.in_transaction ≡ true → MakesHere [] s s
makes_no_more s inside = record { made = λ schema unused content k bare. k; committed = refl; inside = inside }
