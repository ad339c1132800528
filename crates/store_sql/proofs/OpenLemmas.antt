-- What an opening finds of what a stop left.
use Rattle.std.proofs.Common.{◌≡◌, IsTrue, sym, ap, subst}
use Rattle.store_tables.specs.Sql.{Trees, Schema, State}
use Rattle.sqlite.specs.State.{Opens, IsLive}
use Rattle.sqlite_catalog.specs.Listing.{IsSound}
use Rattle.sqlite_catalog.proofs.ReadLemmas.{reads, read_once}
use Rattle.store_tables.specs.Contents.{Content, Leaves, IsExactly}

-- trees list one schema
pub schema_once : (db : Trees) (s t : Schema) → IsSound s db → IsSound t db → s ≡ t
schema_once db s t one two = let a = reads _ s one.lists in
    read_once _ s t a.tables a.indexes a.views (reads _ t two.lists)

-- A connection that opens on trees of this content holds exactly it.
pub opens_exactly : (schema : Schema) (content : Content) (s : State) → Opens s → IsLive s
    → ((db : Trees) → IsTrue s.is_open → s.may_leave db → db ≡ s.committed.trees)
    → Leaves schema content s.committed.trees → IsExactly schema content s
opens_exactly schema content s opens live settled found =
    let same : s.now.trees ≡ s.committed.trees = ap (λ d. d.trees) opens.clean in
    let here : Leaves schema content s.now.trees = subst (Leaves schema content) (sym same) found in
    record {
      is_open = opens.is_open;
      idle = opens.autocommit;
      now =
          record {
            schema = schema_once s.now.trees s.now.schema schema (live opens.is_open).0 here.sound;
            sound =
                (live opens.is_open).0;
            tables = here.tables;
          };
      committed = sym opens.clean;
      may_leave = λ db left. subst (Leaves schema content) (sym (settled db opens.is_open left)) found;
    }
