-- Contents whose tables have the same rows are held alike.
use Rattle.std.proofs.Common.{List}
use Rattle.sqlite_trees.proofs.ListLemmas.{all_both}
use Rattle.store_tables.specs.Sql.{Row, Schema, Table, Trees, State}
use Rattle.store_tables.specs.Changes.{HaveSame}
use Rattle.store_tables.specs.internal.Changes.{AreSame}
use Rattle.store_tables.specs.Content.{Keeps}
use Rattle.store_tables.specs.Contents as of_schema
use Rattle.store_tables.specs.Contents.{Content, Stores, AreStored}
use Rattle.store_tables.specs.Club.{Leaves, IsExactly}
use Rattle.store_tables.specs.Tables.{schema_of}
use Rattle.store_tables.specs.declared.names.Version.{Version}

keeps_same : (table : Table) (db : Trees) (one other : List Row) → HaveSame one other → Keeps table db one
    → Keeps table db other
keeps_same table db one other same keeps = record {
  stored = λ row h. keeps.stored row (same.back row h);
  only = λ r h. same.there _ (keeps.only r h);
}

module _ (schema : Schema) (one other : Content) where
  stored_on : (db : Trees) → AreSame schema one other → AreStored schema db one → AreStored schema db other
  stored_on db =
      all_both (λ t. HaveSame (one t.tree) (other t.tree)) (λ t. Stores t db one) (λ t. Stores t db other)
      (λ t same stores. record {
        rows = keeps_same t db (one t.tree) (other t.tree) same stores.rows;
        apart = stores.apart;
      }) schema.tables

  pub leaves_on : (db : Trees) → AreSame schema one other → of_schema.Leaves schema one db
      → of_schema.Leaves schema other db
  leaves_on db same left = record { sound = left.sound; tables = stored_on db same left.tables }

  pub exactly_on : (s : State) → AreSame schema one other → of_schema.IsExactly schema one s
      → of_schema.IsExactly schema other s
  exactly_on s same k = record {
    is_open = k.is_open;
    idle = k.idle;
    now = record {
      schema = k.now.schema;
      sound = k.now.sound;
      tables = stored_on s.now.trees same k.now.tables;
    };
    committed = k.committed;
    may_leave = λ db h. leaves_on db same (k.may_leave db h);
  }

pub leaves_same : (version : Version) (one other : Content) (db : Trees) → AreSame (schema_of version) one other
    → Leaves version one db → Leaves version other db
leaves_same version = leaves_on (schema_of version)

pub exactly_same : (version : Version) (one other : Content) (s : State) → AreSame (schema_of version) one other
    → IsExactly version one s → IsExactly version other s
exactly_same version = exactly_on (schema_of version)
