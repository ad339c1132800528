-- CREATE TABLE, one after the other.
use Rattle.std.proofs.Common.{◌≡◌, [], refl, sym, subst}
use Rattle.store_tables.specs.Sql.{Table, Schema, Trees, Database, Has}
use Rattle.sqlite_rules.proofs.ListLemmas.{all_has, all_from}
use Rattle.store_tables.specs.Content.{AreApart}
use Rattle.store_tables.specs.Contents.{Content, AreMade, Holds, Stores, nothing}

-- ---- a table with no row

pub stores_none : (t : Table) (db : Trees) (content : Content) → db t.tree ≡ [] → content t.tree ≡ []
    → Stores t db content
stores_none t db content none nothing = record {
  rows = record {
    stored = λ row h. absurd (subst (λ l. Has l row) nothing h);
    only = λ r h. absurd (subst (λ l. Has l r) none h);
  };
  apart = subst AreApart (sym none) (record { apart = tt; ints = tt });
}

-- the tables that were made hold no row
pub holds_nothing : (schema : Schema) (db : Database) → AreMade schema db → Holds schema db nothing
holds_nothing schema db k = record {
  schema = k.schema_is;
  sound = k.sound;
  tables = all_from (λ t. Stores t db.trees nothing) schema.tables (λ t known.
      stores_none t db.trees nothing (all_has (λ t. db.trees t.tree ≡ []) schema.tables t k.empty known) refl);
}

-- ---- a table that is made beside rows

pub stores_by : (t : Table) (a b : Trees) (content : Content) → b t.tree ≡ a t.tree → Stores t a content
    → Stores t b content
stores_by t a b content e s = record {
  rows = record {
    stored = λ row h. let (r, there, is) = s.rows.stored row h in (r, subst (λ l. Has l r) (sym e) there, is);
    only = λ r h. s.rows.only r (subst (λ l. Has l r) e h);
  };
  apart = subst AreApart (sym e) s.apart;
}
