-- Each SELECT of a club's table shows what it shows wherever the table stands in a schema.
use Rattle.std.proofs.Common.{◌≡◌, ℕ, ◌==◌, true, [], ◌∷◌, Some, None, refl, sym, ap, subst, ◌∙◌, length, slice_get, ℤ}
use Rattle.std.proofs.Common.{List, Option, map, drop, take, suc, if◌then◌else◌, find as first_that, nat_lt, unwrap_or}
use Rattle.std.proofs.Common.{◌-◌, ◌^◌, Ordering}
use Rattle.store_tables.specs.Sql.{Schema, Table, Row, column, Trees}
use Rattle.sqlite_sql.specs.Term.{col, Term, op2, eval_all, holds}
use Rattle.sqlite.specs.declared.types.Value.TheVariants.{Int}
use Rattle.sqlite_schema.specs.Names.{table_named, is_key, place_of as stored_at}
use Rattle.store_tables.specs.Names.{table_name}
use Rattle.store_tables.specs.Placed.{HasTableAt}
use Rattle.store_tables.specs.internal.Queries.{AreShownBy, is_read_as_select, by_others}
use Rattle.store_tables.specs.Tables.{made_as}
use Rattle.store_tables.specs.internal.Texts.{names_of, id_name, key_names, all_text, ids_text, by_first_text}
use Rattle.store_tables.specs.internal.Texts.{last_text}
use Rattle.store_tables.specs.declared.names.Table as of_club
use Rattle.store_tables.specs.declared.names.Table.TheVariants.{Closings, Keys, Meta, Rulings}
use Rattle.store_tables.proofs.PlacedTexts.{IsFound, command_is, plain_is, stored, unlisted_is, IsMeant, meant_so}
use Rattle.std.specs.List.{range_with_len, list_all}
use Rattle.sqlite_tied.specs.Compute.{everything}
use Rattle.sqlite_value.specs.Keys.{first_key, ascending}
use Rattle.sqlite_value.specs.declared.keys.Collation.{Collation}
use Rattle.sqlite_value.specs.declared.keys.Collation.TheVariants.{Binary}
use Rattle.store_tables.specs.internal.Reading.{by_columns, by_first_falling}
use Rattle.store_tables.proofs.PlacedQueries.{Asked, asked_in, asked_of}
use Rattle.sqlite_sql.specs.Query.{Query, output, output_cmp}
use Rattle.sqlite_sql.specs.declared.ops.BinaryOp.TheVariants.{Compare}
use Rattle.sqlite_sql.specs.declared.ops.CompareOp.TheVariants.{Eq}
use Rattle.sqlite_sql.specs.Program.{overlay}
use Rattle.sqlite_value.specs.declared.keys.Key.{Key}
use Rattle.store_tables.specs.Content.{cells, same_key}
use Rattle.store_tables.specs.internal.Put.{selects}

-- ---- the parts of a SELECT of one table

-- each column of the table, as a query names it
abbrev pub columns_of : Table → List Term
columns_of table = map (λ at. col 1 (stored_at table at)) (range_with_len 0 (length table.columns))

-- the columns of its primary key
abbrev pub key_of : Table → List Term
key_of table = map (col 1) table.primary

-- the columns at these places are as the parameters from one on
abbrev pub as_given : ℕ → List ℕ → List Term
as_given k [] = []
as_given k (at ∷ places) = op2 (Compare Eq Binary) (col 1 at) (col 0 k) ∷ as_given (suc k) places

abbrev pub rising_by : List Term → List (Term × Key)
rising_by terms = map (λ t. (t, ascending Binary)) terms

shown_at : (table : Table) (given r : Row) (places : List ℕ)
    → eval_all (map (λ at. col 1 (stored_at table at)) places) (given ∷ r ∷ [])
    ≡ map (λ at. column r (stored_at table at)) places
shown_at table given r [] = refl
shown_at table given r (at ∷ places) = ap (λ l. column r (stored_at table at) ∷ l) (shown_at table given r places)

pub all_shown : (table : Table) (given r : Row) → eval_all (columns_of table) (given ∷ r ∷ []) ≡ cells table r
all_shown table given r = shown_at table given r (range_with_len 0 (length table.columns))

-- No WITH of the text stands for this tree.
abbrev pub IsBare : ℕ → Type 0
IsBare tree = (d : Trees) → overlay d [] tree ≡ d tree

-- Rows are shown in this order.
abbrev pub ShowsIn : Query → (given : Row) → (Row → Row → Ordering) → Type 0
ShowsIn query given cmp = (r s : Row)
    → output_cmp query (output query (given ∷ r ∷ [])) (output query (given ∷ s ∷ []))
    ≡ cmp (eval_all query.project (given ∷ r ∷ [])) (eval_all query.project (given ∷ s ∷ []))

-- The query takes the rows whose columns have the wanted values.
abbrev pub Picks : Table → List ℕ → List Term → (wanted given : Row) → Type 0
Picks table key filter wanted given =
    (r : Row) → list_all (holds (given ∷ r ∷ [])) filter ≡ same_key key (cells table r) wanted

-- ---- the rows of a table, their rowids, and those with a number in the first column

abbrev pub all_of : Table → Query
all_of table = selects table.tree [] (columns_of table) (rising_by (key_of table))

-- by the first column, the greatest first
abbrev pub falling_by : Table → List (Term × Key)
falling_by table = (col 1 (stored_at table 0), record { collation = Binary; descending = true }) ∷ []

abbrev pub last_of : Table → Query
last_of table = selects table.tree [] (columns_of table) (falling_by table)

abbrev pub group_of : Table → Query
group_of table =
    selects table.tree (as_given 0 (stored_at table 0 ∷ [])) (columns_of table) (rising_by (drop 1 (key_of table)))

-- ---- the parts of the texts

abbrev pub all_asked : Table → Asked
all_asked table = asked_of table (names_of table) [] (key_names table) (all_text table)

abbrev pub last_asked : Table → Asked
last_asked table = asked_in true table (names_of table) [] (take 1 (names_of table)) (last_text table)

abbrev pub ids_asked : Table → Asked
ids_asked table = asked_of table (id_name table ∷ []) [] (id_name table ∷ []) (ids_text table)

abbrev pub group_asked : Table → Asked
group_asked table =
    asked_of table (names_of table) (take 1 (names_of table)) (drop 1 (key_names table)) (by_first_text table)

-- ---- what is found by computing

-- The four texts of a table, with this tree.
pub record AreMeant (table : Table) : Type 0 where
  pub all : IsMeant table (all_asked table) (all_text table) [] (columns_of table) (rising_by (key_of table))
      (names_of table)
  pub last : IsMeant table (last_asked table) (last_text table) [] (columns_of table) (falling_by table)
      (names_of table)
  pub ids : IsMeant table (ids_asked table) (ids_text table) [] (col 1 0 ∷ []) (rising_by (col 1 0 ∷ []))
      (id_name table ∷ [])
  pub group : IsMeant table (group_asked table) (by_first_text table) (as_given 0 (stored_at table 0 ∷ []))
      (columns_of table) (rising_by (drop 1 (key_of table))) (names_of table)
  pub by_all : ShowsIn (all_of table) [] (by_columns (length table.primary))
  pub by_last : ShowsIn (last_of table) [] by_first_falling
  pub by_rest : (n : ℤ) → ShowsIn (group_of table) (Int n ∷ []) (by_others (length table.primary))
  pub picks : (n : ℤ) → Picks table (0 ∷ []) (group_of table).filter (Int n ∷ []) (Int n ∷ [])

-- the collations of the columns: none of the rowid
abbrev pub hows : Table → List (Option Collation)
hows table =
    map (λ at. if is_key table.key at then None else Some Binary) (range_with_len 0 (length table.columns))

keys_meant : (tree : ℕ) → AreMeant (made_as Keys tree)
unfolding everything first_key
keys_meant tree =
    let table = made_as Keys tree in
    record {
      all = meant_so table (all_asked table) _ _ _ _ _ (hows table) refl refl refl refl (λ place tree. refl) refl;
      last = meant_so table (last_asked table) _ _ _ _ _ (hows table) refl refl refl refl (λ place tree. refl) refl;
      ids = meant_so table (ids_asked table) _ _ _ _ _ (None ∷ []) refl refl refl refl (λ place tree. refl) refl;
      group = meant_so table (group_asked table) _ _ _ _ _ (hows table) refl refl refl refl (λ place tree. refl) refl;
      by_all = λ r s. refl;
      by_last = λ r s. refl;
      by_rest = λ n r s. refl;
      picks = λ n r. refl;
    }

rulings_meant : (tree : ℕ) → AreMeant (made_as Rulings tree)
unfolding everything first_key
rulings_meant tree =
    let table = made_as Rulings tree in
    record {
      all = meant_so table (all_asked table) _ _ _ _ _ (hows table) refl refl refl refl (λ place tree. refl) refl;
      last = meant_so table (last_asked table) _ _ _ _ _ (hows table) refl refl refl refl (λ place tree. refl) refl;
      ids = meant_so table (ids_asked table) _ _ _ _ _ (None ∷ []) refl refl refl refl (λ place tree. refl) refl;
      group = meant_so table (group_asked table) _ _ _ _ _ (hows table) refl refl refl refl (λ place tree. refl) refl;
      by_all = λ r s. refl;
      by_last = λ r s. refl;
      by_rest = λ n r s. refl;
      picks = λ n r. refl;
    }

closings_meant : (tree : ℕ) → AreMeant (made_as Closings tree)
unfolding everything first_key
closings_meant tree =
    let table = made_as Closings tree in
    record {
      all = meant_so table (all_asked table) _ _ _ _ _ (hows table) refl refl refl refl (λ place tree. refl) refl;
      last = meant_so table (last_asked table) _ _ _ _ _ (hows table) refl refl refl refl (λ place tree. refl) refl;
      ids = meant_so table (ids_asked table) _ _ _ _ _ (None ∷ []) refl refl refl refl (λ place tree. refl) refl;
      group = meant_so table (group_asked table) _ _ _ _ _ (hows table) refl refl refl refl (λ place tree. refl) refl;
      by_all = λ r s. refl;
      by_last = λ r s. refl;
      by_rest = λ n r s. refl;
      picks = λ n r. refl;
    }

pub are_meant : (of_this : of_club.Table) (tree : ℕ) → AreMeant (made_as of_this tree)
unfolding everything first_key
are_meant Meta tree =
    let table = made_as Meta tree in
    record {
      all = meant_so table (all_asked table) _ _ _ _ _ (hows table) refl refl refl refl (λ place tree. refl) refl;
      last = meant_so table (last_asked table) _ _ _ _ _ (hows table) refl refl refl refl (λ place tree. refl) refl;
      ids = meant_so table (ids_asked table) _ _ _ _ _ (None ∷ []) refl refl refl refl (λ place tree. refl) refl;
      group = meant_so table (group_asked table) _ _ _ _ _ (hows table) refl refl refl refl (λ place tree. refl) refl;
      by_all = λ r s. refl;
      by_last = λ r s. refl;
      by_rest = λ n r s. refl;
      picks = λ n r. refl;
    }
are_meant Keys tree = keys_meant tree
are_meant Rulings tree = rulings_meant tree
are_meant Closings tree = closings_meant tree
are_meant of_this tree =
    let table = made_as of_this tree in
    record {
      all = meant_so table (all_asked table) _ _ _ _ _ (hows table) refl refl refl refl (λ place tree. refl) refl;
      last = meant_so table (last_asked table) _ _ _ _ _ (hows table) refl refl refl refl (λ place tree. refl) refl;
      ids = meant_so table (ids_asked table) _ _ _ _ _ (None ∷ []) refl refl refl refl (λ place tree. refl) refl;
      group = meant_so table (group_asked table) _ _ _ _ _ (hows table) refl refl refl refl (λ place tree. refl) refl;
      by_all = λ r s. refl;
      by_last = λ r s. refl;
      by_rest = λ n r s. refl;
      picks = λ n r. refl;
    }

pub name_is : (table : of_club.Table) (tree : ℕ) → (made_as table tree).name ≡ table_name table
name_is Meta tree = refl
name_is _ tree = refl

pub tree_is : (table : of_club.Table) (tree : ℕ) → (made_as table tree).tree ≡ tree
tree_is Meta tree = refl
tree_is _ tree = refl

module _ (schema : Schema) (of_this : of_club.Table) (stands : HasTableAt schema of_this) where
  abbrev pub table : Table
  table = made_as of_this stands.tree

  pub is_found : IsFound schema stands.place table table.name
  is_found = record {
    stands = record {
      at = stands.at;
      small = subst (λ n. nat_lt n (2 ^ 31) ≡ true) (sym (tree_is of_this stands.tree)) stands.stored;
    };
    named = ap (table_named schema) (name_is of_this stands.tree) ∙ stands.named;
    by_tree = subst (λ n. first_that (λ (t : Table). t.tree == n) schema.tables ≡ Some table)
        (sym (tree_is of_this stands.tree)) stands.own;
  }

  pub is_bare : IsBare table.tree
  is_bare d i =
      unwrap_or (if stored table.tree is_found.stands.small i then slice_get [] (table.tree - 2 ^ 31) else None)
      (d table.tree)

  pub placed_shown : AreShownBy schema table (length table.primary)
  placed_shown =
      let meant = are_meant of_this stands.tree in record {
        place = stands.place;
        at = stands.at;
        columns = columns_of table;
        rows = record {
          order = rising_by (key_of table);
          names = names_of table;
          command = command_is table (all_asked table) _ _ _ _ _ meant.all schema stands.place is_found;
          plain = plain_is table (all_asked table) _ _ _ _ _ meant.all schema stands.place is_found;
          unlisted = unlisted_is table (all_asked table) _ _ _ _ _ meant.all schema stands.place is_found;
          overlaid = is_bare;
          by = meant.by_all;
        };
        whole = all_shown table [];
        firsts = col 1 0 ∷ [];
        numbers = record {
          order = rising_by (col 1 0 ∷ []);
          names = id_name table ∷ [];
          command = command_is table (ids_asked table) _ _ _ _ _ meant.ids schema stands.place is_found;
          plain = plain_is table (ids_asked table) _ _ _ _ _ meant.ids schema stands.place is_found;
          unlisted = unlisted_is table (ids_asked table) _ _ _ _ _ meant.ids schema stands.place is_found;
          overlaid = is_bare;
          by = λ r s. refl;
        };
        first = λ r. refl;
        some = λ n. record {
          at = stands.at;
          filter = (group_of table).filter;
          project = columns_of table;
          order = (group_of table).order;
          names = names_of table;
          command = command_is table (group_asked table) _ _ _ _ _ meant.group schema stands.place is_found;
          plain = plain_is table (group_asked table) _ _ _ _ _ meant.group schema stands.place is_found;
          unlisted = unlisted_is table (group_asked table) _ _ _ _ _ meant.group schema stands.place is_found;
          overlaid = is_bare;
          shows = all_shown table (Int n ∷ []);
          picks = meant.picks n;
          by = meant.by_rest n;
        };
        last = record {
          at = stands.at;
          filter = [];
          project = columns_of table;
          order = falling_by table;
          names = names_of table;
          command = command_is table (last_asked table) _ _ _ _ _ meant.last schema stands.place is_found;
          plain = plain_is table (last_asked table) _ _ _ _ _ meant.last schema stands.place is_found;
          unlisted = unlisted_is table (last_asked table) _ _ _ _ _ meant.last schema stands.place is_found;
          overlaid = is_bare;
          shows = all_shown table [];
          picks = λ r. refl;
          by = meant.by_last;
        };
        all_is = ap is_read_as_select meant.all.parsed;
        last_is = ap is_read_as_select meant.last.parsed;
        ids_is = ap is_read_as_select meant.ids.parsed;
        group_is = ap is_read_as_select meant.group.parsed;
      }
