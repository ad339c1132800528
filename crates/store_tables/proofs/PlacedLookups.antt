-- What the SELECTs by a column that is not UNIQUE mean wherever their table stands in a schema.
use Rattle.std.proofs.Common.{ℕ, List, [], ◌∷◌, refl, ap, ℤ}
use Rattle.store_tables.specs.Sql.{Row, Table}
use Rattle.sqlite.specs.Term.{Term}
use Rattle.sqlite.specs.declared.types.Value.TheVariants.{Null, Int}
use Rattle.sqlite_schema.specs.Names.{place_of as stored_at}
use Rattle.sqlite_sql.specs.Query.{Query}
use Rattle.sqlite_tied.specs.Compute.{everything}
use Rattle.sqlite_value.specs.Keys.{first_key}
use Rattle.store_tables.specs.internal.Placed.{LooksUpAnywhere}
use Rattle.store_tables.specs.internal.Put.{selects}
use Rattle.store_tables.specs.internal.Queries.{is_read_as_select}
use Rattle.store_tables.specs.internal.Reading.{by_columns}
use Rattle.store_tables.specs.Tables.{made_as}
use Rattle.store_tables.specs.internal.Texts.{by_column_text, key_names, name_at, names_of}
use Rattle.store_tables.specs.declared.names.Table as of_club
use Rattle.store_tables.specs.declared.names.Table.TheVariants.{Challenges}
use Rattle.store_tables.proofs.PlacedSelects.{hows, Picks, ShowsIn, all_shown, as_given, columns_of, is_bare, is_found}
use Rattle.store_tables.proofs.PlacedSelects.{key_of, rising_by}
use Rattle.store_tables.proofs.PlacedQueries.{Asked, asked_of}
use Rattle.store_tables.proofs.PlacedTexts.{meant_so, IsMeant, command_is, plain_is, unlisted_is}

abbrev lookup_asked : Table → ℕ → Asked
lookup_asked table at =
    asked_of table (names_of table) (name_at (names_of table) at ∷ []) (key_names table) (by_column_text table at)

abbrev lookup_filter : Table → ℕ → List Term
lookup_filter table at = as_given 0 (stored_at table at ∷ [])

abbrev lookup_of : Table → ℕ → Query
lookup_of table at = selects table.tree (lookup_filter table at) (columns_of table) (rising_by (key_of table))

module _ (of_this : of_club.Table) (width at : ℕ) (wanted params : Row) where
  -- What is found by computing, whatever the tree of the table is, is so wherever it stands.
  looks_up : ((tree : ℕ) → IsMeant (made_as of_this tree) (lookup_asked (made_as of_this tree) at)
      (by_column_text (made_as of_this tree) at) (lookup_filter (made_as of_this tree) at)
      (columns_of (made_as of_this tree)) (rising_by (key_of (made_as of_this tree))) (names_of (made_as of_this tree)))
      → ((tree : ℕ) → Picks (made_as of_this tree) (at ∷ []) (lookup_filter (made_as of_this tree) at) wanted params)
      → ((tree : ℕ) → ShowsIn (lookup_of (made_as of_this tree) at) params (by_columns width))
      → LooksUpAnywhere of_this width at wanted params
  looks_up meant picks by schema stands =
      let it = meant stands.tree in
      let table = made_as of_this stands.tree in
      let found = is_found schema of_this stands in
      record {
        is_select = ap is_read_as_select it.parsed;
        finds = record {
          at = stands.at;
          filter = lookup_filter table at;
          project = columns_of table;
          order = rising_by (key_of table);
          names = names_of table;
          command = command_is table (lookup_asked table at) _ _ _ _ _ it schema stands.place found;
          plain = plain_is table (lookup_asked table at) _ _ _ _ _ it schema stands.place found;
          unlisted = unlisted_is table (lookup_asked table at) _ _ _ _ _ it schema stands.place found;
          overlaid = is_bare schema of_this stands;
          shows = all_shown table params;
          picks = picks stands.tree;
          by = by stands.tree;
        };
      }

pub challenges_by_other_placed : (a : ℤ)
    → LooksUpAnywhere Challenges 2 3 (Null ∷ Null ∷ Null ∷ Int a ∷ []) (Int a ∷ [])
unfolding everything first_key
challenges_by_other_placed a =
    looks_up Challenges 2 3 (Null ∷ Null ∷ Null ∷ Int a ∷ []) (Int a ∷ []) (λ tree.
    meant_so _ _ _ _ _ _ _ (hows (made_as Challenges tree)) refl refl refl refl (λ place tree. refl) refl)
    (λ tree r. refl) (λ tree r s. refl)
