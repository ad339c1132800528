-- What the SELECTs by a whole key, or by a column that is UNIQUE, mean wherever their table stands in a schema.
use Rattle.std.proofs.Common.{ℕ, ℤ, List, [], ◌∷◌, refl, ap, map}
use Rattle.store_tables.specs.Sql.{Row, Table}
use Rattle.sqlite.specs.Term.{Term}
use Rattle.sqlite.specs.declared.types.Value.TheVariants.{Null, Int, Text}
use Rattle.sqlite_schema.specs.Names.{place_of as stored_at}
use Rattle.sqlite_tied.specs.Compute.{everything}
use Rattle.sqlite_value.specs.Keys.{first_key}
use Rattle.store_tables.specs.internal.Placed.{AsksAnywhere}
use Rattle.store_tables.specs.internal.Queries.{is_read_as_select}
use Rattle.store_tables.specs.Tables.{made_as}
use Rattle.store_tables.specs.internal.Texts.{name_at, names_of, question_text}
use Rattle.store_tables.specs.declared.names.Table as of_club
use Rattle.store_tables.specs.declared.names.Table.TheVariants.{Members, Events, Challenges, Moves, Games, Seen, Scores}
use Rattle.store_tables.specs.declared.names.Table.TheVariants.{Keys}
use Rattle.store_tables.proofs.PlacedSelects.{hows, Picks, all_shown, as_given, columns_of, is_bare, is_found}
use Rattle.store_tables.proofs.PlacedQueries.{Asked, asked_of}
use Rattle.store_tables.proofs.PlacedTexts.{meant_so, IsMeant, command_is, plain_is, unlisted_is}

abbrev question_asked : Table → List ℕ → Asked
question_asked table key =
    asked_of table (names_of table) (map (name_at (names_of table)) key) [] (question_text table key)

module _ (of_this : of_club.Table) (key : List ℕ) (wanted params : Row) where
  abbrev filter_of : Table → List Term
  filter_of table = as_given 0 (map (stored_at table) key)

  -- What is found by computing, whatever the tree of the table is, is so wherever it stands.
  asks : ((tree : ℕ) → IsMeant (made_as of_this tree) (question_asked (made_as of_this tree) key)
      (question_text (made_as of_this tree) key) (filter_of (made_as of_this tree))
      (columns_of (made_as of_this tree)) [] (names_of (made_as of_this tree)))
      → ((tree : ℕ) → Picks (made_as of_this tree) key (filter_of (made_as of_this tree)) wanted params)
      → AsksAnywhere of_this key wanted params
  asks meant picks schema stands =
      let it = meant stands.tree in
      let table = made_as of_this stands.tree in
      let found = is_found schema of_this stands in
      record {
        is_select = ap is_read_as_select it.parsed;
        finds = record {
          at = stands.at;
          filter = filter_of table;
          project = columns_of table;
          order = [];
          names = names_of table;
          command = command_is table (question_asked table key) _ _ _ _ _ it schema stands.place found;
          plain = plain_is table (question_asked table key) _ _ _ _ _ it schema stands.place found;
          unlisted = unlisted_is table (question_asked table key) _ _ _ _ _ it schema stands.place found;
          overlaid = is_bare schema of_this stands;
          shows = all_shown table params;
          picks = picks stands.tree;
          by = λ r s. refl;
        };
      }

pub members_by_name_placed : (a : List ℕ) → AsksAnywhere Members (1 ∷ []) (Null ∷ Text a ∷ []) (Text a ∷ [])
unfolding everything first_key
members_by_name_placed a =
    asks Members (1 ∷ []) (Null ∷ Text a ∷ []) (Text a ∷ []) (λ tree.
    meant_so _ _ _ _ _ _ _ (hows (made_as Members tree)) refl refl refl refl (λ place tree. refl) refl) (λ tree r. refl)

pub members_by_key_placed : (a : List ℕ) → AsksAnywhere Members (2 ∷ []) (Null ∷ Null ∷ Text a ∷ []) (Text a ∷ [])
unfolding everything first_key
members_by_key_placed a =
    asks Members (2 ∷ []) (Null ∷ Null ∷ Text a ∷ []) (Text a ∷ []) (λ tree.
    meant_so _ _ _ _ _ _ _ (hows (made_as Members tree)) refl refl refl refl (λ place tree. refl) refl) (λ tree r. refl)

pub events_by_name_placed : (a : List ℕ) → AsksAnywhere Events (1 ∷ []) (Null ∷ Text a ∷ []) (Text a ∷ [])
unfolding everything first_key
events_by_name_placed a =
    asks Events (1 ∷ []) (Null ∷ Text a ∷ []) (Text a ∷ []) (λ tree.
    meant_so _ _ _ _ _ _ _ (hows (made_as Events tree)) refl refl refl refl (λ place tree. refl) refl) (λ tree r. refl)

pub games_by_key_placed : (a : List ℕ) → AsksAnywhere Games (1 ∷ []) (Null ∷ Text a ∷ []) (Text a ∷ [])
unfolding everything first_key
games_by_key_placed a =
    asks Games (1 ∷ []) (Null ∷ Text a ∷ []) (Text a ∷ []) (λ tree.
    meant_so _ _ _ _ _ _ _ (hows (made_as Games tree)) refl refl refl refl (λ place tree. refl) refl) (λ tree r. refl)

pub keys_by_key_placed : (a : List ℕ) → AsksAnywhere Keys (2 ∷ []) (Null ∷ Null ∷ Text a ∷ []) (Text a ∷ [])
unfolding everything first_key
keys_by_key_placed a =
    asks Keys (2 ∷ []) (Null ∷ Null ∷ Text a ∷ []) (Text a ∷ []) (λ tree.
    meant_so _ _ _ _ _ _ _ (hows (made_as Keys tree)) refl refl refl refl (λ place tree. refl) refl) (λ tree r. refl)

pub challenges_by_number_placed : (a b : ℤ)
    → AsksAnywhere Challenges (0 ∷ 1 ∷ []) (Int a ∷ Int b ∷ []) (Int a ∷ Int b ∷ [])
unfolding everything first_key
challenges_by_number_placed a b =
    asks Challenges (0 ∷ 1 ∷ []) (Int a ∷ Int b ∷ []) (Int a ∷ Int b ∷ []) (λ tree.
    meant_so _ _ _ _ _ _ _ (hows (made_as Challenges tree)) refl refl refl refl (λ place tree. refl) refl)
    (λ tree r. refl)

pub moves_by_ply_placed : (a b : ℤ) → AsksAnywhere Moves (0 ∷ 1 ∷ []) (Int a ∷ Int b ∷ []) (Int a ∷ Int b ∷ [])
unfolding everything first_key
moves_by_ply_placed a b =
    asks Moves (0 ∷ 1 ∷ []) (Int a ∷ Int b ∷ []) (Int a ∷ Int b ∷ []) (λ tree.
    meant_so _ _ _ _ _ _ _ (hows (made_as Moves tree)) refl refl refl refl (λ place tree. refl) refl) (λ tree r. refl)

pub seen_by_position_placed : (a : ℤ) (b : List ℕ)
    → AsksAnywhere Seen (0 ∷ 1 ∷ []) (Int a ∷ Text b ∷ []) (Int a ∷ Text b ∷ [])
unfolding everything first_key
seen_by_position_placed a b =
    asks Seen (0 ∷ 1 ∷ []) (Int a ∷ Text b ∷ []) (Int a ∷ Text b ∷ []) (λ tree.
    meant_so _ _ _ _ _ _ _ (hows (made_as Seen tree)) refl refl refl refl (λ place tree. refl) refl) (λ tree r. refl)

pub scores_by_pair_placed : (a b c : ℤ)
    → AsksAnywhere Scores (0 ∷ 1 ∷ 2 ∷ []) (Int a ∷ Int b ∷ Int c ∷ []) (Int a ∷ Int b ∷ Int c ∷ [])
unfolding everything first_key
scores_by_pair_placed a b c =
    asks Scores (0 ∷ 1 ∷ 2 ∷ []) (Int a ∷ Int b ∷ Int c ∷ []) (Int a ∷ Int b ∷ Int c ∷ []) (λ tree.
    meant_so _ _ _ _ _ _ _ (hows (made_as Scores tree)) refl refl refl refl (λ place tree. refl) refl) (λ tree r. refl)
