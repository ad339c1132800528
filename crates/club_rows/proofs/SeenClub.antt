-- The table of the positions of all games, where a game changes or is added.
use Rattle.std.proofs.Common.{◌≡◌, ℕ, ◌+◌, List, [], ◌∷◌, ◌++◌, length, map, Option, Some, true, inl, refl, ap, subst₂}
use Rattle.std.proofs.Common.{◌∙◌, arith}
use Rattle.std.specs.Prelude.{slice_get, slice_set, string_bytes}
use Rattle.sqlite_value.specs.declared.value.Value.TheVariants.{Text}
use Rattle.sqlite.specs.Order.{Row, column}
use Rattle.sqlite_rules.specs.Lists.{Has}
use Rattle.store_tables.specs.internal.Changes.{Alters}
use Rattle.store_tables.specs.Cells.{seen_cells}
use Rattle.store_tables.specs.Content.{same_key}
use Rattle.store_tables.specs.internal.Contents.{AreThose}
use Rattle.store_tables.specs.declared.rows.SeenRow.{SeenRow}
use Rattle.club_rules.specs.GameRules.{GameRules}
use Rattle.club_core.specs.ClubRules.{ClubRules}
use Rattle.club_core.specs.Game.{Game}
use Rattle.club_core.specs.declared.seats.Pairing.{Pairing}
use Rattle.club_core.specs.State.{AnyGame, draughts, shogi, State, place, kind_at, seated_as, with_imported}
use Rattle.club_core.specs.State.{with_new_game}
use Rattle.club_rows.specs.Tables.{number, gathered_from, rows_of_seen, tables_of}
use Rattle.club_rows.specs.Seen.{texts_of, seen_rows}
use Rattle.club_rows.specs.internal.Seen.{IsFound}
use Rattle.club_rows.proofs.GatheredLemmas.{gathered-had, gathered-has, gathered-set, gathered-added}
use Rattle.club_rows.proofs.KeyPairs.{same-numbers, same-texts, keys-agree}
use Rattle.club_rows.proofs.SeenGame.{seen-id, texts-apart}

module _ {DP DM DE DT SP SM SE ST : Type 0} (kinds : ClubRules DP DM DE DT SP SM SE ST) where
  numbered : (id : ℕ) (g : AnyGame DM SM) (z : Row) → Has (rows_of_seen kinds id g) z → column z 0 ≡ number id
  numbered id (draughts g) z h = seen-id id (texts_of kinds.draughts g) z h
  numbered id (shogi g) z h = seen-id id (texts_of kinds.shogi g) z h

  apart : (id : ℕ) (g : AnyGame DM SM) (z w : Row) → Has (rows_of_seen kinds id g) z → Has (rows_of_seen kinds id g) w
      → same_key (0 ∷ 1 ∷ []) z w ≡ true → z ≡ w
  apart id (draughts g) z w h k same = texts-apart id (texts_of kinds.draughts g) z w h k same
  apart id (shogi g) z w h k same = texts-apart id (texts_of kinds.shogi g) z w h k same

  -- a game that changes alters the table as it alters the rows of the game
  pub seen-table-set : (s : State DM SM) (n : ℕ) (old new : AnyGame DM SM) (moment : ℕ) (changed : List Row)
      → slice_get s.games n ≡ Some old → Alters (0 ∷ 1 ∷ []) changed (rows_of_seen kinds (1 + n) old)
      (rows_of_seen kinds (1 + n) new)
      → Alters (0 ∷ 1 ∷ []) changed (tables_of kinds s 12)
      (tables_of kinds (record s { last = moment; games = slice_set s.games n new }) 12)
  seen-table-set s n old new moment changed at it =
      gathered-set (rows_of_seen kinds) numbered apart s.games n old new changed at it

  -- a game more adds its rows
  pub seen-added : (games : List (AnyGame DM SM)) (new : AnyGame DM SM)
      → Alters (0 ∷ 1 ∷ []) (rows_of_seen kinds (1 + length games) new) (gathered_from (rows_of_seen kinds) 1 games)
      (gathered_from (rows_of_seen kinds) 1 (games ++ new ∷ []))
  seen-added games new = gathered-added (rows_of_seen kinds) numbered apart games new

  -- a game that was just seated under a key or under none adds the row of its opening
  pub seated-added : (s : State DM SM) (key : Option (List ℕ)) (pairing : Pairing) (moment : ℕ) (row : Row)
      → rows_of_seen kinds (1 + length s.games) (seated_as (kind_at (place s.events pairing.event)) key pairing moment)
      ≡ row ∷ []
      → Alters (0 ∷ 1 ∷ []) (row ∷ []) (tables_of kinds s 12)
      (tables_of kinds
      (with_imported s moment (seated_as (kind_at (place s.events pairing.event)) key pairing moment)) 12)
  seated-added s key pairing moment row is =
      rw is at (seen-added s.games (seated_as (kind_at (place s.events pairing.event)) key pairing moment))

  pub seen-table-added : (s : State DM SM) (key : List ℕ) (pairing : Pairing) (moment : ℕ) (row : Row)
      → rows_of_seen kinds (1 + length s.games)
      (seated_as (kind_at (place s.events pairing.event)) (Some key) pairing moment) ≡ row ∷ []
      → Alters (0 ∷ 1 ∷ []) (row ∷ []) (tables_of kinds s 12) (tables_of kinds (with_new_game s moment key pairing) 12)
  seen-table-added s key pairing moment row is = seated-added s (Some key) pairing moment row is

  -- ---- the row of a position

  -- a row of the table that has the number of a game is that game's
  pub game-had : (s : State DM SM) (n : ℕ) (g : AnyGame DM SM) (z : Row) → slice_get s.games n ≡ Some g
      → Has (tables_of kinds s 12) z → column z 0 ≡ number (1 + n) → Has (rows_of_seen kinds (1 + n) g) z
  game-had s n g z at h first =
      let (m, x, there, has) = gathered-had (rows_of_seen kinds) 1 s.games z h in
      let place : m ≡ n = grind (arith, numbered (1 + m) x z has, first) in
      let is : x ≡ g = cc in
      subst₂ (λ k e. Has (rows_of_seen kinds (1 + k) e) z) place is has

  -- The first of the rows of the table that have the number of a game and a text is what is found for the text in the
  -- game.
  pub seen-found : {P M E T : Type 0} (rules : GameRules P M E T) (s : State DM SM) (n : ℕ) (any : AnyGame DM SM)
      (game : Game M) (text : List ℕ) (found : List SeenRow) → slice_get s.games n ≡ Some any
      → rows_of_seen kinds (1 + n) any ≡ seen_rows rules (1 + n) game
      → AreThose (0 ∷ 1 ∷ []) (number (1 + n) ∷ Text text ∷ []) (tables_of kinds s 12) (map seen_cells found)
      → IsFound rules (1 + n) game text (slice_get found 0)
  seen-found rules s n any game text [] at same those = λ z is.
      let here = rw (← same) at is.there in
      those.complete z (gathered-has (rows_of_seen kinds) 1 s.games n any z at here)
      (keys-agree z (number (1 + n) ∷ Text text ∷ []) (number (1 + n)) (Text text) (λ e. cc) (λ e. cc)
      (numbered (1 + n) any z here) refl is.text_is refl)
  seen-found rules s n any game text (r ∷ rs) at same those =
      let (in_table, alike) = those.sound (seen_cells r) (inl refl) in
      let it = gathered-had (rows_of_seen kinds) 1 s.games (seen_cells r) in_table in
      let first = numbered (1 + it.0) it.1 (seen_cells r) it.3 in
      let id = same-numbers (seen_cells r) (number (1 + n) ∷ Text text ∷ []) (1 + it.0) (1 + n) first refl alike in
      let is = same-texts (seen_cells r) (number (1 + n) ∷ Text text ∷ []) (string_bytes r.position) text refl refl
      alike in
      let had = game-had s n any (seen_cells r) at in_table (first ∙ ap number id) in
      record { there = rw same at had; text_is = ap Text is }
