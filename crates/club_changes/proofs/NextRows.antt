-- The rows of the games of a club, where a command is accepted.
use Rattle.std.proofs.Common.{◌≡◌, ℕ, ◌+◌, ◌<◌, ◌≤◌, List, [], ◌∷◌, ◌++◌, length, Option, Some, false, refl, ap, sym}
use Rattle.std.proofs.Common.{subst, ◌∙◌, arith, inl, inr, length-append}
use Rattle.std.specs.Prelude.{slice_get}
use Rattle.sqlite.specs.Order.{Row, column}
use Rattle.sqlite_rules.specs.Lists.{Has}
use Rattle.club_rules.specs.declared.names.GameKind.{GameKind}
use Rattle.club_rules.specs.declared.names.GameKind.TheVariants.{Draughts, Shogi}
use Rattle.club_rules.specs.GameRules.{GameRules}
use Rattle.club_core.specs.ClubRules.{ClubRules}
use Rattle.club_core.specs.Events.{Event, Terms}
use Rattle.club_core.specs.declared.seats.Pairing.{Pairing}
use Rattle.club_core.specs.Game.{Game, Entry}
use Rattle.club_core.specs.LegalState.{IsLegalIn}
use Rattle.club_core.specs.State.{AnyGame, draughts, shogi, State, place, terms_at, seated_as}
use Rattle.club_laws.proofs.Proved.{place-append}
use Rattle.club_rows.proofs.Proved.{plies_in}
pub use Rattle.club_changes.proofs.PlacedRows.{entry_rows_at}
use Rattle.club_rows.specs.Tables.{number, game_row, entry_rows, move_rows, at_start, with_entry, row_of_game}
use Rattle.club_rows.specs.Tables.{rows_of_moves, rows_of_rulings}
use Rattle.store_tables.specs.Content.{same_key}
use Rattle.club_changes.proofs.PutSame.{pairs_apart}

-- ---- the rows of the moves of a game

module _ {P M E T : Type 0} (rules : GameRules P M E T) (terms : Terms) (id : ℕ) where
  -- a row of one of so many plies
  pub entry_rows_had : (game : Game M) (es : List (Entry M)) (z : Row) → Has (entry_rows rules terms id game es) z
      → (column z 0 ≡ number id) × ((k : ℕ) × (column z 1 ≡ number k) × (k ≤ length game.entries + length es))
  entry_rows_had game [] z h = absurd h
  entry_rows_had game (e ∷ es) z (inl is) =
      (ap (λ w. column w 0) is, (length game.entries + 1, ap (λ w. column w 1) is, omega arith))
  entry_rows_had game (e ∷ es) z (inr h) =
      let (first, (k, second, most)) = entry_rows_had (with_entry game e) es z h in
      let count : length (game.entries ++ e ∷ []) ≡ length game.entries + 1 = simp length-append in
      (first, (k, second, omega (arith, most, count)))

  pub move_rows_had : (game : Game M) (z : Row) → Has (move_rows rules terms id game) z → (column z 0 ≡ number id)
      × ((k : ℕ) × (column z 1 ≡ number k) × (k ≤ length game.entries))
  move_rows_had game z h =
      let (first, (k, second, most)) = entry_rows_had (at_start game) game.entries z h in
      (first, (k, second, omega (arith, most)))

-- ---- the rows of a game of either kind

module _ {DP DM DE DT SP SM SE ST : Type 0} (kinds : ClubRules DP DM DE DT SP SM SE ST) where
  pub first_of_game : (events : List Event) (id : ℕ) (g : AnyGame DM SM)
      → column (row_of_game kinds events id g) 0 ≡ number id
  first_of_game events id (draughts g) = refl
  first_of_game events id (shogi g) = refl

  -- a row of its moves has its number, and one of so many plies
  moves_told : (events : List Event) (id : ℕ) (g : AnyGame DM SM) (z : Row) → Has (rows_of_moves kinds events id g) z
      → (column z 0 ≡ number id) × ((k : ℕ) × (column z 1 ≡ number k) × (k ≤ plies_in g))
  moves_told events id (draughts g) z has = move_rows_had kinds.draughts (terms_at (place events g.event)) id g z has
  moves_told events id (shogi g) z has = move_rows_had kinds.shogi (terms_at (place events g.event)) id g z has

  pub moves_had : (events : List Event) (id : ℕ) (g : AnyGame DM SM) (z : Row) → Has (rows_of_moves kinds events id g) z
      → column z 0 ≡ number id
  moves_had events id g z has = (moves_told events id g z has).0

  -- the rows of a legal game stay where an event is added
  pub rows_before : (s : State DM SM) (e : Event) (g : AnyGame DM SM) → IsLegalIn kinds s g → (id : ℕ)
      → (row_of_game kinds s.events id g ≡ row_of_game kinds (s.events ++ e ∷ []) id g)
      × (rows_of_moves kinds s.events id g ≡ rows_of_moves kinds (s.events ++ e ∷ []) id g)
  rows_before s e (draughts g) of id =
      let same = of.in_event ∙ sym (place-append s.events (e ∷ []) g.event of.event of.in_event) in (
        ap (λ o. game_row kinds.draughts (terms_at o) id g) same,
        ap (λ o. move_rows kinds.draughts (terms_at o) id g) same,
      )
  rows_before s e (shogi g) of id =
      let same = of.in_event ∙ sym (place-append s.events (e ∷ []) g.event of.event of.in_event) in
      (ap (λ o. game_row kinds.shogi (terms_at o) id g) same, ap (λ o. move_rows kinds.shogi (terms_at o) id g) same)

  -- a game that was just seated has no move
  pub no_moves : (events : List Event) (kind : GameKind) (key : Option (List ℕ)) (pairing : Pairing) (moment id : ℕ)
      → rows_of_moves kinds events id (seated_as kind key pairing moment) ≡ []
  no_moves events Draughts key pairing moment id = refl
  no_moves events Shogi key pairing moment id = refl

  -- and no ruling
  pub no_rulings : (kind : GameKind) (key : Option (List ℕ)) (pairing : Pairing) (moment id : ℕ)
      → rows_of_rulings {DM = DM} {SM = SM} id (seated_as kind key pairing moment) ≡ []
  no_rulings Draughts key pairing moment id = refl
  no_rulings Shogi key pairing moment id = refl

  -- the key of a later ply is that of no row
  pub fresh : (s : State DM SM) (n : ℕ) (old : AnyGame DM SM) (row : Row) (ply : ℕ) → slice_get s.games n ≡ Some old
      → column row 0 ≡ number (1 + n) → column row 1 ≡ number ply → plies_in old < ply
      → (m : ℕ) (g : AnyGame DM SM) (z : Row) → slice_get s.games m ≡ Some g
      → Has (rows_of_moves kinds s.events (1 + m) g) z → same_key (0 ∷ 1 ∷ []) z row ≡ false
  fresh s n old row ply at first second later m g z stands has =
      let (game_is, (k, is, most)) = moves_told s.events (1 + m) g z has in
      pairs_apart z row (1 + m) (1 + n) k ply game_is first is second (λ same_game same_ply.
      let here : m ≡ n = omega (arith, same_game) in
      let there : slice_get s.games m ≡ Some old = subst (λ j. slice_get s.games j ≡ Some old) (sym here) at in
      let g_is : g ≡ old = cc in
      let count : plies_in g ≡ plies_in old = ap plies_in g_is in
      absurd (omega (arith, most, later, count, same_ply)))
