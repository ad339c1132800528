-- What a game's row alone shows of it, and what the rows of one ply show of that ply.
use Rattle.std.proofs.Common.{◌≡◌, ℕ, zero, suc, pos, ◌-◌, ◌≤◌, List, [], length, map, Option, Some, None, Ok, refl, ap}
use Rattle.std.proofs.Common.{sym, subst, ◌∙◌, arith, inl, inr}
use Rattle.std.specs.Prelude.{string_bytes, slice_get, is_some, IsSome}
use Rattle.std.specs.Option.{option_map}
use Rattle.std.proofs.lemmas.Bool.{cases_lt}
use Rattle.std.proofs.lemmas.List.{length-map}
use Rattle.std.proofs.lemmas.Option.{slice_get-get_or, slice_get_past}
use Rattle.club_rules.specs.GameRules.{GameRules}
use Rattle.club_rules.specs.Line.{position_after, IsLegalLine}
use Rattle.club_rules.specs.Laws.{TracksTellEnds, NumbersGiveTracks, WritesPositions, StandsForOne}
use Rattle.club_rules.specs.internal.Laws.{IsPositionRead}
use Rattle.club_core.specs.declared.rows.Asked.{Asked}
use Rattle.club_core.specs.Events.{Terms}
use Rattle.club_core.specs.Game.{Entry, Game, clocks_then, moves_of, left_of, side_after, game_at, last_position}
use Rattle.club_core.specs.Game.{rule_end}
use Rattle.club_core.specs.Legal.{IsLegalGame}
use Rattle.club_core.specs.Step.{move_at}
use Rattle.club_core.specs.View.{IsAsked, track_of_game}
use Rattle.club_core.proofs.Proved.{AreRules, tracked-end}
use Rattle.club_laws.proofs.Proved.{map-at}
use Rattle.store_tables.specs.Cells.{move_cells}
use Rattle.store_tables.specs.declared.rows.GameTableRow.{GameTableRow}
use Rattle.store_tables.specs.declared.rows.MoveRow.{MoveRow}
use Rattle.club_rows.specs.Tables.{at_start, move_rows}
use Rattle.club_rows.specs.internal.Columns.{Columns, columns_of}
use Rattle.club_rows.specs.internal.RowView.{HasLastStood, IsPlayed, row_at}
use Rattle.club_rows.specs.internal.LegalRows.{IsRecordOf}
use Rattle.club_rows.specs.declared.tally.Occurrences.{Occurrences}
use Rattle.club_rows.proofs.NextLemmas.{six-parts}
use Rattle.club_rows.proofs.ColumnLemmas.{cells-told, row-columns}
use Rattle.club_rows.proofs.TallyLemmas.{last-stood}
use Rattle.club_rows.proofs.WholeLemmas.{rows-from, rows-count, line-at, legal-at, entry-left, entry-more}

-- ---- the row of a game

module _ {P M E T : Type 0} (rules : GameRules P M E T) (terms : Terms) (id : ℕ) (stored : GameTableRow) (game : Game M)
    (is : IsRecordOf rules terms id stored game) where
  pub position-text : string_bytes stored.position ≡ rules.write_position (last_position rules game)
  position-text =
      (cells-told stored (columns_of rules terms id game) (is.row ∙ row-columns rules terms id game)).position

-- the end that a track gives, and the track, by the columns of the game
module _ {P M E T : Type 0} (rules : GameRules P M E T) (terms : Terms) (id : ℕ) (game : Game M)
    (legal : IsLegalGame rules terms game) (c : Columns) (same : c ≡ columns_of rules terms id game) where
  pub ruled-is : TracksTellEnds rules → NumbersGiveTracks rules → (stood : Occurrences) → HasLastStood rules game stood
      → (position : P) → position ≡ last_position rules game
      → rules.track_end (rules.track_of c.track.0 c.track.1) position c.plies stood.times stood.first_ply
      ≡ rule_end rules game
  ruled-is tell give stood stands position last =
      let told = last-stood rules (moves_of game) stood stands in
      let count : length (moves_of game) ≡ length game.entries = simp length-map in
      tracked-end rules tell give (moves_of game) c.track position c.plies stood.times stood.first_ply legal.line told.1
      (ap (λ x. x.track) same) last (ap (λ x. x.plies) same ∙ sym count) told.0

  pub track-is : NumbersGiveTracks rules → rules.track_of c.track.0 c.track.1 ≡ track_of_game rules game
  track-is give = ap (λ x. rules.track_of x.track.0 x.track.1) same ∙ give (track_of_game rules game)

-- ---- the rows of a ply

-- what the row of a ply, counted from 0, tells
pub record IsPlyRow {P M E T : Type 0} (rules : GameRules P M E T) (terms : Terms) (game : Game M) (k : ℕ)
    (row : MoveRow) : Type 0 where
  pub made : M
  pub made_is : slice_get (moves_of game) k ≡ Some made
  pub text : string_bytes row.text ≡ rules.write_move (last_position rules (game_at game k)) made
  pub left : row.left ≡ pos (left_of (side_after k) (clocks_then (game_at game (suc k)) terms))
  pub position : string_bytes row.position ≡ rules.write_position (last_position rules (game_at game (suc k)))

module _ {P M E T : Type 0} (rules : GameRules P M E T) (are : AreRules rules) (terms : Terms) (id : ℕ) (game : Game M)
    (legal : IsLegalGame rules terms game) where
  pub ply-row : (k : ℕ) (row : MoveRow) → slice_get (move_rows rules terms id game) k ≡ Some (move_cells row)
      → IsPlyRow rules terms game k row
  ply-row k row at =
      let got = rows-from rules terms id (at_start game) game.entries k (move_cells row) at in
      let e = got.0 in
      let parts = six-parts _ _ _ _ _ _ _ _ _ _ _ _ got.2 in
      let more = entry-more rules terms id game k e got.1 in
      record {
        made = e.made;
        made_is = map-at (λ (x : Entry M). x.made) game.entries k e got.1;
        text = parts.c_is;
        left = parts.e_is ∙ ap pos (entry-left rules terms id are game legal.line k e got.1);
        position = parts.f_is
            ∙ ap (λ es. rules.write_position (position_after rules rules.start (map (λ x. x.made) es))) more;
      }

  -- without a row no more moves were played
  no-more : (k : ℕ) (row : Option MoveRow) → option_map move_cells row ≡ slice_get (move_rows rules terms id game) k
      → row ≡ None → length (moves_of game) ≤ k
  no-more k row at none = elim (cases_lt k (length (move_rows rules terms id game))) [
    | inl inside ↦ let got = slice_get-get_or (move_rows rules terms id game) k [] inside in absurd cc
    | inr past ↦
        let made : length (moves_of game) ≡ length game.entries = simp length-map in
        omega (arith, past, made, rows-count rules terms id (at_start game) game.entries)
  ]

  pub row-none : (ply : ℕ) (row : Option MoveRow) → option_map move_cells row ≡ row_at rules terms id game ply
      → row ≡ None → move_at game ply ≡ None
  row-none zero row at none = refl
  row-none (suc k) row at none = slice_get_past (moves_of game) k (no-more k row at none)

-- what a reader answers to the text of a position on a line
pub position-found : {P M E T : Type 0} (rules : GameRules P M E T) (StandsFor : List ℕ → P → Type 0)
    → WritesPositions rules StandsFor → StandsForOne StandsFor → (ms : List M) → IsLegalLine rules rules.start ms
    → (text : List ℕ) → text ≡ rules.write_position (position_after rules rules.start ms) → (found : Option P)
    → IsPositionRead StandsFor text found → found ≡ Some (position_after rules rules.start ms)
position-found rules StandsFor writes one ms line text is None read =
    absurd (read _ (subst (λ t. StandsFor t (position_after rules rules.start ms)) (sym is) (writes ms line)))
position-found rules StandsFor writes one ms line text is (Some p) read =
    ap Some
    (one text p _ read (subst (λ t. StandsFor t (position_after rules rules.start ms)) (sym is) (writes ms line)))

module _ {P M E T : Type 0} (rules : GameRules P M E T) (are : AreRules rules) (terms : Terms) (id : ℕ) (game : Game M)
    (legal : IsLegalGame rules terms game) where
  -- the row before a ply tells the position there
  pub before-some : (StandsFor : List ℕ → P → Type 0) → WritesPositions rules StandsFor → StandsForOne StandsFor
      → (ply : ℕ) → 2 ≤ ply → (row : MoveRow) → Some (move_cells row) ≡ row_at rules terms id game (ply - 1)
      → (text : List ℕ) → text ≡ string_bytes row.position → (found : Option P) → IsPositionRead StandsFor text found
      → found ≡ Some (last_position rules (game_at game (ply - 1)))
  before-some StandsFor writes one (suc (suc n)) low row at text is found read =
      let back : suc (suc n) - 1 ≡ suc n = omega arith in
      let here : slice_get (move_rows rules terms id game) n ≡ Some (move_cells row) =
      sym (at ∙ ap (row_at rules terms id game) back) in
      let told = ply-row rules are terms id game legal n row here in
      position-found rules StandsFor writes one (moves_of (game_at game (suc n)))
      (line-at rules terms id game legal.line (suc n)) text (is ∙ told.position) found read
      ∙ ap (λ k. Some (last_position rules (game_at game k))) (sym back)
  before-some StandsFor writes one ply low row at text is found read = absurd (omega (arith, low))

  -- there is one where the ply was played
  pub before-none : (ply : ℕ) → 2 ≤ ply → (row : Option MoveRow)
      → option_map move_cells row ≡ row_at rules terms id game (ply - 1) → row ≡ None → IsSome (move_at game ply) → ⊥
  before-none (suc (suc n)) low row at none some =
      let back : suc (suc n) - 1 ≡ suc n = omega arith in
      let few = no-more rules are terms id game legal n row (at ∙ ap (row_at rules terms id game) back) none in
      let gone = slice_get_past (moves_of game) (suc n) (omega (arith, few)) in
      absurd cc
  before-none ply low row at none some = absurd (omega (arith, low))

  -- what was played at a ply, by its row
  pub asked-shown : {R : Type 0} (ply : ℕ) → 1 ≤ ply → (row : MoveRow)
      → Some (move_cells row) ≡ row_at rules terms id game ply → (before : P)
      → (IsSome (move_at game ply) → before ≡ last_position rules (game_at game (ply - 1)))
      → (found : Option (Asked R P M E T))
      → ((made : M) (left : ℕ) → rules.check before made ≡ Ok tt → string_bytes row.text ≡ rules.write_move before made
      → row.left ≡ pos left → (asked : Asked R P M E T) × (found ≡ Some asked)
      × IsPlayed asked ply made left before)
      → IsAsked rules terms game ply (move_at game ply) found
  asked-shown zero low row at before before_is found shows = absurd (omega (arith, low))
  asked-shown (suc k) low row at before before_is found shows =
      let back : suc k - 1 ≡ k = omega arith in
      let told = ply-row rules are terms id game legal k row (sym at) in
      let here : before ≡ last_position rules (game_at game k) = before_is (ap is_some told.made_is)
      ∙ ap (λ n. last_position rules (game_at game n)) back in
      let legal_here = subst (λ p. rules.check p told.made ≡ Ok tt) (sym here)
      (legal-at rules terms id game legal.line k told.made told.made_is) in
      let text = told.text ∙ ap (λ p. rules.write_move p told.made) (sym here) in
      let (asked, found_is, played) = shows told.made (left_of (side_after k) (clocks_then (game_at game (suc k)) terms))
      legal_here text told.left in
      rw (told.made_is, found_is) (grind (arith, played, here, back))
