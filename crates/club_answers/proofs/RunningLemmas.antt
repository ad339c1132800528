-- The last moves and the positions of games, and lists of running games.
use Rattle.std.proofs.Common.{◌≡◌, ◌+◌, ◌-◌, ◌<◌, ℕ, zero, suc, List, [], ◌∷◌, ◌++◌, length, map, drop, get_or}
use Rattle.std.proofs.Common.{Option, Some, None, refl, ap, sym, subst, ◌∙◌, arith}
use Rattle.std.specs.Prelude.{slice_get, string_bytes}
use Rattle.std.specs.Option.{option_map}
use Rattle.std.proofs.Math.Seq.{drop-cons}
use Rattle.std.proofs.lemmas.List.{length-map}
use Rattle.sqlite.specs.Order.{column}
use Rattle.club_rules.specs.GameRules.{GameRules}
use Rattle.club_core.specs.Events.{Terms}
use Rattle.club_core.specs.Game.{Entry, Game, moves_of, last_position}
use Rattle.club_core.specs.State.{draughts, shogi, place}
use Rattle.club_core.proofs.Proved.{last-played}
use Rattle.club_rows.specs.Club.{ClubGame, ClubState}
use Rattle.club_rows.specs.internal.RowView.{row_at}
use Rattle.club_rows.specs.Tables.{entry_rows, at_start, with_entry}
use Rattle.store_tables.specs.Cells.{game_cells, move_cells}
use Rattle.store_tables.specs.declared.rows.GameTableRow.{GameTableRow}
use Rattle.store_tables.specs.declared.rows.MoveRow.{MoveRow}
use Rattle.club_changes.specs.internal.Steps.{game_in}
use Rattle.club_lists.specs.GameSummary.{Running}
use Rattle.club_lists.specs.internal.SummaryViews.{running_view}
use Rattle.club_lists.specs.declared.game_entry.RunningGame.{RunningGame}
use Rattle.club_answers.specs.Running.{AreRunningAt, last_text, position_in, running_of}
use Rattle.club_analysis.specs.Tried.{notation_from}
use Rattle.club_answers.proofs.ToldRows.{told_push}

module _ {P M E T : Type 0} (laws : GameRules P M E T) (terms : Terms) (id : ℕ) where
  -- the row of an entry has the text of its move
  row_text : (game : Game M) (es : List (Entry M)) (n : ℕ) (row : Option MoveRow)
      → option_map move_cells row ≡ slice_get (entry_rows laws terms id game es) n
      → option_map (λ r. string_bytes r.text) row
      ≡ slice_get (notation_from laws (last_position laws game) (map (λ e. e.made) es)) n
  row_text game [] n None same = refl
  row_text game [] n (Some row) same = cc
  row_text game (e ∷ es) zero None same = cc
  row_text game (e ∷ es) zero (Some row) same =
      let text : string_bytes row.text ≡ laws.write_move (last_position laws game) e.made = cc in
      ap Some text
  row_text game (e ∷ es) (suc n) row same =
      rw (last-played laws game e.made e.moment) at (row_text (with_entry game e) es n row same)

  pub written-length : (p : P) (ms : List M) → length (notation_from laws p ms) ≡ length ms
  written-length p [] = refl
  written-length p (m ∷ ms) = ap suc (written-length (laws.play p m) ms)

  nothing : (ms : List M) → length ms ≡ 0 → None ≡ last_text (notation_from laws laws.start ms)
  nothing [] none = refl
  nothing (m ∷ ms) none = absurd (omega (arith, none))

  -- the row of the last ply has the text of the last move
  pub last_is : (game : Game M) (plies : ℕ) (row : Option MoveRow) → plies ≡ length game.entries
      → option_map move_cells row ≡ row_at laws terms id game plies
      → option_map (λ r. string_bytes r.text) row ≡ last_text (notation_from laws laws.start (moves_of game))
  last_is game zero None count same =
      let made : length (moves_of game) ≡ length game.entries = simp length-map in
      nothing (moves_of game) (made ∙ sym count)
  last_is game zero (Some row) count same = cc
  last_is game (suc n) row count same =
      let made : length (moves_of game) ≡ length game.entries = simp length-map in
      let all : length (notation_from laws laws.start (moves_of game)) ≡ suc n =
      written-length laws.start (moves_of game) ∙ (made ∙ sym count) in
      let last : length (notation_from laws laws.start (moves_of game)) - 1 ≡ n = omega (arith, all) in
      row_text (at_start game) game.entries n row same
      ∙ ap (slice_get (notation_from laws laws.start (moves_of game))) (sym last)

-- the row of a game has the text of its position
pub position_is : (s : ClubState) (id : ℕ) (game : ClubGame) (row : GameTableRow) → game_cells row ≡ game_in s id game
    → string_bytes row.position ≡ position_in game
position_is s id (draughts game) row same =
    let at : column (game_cells row) 14 ≡ column (game_in s id (draughts game)) 14 = ap (λ r. column r 14) same in cc
position_is s id (shogi game) row same =
    let at : column (game_cells row) 14 ≡ column (game_in s id (shogi game)) 14 = ap (λ r. column r 14) same in cc

-- the games that are to come, put behind those that were read, are all
abbrev pub Ahead : ClubState → List ℕ → List ℕ → List RunningGame → Type 0
Ahead s ids left games = (rest : List Running) → AreRunningAt s left rest
    → AreRunningAt s ids (map running_view games ++ rest)

-- one more was read
pub one_ahead : (s : ClubState) (ids : List ℕ) (k d : ℕ) (games after : List RunningGame) (one : RunningGame)
    (game : ClubGame) → k < length ids → place s.games (get_or ids k d) ≡ Some game
    → running_view one ≡ running_of s (get_or ids k d) game → Ahead s ids (drop k ids) games
    → after ≡ games ++ one ∷ [] → Ahead s ids (drop (k + 1) ids) after
one_ahead s ids k d games after one game within there same ahead grown rest come =
    let next : suc k ≡ k + 1 = omega arith in
    let here : drop k ids ≡ get_or ids k d ∷ drop (k + 1) ids =
    drop-cons ids k d within ∙ ap (λ j. get_or ids k d ∷ drop j ids) next in
    let all : AreRunningAt s (drop k ids) (running_of s (get_or ids k d) game ∷ rest) =
    subst (λ l. AreRunningAt s l (running_of s (get_or ids k d) game ∷ rest)) (sym here) (game, rest, there, come, refl)
    in
    subst (λ l. AreRunningAt s ids (map running_view l ++ rest)) (sym grown)
    (subst (AreRunningAt s ids) (sym (told_push running_view games one (running_of s (get_or ids k d) game) rest same))
    (ahead (running_of s (get_or ids k d) game ∷ rest) all))
