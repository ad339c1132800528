-- What the rows of games tell.
use Rattle.std.proofs.Common.{◌≡◌, ℕ, ◌+◌, ◌≤◌, suc, zero, List, [], ◌∷◌, ◌++◌, length, map, drop, Option, Some, None}
use Rattle.std.proofs.Common.{refl, ap, sym, ◌∙◌, arith, add-one, append-nil, append_assoc}
use Rattle.std.specs.Prelude.{slice_get}
use Rattle.std.specs.Option.{option_map}
use Rattle.std.proofs.lemmas.List.{drop_all, length-map, map-append}
use Rattle.sqlite.specs.Order.{Row}
use Rattle.squares.specs.declared.sides.Side.{Side}
use Rattle.club_rules.specs.GameRules.{GameRules}
use Rattle.club_rules.specs.Line.{IsLegalLine}
use Rattle.club_core.specs.declared.rows.GameEnd.{GameEnd}
use Rattle.club_core.specs.Events.{Terms}
use Rattle.club_core.specs.Game.{Game, end_of, moves_of, score_with, side_after, turn_of}
use Rattle.club_core.specs.LegalState.{IsLegalIn}
use Rattle.club_core.specs.State.{draughts, shogi, place, terms_at}
use Rattle.club_core.proofs.Proved.{AreRules, turn-of-game}
use Rattle.club_rows.specs.Club.{ClubGame, ClubState, IsClub, both_games}
use Rattle.club_rows.specs.internal.Columns.{Columns, columns_of, stored_cells}
use Rattle.club_rows.specs.Tables.{end_name_text, numbered_from}
use Rattle.club_rows.proofs.Proved.{columns-read, draughts_laws, shogi_laws}
use Rattle.club_changes.specs.internal.Steps.{game_in}
use Rattle.store_tables.specs.Cells.{game_cells}
use Rattle.store_tables.specs.declared.rows.GameTableRow.{GameTableRow}
use Rattle.club_changes.proofs.Proved.{numbered_at, numbered_length}
use Rattle.club_lists.specs.GameSummary.{GameSummary}
use Rattle.club_lists.specs.internal.SummaryViews.{summaries_of, summary_of}
use Rattle.club_lists.specs.declared.game_entry.GameEntry.{GameEntry}
use Rattle.club_answers.specs.Games.{over_of, game_summary_by_rules, game_summaries_from, game_summaries}
use Rattle.club_answers.specs.Games.{game_summary_of}
use Rattle.club_answers.specs.internal.Games.{over_with}

-- ---- one game

-- what the columns of a row tell of its game
abbrev pub told_by_columns : Columns → GameSummary
told_by_columns c = record {
  id = c.id;
  event = c.event;
  first = c.first;
  second = c.second;
  key = c.key;
  plies = c.plies;
  turn = side_after c.plies;
  clocks = record { left_first = c.left_first; left_second = c.left_second; since = c.since };
  offer = option_map (λ o. o.side) c.offer;
  over = over_with c.end c.result;
}

module _ {P M E T : Type 0} (laws : GameRules P M E T) (are : AreRules laws) (terms : Terms) (id : ℕ) (game : Game M)
  where
    over_is : (turn : Side) (ended : Option (GameEnd E))
        → over_with (option_map (end_name_text laws) ended) (score_with laws ended turn) ≡ over_of laws turn ended
    over_is turn None = refl
    over_is turn (Some end) = refl

    told_is : IsLegalLine laws laws.start (moves_of game)
        → told_by_columns (columns_of laws terms id game) ≡ game_summary_by_rules laws terms id game
    told_is line =
        let turn = sym (turn-of-game laws are.turn_passes are.first_starts game line) in
        let over = over_is (turn_of laws game) (end_of laws game) in
        λ i. record (game_summary_by_rules laws terms id game) { turn = turn i; over = over i }

pub told_row : (s : ClubState) (id : ℕ) (game : ClubGame) (row : Row) (c : Columns) → IsLegalIn both_games s game
    → row ≡ game_in s id game → row ≡ stored_cells c → told_by_columns c ≡ game_summary_of s id game
told_row s id (draughts game) row c legal cells read =
    let terms = terms_at (place s.events game.event) in
    ap told_by_columns (columns-read both_games.draughts terms id game row c cells read)
    ∙ told_is both_games.draughts draughts_laws terms id game legal.legal.line.legal
told_row s id (shogi game) row c legal cells read =
    let terms = terms_at (place s.events game.event) in
    ap told_by_columns (columns-read both_games.shogi terms id game row c cells read)
    ∙ told_is both_games.shogi shogi_laws terms id game legal.legal.line.legal

-- ---- all games

-- a row tells of the game whose row it is
abbrev pub TellsOf : GameTableRow → GameEntry → Type 0
TellsOf row told = (s : ClubState) (id : ℕ) (game : ClubGame) → IsLegalIn both_games s game
    → game_cells row ≡ game_in s id game → summary_of told ≡ game_summary_of s id game

pub told_push : {A B : Type 0} (f : A → B) (xs : List A) (x : A) (y : B) (ys : List B) → f x ≡ y
    → map f (xs ++ x ∷ []) ++ ys ≡ map f xs ++ (y ∷ ys)
told_push f xs x y ys is = rw (map-append f xs, is, append_assoc (map f xs)) refl

pub drop_here : {A : Type 0} (xs : List A) (k : ℕ) (x : A) → slice_get xs k ≡ Some x → drop k xs ≡ x ∷ drop (suc k) xs
drop_here [] k x at = cc
drop_here (y ∷ ys) zero x at = let e : y ≡ x = cc in ap (λ z. z ∷ ys) e
drop_here (y ∷ ys) (suc k) x at = drop_here ys k x at

module _ (s : ClubState) (rows : List GameTableRow) (same : map game_cells rows ≡ numbered_from (game_in s) 1 s.games)
  where
    pub told_more : (is_club : IsClub s) (k : ℕ) (row : GameTableRow) → slice_get rows k ≡ Some row
        → (games after : List GameEntry) (told : GameEntry)
        → summaries_of games ++ game_summaries_from s (1 + k) (drop k s.games) ≡ game_summaries s → after ≡ games ++ told ∷ []
        → TellsOf row told → summaries_of after ++ game_summaries_from s (1 + (k + 1)) (drop (k + 1) s.games) ≡ game_summaries s
    told_more is_club k row at games after told before grown tells =
        let (game, stands, cells) = numbered_at (game_in s) game_cells 1 rows s.games same k row at in
        let is = tells s (1 + k) game (is_club.games k game stands) cells in
        let id : 1 + (k + 1) ≡ suc (1 + k) = omega arith in
        rw (grown, id, add-one) (told_push summary_of games told _ _ is ∙ (rw (drop_here s.games k game stands) at before))

    pub told_all : (k : ℕ) (games : List GameEntry) → length rows ≤ k
        → summaries_of games ++ game_summaries_from s (1 + k) (drop k s.games) ≡ game_summaries s → summaries_of games ≡ game_summaries s
    told_all k games past whole =
        let count : length rows ≡ length s.games = sym (length-map rows game_cells)
        ∙ (ap length same ∙ numbered_length (game_in s) 1 s.games) in
        rw (drop_all k s.games (omega (arith, past, count)), append-nil (summaries_of games)) at whole
