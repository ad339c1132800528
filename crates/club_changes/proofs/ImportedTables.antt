-- The tables of a club with a game more, which has rows in each of them.
use Rattle.std.proofs.Common.{◌≡◌, ℕ, ◌+◌, List, [], ◌∷◌, ◌++◌, length, Some, true, subst, arith, inr, refl}
use Rattle.std.specs.Prelude.{slice_get}
use Rattle.sqlite.specs.Order.{Row}
use Rattle.sqlite_rules.specs.Lists.{Has}
use Rattle.club_rules.specs.GameRules.{GameRules}
use Rattle.club_core.specs.Events.{Event, Terms}
use Rattle.club_core.specs.Game.{Game}
use Rattle.club_core.specs.State.{draughts, shogi, place, terms_at, with_imported}
use Rattle.club_rows.specs.Club.{ClubGame, ClubState, both_games}
use Rattle.club_rows.specs.Tables.{move_rows, row_of_game, rows_of_moves, rows_of_rulings, rows_of_seen}
use Rattle.club_rows.specs.Scores.{scores_in}
use Rattle.club_rows.proofs.Proved.{gathered-added, seen-added}
use Rattle.store_tables.specs.internal.Changes.{Alters}
use Rattle.store_tables.specs.Content.{same_key}
use Rattle.store_tables.specs.declared.rows.Changes.{Changes}
use Rattle.store_tables.proofs.Proved.{altered}
use Rattle.club_changes.specs.internal.Steps.{Makes, Puts, no_rows}
use Rattle.club_changes.proofs.ChangedLemmas.{all_changed}
use Rattle.club_changes.proofs.NextRows.{move_rows_had, first_of_game, moves_had}
use Rattle.club_changes.proofs.OutcomeLemmas.{moment_put}
use Rattle.club_changes.proofs.PlacedRows.{moves-placed}
use Rattle.club_changes.proofs.PutSame.{◌&◌, had_at, nothing_added, numbers_same, row_added, same_itself}

-- no two rows of the moves of a game have one ply
rows_apart : {P M E T : Type 0} (laws : GameRules P M E T) (terms : Terms) (id : ℕ) (game : Game M) (z w : Row)
    → Has (move_rows laws terms id game) z → Has (move_rows laws terms id game) w → same_key (0 ∷ 1 ∷ []) z w ≡ true
    → z ≡ w
rows_apart laws terms id game z w h k same =
    let rows = move_rows laws terms id game in
    let (m, at) = had_at rows z h in
    let (n, there) = had_at rows w k in
    let plies = numbers_same z w id id (1 + m) (1 + n) (move_rows_had laws terms id game z h).0
    (move_rows_had laws terms id game w k).0 (moves-placed laws terms id game m z at)
    (moves-placed laws terms id game n w there) same in
    let here : m ≡ n = omega (arith, plies.1) in
    let also : slice_get rows n ≡ Some z = subst (λ i. slice_get rows i ≡ Some z) here at in
    cc

moves_apart : (events : List Event) (id : ℕ) (g : ClubGame) (z w : Row) → Has (rows_of_moves both_games events id g) z
    → Has (rows_of_moves both_games events id g) w → same_key (0 ∷ 1 ∷ []) z w ≡ true → z ≡ w
moves_apart events id (draughts g) = rows_apart both_games.draughts (terms_at (place events g.event)) id g
moves_apart events id (shogi g) = rows_apart both_games.shogi (terms_at (place events g.event)) id g

-- Where the rows of a game are put, the tables are those of the club with that game more.
pub game_more : (s : ClubState) (new : ClubGame) (moment : ℕ) (c : Changes) (scores : List Row)
    → ((id : ℕ) → rows_of_rulings id new ≡ [])
    → Alters (0 ∷ 1 ∷ 2 ∷ []) scores (scores_in both_games s.games) (scores_in both_games (s.games ++ new ∷ []))
    → Puts c moment
    (record no_rows {
      games = row_of_game both_games s.events (1 + length s.games) new ∷ [];
      moves = rows_of_moves both_games s.events (1 + length s.games) new;
      seen = rows_of_seen both_games (1 + length s.games) new;
      scores = scores;
    })
    → Makes s (with_imported s moment new) (Some c)
game_more s new moment c scores unruled put are =
    let moves = rows_of_moves both_games s.events in
    all_changed s (with_imported s moment new) c moment _ are (inr (refl, refl, refl))
    (moment_put s moment
    & same_itself _ & same_itself _ & same_itself _
    & altered (0 ∷ 1 ∷ []) _ _ _
    (gathered-added moves (moves_had both_games s.events) (moves_apart s.events) s.games new)
    & row_added (row_of_game both_games s.events) (first_of_game both_games s.events) s.games new
    & altered (0 ∷ 1 ∷ []) _ _ _ (seen-added both_games s.games new)
    & altered (0 ∷ 1 ∷ 2 ∷ []) _ _ _ put
    & same_itself _ & same_itself _
    & nothing_added rows_of_rulings s.games new unruled
    & same_itself _ & tt)
