-- A view that shows a legal game is sound.
use Rattle.std.proofs.Common.{◌≡◌, ℕ, ◌≤◌, length, map, Option, Some, None, Ok, ap, arith}
use Rattle.std.specs.Prelude.{IsTrue, IfSome}
use Rattle.std.proofs.lemmas.List.{length-map}
use Rattle.club_rules.specs.GameRules.{GameRules}
use Rattle.club_core.specs.declared.rows.Asked.{Asked}
use Rattle.club_core.specs.declared.rows.GameView.{GameView}
use Rattle.club_requests.specs.Limits.{is_budget, is_increment, most_plies, most_rulings}
use Rattle.club_core.specs.Events.{Terms}
use Rattle.club_core.specs.Game.{Game, clocks_of, moves_of}
use Rattle.club_core.specs.Legal.{IsLegalGame}
use Rattle.club_core.specs.Step.{move_at}
use Rattle.club_core.specs.View.{IsAsked, Shows, ShowsPly, IsSound, terms_of}
use Rattle.club_rules.specs.Laws.{NumbersAreFew}
use Rattle.club_core.proofs.Proved.{asked-legal, line-grows}
use Rattle.club_laws.proofs.Room.{le-true, budget-at-most, left-at-most}

asked-sound : {R P M E T : Type 0} (laws : GameRules P M E T) (terms : Terms) (game : Game M)
    → IsLegalGame laws terms game → (ply : ℕ) (o : Option (Asked R P M E T))
    → IsAsked laws terms game ply (move_at game ply) o → IfSome o (λ a. laws.check a.before a.made ≡ Ok tt)
asked-sound laws terms game legal ply None shown = tt
asked-sound laws terms game legal ply (Some asked) shown = asked-legal laws terms game legal asked ply shown

pub shown-sound : {R P M E T : Type 0} (laws : GameRules P M E T) (game : Game M) (view : GameView R P M E T) (ply : ℕ)
    → NumbersAreFew laws → IsTrue (is_budget view.budget) → IsTrue (is_increment view.increment)
    → IsLegalGame laws (terms_of view) game → Shows laws game view → ShowsPly laws game ply view → IsSound laws view
shown-sound laws game view ply few budget increment legal shows shows_ply =
    let most : view.increment ≤ 2592000 = le-true view.increment 2592000 increment in
    let starts : view.budget ≤ 31536000 = budget-at-most view.budget budget in
    let granted : length game.rulings ≤ most_rulings = legal.rulings.count in
    let left = left-at-most game (terms_of view) most (λ n r at. (legal.rulings.each n r at).time) in
    let first : view.row.left_first ≡ (clocks_of game (terms_of view)).left_first =
    ap (λ c. c.left_first) shows.row.clocks in
    let second : view.row.left_second ≡ (clocks_of game (terms_of view)).left_second =
    ap (λ c. c.left_second) shows.row.clocks in
    let plies : length game.entries ≤ most_plies = legal.plies in
    let moves : length (map (λ e. e.made) game.entries) ≡ length game.entries = simp length-map in
    record {
      track = rw shows.track (line-grows laws few (moves_of game) (omega (arith, moves, plies)));
      asked = asked-sound laws (terms_of view) game legal ply view.asked shows_ply;
      plies = rw shows.row.plies legal.plies;
      room_first = omega (arith, first, left.0, plies, granted, most, starts);
      room_second = omega (arith, second, left.1, plies, granted, most, starts);
      grant_first = omega (arith, first, left.0, plies, granted, starts);
      grant_second = omega (arith, second, left.1, plies, granted, starts);
    }
