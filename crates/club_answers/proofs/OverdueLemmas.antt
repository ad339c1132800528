-- Games that are overdue, and what a sweep does to them.
use Rattle.std.proofs.Common.{◌≡◌, ◌≢◌, ℕ, ◌&&◌, Option, Some, None, Bool, true, false, not, refl, ap, sym, ◌∙◌}
use Rattle.std.proofs.Common.{true≢false}
use Rattle.std.specs.Prelude.{◌↔◌, is_some}
use Rattle.std.proofs.lemmas.Bool.{and_parts, not-true}
use Rattle.squares.specs.declared.sides.Side.{Side}
use Rattle.club_rules.specs.GameRules.{GameRules}
use Rattle.club_requests.specs.declared.outside_end.OutsideEnd.TheVariants.{Time}
use Rattle.club_core.specs.declared.rows.GameEnd.{GameEnd}
use Rattle.club_core.specs.Events.{Terms}
use Rattle.club_core.specs.Game.{Game, end_of, rule_end, turn_of}
use Rattle.club_core.specs.Rulings.{verdict_of}
use Rattle.club_core.specs.State.{draughts, shogi, place, terms_at}
use Rattle.club_core.specs.Step.{is_late as late_game, is_overdue, swept}
use Rattle.club_core.proofs.Proved.{not-some, outside-alone}
use Rattle.club_rows.specs.Club.{ClubGame, ClubState, both_games}
use Rattle.club_lists.specs.GameSummary.{is_late}
use Rattle.club_answers.specs.Games.{over_of, game_summary_by_rules}
use Rattle.club_answers.specs.internal.Overdue.{IsCounted, IsSweptThen}

-- what a test tells, where one answer changes a value and the other one keeps it
changes_alone : {A : Type 0} (b : Bool) (x y : A) → (b ≡ true → y ≢ x) → (b ≡ false → y ≡ x) → (b ≡ true) ↔ (y ≢ x)
changes_alone true x y changes keeps = (changes, λ differs. refl)
changes_alone false x y changes keeps = (λ is. absurd (true≢false (sym is)), λ differs. absurd (differs (keeps refl)))

module _ {P M E T : Type 0} (rules : GameRules P M E T) where
  same_over : (turn : Side) (end : Option (GameEnd E)) → is_some (over_of rules turn end) ≡ is_some end
  same_over turn None = refl
  same_over turn (Some end) = refl

  module _ (terms : Terms) (moment id : ℕ) (game : Game M) where
    pub same_late : is_late moment (game_summary_by_rules rules terms id game) ≡ late_game rules terms game moment
    same_late = ap (λ b. not b && is_overdue rules terms game moment)
        (same_over (turn_of rules game) (end_of rules game))

    -- a game that is late has not ended from outside, so that a sweep changes it
    late_changes : late_game rules terms game moment ≡ true → swept rules terms game moment ≢ game
    late_changes late same =
        let none = not-some (end_of rules game) (not-true _ (and_parts _ _ late).0) in
        let running = outside-alone (rule_end rules game) (verdict_of game.rulings) game.outside none in
        let outside : Some Time ≡ game.outside = ap (λ g. g.outside) (rw late at same) in
        cc

    pub swept_then : {A : Type 0} (kind : Game M → A) → ((a b : Game M) → kind a ≡ kind b → a ≡ b)
        → (is_late moment (game_summary_by_rules rules terms id game) ≡ true)
        ↔ (kind (swept rules terms game moment) ≢ kind game)
    swept_then kind apart =
        changes_alone _ (kind game) (kind (swept rules terms game moment))
        (λ late same. late_changes (sym same_late ∙ late) (apart (swept rules terms game moment) game same))
        (λ late. rw (sym same_late ∙ late) refl)

pub counted : (s : ClubState) (moment id : ℕ) (game : ClubGame) → IsCounted s moment id game
counted s moment id (draughts game) =
    same_late both_games.draughts (terms_at (place s.events game.event)) moment id game
counted s moment id (shogi game) = same_late both_games.shogi (terms_at (place s.events game.event)) moment id game

pub swept_alone : (s : ClubState) (moment id : ℕ) (game : ClubGame) → IsSweptThen s moment id game
swept_alone s moment id (draughts game) =
    swept_then both_games.draughts (terms_at (place s.events game.event)) moment id game draughts (λ a b is. cc)
swept_alone s moment id (shogi game) =
    swept_then both_games.shogi (terms_at (place s.events game.event)) moment id game shogi (λ a b is. cc)
