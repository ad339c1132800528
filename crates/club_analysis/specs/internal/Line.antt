-- A line of moves as the code holds it. No promise of the program rests on these definitions.
use Rattle.std.specs.Prelude.{◌≡◌, ℕ, List, [], ◌∷◌, ◌++◌, Result, Ok, Err, map, string_bytes}
use Rattle.club_requests.specs.declared.refusals.Refusal.{Refusal}
use Rattle.club_rules.specs.GameRules.{GameRules}
use Rattle.club_rules.specs.Line.{IsPlayedLine, position_after}
use Rattle.club_core.specs.Step.{checked}
use Rattle.club_analysis.specs.Tried.{AreRead, LineShown, notation_from}
use Rattle.club_analysis.specs.declared.lines.Line.{Line}
use Rattle.club_analysis.specs.declared.lines.ShownLine as given

-- what is shown, in mathematical values
abbrev pub shown_view : given.ShownLine → LineShown
shown_view shown = record {
  position = string_bytes shown.position;
  moves = map (λ t. string_bytes t) shown.moves.items;
  legal = map (λ t. string_bytes t) shown.legal.items;
  end = shown.end;
}

-- the line is shown, or the texts are refused
abbrev pub IsTriedAs : (LineShown → Type 0) → (Refusal → Type 0) → Result given.ShownLine Refusal → Type 0
IsTriedAs IsShown IsRefused (Ok shown) = IsShown (shown_view shown)
IsTriedAs IsShown IsRefused (Err refusal) = IsRefused refusal

-- the line was played by the rules, and has this last position
pub record IsLine {R P M E T : Type 0} (rules : GameRules P M E T) (line : Line R P M E T) : Type 0 where
  pub played : IsPlayedLine rules line.start line.moves.items
  pub last : line.last ≡ position_after rules line.start line.moves.items

-- the line has grown by the move of a text
pub record Grows {R P M E T : Type 0} (rules : GameRules P M E T) (old : Line R P M E T) (text : List ℕ)
    (new : Line R P M E T) : Type 0 where
  pub made : M
  pub read : checked rules old.last (rules.read_move old.last text) ≡ Ok made
  pub is_line : IsLine rules new
  pub start : new.start ≡ old.start
  pub moves : new.moves.items ≡ old.moves.items ++ made ∷ []
  pub tried : map (λ t. string_bytes t) new.tried.items
      ≡ map (λ t. string_bytes t) old.tried.items ++ rules.write_move old.last made ∷ []

-- the line has grown by the moves of these texts after the moves `before`
pub record HasTried {R P M E T : Type 0} (rules : GameRules P M E T) (start : P) (before : List M)
    (texts : List (List ℕ)) (line : Line R P M E T) : Type 0 where
  pub tried : List M
  pub read : AreRead rules (position_after rules start before) texts tried
  pub is_line : IsLine rules line
  pub start_is : line.start ≡ start
  pub moves_are : line.moves.items ≡ before ++ tried
  pub tried_are : map (λ t. string_bytes t) line.tried.items
      ≡ notation_from rules (position_after rules start before) tried
