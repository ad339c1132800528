-- Moves that are tried after a line, by the rules of a game: what is shown, or why they are refused.
use Rattle.std.specs.Prelude.{◌≡◌, ◌+◌, ℕ, List, [], ◌∷◌, ◌++◌, length, map, Option, Some, None, Result, Ok, Err}
use Rattle.std.specs.Prelude.{IsSome}
use Rattle.std.specs.Option.{option_map}
use Rattle.club_rules.specs.GameRules.{GameRules}
use Rattle.club_rules.specs.Line.{position_after}
use Rattle.club_rules.specs.Listed.{IsLegalList}
use Rattle.club_rules.specs.declared.names.EndName.{EndName}
use Rattle.club_rules.specs.declared.refusals.MoveRefusal.{MoveRefusal}
use Rattle.club_requests.specs.declared.refusals.Refusal.{Refusal}
use Rattle.club_requests.specs.declared.refusals.Refusal.TheVariants.{GameOver, Play}
use Rattle.club_core.specs.Step.{checked}

-- what is shown of a line: its last position, the notation of the moves that were tried and of the legal moves, and the
-- name of its end
pub record LineShown : Type 0 where
  pub position : List ℕ
  pub moves : List (List ℕ)
  pub legal : List (List ℕ)
  pub end : Option EndName

module _ {P M E T : Type 0} (rules : GameRules P M E T) where
  -- ---- the moves that are tried

  -- the texts are read as these moves, one after another, each legal in its position
  abbrev pub AreRead : P → List (List ℕ) → List M → Type 0
  AreRead p [] [] = Unit {0}
  AreRead p [] (m ∷ ms) = ⊥
  AreRead p (text ∷ texts) [] = ⊥
  AreRead p (text ∷ texts) (m ∷ ms) =
      (checked rules p (rules.read_move p text) ≡ Ok m) × AreRead (rules.play p m) texts ms

  -- the moves from a position, each in the notation for the position in which it is made
  abbrev pub notation_from : P → List M → List (List ℕ)
  notation_from p [] = []
  notation_from p (m ∷ ms) = rules.write_move p m ∷ notation_from (rules.play p m) ms

  -- ---- the position after them

  -- the notation of each legal move of the position, in the order of the rules
  pub record AreMovesIn (p : P) (texts : List (List ℕ)) : Type 0 where
    pub moves : List M
    pub legal : IsLegalList rules p moves
    pub written : texts ≡ map (rules.write_move p) moves

  -- the legal moves after a line in notation; none if the rules have ended it
  pub record AreMovesAfter (start : P) (line : List M) (texts : List (List ℕ)) : Type 0 where
    pub ended : IsSome (rules.judge start line) → texts ≡ []
    pub running : rules.judge start line ≡ None → AreMovesIn (position_after rules start line) texts

  -- what is shown after moves that are tried after the line `before`
  pub record IsAnalysis (start : P) (before : List M) (texts : List (List ℕ)) (shown : LineShown) : Type 0 where
    pub tried : List M
    pub read : AreRead (position_after rules start before) texts tried
    pub position : shown.position ≡ rules.write_position (position_after rules start (before ++ tried))
    pub moves : shown.moves ≡ notation_from (position_after rules start before) tried
    pub legal : AreMovesAfter start (before ++ tried) shown.legal
    pub end : shown.end ≡ option_map rules.end_name (rules.judge start (before ++ tried))

  -- ---- refusals

  -- the rules have ended the line, or refuse the move that is read for this ply
  abbrev pub refusal_at : ℕ → Option E → Result M MoveRefusal → Option Refusal
  refusal_at ply (Some end) read = Some GameOver
  refusal_at ply None (Err refusal) = Some (Play ply refusal)
  refusal_at ply None (Ok m) = None

  -- why a text is refused as the next move after a line, if it is
  abbrev pub refusal_after : P → List M → List ℕ → Option Refusal
  refusal_after start line text = refusal_at (length line + 1) (rules.judge start line)
      (checked rules (position_after rules start line) (rules.read_move (position_after rules start line) text))

  -- the first of the texts that is refused, after those that were read
  pub record IsRefusedLine (start : P) (before : List M) (texts : List (List ℕ)) (refusal : Refusal) : Type 0 where
    pub done : List (List ℕ)
    pub text : List ℕ
    pub rest : List (List ℕ)
    pub parts : texts ≡ done ++ text ∷ rest
    pub tried : List M
    pub read : AreRead (position_after rules start before) done tried
    pub refused : refusal_after start (before ++ tried) text ≡ Some refusal
