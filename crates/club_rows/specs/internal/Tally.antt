-- Repetition counts and first plies of the positions of a line, by their notation. No promise of the program rests on
-- these definitions.
use Rattle.std.specs.Prelude.{◌≡◌, ◌≤◌, ◌<◌, ◌+◌, ◌^◌, ℕ, Bool, List, length, take, count_by, Option, Some, None}
use Rattle.std.specs.Prelude.{IfSome, string_bytes}
use Rattle.std.specs.declared.alloc.Global.{Global}
use Rattle.std.specs.declared.string.String.{String}
use Rattle.std.specs.HashMap.{get}
use Rattle.std.specs.Str.{bytes_eq}
use Rattle.club_rules.specs.GameRules.{GameRules}
use Rattle.club_rules.specs.Line.{position_after, positions, IsLegalLine}
use Rattle.club_rows.specs.declared.tally.Occurrences.{Occurrences}
use Rattle.club_rows.specs.declared.tally.PositionCounts.{PositionCounts}

-- the notation of a position
abbrev pub PositionText : Type 0
PositionText = String Global

-- two texts have the same bytes
abbrev pub same_text : PositionText → PositionText → Bool
same_text one other = bytes_eq (string_bytes one) (string_bytes other)

-- the entry for a text
abbrev pub seen_at : PositionCounts → PositionText → Option Occurrences
seen_at tally text = get same_text tally.seen text

-- the entry after one more occurrence, after that ply
abbrev pub stood_then : Option Occurrences → ℕ → Occurrences
stood_then None ply = record { times = 1; first_ply = ply }
stood_then (Some stood) ply = record { times = stood.times + 1; first_ply = stood.first_ply }

-- the count is far below overflow
abbrev pub stood_seldom : Option Occurrences → Type 0
stood_seldom seen = IfSome seen (λ stood. stood.times < 2 ^ 32)

module _ {P M E T : Type 0} (rules : GameRules P M E T) (line : List M) (position : P) where
  -- the repetition count of the position and its first ply on the line
  pub record HasStood (stood : Occurrences) : Type 0 where
    pub times : stood.times ≡ count_by (λ p. rules.same_position p position) (positions rules rules.start line)
    pub within : stood.first_ply ≤ length line
    pub stands : position_after rules rules.start (take stood.first_ply line) ≡ position
    pub earliest : (k : ℕ) → k < stood.first_ply → position_after rules rules.start (take k line) ≡ position → ⊥

  -- the position does not occur on the line
  pub record HasNotStood : Type 0 where
    pub times : count_by (λ p. rules.same_position p position) (positions rules rules.start line) ≡ 0
    pub never : (k : ℕ) → k ≤ length line → position_after rules rules.start (take k line) ≡ position → ⊥

  abbrev pub IsStood : Option Occurrences → Type 0
  IsStood None = HasNotStood
  IsStood (Some stood) = HasStood stood

-- the entries are the repetition counts and first plies of all positions on this line
pub record IsTallyOf {P M E T : Type 0} (rules : GameRules P M E T) (line : List M)
    (tally : PositionCounts) : Type 0 where
  pub stood : (ms : List M) (text : PositionText) → IsLegalLine rules rules.start ms
      → string_bytes text ≡ rules.write_position (position_after rules rules.start ms)
      → IsStood rules line (position_after rules rules.start ms) (seen_at tally text)
  pub few : (text : PositionText) → IfSome (seen_at tally text) (λ stood. stood.times ≤ length line + 1)
