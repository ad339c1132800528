-- When a `Marks` represents a game history. No promise of the program rests on these definitions.
use Rattle.std.specs.Prelude.{◌≡◌, ◌+◌, ℕ, List, Option, Some, None, length, min}
use Rattle.std.specs.BTreeMap.{get}
use Rattle.game_history.specs.Line as line
use Rattle.squares.specs.declared.shogi.moves.SMove.{SMove}
use Rattle.squares.specs.ShogiSets.{ShogiPosition}
use Rattle.squares.specs.ShogiSamePosition.{same_shogi_position}
use Rattle.squares.specs.internal.ShogiOrder.{position_cmp}
use Rattle.shogi_moves.specs.Rules.{play}
use Rattle.shogi_repetition.specs.declared.ends.SEnd.{SEnd}
use Rattle.shogi_repetition.specs.declared.marks.Marks.{Marks}
use Rattle.shogi_repetition.specs.declared.marks.RepetitionCount.{RepetitionCount}
use Rattle.shogi_repetition.specs.Line.{last_position}
use Rattle.shogi_repetition.specs.Ends.{FirstOccurs, EndsSo}
use Rattle.shogi_repetition.specs.Faults.{IsPlayed}
use Rattle.shogi_repetition.specs.internal.Tails.{tail_of, times_stood}

-- The occurrences of a position in a history.
abbrev pub HasStood : ShogiPosition → List SMove → ShogiPosition → Option RepetitionCount → Type 0
HasStood start ms p None = line.times_at play same_shogi_position start ms p ≡ 0
HasStood start ms p (Some s) = (s.times ≡ line.times_at play same_shogi_position start ms p)
    × line.FirstAt play start ms p s.first

-- The history follows the rules, and the value has its last position, plies, tail and the occurrences of each position.
pub record Follows (start : ShogiPosition) (ms : List SMove) (marks : Marks) : Type 0 where
  pub played : IsPlayed start ms (length ms)
  pub last : marks.last ≡ last_position start ms
  pub plies : marks.plies ≡ length ms
  pub times : marks.stood.times ≡ times_stood start ms
  pub first : FirstOccurs start ms marks.stood.first
  pub tail : marks.tail ≡ tail_of start ms
  pub seen : (p : ShogiPosition) → HasStood start ms p (get position_cmp marks.seen p)

-- The occurrences after one more, at the given ply.
abbrev pub stood_again : ℕ → Option RepetitionCount → RepetitionCount
stood_again plies None = record { times = 1; first = plies }
stood_again plies (Some s) = record { times = min (s.times + 1) 4294967295; first = s.first }

-- The end of the represented history.
abbrev pub IsEndOf : Marks → Option SEnd → Type 0
IsEndOf marks end = (start : ShogiPosition) (ms : List SMove) → Follows start ms marks → EndsSo start ms end
