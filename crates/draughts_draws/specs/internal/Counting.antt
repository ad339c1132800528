-- When a `DrawCounts` represents a game history. No promise of the program rests on these definitions.
use Rattle.std.specs.Prelude.{◌≡◌, List, Option, length, unwrap_or}
use Rattle.std.specs.HashMap.{get}
use Rattle.game_history.specs.Line as line
use Rattle.squares.specs.declared.draughts.moves.DMove.{DMove}
use Rattle.squares.specs.DraughtsBoard.{Position}
use Rattle.squares.specs.DraughtsSamePosition.{same_position}
use Rattle.draughts_moves.specs.Legal.{play}
use Rattle.draughts_draws.specs.declared.counts.DrawCounts.{DrawCounts}
use Rattle.draughts_draws.specs.Line.{last_position}
use Rattle.draughts_draws.specs.internal.Tails.{tail_of, times_stood}
use Rattle.draughts_draws.specs.declared.ends.DEnd.{DEnd}
use Rattle.draughts_draws.specs.Ends.{end_of}
use Rattle.draughts_draws.specs.Faults.{IsPlayed}

-- The history follows the rules, and the value has its last position, plies, tail and repetition counts.
pub record Follows (start : Position) (ms : List DMove) (counts : DrawCounts) : Type 0 where
  pub played : IsPlayed start ms (length ms)
  pub last : counts.last ≡ last_position start ms
  pub plies : counts.plies ≡ length ms
  pub times : counts.times ≡ times_stood start ms
  pub tail : counts.tail ≡ tail_of start ms
  pub stood : (p : Position) → unwrap_or (get same_position counts.seen p) 0
      ≡ line.times_at play same_position start ms p

-- The end of the represented history.
abbrev pub IsEndOf : DrawCounts → Option DEnd → Type 0
IsEndOf counts end = (start : Position) (ms : List DMove) → Follows start ms counts → end ≡ end_of start ms
