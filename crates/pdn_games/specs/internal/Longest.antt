-- The longest prefix of a text that is a move's text. No promise of the program rests on these definitions.
use Rattle.std.specs.Prelude.{◌<◌, ◌≤◌, ℕ, List, length, take}
use Rattle.pdn_games.specs.Lengths.{move_len}
use Rattle.pdn_games.specs.internal.Replaying.{IsMoveForm}

-- If n is positive, the first n bytes are a move's text; no longer prefix is one.
pub record IsLongestMove (text : List ℕ) (n : ℕ) : Type 0 where
  pub is : 0 < n → IsMoveForm (take n text)
  pub longest : (k : ℕ) → k ≤ length text → IsMoveForm (take k text) → k ≤ n

-- the lexer takes that many bytes as a move
abbrev pub MovesAreLongest : Type 0
MovesAreLongest = (text : List ℕ) → IsLongestMove text (move_len text)
