-- The text of a move in USI notation: the squares of a board move, with `+` for a promotion; or the letter of a dropped
-- piece, `*` and its square. No promise of the program rests on these definitions.
use Rattle.std.specs.Prelude.{◌≡◌, ◌<◌, ◌≤◌, ℕ, List, ◌++◌, length, take}
use Rattle.squares.specs.declared.shogi.moves.SMove.{SMove}
use Rattle.squares.specs.declared.shogi.moves.SMove.TheVariants.{Step, Drop}
use Rattle.sfen.specs.declared.faults.SfenFault.{SfenFault}
use Rattle.sfen.specs.declared.faults.SfenFault.TheVariants.{BadText, TooManyPieces, Kings}
use Rattle.sfen.specs.UsiText.{usi_text}

-- the squares of the move are on the board
abbrev pub IsOnBoard : SMove → Type 0
IsOnBoard (Step from to promote) = (from < 81) × (to < 81)
IsOnBoard (Drop kind to) = to < 81

-- the text is that of a move on the board
abbrev pub IsUsiText : List ℕ → SMove → Type 0
IsUsiText text move = IsOnBoard move × (text ≡ usi_text move)

-- a prefix of the text of some move
abbrev pub BeginsUsi : List ℕ → Type 0
BeginsUsi text = (rest : List ℕ) × (move : SMove) × IsUsiText (text ++ rest) move

-- the length in bytes of the longest prefix that can begin a move's text
pub record IsLongestUsiBeginning (text : List ℕ) (bytes : ℕ) : Type 0 where
  pub within : bytes ≤ length text
  pub begins : BeginsUsi (take bytes text)
  pub longest : (n : ℕ) → bytes < n → n ≤ length text → BeginsUsi (take n text) → ⊥

-- the text denotes no move, with the length of its longest valid prefix
pub record IsNoUsi (text : List ℕ) (bytes : ℕ) : Type 0 where
  pub none : (move : SMove) → IsUsiText text move → ⊥
  pub longest : IsLongestUsiBeginning text bytes

-- the fault of a text that denotes no move
abbrev pub IsUsiRefused : List ℕ → SfenFault → Type 0
IsUsiRefused text (BadText bytes) = IsNoUsi text bytes
IsUsiRefused text TooManyPieces = ⊥
IsUsiRefused text Kings = ⊥
