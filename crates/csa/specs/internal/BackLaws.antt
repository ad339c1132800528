-- The text written for a game is read as that game. No promise of the program rests on these definitions.
use Rattle.std.specs.Prelude.{◌≡◌, ◌≢◌, ◌⊎◌, ℕ, Bool, true, false, Option, Some, None, List, [], ◌∷◌, map, length}
use Rattle.squares.specs.declared.sides.Side.{Side}
use Rattle.squares.specs.declared.sides.Score.{Score}
use Rattle.squares.specs.declared.shogi.moves.SMove.{SMove}
use Rattle.squares.specs.Sides.{loses, other}
use Rattle.squares.specs.ShogiOpening.{opening}
use Rattle.shogi_repetition.specs.Line.{last_position}
use Rattle.shogi_repetition.specs.Ends.{outcome_of}
use Rattle.shogi_repetition.specs.Faults.{IsPlayed}
use Rattle.csa.specs.declared.faults.CsaFault.{CsaFault}
use Rattle.csa.specs.declared.faults.CsaFault.TheVariants as fault
use Rattle.csa.specs.declared.game.CsaGame.{CsaGame}
use Rattle.csa.specs.declared.head.CsaEnd.{CsaEnd}
use Rattle.csa.specs.declared.head.CsaEnd.TheVariants as csa_end
use Rattle.csa.specs.Reading.{IsRefused}
use Rattle.csa.specs.internal.Reading.{IsTextOf}
use Rattle.csa.specs.WrittenGame.{IsGameText}
use Rattle.csa.specs.internal.WrittenGame.{FitsEnd}

-- a text without line feeds
abbrev pub IsOneLine : List ℕ → Type 0
IsOneLine [] = Unit {0}
IsOneLine (c ∷ text) = (c ≢ 10) × IsOneLine text

abbrev pub moves_of : List (SMove × ℕ) → List SMove
moves_of entries = map (λ e. e.0) entries

-- A game that its text preserves: names of one line each, a legal line, and an end that agrees with it.
pub record IsKept (event black white : List ℕ) (end : Option CsaEnd) (entries : List (SMove × ℕ)) : Type 0 where
  pub event_line : IsOneLine event
  pub black_line : IsOneLine black
  pub white_line : IsOneLine white
  pub played : IsPlayed opening (moves_of entries) (length entries)
  pub fits : FitsEnd end (moves_of entries)

-- the score of an end, by the side to move
abbrev pub score_of : CsaEnd → Side → Score
score_of (csa_end.Rule end) turn = outcome_of end turn
score_of csa_end.Resigned turn = loses turn
score_of csa_end.Time turn = loses turn
score_of csa_end.Declared turn = loses (other turn)
score_of (csa_end.Recorded score) turn = score

abbrev pub is_declared : CsaEnd → Bool
is_declared csa_end.Declared = true
is_declared _ = false

-- the game has these moves, the score of this end, and a declared win if the end is one
pub record IsOf (game : CsaGame) (end : CsaEnd) (entries : List (SMove × ℕ)) : Type 0 where
  pub moves : game.moves.items ≡ moves_of entries
  pub score : game.score ≡ score_of end (last_position opening (moves_of entries)).turn
  pub declared : game.declared ≡ is_declared end

-- the text of such a finished game is the text of one game: its moves and the score of its end
abbrev pub WrittenIsRead : Type 0
WrittenIsRead =
    (event black white : List ℕ) (start : ℕ) (end : CsaEnd) (entries : List (SMove × ℕ)) (text : List ℕ)
    (game : CsaGame) →
    IsKept event black white (Some end) entries → IsGameText event black white start (Some end) entries text →
    IsOf game end entries → IsTextOf text (game ∷ [])

-- the text of such a running game is refused as unfinished; its only other fault is out of memory
abbrev pub RunningIsRefused : Type 0
RunningIsRefused =
    (event black white : List ℕ) (start : ℕ) (entries : List (SMove × ℕ)) (text : List ℕ) →
    IsKept event black white None entries → IsGameText event black white start None entries text →
    IsRefused text fault.Unfinished × ((f : CsaFault) → IsRefused text f → (f ≡ fault.Memory) ⊎ (f ≡ fault.Unfinished))
