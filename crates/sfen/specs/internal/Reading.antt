-- The state of the SFEN reader after a prefix of a text. No promise of the program rests on these definitions.
use Rattle.std.specs.Prelude.{◌≡◌, ◌<◌, ℕ, ◌+◌, min, Bool, true, false, List, [], ◌∷◌, length, take, Option, Some, None}
use Rattle.std.specs.FinMap as map
use Rattle.squares.specs.declared.sides.Side.{Side}
use Rattle.squares.specs.declared.sides.Side.TheVariants.{First, Second}
use Rattle.squares.specs.declared.shogi.piece.HandKind.{HandKind}
use Rattle.squares.specs.declared.shogi.hand.Hands.{Hands}
use Rattle.squares.specs.declared.shogi.hand.Hand.{Hand}
use Rattle.squares.specs.ShogiHands.{count_of, with_count}
use Rattle.sfen.specs.declared.places.SfenState.TheVariants.{Rank}
use Rattle.sfen.specs.declared.places.Action.{Action}
use Rattle.sfen.specs.declared.places.Action.TheVariants.{Pass, Put, Move, Hold}
use Rattle.sfen.specs.declared.reading.Reading.{Reading}
use Rattle.sfen.specs.internal.Signs.{sign_of}
use Rattle.sfen.specs.internal.Places.{Step, IsSane, next}

-- the hand with more pieces of a kind; counts saturate at 255
abbrev pub with_more : HandKind → ℕ → Hand → Hand
with_more kind count hand = with_count kind (min (count_of kind hand + count) 255) hand

abbrev pub holding : Side → HandKind → ℕ → Hands → Hands
holding First kind count hands = record hands { first = with_more kind count hands.first }
holding Second kind count hands = record hands { second = with_more kind count hands.second }

abbrev pub act : Action → Reading → Reading
act Pass reading = reading
act (Put square piece) reading = record reading { board = map.insert reading.board square piece }
act (Move side) reading = record reading { turn = side }
act (Hold side kind count) reading = record reading { hands = holding side kind count reading.hands }

abbrev pub follow : Step → Reading → Option Reading
follow None reading = None
follow (Some step) reading = Some (record (act step.1 reading) { place = step.0 })

-- the state after one more byte
abbrev pub take_byte : Reading → ℕ → Option Reading
take_byte reading byte = follow (next reading.place (sign_of byte)) reading

abbrev pub if_some : {A : Type 0} → (A → Option A) → Option A → Option A
if_some f None = None
if_some f (Some x) = f x

-- the state after all steps along a text, if each step succeeds
abbrev pub run : {S : Type 0} → (S → ℕ → Option S) → S → List ℕ → Option S
run step s [] = Some s
run step s (c ∷ text) = if_some (λ t. run step t text) (step s c)

abbrev pub no_pieces : Hand
no_pieces = record { rook = 0; bishop = 0; gold = 0; silver = 0; knight = 0; lance = 0; pawn = 0 }

-- the initial state: before the first rank, with an empty board and empty hands
abbrev pub beginning : Reading
beginning =
    record {
      place = Rank 1 9;
      board = map.empty;
      hands = record { first = no_pieces; second = no_pieces };
      turn =
          First;
    }

-- the reader accepts the first `bytes` bytes, but not the next one
pub record StopsAt (text : List ℕ) (bytes : ℕ) : Type 0 where
  pub within : bytes < length text
  pub reading : Reading
  pub before : run take_byte beginning (take bytes text) ≡ Some reading
  pub none : run take_byte beginning (take (bytes + 1) text) ≡ None

-- the result for one byte: the next state, whose numbers are within their bounds, or a refusal
abbrev pub Takes : Bool → Reading → ℕ → Reading → Type 0
Takes true reading byte after = (take_byte reading byte ≡ Some after) × IsSane after.place
Takes false reading byte after = take_byte reading byte ≡ None
