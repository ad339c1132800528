-- The transitions of the SFEN reader, and their effects on the position. No promise of the program rests on these
-- definitions.
use Rattle.std.specs.Prelude.{◌≤◌, ℕ, ◌+◌, ◌-◌, ◌*◌, ◌==◌, ◌&&◌, nat_le, nat_lt, Bool, Option, Some, None}
use Rattle.std.specs.Prelude.{if◌then◌else◌}
use Rattle.squares.specs.declared.sides.Side.{Side}
use Rattle.squares.specs.declared.sides.Side.TheVariants.{First, Second}
use Rattle.squares.specs.declared.shogi.piece.Kind.TheVariants as kind
use Rattle.squares.specs.declared.shogi.piece.HandKind.{HandKind}
use Rattle.squares.specs.declared.shogi.piece.Role.{Role}
use Rattle.squares.specs.declared.shogi.piece.SPiece.{SPiece}
use Rattle.squares.specs.ShogiGeometry.{shogi_number}
use Rattle.squares.specs.ShogiPieces.{demoted, hand_kind, promotes_to}
use Rattle.sfen.specs.declared.signs.Sign.{Sign}
use Rattle.sfen.specs.declared.signs.Sign.TheVariants.{Zero, Digit, Piece, White, Plus, Minus, Slash, Blank}
use Rattle.sfen.specs.declared.places.SfenState.{SfenState}
use Rattle.sfen.specs.declared.places.SfenState.TheVariants.{Rank, Promoted, Turn, AfterTurn, Hands, Held, AfterZero}
use Rattle.sfen.specs.declared.places.SfenState.TheVariants.{OneDigit, TwoDigits, NoHands, Number, Digits}
use Rattle.sfen.specs.declared.places.Action.{Action}
use Rattle.sfen.specs.declared.places.Action.TheVariants.{Pass, Put, Move, Hold}

abbrev pub Step : Type 0
Step = Option (SfenState × Action)

abbrev pub on_board : ℕ → ℕ → Bool
on_board file rank = (nat_le 1 file && nat_le file 9) && (nat_le 1 rank && nat_le rank 9)

abbrev pub square_at : ℕ → ℕ → Option ℕ
square_at file rank = if on_board file rank then Some (shogi_number file rank) else None

abbrev pub put_at : ℕ → ℕ → SPiece → Option ℕ → Step
put_at rank left piece None = None
put_at rank left piece (Some square) = Some (Rank rank (left - 1), Put square piece)

abbrev pub placed : ℕ → ℕ → SPiece → Step
placed rank left piece = put_at rank left piece (square_at left rank)

abbrev pub in_rank : ℕ → ℕ → Sign → Step
in_rank rank left (Digit n) = if nat_le n left then Some (Rank rank (left - n), Pass) else None
in_rank rank left (Piece side kind) = placed rank left (record { side = side; role = demoted kind })
in_rank rank left Plus = if nat_lt 0 left then Some (Promoted rank left, Pass) else None
in_rank rank left Slash = if (left == 0) && nat_lt rank 9 then Some (Rank (rank + 1) 9, Pass) else None
in_rank rank left Blank = if (left == 0) && (rank == 9) then Some (Turn, Pass) else None
in_rank rank left _ = None

abbrev pub promoted : ℕ → ℕ → Side → Option Role → Step
promoted rank left side None = None
promoted rank left side (Some role) = placed rank left (record { side = side; role = role })

abbrev pub after_plus : ℕ → ℕ → Sign → Step
after_plus rank left (Piece side kind) = promoted rank left side (promotes_to kind)
after_plus rank left _ = None

abbrev pub at_turn : Sign → Step
at_turn (Piece Second kind.Bishop) = Some (AfterTurn, Move First)
at_turn White = Some (AfterTurn, Move Second)
at_turn _ = None

abbrev pub past_blank : SfenState → Sign → Step
past_blank after Blank = Some (after, Pass)
past_blank after _ = None

abbrev pub hold : ℕ → Side → Option HandKind → Step
hold count side None = None
hold count side (Some kind) = Some (Held, Hold side kind count)

abbrev pub at_item : Sign → Step
at_item Zero = Some (AfterZero, Pass)
at_item (Digit n) = Some (OneDigit n, Pass)
at_item (Piece side kind) = hold 1 side (hand_kind kind)
at_item _ = None

abbrev pub at_hands : Sign → Step
at_hands Minus = Some (NoHands, Pass)
at_hands sign = at_item sign

abbrev pub at_held : Sign → Step
at_held Blank = Some (Number, Pass)
at_held sign = at_item sign

abbrev pub after_zero : Sign → Step
after_zero (Digit n) = Some (TwoDigits n, Pass)
after_zero _ = None

abbrev pub one_digit : ℕ → Sign → Step
one_digit digit Zero = Some (TwoDigits (10 * digit), Pass)
one_digit digit (Digit n) = Some (TwoDigits (10 * digit + n), Pass)
one_digit digit (Piece side kind) = hold digit side (hand_kind kind)
one_digit digit _ = None

abbrev pub two_digits : ℕ → Sign → Step
two_digits count (Piece side kind) = hold count side (hand_kind kind)
two_digits count _ = None

abbrev pub at_number : Sign → Step
at_number (Digit n) = Some (Digits n, Pass)
at_number _ = None

abbrev pub one_more : ℕ → ℕ → Step
one_more number digit = if nat_lt number 1000 then Some (Digits (10 * number + digit), Pass) else None

abbrev pub in_number : ℕ → Sign → Step
in_number number Zero = one_more number 0
in_number number (Digit n) = one_more number n
in_number number _ = None

abbrev pub next : SfenState → Sign → Step
next (Rank rank left) sign = in_rank rank left sign
next (Promoted rank left) sign = after_plus rank left sign
next Turn sign = at_turn sign
next AfterTurn sign = past_blank Hands sign
next Hands sign = at_hands sign
next Held sign = at_held sign
next AfterZero sign = after_zero sign
next (OneDigit digit) sign = one_digit digit sign
next (TwoDigits count) sign = two_digits count sign
next NoHands sign = past_blank Number sign
next Number sign = at_number sign
next (Digits number) sign = in_number number sign

abbrev pub number_at_end : SfenState → Option ℕ
number_at_end Held = Some 1
number_at_end NoHands = Some 1
number_at_end (Digits number) = Some number
number_at_end _ = None

-- the numbers of a state are within their bounds
abbrev pub IsSane : SfenState → Type 0
IsSane (Rank rank left) = ((1 ≤ rank) × (rank ≤ 9)) × (left ≤ 9)
IsSane (Promoted rank left) = ((1 ≤ rank) × (rank ≤ 9)) × ((1 ≤ left) × (left ≤ 9))
IsSane (OneDigit digit) = (1 ≤ digit) × (digit ≤ 9)
IsSane (TwoDigits count) = (1 ≤ count) × (count ≤ 99)
IsSane (Digits number) = (1 ≤ number) × (number ≤ 9999)
IsSane _ = Unit {0}
