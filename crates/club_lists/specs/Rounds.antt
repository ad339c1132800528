-- The round of a game that a round robin seated, by its key. Board b of round r has the key PREFIXr.b; digits at the
-- end of PREFIX are read as part of the round.
use Rattle.std.specs.Prelude.{ℕ, ◌+◌, ◌*◌, ◌-◌, ◌==◌, ◌&&◌, Bool, List, [], ◌∷◌, Option, Some, None}
use Rattle.std.specs.Prelude.{nat_lt, if◌then◌else◌}
use Rattle.club_lists.specs.declared.rounds.Digits.{Digits}
use Rattle.club_lists.specs.declared.rounds.Digits.TheVariants.{Absent, Number, Wrong}
use Rattle.club_lists.specs.declared.rounds.KeyEnd.{KeyEnd}

-- the most rounds of a round robin, twice round with 32 members
abbrev pub most_rounds : ℕ
most_rounds = 62

-- the most boards of a round
abbrev pub most_boards : ℕ
most_boards = 16

-- the byte is a digit
abbrev pub is_digit : ℕ → Bool
is_digit byte = nat_lt 47 byte && nat_lt byte 58

-- digits with one more: no number after a leading zero, or above 69
abbrev pub with_digit : Digits → ℕ → Digits
with_digit Absent digit = if digit == 0 then Wrong else Number digit
with_digit (Number n) digit = if nat_lt 6 n then Wrong else Number (10 * n + digit)
with_digit Wrong digit = Wrong

-- the end of a text with one byte more: the digits before its last point, and the digits behind it
abbrev pub with_byte : KeyEnd → ℕ → KeyEnd
with_byte end byte =
    if byte == 46
    then record { round = end.board; board = Absent }
    else (if is_digit byte
    then record { round = end.round; board = with_digit end.board (byte - 48) }
    else record { round = Absent; board = Absent })

-- the end of a text whose first bytes have this end
abbrev pub end_after : KeyEnd → List ℕ → KeyEnd
end_after end [] = end
end_after end (byte ∷ bytes) = end_after (with_byte end byte) bytes

-- the round of these numbers of a round and a board, if a round robin can have them
abbrev pub round_by : Digits → Digits → Option ℕ
round_by (Number round) (Number board) =
    if nat_lt round (most_rounds + 1) && nat_lt board (most_boards + 1) then Some round else None
round_by _ _ = None

-- the round that the end of a key tells
abbrev pub round_at : KeyEnd → Option ℕ
round_at end = round_by end.round end.board

-- the end of a text without a byte
abbrev pub no_end : KeyEnd
no_end = record { round = Absent; board = Absent }

-- the round of the game with this key
abbrev pub round_of : List ℕ → Option ℕ
round_of key = round_at (end_after no_end key)

-- the round of a game that may have a key
abbrev pub round_in : Option (List ℕ) → Option ℕ
round_in None = None
round_in (Some key) = round_of key
