-- The key of a game of a round robin tells its round.
use Rattle.std.proofs.Common.{◌≡◌, ◌≤◌, ◌<◌, ◌+◌, ◌-◌, ℕ, zero, suc, List, [], ◌∷◌, ◌++◌, Bool, true, false, Some, refl}
use Rattle.std.proofs.Common.{ap, subst, ◌∙◌, arith, codes}
use Rattle.std.specs.Fmt.{digits}
use Rattle.std.specs.Prelude.{decimal, if◌then◌else◌, nat_lt, ◌==◌}
use Rattle.club_lists.specs.Rounds.{end_after, is_digit, no_end, round_at, round_by, round_of}
use Rattle.club_lists.specs.internal.Rounds.{ends_in_digit, round_key}
use Rattle.club_lists.specs.Rounds.{with_byte, with_digit}
use Rattle.club_lists.specs.declared.rounds.Digits.{Digits}
use Rattle.club_lists.specs.declared.rounds.Digits.TheVariants.{Absent, Number}
use Rattle.club_lists.specs.declared.rounds.KeyEnd.{KeyEnd}

-- one text after another
after_append : (end : KeyEnd) (one other : List ℕ) → end_after end (one ++ other) ≡ end_after (end_after end one) other
after_append end [] other = refl
after_append end (x ∷ one) other = after_append (with_byte end x) one other

abbrev end_of : Digits → Digits → KeyEnd
end_of round board = record { round = round; board = board }

-- behind a byte that is no digit there are no digits
clear_byte : (end : KeyEnd) (x : ℕ) → is_digit x ≡ false → (with_byte end x).board ≡ Absent
clear_byte end x none = by (x == 46) (is_digit x) none
  where
    by : (a b : Bool) → b ≡ false
        → (if a then end_of end.board Absent else
        (if b then end_of end.round (with_digit end.board (x - 48)) else end_of Absent Absent)).board ≡ Absent
    by true b none = refl
    by false b none = rw none refl

clear_text : (end : KeyEnd) (x : ℕ) (rest : List ℕ) → ends_in_digit (x ∷ rest) ≡ false
    → (end_after end (x ∷ rest)).board ≡ Absent
clear_text end x [] none = clear_byte end x none
clear_text end x (y ∷ rest) none = clear_text (with_byte end x) y rest none

clear : (prefix : List ℕ) → ends_in_digit prefix ≡ false → (end_after no_end prefix).board ≡ Absent
clear [] none = refl
clear (x ∷ rest) none = clear_text no_end x rest none

-- what holds of each of so many numbers
abbrev EachOf : (ℕ → Type 0) → ℕ → ℕ → Type 0
EachOf P from zero = Unit {0}
EachOf P from (suc count) = P from × EachOf P (suc from) count

one_of : (P : ℕ → Type 0) (from count d : ℕ) → EachOf P from count → d < count → P (from + d)
one_of P from zero d each below = absurd (omega (arith, below))
one_of P from (suc count) zero each below = let same : from ≡ from + 0 = omega arith in subst P same each.0
one_of P from (suc count) (suc d) each below =
    let same : suc from + d ≡ from + suc d = omega arith in
    subst P same (one_of P (suc from) count d each.1 (omega (arith, below)))

-- the digits of a number are read as the number
abbrev IsReadAs : ℕ → Type 0
IsReadAs n = (round : Digits) → end_after (end_of round Absent) (decimal n) ≡ end_of round (Number n)

each_read : EachOf IsReadAs 1 62
unfolding digits
each_read = search

number_read : (n : ℕ) → 1 ≤ n → n ≤ 62 → IsReadAs n
number_read n from to =
    let same : 1 + (n - 1) ≡ n = omega (arith, from) in
    subst IsReadAs same (one_of IsReadAs 1 62 (n - 1) each_read (omega (arith, from, to)))

found : (round board : ℕ) → round ≤ 62 → board ≤ 16 → round_by (Number round) (Number board) ≡ Some round
found round board few small =
    let one : nat_lt round 63 ≡ true = grind (arith, few) in
    let other : nat_lt board 17 ≡ true = grind (arith, small) in
    rw (one, other) refl

pub told : (round board : ℕ) → 1 ≤ round → round ≤ 62 → 1 ≤ board → board ≤ 16 → (prefix : List ℕ)
    → ends_in_digit prefix ≡ false → round_of (round_key prefix round board) ≡ Some round
told round board from to board_from board_to prefix none =
    let end = end_after no_end prefix in
    let rest = codes "." ++ decimal board in
    let clean : end ≡ end_of end.round Absent = ap (λ b. end_of end.round b) (clear prefix none) in
    let board_in : board ≤ 62 = omega (arith, board_to) in
    ap round_at
    (after_append no_end prefix (decimal round ++ rest)
    ∙ (after_append end (decimal round) rest
    ∙ (ap (λ e. end_after e rest)
    (ap (λ e. end_after e (decimal round)) clean ∙ number_read round from to end.round)
    ∙ number_read board board_from board_in (Number round))))
    ∙ found round board to board_to
