-- No beginning of a text that is a move is longer than the one that is taken.
use Rattle.std.proofs.Common.{◌≡◌, ℕ, zero, suc, ◌+◌, ◌<◌, ◌≤◌, inl, inr, List, [], ◌∷◌, ◌++◌, append_assoc, length}
use Rattle.std.proofs.Common.{take, drop, true, false, cond, nat_eq, refl, sym, ap, subst, ◌∙◌, arith}
use Rattle.std.proofs.lemmas.Bool.Decides.{nat_tests}
use Rattle.std.proofs.lemmas.List.{length-append, take-append-drop, length-take-le}
use Rattle.std.proofs.Math.Seq.{drop-append_seam}
use Rattle.pdn.specs.SquareText.{is_digit}
use Rattle.pdn.specs.Forms.{Form, quiet, capture, is_cross}
use Rattle.pdn.specs.internal.Grammar.{IsSquareText, IsCross, IsLanding, AreLandings, HasForm}
use Rattle.pdn_games.specs.Lengths.{both, either, square_len, step_len, landing_len, landings_within, landings_len}
use Rattle.pdn_games.specs.Lengths.{tail_len, move_len}
use Rattle.pdn_games.proofs.LengthLemmas.{within-more}
use Rattle.pdn_games.proofs.DigitLemmas.{both-sum, square-is, stops-within}
use Rattle.pdn_games.proofs.TokenFormLemmas.{square-of}

-- a square before a byte that is no digit is passed whole
square-exact : (n : ℕ) (text : List ℕ) (c : ℕ) (rest : List ℕ) → IsSquareText n text → is_digit c ≡ false
    → square_len (text ++ c ∷ rest) ≡ length text
square-exact n text c rest is none =
    let square = square-is n text is in
    let some = square.some in
    let least = square.least (c ∷ rest) in
    let taken = square-of (text ++ c ∷ rest) (omega (arith, some, least)) in
    let most = stops-within is_digit (square_len (text ++ c ∷ rest)) text c rest
    (square-is taken.0 _ taken.1).digits none in
    omega (arith, least, most)

-- a byte that begins a landing is none of the others
abbrev pub Crosses : ℕ → Type 0
Crosses c = (is_cross c ≡ true) × (is_digit c ≡ false) × (nat_eq c 45 ≡ false) × (nat_eq c 46 ≡ false)

cross-is : (c : ℕ) → IsCross c → Crosses c
cross-is c (inl e) = subst Crosses (sym e) (refl, refl, refl, refl)
cross-is c (inr e) = subst Crosses (sym e) (refl, refl, refl, refl)

-- landings begin with such a byte
abbrev pub BeginsCrossed : List ℕ → Type 0
BeginsCrossed text = (c : ℕ) × (rest : List ℕ) × (text ≡ c ∷ rest) × Crosses c

landings-begin : (n : ℕ) (squares text : List ℕ) → AreLandings (n ∷ squares) text → BeginsCrossed text
landings-begin n squares text (landing, more, (cross, square, crosses, is, landing_is), are, split) =
    (cross, square ++ more, split ∙ ap (λ l. l ++ more) landing_is, cross-is cross crosses)

pub captures-begin : (middle : List ℕ) (to : ℕ) (text : List ℕ) → AreLandings (middle ++ to ∷ []) text
    → BeginsCrossed text
captures-begin [] to text are = landings-begin to [] text are
captures-begin (n ∷ middle) to text are = landings-begin n (middle ++ to ∷ []) text are

-- a landing is passed, whatever follows, and passed whole before another
landing-most : (n : ℕ) (landing rest : List ℕ) → IsLanding n landing
    → (0 < length landing) × (length landing ≤ landing_len (landing ++ rest))
    × (BeginsCrossed rest → landing_len (landing ++ rest) ≡ length landing)
landing-most n landing rest (cross, square, crosses, is, landing_is) =
    let w = square-is n square is in
    let least = w.least rest in
    let some = w.some in
    let whole : landing_len (cross ∷ square ++ rest) ≡ 1 + square_len (square ++ rest) =
    ap (λ b. cond b (both 1 (square_len (square ++ rest))) 0) (cross-is cross crosses).0
    ∙ both-sum 1 (square_len (square ++ rest)) (omega arith) (omega (arith, least, some)) in
    subst (λ t. (0 < length t) × (length t ≤ landing_len (t ++ rest))
    × (BeginsCrossed rest → landing_len (t ++ rest) ≡ length t)) (sym landing_is) (
      omega arith,
      omega (arith, whole, least),
      λ begins.
          let exact = ap (λ r. square_len (square ++ r)) begins.2
          ∙ square-exact n square begins.0 begins.1 is begins.3.1 in
          omega (arith, whole, exact),
    )

-- landings from one on, and those after it
landing-passed : (n : ℕ) (landing more rest text : List ℕ) (fuel : ℕ) → IsLanding n landing → text ≡ landing ++ more
    →
    landings_within (suc fuel) (text ++ rest) ≡ landing_len (landing ++ (more ++ rest))
    + landings_within fuel (drop (landing_len (landing ++ (more ++ rest))) (landing ++ (more ++ rest)))
landing-passed n landing more rest text fuel is split =
    let first = landing-most n landing (more ++ rest) is in
    let some = first.0 in
    let least = first.1 in
    ap (λ t. landings_within (suc fuel) (t ++ rest)) split
    ∙ ap (landings_within (suc fuel)) (append_assoc landing more rest)
    ∙ within-more fuel (landing_len (landing ++ (more ++ rest))) (landing ++ (more ++ rest)) refl
    (omega (arith, least, some))

-- whatever follows landings, no less is passed
landings-least : (squares : List ℕ) (text rest : List ℕ) (fuel : ℕ) → AreLandings squares text → length text ≤ fuel
    → length text ≤ landings_within fuel (text ++ rest)
landings-least [] text rest fuel none enough = let short = ap length none in omega (arith, short)
landings-least (n ∷ squares) text rest zero (landing, more, is, are, split) enough =
    let some = (landing-most n landing rest is).0 in
    let long = ap length split ∙ length-append landing more in
    absurd (omega (arith, enough, some, long))
landings-least (n ∷ []) text rest (suc fuel) (landing, more, is, none, split) enough =
    let long = ap length split ∙ length-append landing more in
    let short = ap length none in
    let least = (landing-most n landing (more ++ rest) is).1 in
    let passed = landing-passed n landing more rest text fuel is split in
    omega (arith, passed, least, long, short)
landings-least (n ∷ m ∷ squares) text rest (suc fuel) (landing, more, is, are, split) enough =
    let long = ap length split ∙ length-append landing more in
    let begins = landings-begin m squares more are in
    let first = landing-most n landing (more ++ rest) is in
    let some = first.0 in
    let exact = first.2 (begins.0, begins.1 ++ rest, ap (λ t. t ++ rest) begins.2, begins.3) in
    let later = landings-least (m ∷ squares) more rest fuel are (omega (arith, enough, some, long)) in
    let passed = landing-passed n landing more rest text fuel is split
    ∙ (λ i. exact i + landings_within fuel (drop (exact i) (landing ++ (more ++ rest))))
    ∙ ap (λ l. length landing + landings_within fuel l) (drop-append_seam landing (more ++ rest)) in
    omega (arith, passed, later, long)

-- a move's first square, before a byte that is no digit, and what follows it
move-sum : (n : ℕ) (first back : List ℕ) (c : ℕ) (rest : List ℕ) → IsSquareText n first → back ≡ c ∷ rest
    → is_digit c ≡ false → 0 < tail_len back → move_len (first ++ back) ≡ length first + tail_len back
unfolding move_len
move-sum n first back c rest is split none some =
    let front : square_len (first ++ back) ≡ length first = ap (λ t. square_len (first ++ t)) split
    ∙ square-exact n first c rest is none in
    ap (λ k. both k (tail_len (drop k (first ++ back)))) front
    ∙ ap (λ t. both (length first) (tail_len t)) (drop-append_seam first back)
    ∙ both-sum (length first) (tail_len back) (square-is n first is).some some

either-first : (a b : ℕ) → 0 < a → either a b ≡ a
either-first a b some = let one : nat_eq a 0 ≡ false = grind (arith, nat_tests) in ap (λ c. cond c b a) one

-- whatever follows a move's text, no less is taken
pub move-least : (text : List ℕ) (form : Form) (rest : List ℕ) → HasForm text form
    → length text ≤ move_len (text ++ rest)
unfolding landings_len
move-least text (quiet from to) rest (first, second, from_is, to_is, split) =
    let back : List ℕ = second ++ rest in
    let square = square-is to second to_is in
    let least = square.least rest in
    let some = square.some in
    let step : step_len (45 ∷ back) ≡ 1 + square_len back =
    both-sum 1 (square_len back) (omega arith) (omega (arith, least, some)) in
    let tail = either-first (step_len (45 ∷ back)) (landings_len (45 ∷ back)) (omega (arith, step)) ∙ step in
    let sum = move-sum from first (45 ∷ back) 45 back from_is refl refl (omega (arith, tail)) in
    let whole = ap (λ t. move_len (t ++ rest)) split ∙ ap move_len (append_assoc first (45 ∷ second) rest) in
    let long = ap length split ∙ length-append first (45 ∷ second) in
    omega (arith, whole, sum, tail, least, long)
move-least text (capture from middle to) rest (first, landings, from_is, are, split) =
    let back : List ℕ = landings ++ rest in
    let begins = captures-begin middle to landings are in
    let begun : back ≡ begins.0 ∷ begins.1 ++ rest = ap (λ t. t ++ rest) begins.2 in
    let size = length-append landings rest in
    let least = landings-least (middle ++ to ∷ []) landings rest (length back) are (omega (arith, size)) in
    let some = ap length begins.2 in
    let none : step_len back ≡ 0 = ap step_len begun
    ∙ ap (λ b. cond b (both 1 (square_len (begins.1 ++ rest))) 0) begins.3.2 in
    let tail : tail_len back ≡ landings_len back = ap (λ k. either k (landings_len back)) none in
    let sum = move-sum from first back begins.0 (begins.1 ++ rest) from_is begun begins.3.1
    (omega (arith, tail, least, some)) in
    let whole = ap (λ t. move_len (t ++ rest)) split ∙ ap move_len (append_assoc first landings rest) in
    let long = ap length split ∙ length-append first landings in
    omega (arith, whole, sum, tail, least, long)

pub move-longest : (text : List ℕ) (k : ℕ) (form : Form) → k ≤ length text → HasForm (take k text) form
    → k ≤ move_len text
move-longest text k form within h =
    let least = move-least (take k text) form (drop k text) h in
    let whole = ap move_len (take-append-drop k text) in
    let size = length-take-le k text within in
    omega (arith, least, whole, size)
