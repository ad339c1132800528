-- What bytes are as signs, and signs as bytes.
use Rattle.std.proofs.Common.{◌≡◌, ℕ, ◌+◌, ◌-◌, ◌≤◌, ◌&&◌, nat_eq, nat_le, Option, Some, None, refl, ap, ◌∙◌, arith}
use Rattle.std.proofs.lemmas.Bool.{cond_both, cond-true, cond-false}
use Rattle.std.proofs.lemmas.Bool.Decides.{nat_tests}
use Rattle.squares.specs.internal.DraughtsMarks.{nat_eq-same}
use Rattle.squares.specs.declared.sides.Side.{Side}
use Rattle.squares.specs.declared.sides.Side.TheVariants.{First, Second}
use Rattle.squares.specs.declared.shogi.piece.Kind.{Kind}
use Rattle.squares.specs.declared.shogi.piece.Kind.TheVariants as kind
use Rattle.sfen.specs.declared.signs.Sign.{Sign}
use Rattle.sfen.specs.declared.signs.Sign.TheVariants.{Zero, Digit, Piece, White, Plus, Minus, Slash, Blank, Other}
use Rattle.sfen.specs.Letters.{capital, letter}
use Rattle.sfen.specs.internal.Signs.{capital_kind, piece_sign, sign_of}

-- the byte of a sign
abbrev pub IsSign : Sign → ℕ → Type 0
IsSign Zero c = c ≡ 48
IsSign (Digit n) c = (c ≡ 48 + n) × ((1 ≤ n) × (n ≤ 9))
IsSign (Piece side kind) c = c ≡ letter side kind
IsSign White c = c ≡ 119
IsSign Plus c = c ≡ 43
IsSign Minus c = c ≡ 45
IsSign Slash c = c ≡ 47
IsSign Blank c = c ≡ 32
IsSign Other c = Unit {0}

abbrev IsCapital : ℕ → Option Kind → Type 0
IsCapital c None = Unit {0}
IsCapital c (Some own) = c ≡ capital own

capital-is : (c : ℕ) → IsCapital c (capital_kind c)
capital-is c =
    let P = IsCapital c in
    let is = nat_eq-same c in
    cond_both (nat_eq c 75) _ _ P (is 75) (λ _.
    cond_both (nat_eq c 82) _ _ P (is 82) (λ _.
    cond_both (nat_eq c 66) _ _ P (is 66) (λ _.
    cond_both (nat_eq c 71) _ _ P (is 71) (λ _.
    cond_both (nat_eq c 83) _ _ P (is 83) (λ _.
    cond_both (nat_eq c 78) _ _ P (is 78) (λ _.
    cond_both (nat_eq c 76) _ _ P (is 76) (λ _.
    cond_both (nat_eq c 80) _ _ P (is 80) (λ _. tt))))))))

first-piece : (c : ℕ) (o : Option Kind) → IsCapital c o → IsSign (piece_sign First o) c
first-piece c None h = tt
first-piece c (Some own) h = h

second-piece : (c : ℕ) (o : Option Kind) → 97 ≤ c → IsCapital (c - 32) o → IsSign (piece_sign Second o) c
second-piece c None low h = tt
second-piece c (Some own) low h = omega (arith, h)

pub sign-is : (c : ℕ) → IsSign (sign_of c) c
sign-is c =
    let P = λ (s : Sign). IsSign s c in
    let is = nat_eq-same c in
    cond_both (nat_eq c 48) _ _ P (is 48) (λ _.
    cond_both (nat_le 49 c && nat_le c 57) _ _ P
    (λ e. (grind (arith, nat_tests), (grind (arith, nat_tests), grind (arith, nat_tests)))) (λ _.
    cond_both (nat_eq c 43) _ _ P (is 43) (λ _.
    cond_both (nat_eq c 45) _ _ P (is 45) (λ _.
    cond_both (nat_eq c 47) _ _ P (is 47) (λ _.
    cond_both (nat_eq c 32) _ _ P (is 32) (λ _.
    cond_both (nat_eq c 119) _ _ P (is 119) (λ _.
    cond_both (nat_le 65 c && nat_le c 90) _ _ P (λ e. first-piece c (capital_kind c) (capital-is c)) (λ _.
    cond_both (nat_le 97 c && nat_le c 122) _ _ P
    (λ e. second-piece c (capital_kind (c - 32)) (grind (arith, nat_tests)) (capital-is (c - 32))) (λ _. tt)))))))))

-- the sign of a byte
pub sign-digit : (n : ℕ) → 1 ≤ n → n ≤ 9 → sign_of (48 + n) ≡ Digit n
sign-digit n low high =
    cond-false (nat_eq (48 + n) 48) _ _ (grind (arith, nat_tests))
    ∙ cond-true (nat_le 49 (48 + n) && nat_le (48 + n) 57) _ _ (grind (arith, nat_tests)) ∙ ap Digit (omega arith)

pub sign-letter : (side : Side) (kind : Kind) → sign_of (letter side kind) ≡ Piece side kind
sign-letter First kind.King = refl
sign-letter Second kind.King = refl
sign-letter _ _ = refl
