-- A move's text is ASCII, without blanks and without lines' ends.
use Rattle.std.proofs.Common.{◌≡◌, ℕ, ◌<◌, inl, inr, List, [], ◌∷◌, ◌++◌, Bool, true, ◌&&◌, nat_lt, refl, sym, subst}
use Rattle.std.proofs.Common.{arith}
use Rattle.std.specs.Str.{IsAscii, IsUtf8}
use Rattle.std.proofs.lemmas.Bool.Decides.{nat_tests}
use Rattle.std.proofs.lemmas.Str.{IsUtf8-from_ascii}
use Rattle.std.proofs.lemmas.Str.Ascii.{IsAscii-nil, IsAscii-cons}
use Rattle.pdn.specs.SquareText.{is_digit}
use Rattle.pdn.specs.Forms.{Form, quiet, capture}
use Rattle.pdn.specs.internal.Grammar.{IsSquareText, IsCross, AreLandings, HasForm}
use Rattle.pdn_games.specs.internal.SkipGrammar.{All}
use Rattle.pdn_games.proofs.DigitLemmas.{square-is, all-append}

-- a byte of ASCII that is seen
abbrev pub is_visible : ℕ → Bool
is_visible c = nat_lt 32 c && nat_lt c 128

visible-ascii : (text : List ℕ) → All is_visible text → IsAscii text
visible-ascii [] all = IsAscii-nil
visible-ascii (c ∷ text) all = let seen = all.0 in
    let low : c < 128 = grind (arith, nat_tests, seen) in IsAscii-cons c text low (visible-ascii text all.1)

digits-visible : (text : List ℕ) → All is_digit text → All is_visible text
digits-visible [] all = tt
digits-visible (c ∷ text) all = let digit = all.0 in (grind (arith, nat_tests, digit), digits-visible text all.1)

square-visible : (n : ℕ) (text : List ℕ) → IsSquareText n text → All is_visible text
square-visible n text is = digits-visible text (square-is n text is).digits

pub square-ascii : (n : ℕ) (text : List ℕ) → IsSquareText n text → IsAscii text
square-ascii n text is = visible-ascii text (square-visible n text is)

cross-visible : (c : ℕ) → IsCross c → is_visible c ≡ true
cross-visible c (inl is) = subst (λ x. is_visible x ≡ true) (sym is) refl
cross-visible c (inr is) = subst (λ x. is_visible x ≡ true) (sym is) refl

landings-visible : (squares : List ℕ) (text : List ℕ) → AreLandings squares text → All is_visible text
landings-visible [] text none = subst (All is_visible) (sym none) tt
landings-visible (n ∷ squares) text (landing, rest, (cross, square, crosses, is, landing_is), rest_are, split) =
    subst (All is_visible) (sym split)
    (all-append is_visible landing rest
    (subst (All is_visible) (sym landing_is) (cross-visible cross crosses, square-visible n square is))
    (landings-visible squares rest rest_are))

pub form-visible : (text : List ℕ) (form : Form) → HasForm text form → All is_visible text
form-visible text (quiet from to) (first, second, from_is, to_is, split) =
    subst (All is_visible) (sym split)
    (all-append is_visible first (45 ∷ second) (square-visible from first from_is)
    (refl, square-visible to second to_is))
form-visible text (capture from middle to) (first, landings, from_is, are, split) =
    subst (All is_visible) (sym split)
    (all-append is_visible first landings (square-visible from first from_is)
    (landings-visible (middle ++ to ∷ []) landings are))

pub form-utf8 : (text : List ℕ) (form : Form) → HasForm text form → IsUtf8 text
form-utf8 text form h = IsUtf8-from_ascii text (visible-ascii text (form-visible text form h))
