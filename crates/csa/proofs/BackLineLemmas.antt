-- Lines that are written are read as their statements.
use Rattle.std.proofs.Common.{◌≡◌, ℕ, zero, suc, ◌-◌, ◌<◌, List, [], ◌∷◌, ◌++◌, length, take, get_or, true, false, cond}
use Rattle.std.proofs.Common.{refl, ap, ◌∙◌, arith}
use Rattle.std.proofs.lemmas.Bool.Decides.{nat_tests}
use Rattle.std.proofs.lemmas.List.Splits.{slice_split_at, slice_split_none, length-slice_split}
use Rattle.std.specs.Prelude.{◌==◌}
use Rattle.std.specs.List.{All, slice_split}
use Rattle.std.specs.Str.Lines.{lines, lines_of_parts, strip_carriage_return}
use Rattle.csa.specs.declared.lines.NumberedStatement.{NumberedStatement}
use Rattle.csa.specs.declared.statements.Statement.{Statement}
use Rattle.csa.specs.declared.statements.Statement.TheVariants as statement
use Rattle.csa.specs.Statements.{statement_of}
use Rattle.csa.specs.Lines.{is_comment, is_header, placed_all, statements_on, statements_from}
use Rattle.csa.specs.internal.BackLaws.{IsOneLine}

abbrev pub Every : {X : Type 0} → (X → Type 0) → List X → Type 0
Every P [] = Unit {0}
Every P (x ∷ xs) = P x × Every P xs

pub every-all : {X : Type 0} (P : X → Type 0) (xs : List X) → Every P xs → All P xs
every-all P [] e k d h = absurd (omega (arith, h))
every-all P (x ∷ xs) e zero d h = e.0
every-all P (x ∷ xs) e (suc k) d h = every-all P xs e.1 k d (omega (arith, h))

pub every-goes : {X : Type 0} (P Q : X → Type 0) → ((x : X) → P x → Q x) → (xs : List X) → Every P xs → Every Q xs
every-goes P Q goes [] e = tt
every-goes P Q goes (x ∷ xs) e = (goes x e.0, every-goes P Q goes xs e.1)

-- a byte that ends no line, and one that stands within a statement
abbrev pub IsOfLine : ℕ → Type 0
IsOfLine c = (c == 10) ≡ false

abbrev pub IsWithin : ℕ → Type 0
IsWithin c = IsOfLine c × ((c == 13) ≡ false) × ((c == 44) ≡ false)

pub one-line : (text : List ℕ) → IsOneLine text → Every IsOfLine text
one-line [] one = tt
one-line (c ∷ text) one = let other = one.0 in ((grind (arith, nat_tests, other)), one-line text one.1)

-- ---- lines

first-of : (x : List ℕ) (parts : List (List ℕ)) → 0 < length parts
    → lines_of_parts (x ∷ parts) ≡ strip_carriage_return x ∷ lines_of_parts parts
first-of x [] h = absurd (omega (arith, h))
first-of x (y ∷ more) h = refl

-- the first line, and those after it
lines-then : (x rest : List ℕ) → Every IsOfLine x → lines (x ++ 10 ∷ rest) ≡ strip_carriage_return x ∷ lines rest
lines-then x rest within =
    let parts = length-slice_split (λ b. b == 10) rest in
    ap lines_of_parts (slice_split_at (λ b. b == 10) x 10 rest (every-all IsOfLine x within) refl)
    ∙ first-of x (slice_split (λ b. b == 10) rest) (omega (arith, parts))

-- a line of one statement, and those after it
pub statement-then : (n : ℕ) (x rest : List ℕ) (said : Statement) (after : List NumberedStatement) → Every IsOfLine x
    → statements_on n (strip_carriage_return x) ≡ record { line = n; statement = said } ∷ []
    → statements_from (suc n) (lines rest) ≡ after
    → statements_from n (lines (x ++ 10 ∷ rest)) ≡ record { line = n; statement = said } ∷ after
statement-then n x rest said after within is more =
    ap (statements_from n) (lines-then x rest within) ∙ (λ i. is i ++ more i)

-- ---- lines of one statement

pub at-within : (P : ℕ → Type 0) (l : List ℕ) (i : ℕ) → P 0 → Every P l → P (get_or l i 0)
at-within P [] i none e = none
at-within P (x ∷ l) zero none e = e.0
at-within P (x ∷ l) (suc i) none e = at-within P l i none e.1

no-return : (l : List ℕ) → Every IsWithin l → strip_carriage_return l ≡ l
no-return l e =
    ap (λ b. cond b (take (length l - 1) l) l)
    (at-within (λ c. (c == 13) ≡ false) l (length l - 1) refl
    (every-goes IsWithin (λ c. (c == 13) ≡ false) (λ c w. w.1) l e))

-- a statement alone on its line
pub alone : (n c : ℕ) (x : List ℕ) → Every IsWithin (c ∷ x) → is_comment (c ∷ x) ≡ false → is_header (c ∷ x) ≡ false
    → statements_on n (strip_carriage_return (c ∷ x)) ≡ record { line = n; statement = statement_of (c ∷ x) } ∷ []
alone n c x e comment header =
    let text : List ℕ = c ∷ x in
    let parts : List NumberedStatement = placed_all n (slice_split (λ b. b == 44) text) in
    let above : List NumberedStatement = record { line = n; statement = statement.Header } ∷ [] in
    ap (statements_on n) (no-return text e)
    ∙ ap (λ b. cond b [] (cond (is_header text) above parts)) comment
    ∙ ap (λ b. cond b above parts) header
    ∙ ap (placed_all n)
    (slice_split_none (λ b. b == 44) text
    (every-all (λ c. (c == 44) ≡ false) text (every-goes IsWithin (λ c. (c == 44) ≡ false) (λ c w. w.2) text e)))

-- ---- headers

abbrev header_at : ℕ → List NumberedStatement
header_at n = record { line = n; statement = statement.Header } ∷ []

less-one : (k : ℕ) → suc k - 1 ≡ k
less-one k = omega arith

-- a line that begins with what makes it a header, with the carriage return at its end or without
pub header-line : (n c d : ℕ) (l : List ℕ) → (d == 13) ≡ false
    → ((l : List ℕ) → statements_on n (c ∷ d ∷ l) ≡ header_at n)
    → statements_on n (strip_carriage_return (c ∷ d ∷ l)) ≡ header_at n
header-line n c d [] other is = ap (λ b. statements_on n (cond b (c ∷ []) (c ∷ d ∷ []))) other ∙ is []
header-line n c d (e ∷ l) other is =
    let text : List ℕ = c ∷ d ∷ e ∷ l in
    let short : take (length text - 1) text ≡ c ∷ d ∷ take (length l) (e ∷ l) =
    ap (λ k. take k text) (less-one (length (d ∷ e ∷ l))) in
    elim (get_or text (length text - 1) 0 == 13) as (λ b. statements_on n (cond b (take (length text - 1) text) text)
    ≡ header_at n) [
      | true ↦ ap (statements_on n) short ∙ is (take (length l) (e ∷ l))
      | false ↦ is (e ∷ l)
    ]

-- a statement alone on its line, and the lines after it
pub alone-then : (n c : ℕ) (x rest : List ℕ) (said : Statement) (after : List NumberedStatement) → Every IsWithin (c ∷ x)
    → is_comment (c ∷ x) ≡ false → is_header (c ∷ x) ≡ false → statement_of (c ∷ x) ≡ said
    → statements_from (suc n) (lines rest) ≡ after
    → statements_from n (lines (c ∷ (x ++ 10 ∷ rest))) ≡ record { line = n; statement = said } ∷ after
alone-then n c x rest said after e comment header reads =
    statement-then n (c ∷ x) rest said after (every-goes IsWithin IsOfLine (λ c w. w.0) (c ∷ x) e)
    (alone n c x e comment header ∙ ap (λ s. record { line = n; statement = s } ∷ []) reads)
