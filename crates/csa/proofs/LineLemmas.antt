-- The lines of a text, one after another.
use Rattle.std.proofs.Common.{◌≡◌, ℕ, zero, suc, ◌+◌, ◌<◌, List, [], ◌∷◌, ◌++◌, length, drop, get_or}
use Rattle.std.proofs.Common.{cond, ltb, refl, sym, ap, ◌∙◌, append_assoc, add-one, arith}
use Rattle.std.specs.Str.Lines.{lines_of_parts, strip_carriage_return}
use Rattle.std.proofs.lemmas.Bool.{lt-ltb}
use Rattle.std.proofs.lemmas.Grind.{common_steps}
use Rattle.std.proofs.Math.Dec.{eqb-suc-zero}
use Rattle.csa.specs.declared.lines.NumberedStatement.{NumberedStatement}
use Rattle.csa.specs.Lines.{statements_on, statements_from}
use Rattle.csa.specs.internal.Lines.{line_at}

-- an empty last part has no statement, as it is no line
last-part : (n : ℕ) (x : List ℕ) → statements_from n (lines_of_parts (x ∷ [])) ≡ statements_on n x ++ []
last-part n [] = refl
last-part n (c ∷ x) = ap (λ b. statements_from n (cond b [] ((c ∷ x) ∷ []))) (eqb-suc-zero (length x))

-- the statements from a part on: those of its line, and those from the next part on
lines-step : (parts : List (List ℕ)) (i n : ℕ) → i < length parts →
    statements_from n (lines_of_parts (drop i parts)) ≡ statements_on n (line_at parts i)
    ++ statements_from (suc n) (lines_of_parts (drop (suc i) parts))
lines-step [] i n h = absurd (omega (arith, h))
lines-step (x ∷ []) zero n h = last-part n x
lines-step (x ∷ y ∷ more) zero n h =
    ap (λ b. statements_on n (cond b (strip_carriage_return x) x)
    ++ statements_from (suc n) (lines_of_parts (y ∷ more))) (sym (lt-ltb 1 (length (x ∷ y ∷ more)) (omega arith)))
lines-step (x ∷ parts) (suc i) n h =
    lines-step parts i n (omega (arith, h))
    ∙ ap (λ b. statements_on n (cond b (strip_carriage_return (get_or parts i [])) (get_or parts i []))
    ++ statements_from (suc n) (lines_of_parts (drop (suc i) parts))) (sym (down i (length parts)))
  where
    down : (i n : ℕ) → ltb (suc i + 1) (suc n) ≡ ltb (i + 1) n
    down i n = grind (arith, common_steps)

-- one line more
pub lines-grow : (parts : List (List ℕ)) (i : ℕ) (old new whole : List NumberedStatement) → i < length parts
    → new ≡ old ++ statements_on (i + 1) (line_at parts i)
    → old ++ statements_from (i + 1) (lines_of_parts (drop i parts)) ≡ whole
    → new ++ statements_from (i + 1 + 1) (lines_of_parts (drop (i + 1) parts)) ≡ whole
lines-grow parts i old new whole h grown kept =
    let here : List NumberedStatement = statements_on (i + 1) (line_at parts i) in
    ap (λ l. l ++ statements_from (i + 1 + 1) (lines_of_parts (drop (i + 1) parts))) grown
    ∙ append_assoc old here _
    ∙ (λ j. old ++ (here ++ statements_from (add-one (i + 1) j) (lines_of_parts (drop (add-one i j) parts))))
    ∙ ap (λ l. old ++ l) (sym (lines-step parts i (i + 1) h))
    ∙ kept
