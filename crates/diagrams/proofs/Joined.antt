-- A text to which parts are added, so many from a number on.
use Rattle.std.proofs.Common.{◌≡◌, ℕ, suc, ◌+◌, ◌-◌, ◌<◌, List, ◌++◌, sym, ap, ◌∙◌, append_assoc, add-one, arith}

-- a part more
pub parts-more : (parts : ℕ → ℕ → List ℕ) (many k : ℕ) (part whole text new : List ℕ)
    → ((left : ℕ) → many - k ≡ suc left → parts k (suc left) ≡ part ++ parts (suc k) left) → k < many
    → text ++ parts k (many - k) ≡ whole → new ≡ text ++ part → new ++ parts (k + 1) (many - (k + 1)) ≡ whole
parts-more parts many k part whole text new step h before is =
    let e : many - k ≡ suc (many - (k + 1)) = omega arith in
    let left : List ℕ = parts (k + 1) (many - (k + 1)) in
    ap (λ t. t ++ left) is
    ∙ append_assoc text part left
    ∙ ap (λ n. text ++ (part ++ parts n (many - (k + 1)))) (add-one k)
    ∙ ap (λ t. text ++ t) (sym (step (many - (k + 1)) e))
    ∙ sym (ap (λ n. text ++ parts k n) e)
    ∙ before
