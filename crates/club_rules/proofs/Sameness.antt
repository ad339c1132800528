-- Tests of sameness.
use Rattle.std.proofs.Common.{◌≡◌, ◌↔◌, Bool, true, sym, ap, ◌∙◌}

-- A test that holds of each value and itself, and of no two, tells equal values.
pub tells-equal : {A : Type 0} (same : A → A → Bool) → ((a b : A) → same a b ≡ true → a ≡ b)
    → ((a : A) → same a a ≡ true) → (a b : A) → (same a b ≡ true) ↔ (a ≡ b)
tells-equal same equal itself a b = (equal a b, λ e. ap (λ c. same a c) (sym e) ∙ itself a)
