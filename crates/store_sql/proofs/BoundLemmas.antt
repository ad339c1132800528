-- Parameters as they are bound.
use Rattle.std.proofs.Common.{◌≡◌, ℕ, ℤ, List, ◌∷◌, Option, Some, None, refl}
use Rattle.sqlite_value.specs.declared.value.Value.{Value}
use Rattle.sqlite_value.specs.declared.value.Value.TheVariants.{Int, Text}
use Rattle.sqlite.specs.Values.{bound_value, or_null}

pub cons_is : {a b : Value} {l m : List Value} → a ≡ b → l ≡ m → a ∷ l ≡ b ∷ m
cons_is p q = rw (p, q) refl

pub maybe_int : (o : Option ℤ) → bound_value (or_null Int o) ≡ or_null Int o
maybe_int None = refl
maybe_int (Some n) = refl

pub maybe_text : {X : Type 0} (f : X → List ℕ) (o : Option X)
    → bound_value (or_null (λ x. Text (f x)) o) ≡ or_null (λ x. Text (f x)) o
maybe_text f None = refl
maybe_text f (Some x) = refl
