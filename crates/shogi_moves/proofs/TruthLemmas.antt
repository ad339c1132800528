-- Tests and what they show.
use Rattle.std.proofs.Common.{◌≡◌, ℕ, zero, suc, ◌+◌, ◌<◌, ◌≤◌, Bool, true, false, ◌&&◌, nat_eq, nat_le, inl, inr}
use Rattle.std.proofs.Common.{Option, Some, None, refl, sym, ap, ◌∙◌, subst, arith}
use Rattle.std.specs.Prelude.{IsTrue, ◌↔◌, not}
use Rattle.std.specs.List.{range_with_len, list_any}
use Rattle.std.specs.Option.{option_map_or}
use Rattle.std.proofs.lemmas.Bool.{and_parts, and_from, cases_eq, eqb-true, eq-eqb, leb-true, le-leb}
use Rattle.squares.specs.internal.In.{In, list_any-found, list_any-finds}
use Rattle.shogi_moves.specs.Search.{all_squares}

In-range : (a n v : ℕ) → a ≤ v → v < a + n → In v (range_with_len a n)
In-range a zero v h k = absurd (omega arith)
In-range a (suc n) v h k =
    elim (cases_eq a v) [ inl e ↦ inl e | inr differs ↦ inr (In-range (a + 1) n v (omega arith) (omega arith)) ]

range-In : (a n v : ℕ) → In v (range_with_len a n) → (a ≤ v) × (v < a + n)
range-In a zero v h = absurd h
range-In a (suc n) v (inl e) = (omega arith, omega arith)
range-In a (suc n) v (inr h) = let w = range-In (a + 1) n v h in (omega (arith, w.0), omega (arith, w.1))

pub In-all_squares : (n : ℕ) → n < 81 → In n all_squares
unfolding all_squares
In-all_squares n h = In-range 0 81 n (omega arith) (omega arith)

-- some square of the board is as said
pub record SomeSquare (P : ℕ → Type 0) : Type 0 where
  pub square : ℕ
  pub on_board : square < 81
  pub holds : P square

pub some_square-is : (f : ℕ → Bool) (P : ℕ → Type 0) → ((n : ℕ) → IsTrue (f n) ↔ P n)
    → IsTrue (list_any f all_squares) ↔ SomeSquare P
unfolding all_squares
some_square-is f P each = (
  λ e. let w = list_any-found f all_squares e in
      record { square = w.0; on_board = (range-In 0 81 w.0 w.1).1; holds = (each w.0).0 w.2 },
  λ s. list_any-finds f all_squares s.square (In-all_squares s.square s.on_board) ((each s.square).1 s.holds),
)

-- a test of what is there
pub standing-is : {A : Type 0} (f : A → Bool) (o : Option A)
    → IsTrue (option_map_or f o false) ↔ ((a : A) × (o ≡ Some a) × (f a ≡ true))
standing-is f None = (λ e. cc, λ w. let e = w.1 in cc)
standing-is f (Some a) = (λ e. (a, refl, e), λ w. ap (λ o. option_map_or f o false) w.1 ∙ w.2)

-- an answer that is a test which holds where the fact does
pub holds-as : {P : Type 0} (r v : Bool) → r ≡ v → (IsTrue v ↔ P) → IsTrue r ↔ P
holds-as {P} r v e h = subst (λ (c : Bool). IsTrue c ↔ P) (sym e) h

pub not-is : {P : Type 0} (b : Bool) → (IsTrue b ↔ P) → IsTrue (not b) ↔ (P → ⊥)
not-is true h = (λ e x. cc, λ none. absurd (none (h.0 refl)))
not-is false h = (λ _ x. let e = h.1 x in cc, λ _. refl)

pub and-is : {P Q : Type 0} (a b : Bool) → (IsTrue a ↔ P) → (IsTrue b ↔ Q) → IsTrue (a && b) ↔ (P × Q)
and-is a b h k = (λ e. let w = and_parts a b e in (h.0 w.0, k.0 w.1), λ w. and_from a b (h.1 w.0) (k.1 w.1))

pub same-is : (m n : ℕ) → IsTrue (nat_eq m n) ↔ (m ≡ n)
same-is m n = (eqb-true m n, eq-eqb m n)

pub at_most-is : (m n : ℕ) → IsTrue (nat_le m n) ↔ (m ≤ n)
at_most-is m n = (leb-true m n, le-leb m n)
