-- The clocks after moves that took no time.
use Rattle.std.proofs.Common.{◌≡◌, ℕ, zero, suc, ◌+◌, List, [], ◌∷◌, ◌++◌, length, map, refl, sym, ap, ◌∙◌, ◌≤◌}
use Rattle.std.proofs.Common.{add-one, arith}
use Rattle.squares.specs.declared.sides.Side.{Side}
use Rattle.squares.specs.declared.sides.Side.TheVariants.{First, Second}
use Rattle.squares.specs.Sides.{other}
use Rattle.club_core.specs.Game.{Clocks, turns, spend, spend_all}
use Rattle.club_core.proofs.Proved.{spend_all-append, turns-other}
use Rattle.club_laws.proofs.Proved.{entries_at}
use Rattle.club_imports.specs.internal.OneMoment.{at_moment, clocks_with}

next-one : (moment n : ℕ) → at_moment moment (suc n) ≡ at_moment moment n ++ moment ∷ []
next-one moment zero = refl
next-one moment (suc n) = ap (λ l. moment ∷ l) (next-one moment n)

one-more : (moment n : ℕ) → at_moment moment (n + 1) ≡ at_moment moment n ++ moment ∷ []
one-more moment n = ap (at_moment moment) (add-one n) ∙ next-one moment n

count : (moment n : ℕ) → length (at_moment moment n) ≡ n
count moment zero = refl
count moment (suc n) = ap suc (count moment n)

-- the clocks after one move more
pub spend-more : (increment moment n : ℕ) (c : Clocks)
    → spend increment (turns n First) moment (spend_all increment [] 0 First (at_moment moment n) c)
    ≡ spend_all increment [] 0 First (at_moment moment (n + 1)) c
spend-more increment moment n c =
    let counted = count moment n in
    ap (λ k. spend increment (turns k First) moment (spend_all increment [] 0 First (at_moment moment n) c))
    (sym counted)
    ∙ sym (spend_all-append increment [] 0 n First (at_moment moment n) moment c (omega (arith, counted)))
    ∙ ap (λ l. spend_all increment [] 0 First l c) (sym (one-more moment n))

pub turns-more : (n : ℕ) (s : Side) → turns (n + 1) s ≡ other (turns n s)
turns-more n s = ap (λ k. turns k s) (add-one n) ∙ turns-other n s

-- a move that took no time adds the increment at most
pub spend-first : (increment a b moment : ℕ) (side : Side) → increment ≤ 2592000
    → (spend increment side moment (clocks_with a b moment)).left_first ≤ a + 2592000
spend-first increment a b moment First few = omega (arith, few)
spend-first increment a b moment Second few = omega arith

pub spend-second : (increment a b moment : ℕ) (side : Side) → increment ≤ 2592000
    → (spend increment side moment (clocks_with a b moment)).left_second ≤ b + 2592000
spend-second increment a b moment First few = omega arith
spend-second increment a b moment Second few = omega (arith, few)

-- the moments of a record's entries
pub moments-at : {M : Type 0} (moment : ℕ) (ms : List M)
    → map (λ e. e.moment) (entries_at moment ms) ≡ at_moment moment (length ms)
moments-at moment [] = refl
moments-at moment (m ∷ ms) = ap (λ l. moment ∷ l) (moments-at moment ms)
