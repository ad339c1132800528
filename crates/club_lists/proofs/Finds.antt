-- The place of a row in a list is the id of what the row stands for.
use Rattle.std.proofs.Common.{◌≡◌, ℕ, suc, ◌+◌, List, [], ◌∷◌, length, map, Option, Some, None, Bool, true, false, not}
use Rattle.std.proofs.Common.{cond, refl, arith, ltb}
use Rattle.std.proofs.lemmas.Bool.Decides.{nat_tests}
use Rattle.std.specs.Prelude.{if◌then◌else◌}
use Rattle.std.specs.Option.{option_map}
use Rattle.std.specs.List.{position, position_or_len}
use Rattle.club_core.specs.Members.{find_id}

found-next : (b : Bool) (n len : ℕ) (rest : Option ℕ) → rest ≡ option_map suc (cond (ltb n len) (Some n) None)
    → (if b then Some 1 else option_map suc rest) ≡ option_map suc
    (cond (ltb (cond (not b) (1 + n) 0) (suc len)) (Some (cond (not b) (1 + n) 0)) None)
found-next true n len rest is = grind (arith, nat_tests)
found-next false n len rest is = grind (arith, nat_tests)

pub find_id-position : {A B : Type 0} (test : B → Bool) (f : A → B) (xs : List A)
    → find_id test (map f xs) ≡ option_map suc (position (λ x. test (f x)) xs)
find_id-position test f [] = refl
find_id-position test f (x ∷ xs) =
    found-next (test (f x)) (position_or_len (λ y. test (f y)) xs) (length xs) (find_id test (map f xs))
    (find_id-position test f xs)
