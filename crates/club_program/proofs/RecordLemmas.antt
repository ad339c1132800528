-- The first bytes of a reader.
use Rattle.std.proofs.Common.{◌≡◌, ◌++◌, ℕ, List, [], Option, Some, None, take, ap, ◌∙◌, subst}
use Rattle.std.specs.Prelude.{IfSome, option_map}

of_given : (given : Option (List ℕ)) (limit most : ℕ) (was now : List ℕ) → limit ≡ most → was ≡ []
    → IfSome (option_map (take limit) given) (λ xs. now ≡ was ++ xs) → IfSome given (λ bytes. now ≡ take most bytes)
of_given None limit most was now is none reads = tt
of_given (Some bytes) limit most was now is none reads =
    reads ∙ (ap (λ front. front ++ take limit bytes) none ∙ ap (λ n. take n bytes) is)

-- all that a limited reader gave, added to nothing
pub read_taken : (given inner : Option (List ℕ)) (limit most : ℕ) (was now : List ℕ) → inner ≡ given → limit ≡ most
    → was ≡ [] → IfSome (option_map (take limit) inner) (λ xs. now ≡ was ++ xs)
    → IfSome given (λ bytes. now ≡ take most bytes)
read_taken given inner limit most was now same is none reads =
    let P : Option (List ℕ) → Type 0 = λ o. IfSome (option_map (take limit) o) (λ xs. now ≡ was ++ xs) in
    of_given given limit most was now is none (subst P same reads)
