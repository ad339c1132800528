-- Orders that are added one by one.
use Rattle.std.proofs.Common.{◌≡◌, ℕ, ◌+◌, List, [], ◌∷◌, ◌++◌, map, sym, ap, ◌∙◌, append_assoc, arith}
use Rattle.std.proofs.lemmas.List.{map-append}
use Rattle.std.proofs.lemmas.List.FromFn.{map-range_with_len_more}
use Rattle.club_batches.specs.Seats.{numbers_to}

-- one more of what is told of the elements of a list
pub one_more : {X Y Z : Type 0} (f : X → Z) (g : Y → Z) (xs more : List X) (x : X) (left next all : List Y) (y : Y)
    → more ≡ xs ++ x ∷ [] → left ≡ y ∷ next → f x ≡ g y → map f xs ++ map g left ≡ map g all
    → map f more ++ map g next ≡ map g all
one_more f g xs more x left next all y grown at same before =
    ap (λ l. map f l ++ map g next) grown
    ∙ (ap (λ l. l ++ map g next) (map-append f xs (x ∷ []))
    ∙ (append_assoc (map f xs) (f x ∷ []) (map g next)
    ∙ (ap (λ z. map f xs ++ z ∷ map g next) same
    ∙ (ap (λ l. map f xs ++ map g l) (sym at) ∙ before))))

pub one_number : (numbers more : List ℕ) (k number : ℕ) → more ≡ numbers ++ number ∷ [] → numbers ≡ numbers_to k
    → number ≡ k + 1 → more ≡ numbers_to (k + 1)
one_number numbers more k number grown at is =
    grown ∙ (ap (λ l. l ++ number ∷ []) at ∙ (ap (λ n. numbers_to k ++ n ∷ []) is
    ∙ sym (map-range_with_len_more (λ place. place + 1) 0 k k (omega arith))))
