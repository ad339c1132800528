-- The texts of the last of those elements of a list that pass a test.
use Rattle.std.proofs.Common.{◌≡◌, append-nil, ℕ, zero, suc, List, [], ◌∷◌, ◌++◌, map, drop, Bool, refl, ap}
use Rattle.std.proofs.Common.{sym, ◌∙◌}
use Rattle.std.specs.Prelude.{filter, reverse}
use Rattle.std.proofs.lemmas.List.{map-append, reverse-append}

-- the texts of those that pass, without the first n
abbrev pub last_of : {B C : Type 0} → (B → C) → (B → Bool) → ℕ → List B → List C
last_of line test n xs = map line (drop n (filter test xs))

pub map-reverse : {A B : Type 0} (f : A → B) (xs : List A) → map f (reverse xs) ≡ reverse (map f xs)
map-reverse f [] = refl
map-reverse f (x ∷ xs) =
    ap (map f) (reverse-append (x ∷ []) xs)
    ∙ (map-append f (reverse xs) (x ∷ []) ∙ (ap (λ l. l ++ f x ∷ []) (map-reverse f xs)
    ∙ sym (reverse-append (f x ∷ []) (map f xs))))

-- nothing is left at the end of a list, and the texts are turned
pub all_newest : {B C S : Type 0} (text : S → C) (line : B → C) (test : B → Bool) (all rest : List B) (n m : ℕ)
    (done after : List S) → rest ≡ [] → map text done ++ last_of line test n rest ≡ last_of line test m all
    → after ≡ reverse done → map text after ≡ map line (reverse (drop m (filter test all)))
all_newest text line test all rest n m done after none whole turned =
    let same : map text done ≡ last_of line test m all =
    sym (append-nil (map text done)) ∙ (ap (λ l. map text done ++ l) (sym (nothing n))
    ∙ (ap (λ l. map text done ++ last_of line test n l) (sym none) ∙ whole)) in
    ap (map text) turned ∙ (map-reverse text done ∙ (ap reverse same
    ∙ sym (map-reverse line (drop m (filter test all)))))
  where
    nothing : (n : ℕ) → last_of line test n [] ≡ []
    nothing zero = refl
    nothing (suc n) = refl
