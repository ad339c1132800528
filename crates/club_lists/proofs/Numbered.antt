-- Texts of elements, one after another.
use Rattle.std.proofs.Common.{◌≡◌, ◌+◌, ◌<◌, ℕ, suc, List, ◌++◌, length, map, drop, get_or, ap, sym, ◌∙◌, arith}
use Rattle.std.proofs.Common.{append_assoc}
use Rattle.std.proofs.Math.Seq.{drop-cons}
use Rattle.club_lists.specs.Lines.{numbered}

-- the next one is put behind those before it
pub numbered_more : {A B : Type 0} (line : ℕ → B → List ℕ) (f : A → B) (xs : List A) (k : ℕ) (d : A)
    (text part after whole : List ℕ) → k < length xs → text ++ numbered line (k + 1) (map f (drop k xs)) ≡ whole
    → part ≡ line (k + 1) (f (get_or xs k d)) → after ≡ text ++ part
    → after ++ numbered line (k + 1 + 1) (map f (drop (k + 1) xs)) ≡ whole
numbered_more line f xs k d text part after whole within before is grown =
    let next : k + 1 ≡ suc k = omega arith in
    let then : k + 1 + 1 ≡ suc (k + 1) = omega arith in
    (λ i. grown i ++ numbered line (then i) (map f (drop (next i) xs)))
    ∙ (append_assoc text part (numbered line (suc (k + 1)) (map f (drop (suc k) xs)))
    ∙ (ap (λ p. text ++ (p ++ numbered line (suc (k + 1)) (map f (drop (suc k) xs)))) is
    ∙ (ap (λ l. text ++ numbered line (k + 1) (map f l)) (sym (drop-cons xs k d within)) ∙ before)))
