-- Words that stand one behind the other are told apart again.
use Rattle.std.proofs.Common.{◌≡◌, ◌<◌, ◌==◌, ℕ, List, [], ◌∷◌, ◌++◌, length, map, take, get_or, refl, sym, ap}
use Rattle.std.proofs.Common.{◌∙◌, arith}
use Rattle.std.proofs.Common.{append_assoc, ne_eqb, string_bytes, zero, suc, ◌+◌, add-one}
use Rattle.std.proofs.lemmas.List.{length-map, length-take-le, map-append}
use Rattle.std.specs.declared.alloc.Global.{Global}
use Rattle.std.specs.Prelude.{String}
use Rattle.std.proofs.Math.Seq.{take-suc}
use Rattle.std.proofs.lemmas.List.Splits.{slice_split_at, slice_split_none}
use Rattle.control_socket.specs.internal.Asking.{AreWords, joined, parted}

pub join_more : (xs : List (List ℕ)) (x : List ℕ) → 0 < length xs → joined (xs ++ x ∷ []) ≡ joined xs ++ 0 ∷ x
join_more [] x some = absurd (omega arith)
join_more (a ∷ []) x some = refl
join_more (a ∷ b ∷ xs) x some =
    ap (λ (l : List ℕ). a ++ 0 ∷ l) (join_more (b ∷ xs) x (omega arith))
    ∙ sym (append_assoc a (0 ∷ joined (b ∷ xs)) (0 ∷ x))

pub parted_joined : (words : List (List ℕ)) → AreWords words → parted (joined words) ≡ words
parted_joined [] are = absurd are
parted_joined (x ∷ []) are =
    slice_split_none (λ b. b == 0) x (λ k d h. ne_eqb (get_or x k d) 0 (are k d h))
parted_joined (x ∷ y ∷ words) are =
    slice_split_at (λ b. b == 0) x 0 (joined (y ∷ words)) (λ k d h. ne_eqb (get_or x k d) 0 (are.0 k d h)) refl
    ∙ ap (λ (l : List (List ℕ)). x ∷ l) (parted_joined (y ∷ words) are.1)

-- one word more
pub join_step : (words : List (String Global)) (k : ℕ) (w : String Global) (before after : List ℕ) → k < length words
    → get_or words k w ≡ w → (k ≡ 0 → after ≡ before ++ string_bytes w)
    → (0 < k → after ≡ before ++ 0 ∷ string_bytes w) → before ≡ joined (map string_bytes (take k words))
    → after ≡ joined (map string_bytes (take (k + 1) words))
join_step words zero w before after lt is first next was =
    rw (first refl, was, take-suc words 0 w lt, is) refl
join_step words (suc k) w before after lt is first next was =
    let so_far = map string_bytes (take (suc k) words) in
    let some : 0 < length so_far =
    omega (arith, length-map (take (suc k) words) string_bytes, length-take-le (suc k) words (omega arith)) in
    let more = map-append string_bytes (take (suc k) words) (w ∷ []) in
    rw (next (omega arith), was, add-one, take-suc words (suc k) w lt, is, more, join_more so_far _ some) refl
