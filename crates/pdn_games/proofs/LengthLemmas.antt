-- Landings one after another.
use Rattle.std.proofs.Common.{◌≡◌, ℕ, zero, suc, ◌+◌, ◌-◌, ◌<◌, List, length, drop, false, if◌then◌else◌, refl, ap, ◌∙◌}
use Rattle.std.proofs.Common.{arith}
use Rattle.std.specs.Prelude.{◌==◌}
use Rattle.std.proofs.lemmas.Bool.{ne_eqb}
use Rattle.std.proofs.lemmas.List.{drop-drop}
use Rattle.pdn_games.specs.Lengths.{landing_len, landings_within, landings_len}

-- where none begins, there is none
pub within-none : (n : ℕ) (text : List ℕ) → landing_len text ≡ 0 → landings_within n text ≡ 0
unfolding landings_within
within-none zero text none = refl
within-none (suc n) text none = ap (λ k. if k == 0 then 0 else k + landings_within n (drop k text)) none

-- one, and those after it
pub within-more : (n k : ℕ) (text : List ℕ) → landing_len text ≡ k → 0 < k
    → landings_within (suc n) text ≡ k + landings_within n (drop k text)
unfolding landings_within
within-more n k text is some =
    let there : (k == 0) ≡ false = ne_eqb k 0 (λ none. omega (arith, none, some)) in
    ap (λ l. if l == 0 then 0 else l + landings_within n (drop l text)) is
    ∙ ap (λ b. if b then 0 else k + landings_within n (drop k text)) there

-- the loop goes past one
pub passes-one : (text : List ℕ) (total i p k whole : ℕ) → i < total → landing_len (drop p text) ≡ k → 0 < k
    → p + landings_within (total - i) (drop p text) ≡ whole
    → (p + k) + landings_within (total - (i + 1)) (drop (p + k) text) ≡ whole
passes-one text total i p k whole h is some kept =
    let fuel : total - i ≡ suc (total - (i + 1)) = omega (arith, h) in
    let one = ap (λ n. landings_within n (drop p text)) fuel ∙ within-more (total - (i + 1)) k (drop p text) is some
    ∙ ap (λ l. k + landings_within (total - (i + 1)) l) (drop-drop k p text) in
    omega (arith, one, kept)

-- the loop ends where none begins
pub ends-there : (text : List ℕ) (n p whole : ℕ) → landing_len (drop p text) ≡ 0
    → p + landings_within n (drop p text) ≡ whole → p ≡ whole
ends-there text n p whole none kept =
    let last = within-none n (drop p text) none in
    omega (arith, last, kept)

-- or where the text ends
pub ends-out : (text : List ℕ) (n p whole : ℕ) → n ≡ 0 → p + landings_within n (drop p text) ≡ whole → p ≡ whole
unfolding landings_within
ends-out text n p whole out kept =
    let last : landings_within n (drop p text) ≡ 0 = ap (λ k. landings_within k (drop p text)) out in
    omega (arith, last, kept)

pub begins : (text : List ℕ) → 0 + landings_within (length text - 0) text ≡ landings_len text
unfolding landings_len
begins text =
    let same : length text - 0 ≡ length text = omega arith in
    let kept = ap (λ n. landings_within n text) same in
    omega (arith, kept)
