-- What is found passes the test, and a text is at least as long as what it begins with.
use Rattle.std.proofs.Common.{◌≡◌, ℕ, ◌≤◌, List, [], ◌∷◌, ◌++◌, length, drop, Some, Bool, true}
use Rattle.std.proofs.Common.{refl, sym, ap, ◌∙◌, arith}
use Rattle.std.specs.Prelude.{find}
use Rattle.std.proofs.lemmas.List.{length-append}
use Rattle.std.proofs.lemmas.Slice.Eq.{starts_is}
use Rattle.std.proofs.lemmas.Bool.Decides.{Decides-eqb}
use Rattle.pdn_games.specs.declared.results.ResultWord.{ResultWord}
use Rattle.pdn_games.specs.Results.{word_text, begins_with, words, result_at}
use Rattle.pdn_games.proofs.SkipLemmas.{by-test, same-some, none-some}

found-passes : {X : Type 0} (p : X → Bool) (xs : List X) (x : X) → find p xs ≡ Some x → p x ≡ true
found-passes p [] x found = none-some found
found-passes p (y ∷ xs) x found =
    by-test (p y) (Some x) found (λ is f. ap p (sym (same-some f)) ∙ is) (λ is f. found-passes p xs x f)

-- a text with a result at its front
pub begins-parts : (text : List ℕ) (w : ResultWord) → result_at text ≡ Some w
    → text ≡ word_text w ++ drop (length (word_text w)) text
unfolding result_at
begins-parts text w found = (starts_is Decides-eqb text (word_text w) (begins_with text w) refl).0
    (found-passes (begins_with text) words w found)

-- a result that a text begins with is no longer than the text
pub result-within : (text : List ℕ) (w : ResultWord) → result_at text ≡ Some w → length (word_text w) ≤ length text
result-within text w found =
    let long = ap length (begins-parts text w found) ∙ length-append (word_text w) (drop (length (word_text w)) text) in
    omega (arith, long)
