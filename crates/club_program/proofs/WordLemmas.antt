-- The words to parse, put together.
use Rattle.std.proofs.Common.{◌≡◌, ◌∙◌, ℕ, List, Option, ap, sym, map, min, take, drop, length, option_map, subst, refl}
use Rattle.std.proofs.lemmas.List.{take-map, drop-map, take_min, drop_min}
use Rattle.club_program.specs.internal.CommandLine.{file_at, file_behind, plain_path, plain_words, with_file}

put_together : (words taken options rest : List (List ℕ)) (path : Option (List ℕ))
    → options ≡ take (file_at words) words → rest ≡ drop (file_at words) words
    → path ≡ option_map plain_path (file_behind rest) → taken ≡ with_file options rest path → taken ≡ plain_words words
put_together words taken options rest path o r p t =
    let Of : List (List ℕ) → Type 0 = λ front. with_file front (drop (file_at words) words)
    (option_map plain_path (file_behind (drop (file_at words) words))) ≡ plain_words words in
    let From : List (List ℕ) → Type 0 = λ back. with_file options back (option_map plain_path (file_behind back))
    ≡ plain_words words in
    t ∙ (ap (with_file options rest) p ∙ subst From (sym r) (subst Of (sym o) refl))

-- the words that were put together are the ones to parse
pub are_plain : {X : Type 0} (text : X → List ℕ) (given front back : List X) (words taken : List (List ℕ)) (n at : ℕ)
    (path : Option (List ℕ)) → map text given ≡ words → n ≡ file_at (map text given) → at ≡ min n (length given)
    → front ≡ take at given → back ≡ drop at given → path ≡ option_map plain_path (file_behind (map text back))
    → taken ≡ with_file (map text front) (map text back) path → taken ≡ plain_words words
are_plain text given front back words taken n at path g i a f b p t =
    put_together words taken (map text front) (map text back) path
    (ap (map text) (f ∙ (ap (λ k. take k given) a ∙ take_min n given)) ∙ (sym (take-map text n given)
    ∙ (ap (take n) g ∙ ap (λ k. take k words) (i ∙ ap file_at g))))
    (ap (map text) (b ∙ (ap (λ k. drop k given) a ∙ drop_min n given)) ∙ (sym (drop-map text n given)
    ∙ (ap (drop n) g ∙ ap (λ k. drop k words) (i ∙ ap file_at g))))
    p t
