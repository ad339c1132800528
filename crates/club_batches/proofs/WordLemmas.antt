-- The words of a line, as `split_ascii_whitespace` finds them.
use Rattle.std.proofs.Common.{◌≡◌, ℕ, ◌<◌, ◌≤◌, true, false, List, [], ◌∷◌, ◌++◌, length, get_or, zero, suc}
use Rattle.std.proofs.Common.{refl, sym, ap, subst, ◌∙◌, ⊎_elim, append-nil, arith}
use Rattle.std.specs.Char.{is_ascii_whitespace}
use Rattle.std.specs.List.{All, AllPass, filter}
use Rattle.std.specs.Str.{NoCharPasses}
use Rattle.std.specs.Str.Iter.{split_ascii_whitespace_steps, split_ascii_whitespace_text}
use Rattle.std.proofs.lemmas.Bool.{cases_lt}
use Rattle.std.proofs.lemmas.Bool.Decides.{nat_tests}
use Rattle.std.proofs.lemmas.Iterator.{YieldsList}
use Rattle.std.proofs.lemmas.Iterator.Consumers.{YieldsList-from_shown}
use Rattle.std.proofs.lemmas.List.{nil_from_length}
use Rattle.std.proofs.lemmas.List.Elements.{All-head, All-tail}
use Rattle.std.proofs.lemmas.List.Splits.{slice_split-cons_yes, slice_split_at, slice_split_none}
use Rattle.std.proofs.lemmas.Str.{NoCharPasses-byte}
use Rattle.club_batches.specs.internal.Orders.{is_word, words_in}

-- white space in front of a text
spaces_passed : (gap text : List ℕ) → AllPass is_ascii_whitespace gap → words_in (gap ++ text) ≡ words_in text
spaces_passed [] text blank = refl
spaces_passed (c ∷ gap) text blank =
    ap (filter is_word)
    (slice_split-cons_yes is_ascii_whitespace c (gap ++ text) (All-head (λ b. is_ascii_whitespace b ≡ true) c gap blank))
    ∙ spaces_passed gap text (All-tail (λ b. is_ascii_whitespace b ≡ true) c gap blank)

blank_line : (text : List ℕ) → AllPass is_ascii_whitespace text → words_in text ≡ []
blank_line text blank = ap words_in (sym (append-nil text)) ∙ spaces_passed text [] blank

same_or : (xs : List ℕ) (k d e : ℕ) → k < length xs → get_or xs k d ≡ get_or xs k e
same_or [] k d e l = absurd (omega arith)
same_or (x ∷ xs) zero d e l = refl
same_or (x ∷ xs) (suc k) d e l = same_or xs k d e (omega arith)

high : (b : ℕ) → 128 ≤ b → is_ascii_whitespace b ≡ false
high b l = grind (arith, nat_tests)

-- a text without white space, byte by byte
no_space : (word : List ℕ) → NoCharPasses is_ascii_whitespace word → All (λ b. is_ascii_whitespace b ≡ false) word
no_space word none k d l =
    ap is_ascii_whitespace (same_or word k d 0 l)
    ∙ ⊎_elim (λ low. NoCharPasses-byte is_ascii_whitespace word k none l low) (λ at. high (get_or word k 0) at)
    (cases_lt (get_or word k 0) 128)

-- a word in front of a text
word_first : (word sep rest : List ℕ) → 0 < length word → All (λ b. is_ascii_whitespace b ≡ false) word
    → AllPass is_ascii_whitespace sep → length sep ≤ 1 → (length sep ≡ 0 → length rest ≡ 0)
    → words_in (word ++ (sep ++ rest)) ≡ word ∷ words_in rest
word_first [] sep rest some none blank one ends = absurd (omega (arith, some))
word_first (c ∷ word) [] rest some none blank one ends =
    subst (λ r. words_in ((c ∷ word) ++ ([] ++ r)) ≡ (c ∷ word) ∷ words_in r) (sym (nil_from_length rest (ends refl)))
    (ap words_in (append-nil (c ∷ word)) ∙ ap (filter is_word) (slice_split_none is_ascii_whitespace (c ∷ word) none))
word_first (c ∷ word) (s ∷ []) rest some none blank one ends =
    ap (filter is_word)
    (slice_split_at is_ascii_whitespace (c ∷ word) s rest none (All-head (λ b. is_ascii_whitespace b ≡ true) s [] blank))
word_first (c ∷ word) (s ∷ t ∷ more) rest some none blank one ends = absurd (omega (arith, one))

-- the words of a line; the fact is the call's clause `text`
pub YieldsList-from_words : {s : _} (text : List ℕ) → split_ascii_whitespace_text s ≡ text
    → YieldsList split_ascii_whitespace_steps (λ x. x.now) s (words_in text)
YieldsList-from_words {s} text at =
    subst (λ v. YieldsList split_ascii_whitespace_steps (λ x. x.now) s (words_in v)) at
    (YieldsList-from_shown split_ascii_whitespace_steps (λ x. x.now) (λ t. words_in (split_ascii_whitespace_text t))
    (λ t u cut. ap length (blank_line (split_ascii_whitespace_text t) cut.0))
    (λ t x u (some, none, fits, (gap, sep, is, blank, (white, one, ends))).
    ap words_in is
    ∙ spaces_passed gap (x.now ++ (sep ++ split_ascii_whitespace_text u)) blank
    ∙ word_first x.now sep (split_ascii_whitespace_text u) some (no_space x.now none) white one ends)
    s)
