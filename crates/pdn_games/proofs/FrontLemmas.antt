-- What stands in a written game is found as it was written.
use Rattle.std.proofs.Common.{◌≡◌, ℕ, zero, suc, ◌+◌, ◌^◌, ◌<◌, ◌≤◌, ◌⊎◌, inl, inr, List, [], ◌∷◌, ◌++◌, append_assoc}
use Rattle.std.proofs.Common.{length, take, drop, Option, Some, None, Bool, true, false, cond, nat_eq, nat_lt, ◌&&◌}
use Rattle.std.proofs.Common.{refl, sym, ap, subst, ◌∙◌, arith}
use Rattle.std.specs.Prelude.{codes}
use Rattle.std.specs.Fmt.{decimal}
use Rattle.std.specs.List.{prefix_len}
use Rattle.std.specs.Str.Parse.{AllDigits}
use Rattle.std.proofs.lemmas.Fmt.{decimal_is_IsNumeral}
use Rattle.std.proofs.lemmas.Bool.Decides.{nat_tests}
use Rattle.std.proofs.lemmas.List.{take-append-drop}
use Rattle.std.proofs.Math.Seq.{drop-append_seam, drop-append-add, take-append_seam}
use Rattle.pdn.specs.SquareText.{is_digit}
use Rattle.pdn.specs.Forms.{Form, quiet, capture}
use Rattle.pdn.specs.internal.Grammar.{IsSquareText, HasForm}
use Rattle.pdn.proofs.Proved.{le_or_more}
use Rattle.pdn_games.specs.declared.results.ResultWord.{ResultWord}
use Rattle.pdn_games.specs.declared.results.ResultWord.TheVariants as word
use Rattle.pdn_games.specs.Lengths.{both, digits_len, dots_len, number_len, move_len}
use Rattle.pdn_games.specs.Results.{word_text, result_at}
use Rattle.pdn_games.specs.internal.SkipGrammar.{All}
use Rattle.pdn_games.specs.Skips.{is_in_line, past_skipped}
use Rattle.pdn_games.specs.Tags.{tag_front}
use Rattle.pdn_games.specs.Tokens.{number, move_by, tag_token, word_len, longest, token_front, found, found_front}
use Rattle.pdn_games.specs.Tokens.{front_with, front_at}
use Rattle.pdn_games.proofs.FindLemmas.{begins-parts}
use Rattle.pdn_games.proofs.SkipLemmas.{parts-run, run-past}
use Rattle.pdn_games.proofs.DigitLemmas.{digit-other, stops-within, pass-all, both-sum, square-is}
use Rattle.pdn_games.proofs.FormTextLemmas.{is_visible, form-visible}
use Rattle.pdn_games.proofs.LongestLemmas.{captures-begin, move-least}
use Rattle.pdn_games.proofs.TokenFormLemmas.{move-of, both-none}

-- a digit is not skipped, and begins no tag
digit-unskipped : (line : Bool) (c : ℕ) (rest : List ℕ) → is_digit c ≡ true → past_skipped line (c ∷ rest) ≡ None
unfolding past_skipped
digit-unskipped line c rest is =
    let other : (k : ℕ) → is_digit k ≡ false → nat_eq c k ≡ false = λ k none. digit-other c k is none in
    rw (
      other 32 refl,
      other 9 refl,
      other 10 refl,
      other 13 refl,
      other 123 refl,
      other 36 refl,
      other 40 refl,
      other 33 refl,
      other 63 refl,
      other 59 refl,
      other 37 refl,
    ) (last line)
  where
    last : (line : Bool) → ◌≡◌ {A = Option (List ℕ)}
        (cond (line && false) (Some (drop (prefix_len is_in_line rest) rest)) None) None
    last true = refl
    last false = refl

digit-front : (line : Bool) (c : ℕ) (rest text : List ℕ) → text ≡ c ∷ rest → is_digit c ≡ true
    → front_at line true text ≡ found_front (longest text (number_len text) (move_len text) (result_at text))
unfolding front_at token_front
digit-front line c rest text split is =
    subst
    (λ t. front_at line true t ≡ found_front (longest t (number_len t) (move_len t) (result_at t))) (sym split)
    (ap (front_with true (c ∷ rest)) (digit-unskipped line c rest is)
    ∙ ap
    (λ b.
    found_front
    (cond b (tag_token (tag_front rest))
    (longest (c ∷ rest) (number_len (c ∷ rest)) (move_len (c ∷ rest)) (result_at (c ∷ rest)))))
    (digit-other c 91 is refl))

-- a text that begins with digits, at least so many, and a mark after them that is no dot
abbrev Marked : ℕ → List ℕ → Type 0
Marked least text = (ds : List ℕ) × (mark : ℕ) × (more : List ℕ) × (text ≡ ds ++ mark ∷ more) × All is_digit ds
    × (is_digit mark ≡ false) × (nat_eq mark 46 ≡ false) × (least ≤ length ds)

word-marked : (w : ResultWord) → Marked 0 (word_text w)
word-marked word.TwoNil = (50 ∷ [], 45, 48 ∷ [], refl, (refl, tt), refl, refl, omega arith)
word-marked word.OneOne = (49 ∷ [], 45, 49 ∷ [], refl, (refl, tt), refl, refl, omega arith)
word-marked word.NilTwo = (48 ∷ [], 45, 50 ∷ [], refl, (refl, tt), refl, refl, omega arith)
word-marked word.OneNil = (49 ∷ [], 45, 48 ∷ [], refl, (refl, tt), refl, refl, omega arith)
word-marked word.Halves = (49 ∷ [], 47, codes "2-1/2", refl, (refl, tt), refl, refl, omega arith)
word-marked word.NilOne = (48 ∷ [], 45, 49 ∷ [], refl, (refl, tt), refl, refl, omega arith)
word-marked word.Star = ([], 42, [], refl, tt, refl, refl, omega arith)

square-marked : (n : ℕ) (first : List ℕ) (mark : ℕ) (more text : List ℕ) → IsSquareText n first
    → text ≡ first ++ mark ∷ more → is_digit mark ≡ false → nat_eq mark 46 ≡ false → Marked 1 text
square-marked n first mark more text is split no_digit no_dot =
    let square = square-is n first is in
    let some = square.some in
    (first, mark, more, split, square.digits, no_digit, no_dot, omega (arith, some))

move-marked : (text : List ℕ) (form : Form) → HasForm text form → Marked 1 text
move-marked text (quiet from to) (first, second, from_is, to_is, split) =
    square-marked from first 45 second text from_is split refl refl
move-marked text (capture from middle to) (first, landings, from_is, are, split) =
    let begins = captures-begin middle to landings are in
    square-marked from first begins.0 begins.1 text from_is (split ∙ ap (λ l. first ++ l) begins.2) begins.3.1
    begins.3.3

marked-first : (text : List ℕ) → Marked 1 text → (d : ℕ) × (more : List ℕ) × (text ≡ d ∷ more) × (is_digit d ≡ true)
marked-first text ([], mark, more, split, all, no_digit, no_dot, some) = absurd (omega (arith, some))
marked-first text (d ∷ ds, mark, more, split, all, no_digit, no_dot, some) = (d, ds ++ mark ∷ more, split, all.0)

-- such a text does not begin with digits and a dot
undotted : {A : Type 0} (least : ℕ) (text tail ds rest : List ℕ) → Marked least text → All is_digit ds
    → ds ++ 46 ∷ rest ≡ text ++ tail → A
undotted least text tail ds rest (es, mark, more, split, others, no_digit, no_dot, long) all e =
    let same : 46 ∷ rest ≡ mark ∷ (more ++ tail) =
    sym (run-past is_digit ds (46 ∷ rest) (all, refl))
    ∙ ap (λ t. drop (digits_len t) t) (e ∙ ap (λ l. l ++ tail) split ∙ append_assoc es (mark ∷ more) tail)
    ∙ run-past is_digit es (mark ∷ (more ++ tail)) (others, no_digit) in
    let dot : 46 ≡ mark = cc in
    absurd (let bad : true ≡ false = ap (λ m. nat_eq m 46) dot ∙ no_dot in cc)

-- before digits and a dot there is no result and no move
no-result : (ds rest : List ℕ) → All is_digit ds → result_at (ds ++ 46 ∷ rest) ≡ None
no-result ds rest all = at (result_at (ds ++ 46 ∷ rest)) refl
  where
    at : (o : Option ResultWord) → result_at (ds ++ 46 ∷ rest) ≡ o → o ≡ None
    at None e = refl
    at (Some w) e = undotted 0 (word_text w) _ ds rest (word-marked w) all (begins-parts (ds ++ 46 ∷ rest) w e)

no-move : (ds rest : List ℕ) → All is_digit ds → move_len (ds ++ 46 ∷ rest) ≡ 0
no-move ds rest all = at (move_len (ds ++ 46 ∷ rest)) refl
  where
    at : (k : ℕ) → move_len (ds ++ 46 ∷ rest) ≡ k → k ≡ 0
    at zero e = refl
    at (suc k) e =
        let text : List ℕ = ds ++ 46 ∷ rest in
        let form = move-of text (omega (arith, e)) in
        undotted 1 (take (move_len text) text) (drop (move_len text) text) ds rest
        (move-marked (take (move_len text) text) form.0 form.1) all (sym (take-append-drop (move_len text) text))

-- digits, one dot, and a blank
number-exact : (ds rest : List ℕ) → All is_digit ds → 0 < length ds → number_len (ds ++ 46 ∷ 32 ∷ rest) ≡ length ds + 1
unfolding number_len
number-exact ds rest all some =
    let text : List ℕ = ds ++ 46 ∷ 32 ∷ rest in
    let digits : digits_len text ≡ length ds = parts-run is_digit ds (46 ∷ 32 ∷ rest) (all, refl) in
    let left : drop (digits_len text) text ≡ 46 ∷ 32 ∷ rest = run-past is_digit ds (46 ∷ 32 ∷ rest) (all, refl) in
    (λ i. both (digits i) (dots_len (left i))) ∙ both-sum (length ds) 1 some (omega arith)

longest-number : (text : List ℕ) (n m : ℕ) (w : Option ResultWord) → 0 < n → m ≡ 0 → w ≡ None
    → longest text n m w ≡ Some (record { token = number; rest = drop n text })
longest-number text n m w some no_move no_word =
    let more : nat_lt 0 n ≡ true = grind (arith, nat_tests) in
    rw (no_move, no_word, more) refl

digits-front : (line : Bool) (ds rest : List ℕ) → All is_digit ds → 0 < length ds
    → front_at line true (ds ++ 46 ∷ 32 ∷ rest) ≡ found number (32 ∷ rest)
digits-front line [] rest all some = absurd (omega (arith, some))
digits-front line (d ∷ ds) rest all some =
    let text : List ℕ = (d ∷ ds) ++ 46 ∷ 32 ∷ rest in
    let long = number-exact (d ∷ ds) rest all some in
    let one = longest-number text (number_len text) (move_len text) (result_at text) (omega (arith, long))
    (no-move (d ∷ ds) (32 ∷ rest) all) (no-result (d ∷ ds) (32 ∷ rest) all) in
    let left : drop (number_len text) text ≡ 32 ∷ rest = ap (λ k. drop k text) long
    ∙ drop-append-add (d ∷ ds) (46 ∷ 32 ∷ rest) 1 in
    digit-front line d (ds ++ 46 ∷ 32 ∷ rest) text refl all.0 ∙ ap found_front one ∙ ap (found number) left

-- the number of a pair of moves
values-digit : (ds : List ℕ) → AllDigits 10 ds → All is_digit ds
values-digit [] all = tt
values-digit (d ∷ ds) all = let low = all.0 in (grind (arith, nat_tests, low), values-digit ds all.1)

pub number-front : (line : Bool) (n : ℕ) (rest : List ℕ) → n < 2 ^ 64
    → front_at line true (decimal n ++ 46 ∷ 32 ∷ rest) ≡ found number (32 ∷ rest)
number-front line n rest fits =
    let numeral = (decimal_is_IsNumeral n fits).0 in
    digits-front line (decimal n) rest (values-digit (decimal n) numeral.1) numeral.0

-- a byte at which a written move ends
abbrev pub EndsMove : ℕ → Type 0
EndsMove c = (c ≡ 32) ⊎ (c ≡ 10)

end-hidden : (c : ℕ) → EndsMove c → is_visible c ≡ false
end-hidden c (inl is) = ap is_visible is
end-hidden c (inr is) = ap is_visible is

word-visible : (w : ResultWord) → All is_visible (word_text w)
word-visible word.TwoNil = pass-all is_visible (word_text word.TwoNil) refl
word-visible w = pass-all is_visible (word_text w) refl

-- a move's text begins with no number of a move
no-number : (text : List ℕ) (form : Form) (more : List ℕ) → HasForm text form → number_len (text ++ more) ≡ 0
unfolding number_len
no-number text form more h =
    let (ds, mark, rest, split, all, no_digit, no_dot, some) = move-marked text form h in
    let t : List ℕ = ds ++ mark ∷ (rest ++ more) in
    let left : drop (digits_len t) t ≡ mark ∷ (rest ++ more) = run-past is_digit ds (mark ∷ (rest ++ more))
    (all, no_digit) in
    ap number_len (ap (λ t. t ++ more) split ∙ append_assoc ds (mark ∷ rest) more)
    ∙ ap (λ l. both (digits_len t) (dots_len l)) left
    ∙ ap (λ b. both (digits_len t) (cond b (1 + dots_len (rest ++ more)) 0)) no_dot ∙ both-none (digits_len t)

longest-move : (text : List ℕ) (n m : ℕ) (w : Option ResultWord) → n ≡ 0 → word_len w < m
    → longest text n m w ≡ Some (record { token = move_by (take m text); rest = drop m text })
longest-move text n m w no_number shorter =
    let none : nat_lt m 0 ≡ false = grind (arith, nat_tests) in
    let less : nat_lt (word_len w) m ≡ true = grind (arith, nat_tests) in
    rw (no_number, none, less) refl

-- a move's text that is no result is found whole
pub move-front : (line : Bool) (text : List ℕ) (form : Form) (c : ℕ) (rest : List ℕ) → HasForm text form
    → ((w : ResultWord) → text ≡ word_text w → ⊥) → EndsMove c
    → front_at line true (text ++ c ∷ rest) ≡ found (move_by text) (c ∷ rest)
move-front line text form c rest h other ends =
    let whole : List ℕ = text ++ c ∷ rest in
    let hidden = end-hidden c ends in
    let (d, more, begins, digit) = marked-first text (move-marked text form h) in
    let some : 0 < length text = let long = ap length begins in omega (arith, long) in
    let least = move-least text form (c ∷ rest) h in
    let taken_form = move-of whole (omega (arith, some, least)) in
    let most = stops-within is_visible (move_len whole) text c rest
    (form-visible (take (move_len whole) whole) taken_form.0 taken_form.1) hidden in
    let size : move_len whole ≡ length text = omega (arith, least, most) in
    let shorter : word_len (result_at whole) < move_len whole =
    let less = word-shorter (result_at whole) refl some hidden in omega (arith, size, less) in
    let one = longest-move whole (number_len whole) (move_len whole) (result_at whole)
    (no-number text form (c ∷ rest) h) shorter in
    let taken : take (move_len whole) whole ≡ text = ap (λ k. take k whole) size ∙ take-append_seam text (c ∷ rest) in
    let left : drop (move_len whole) whole ≡ c ∷ rest = ap (λ k. drop k whole) size
    ∙ drop-append_seam text (c ∷ rest) in
    digit-front line d (more ++ c ∷ rest) whole (ap (λ t. t ++ c ∷ rest) begins) digit ∙ ap found_front one
    ∙ (λ i. found (move_by (taken i)) (left i))
  where
    word-shorter : (o : Option ResultWord) → result_at (text ++ c ∷ rest) ≡ o → 0 < length text → is_visible c ≡ false
        → word_len o < length text
    word-shorter None e some hidden = some
    word-shorter (Some w) e some hidden =
        let whole : List ℕ = text ++ c ∷ rest in
        let begun : take (length (word_text w)) whole ≡ word_text w =
        ap (take (length (word_text w))) (begins-parts whole w e)
        ∙ take-append_seam (word_text w) (drop (length (word_text w)) whole) in
        let most = stops-within is_visible (length (word_text w)) text c rest
        (subst (All is_visible) (sym begun) (word-visible w)) hidden in
        elim (le_or_more (length text) (length (word_text w))) [
          | inl as_long ↦
              let size : length (word_text w) ≡ length text = omega (arith, most, as_long) in
              absurd (other w (sym (take-append_seam text (c ∷ rest)) ∙ ap (λ k. take k whole) (sym size) ∙ begun))
          | inr less ↦ omega (arith, less)
        ]
