-- The tags that are read are those of the grammar.
use Rattle.std.proofs.Common.{◌≡◌, ℕ, suc, ◌+◌, ◌<◌, List, [], ◌∷◌, ◌++◌, length, take, drop, Some, None, Bool, true}
use Rattle.std.proofs.Common.{false, cond, nat_eq, refl, sym, ap, subst, ◌∙◌, arith}
use Rattle.std.specs.List.{prefix_len}
use Rattle.std.specs.Option.{option_map_or}
use Rattle.std.proofs.lemmas.Bool.{ne_eqb}
use Rattle.std.proofs.Math.Seq.{take-append_seam, drop-append_seam, drop-append-add}
use Rattle.squares.specs.internal.DraughtsMarks.{nat_eq-same}
use Rattle.pdn.specs.FenItems.{past_byte}
use Rattle.pdn_games.specs.internal.SkipGrammar.{All, StopsAt}
use Rattle.pdn_games.specs.Tags.{is_name_byte, is_space, past_spaces, Part, name_front, quote_at, up_to_quote}
use Rattle.pdn_games.specs.Tags.{value_front, TagFront, with_end, with_value, with_quote, with_name, tag_front}
use Rattle.pdn_games.specs.internal.TagGrammar.{IsValue, nothing, byte, escaped, IsTag}
use Rattle.pdn_games.proofs.SkipLemmas.{by-bool, by-test, same-some, none-some, from-some, un-test, run-of, parts-run}
use Rattle.pdn_games.proofs.SkipLemmas.{run-past, some-taken}

-- values
abbrev IsValueFrom : Bool → List ℕ → Type 0
IsValueFrom false text = IsValue text
IsValueFrom true text = (c : ℕ) × (more : List ℕ) × (text ≡ c ∷ more) × IsValue more

-- so many bytes before a quote are a value
abbrev Quoted : Bool → ℕ → List ℕ → ℕ → Type 0
Quoted esc k text n = (value : List ℕ) × (rest : List ℕ) × (n ≡ k + length value) × IsValueFrom esc value
    × (text ≡ value ++ 34 ∷ rest)

quote-parts : (text : List ℕ) (k n : ℕ) (esc : Bool) → quote_at k esc text ≡ Some n → Quoted esc k text n
quote-parts [] k n esc e = none-some e
quote-parts (c ∷ text) k n true e =
    let w = quote-parts text (k + 1) n false e in
    let count = w.2 in
    (c ∷ w.0, w.1, omega (arith, count), (c, w.0, refl, w.3), ap (λ t. c ∷ t) w.4)
quote-parts (c ∷ text) k n false e =
    by-bool (λ b. option_map_or (λ next. quote_at (k + 1) next text) (cond b None (Some (nat_eq c 92))) (Some k))
    (nat_eq c 34) (Some n) e
    (λ is f. let same : k ≡ n = same-some f in
    ([], text, omega (arith, same), nothing, (λ i. nat_eq-same c 34 is i ∷ text)))
    (λ no_quote f.
    by-bool (λ b. quote_at (k + 1) b text) (nat_eq c 92) (Some n) f
    (λ is g.
    let w = quote-parts text (k + 1) n true g in
    let count = w.2 in
    let value : c ∷ w.0 ≡ 92 ∷ w.3.0 ∷ w.3.1 = (λ i. nat_eq-same c 92 is i ∷ w.3.2 i) in
    (c ∷ w.0, w.1, omega (arith, count), subst IsValue (sym value) (escaped w.3.0 w.3.1 w.3.3), ap (λ t. c ∷ t) w.4))
    (λ no_backslash g.
    let w = quote-parts text (k + 1) n false g in
    let count = w.2 in
    let value = byte c w.0 (λ x. un-test c 34 no_quote x) (λ x. un-test c 92 no_backslash x) w.3 in
    (c ∷ w.0, w.1, omega (arith, count), value, ap (λ t. c ∷ t) w.4)))

parts-quote : (value : List ℕ) → IsValue value → (k : ℕ) (rest : List ℕ)
    → quote_at k false (value ++ 34 ∷ rest) ≡ Some (k + length value)
parts-quote value nothing k rest = ap (λ n. Some n) (let same : k ≡ k + 0 = omega arith in same)
parts-quote value (byte c text no_quote no_backslash is) k rest =
    let shift : (k + 1) + length text ≡ k + suc (length text) = omega arith in
    rw (ne_eqb c 34 no_quote, ne_eqb c 92 no_backslash)
    (parts-quote text is (k + 1) rest ∙ ap (λ n. Some n) shift)
parts-quote value (escaped c text is) k rest =
    let shift : ((k + 1) + 1) + length text ≡ k + suc (suc (length text)) = omega arith in
    parts-quote text is ((k + 1) + 1) rest ∙ ap (λ n. Some n) shift

value-split : (text : List ℕ) (v : Part) → value_front text ≡ Some v → IsValue v.value × (text ≡ v.value ++ 34 ∷ v.rest)
value-split text v e =
    let at = from-some (up_to_quote text) refl (quote_at 0 false text) v e in
    let w = quote-parts text 0 at.0 false at.1 in
    let count = w.2 in
    let long : at.0 ≡ length w.0 = omega (arith, count) in
    let one : at.0 + 1 ≡ length w.0 + 1 = omega (arith, count) in
    let taken : take at.0 text ≡ w.0 = (λ i. take (long i) (w.4 i)) ∙ take-append_seam w.0 (34 ∷ w.1) in
    let left : drop (at.0 + 1) text ≡ w.1 = (λ i. drop (one i) (w.4 i)) ∙ drop-append-add w.0 (34 ∷ w.1) 1 in
    let part : record { value = take at.0 text; rest = drop (at.0 + 1) text } ≡ v = same-some at.2 in
    let whole : record { value = w.0; rest = w.1 } ≡ v =
    (λ i. record { value = sym taken i; rest = sym left i }) ∙ part in
    subst (λ (p : Part). IsValue p.value × (text ≡ p.value ++ 34 ∷ p.rest)) whole (w.3, w.4)

split-value : (value rest : List ℕ) → IsValue value
    → value_front (value ++ 34 ∷ rest) ≡ Some (record { value = value; rest = rest })
split-value value rest is =
    let text : List ℕ = value ++ 34 ∷ rest in
    let same : 0 + length value ≡ length value = omega arith in
    let at : quote_at 0 false text ≡ Some (length value) = parts-quote value is 0 rest ∙ ap (λ n. Some n) same in
    ap (up_to_quote text) at
    ∙
    (λ i.
    Some (record { value = take-append_seam value (34 ∷ rest) i; rest = drop-append-add value (34 ∷ rest) 1 i }))

byte-split : (b : ℕ) (text rest : List ℕ) → past_byte b text ≡ Some rest → text ≡ b ∷ rest
byte-split b [] rest e = none-some e
byte-split b (c ∷ text) rest e =
    by-test (nat_eq c b) (Some rest) e (λ is f. (λ i. nat_eq-same c b is i ∷ same-some f i)) (λ is f. none-some f)

-- blanks before something
spaces-split : (text : List ℕ) → (blanks : List ℕ) × All is_space blanks × (text ≡ blanks ++ past_spaces text)
spaces-split text = let w = run-of is_space text (past_spaces text) refl in
    (take (prefix_len is_space text) text, w.0.0, w.1)

split-spaces : (blanks : List ℕ) (c : ℕ) (rest : List ℕ) → All is_space blanks → is_space c ≡ false
    → past_spaces (blanks ++ c ∷ rest) ≡ c ∷ rest
split-spaces blanks c rest all none = run-past is_space blanks (c ∷ rest) (all, none)

-- names
name-unspaced : (c : ℕ) → is_name_byte c ≡ true → is_space c ≡ false
name-unspaced c is = ne_eqb c 32 (λ e. let bad : false ≡ true = sym (ap is_name_byte e) ∙ is in cc)

space-unnamed : (c : ℕ) → is_space c ≡ true → is_name_byte c ≡ false
space-unnamed c is = ap is_name_byte (nat_eq-same c 32 is)

abbrev NameSplit : List ℕ → Part → Type 0
NameSplit text n = (0 < length n.value) × All is_name_byte n.value × (text ≡ n.value ++ n.rest)

name-split : (text : List ℕ) (n : Part) → name_front text ≡ Some n → NameSplit text n
name-split text n e =
    by-test (nat_eq (prefix_len is_name_byte text) 0) (Some n) e (λ is f. none-some f) (λ is f.
    let w = run-of is_name_byte text (drop (prefix_len is_name_byte text) text) refl in
    subst (NameSplit text) (same-some f) (some-taken is_name_byte text is, w.0.0, w.1))

split-name : (name rest : List ℕ) → 0 < length name → All is_name_byte name → StopsAt is_name_byte rest
    → name_front (name ++ rest) ≡ Some (record { value = name; rest = rest })
split-name name rest some_there all stops =
    let text : List ℕ = name ++ rest in
    let long : prefix_len is_name_byte text ≡ length name = parts-run is_name_byte name rest (all, stops) in
    let other : nat_eq (length name) 0 ≡ false = ne_eqb (length name) 0 (λ x. omega (arith, x, some_there)) in
    ap (λ k. cond (nat_eq k 0) None (Some (record { value = take k text; rest = drop k text }))) long
    ∙ ap (λ b. cond b None (Some (record { value = take (length name) text; rest = drop (length name) text }))) other
    ∙ (λ i. Some (record { value = take-append_seam name rest i; rest = drop-append_seam name rest i }))

-- a tag that is read has its parts
pub tag-split : (text name value rest : List ℕ)
    → tag_front text ≡ Some (record { name = name; value = value; rest = rest }) → IsTag text name value rest
unfolding tag_front
tag-split text name value rest e =
    let tag : TagFront = record { name = name; value = value; rest = rest } in
    let (n, name_at, after_name) = from-some with_name refl (name_front (past_spaces text)) tag e in
    let (t, quote_there, after_quote) = from-some (with_quote n.value) refl (past_byte 34 (past_spaces n.rest)) tag
    after_name in
    let (v, value_at, after_value) = from-some (with_value n.value) refl (value_front t) tag after_quote in
    let (r, end_at, after_end) = from-some (with_end n.value v.value) refl (past_byte 93 (past_spaces v.rest)) tag
    after_value in
    let (first, first_blank, first_split) = spaces-split text in
    let (second, second_blank, second_split) = spaces-split n.rest in
    let (third, third_blank, third_split) = spaces-split v.rest in
    let (named, name_is, name_split) = name-split (past_spaces text) n name_at in
    let (value_is, value_split) = value-split t v value_at in
    let same : record { name = n.value; value = v.value; rest = r } ≡ tag = same-some after_end in
    subst (λ (g : TagFront). IsTag text g.name g.value g.rest) same (record {
      first = first;
      second = second;
      third = third;
      first_blank = first_blank;
      second_blank = second_blank;
      third_blank = third_blank;
      named = named;
      name_is = name_is;
      value_is = value_is;
      text_is =
          first_split
          ∙ ap (λ l. first ++ l) (name_split
          ∙ ap (λ l. n.value ++ l) (second_split
          ∙ ap (λ l. second ++ l) (byte-split 34 (past_spaces n.rest) t quote_there
          ∙ ap (λ l. 34 ∷ l) (value_split
          ∙ ap (λ l. v.value ++ 34 ∷ l) (third_split
          ∙ ap (λ l. third ++ l) (byte-split 93 (past_spaces v.rest) r end_at))))));
    })

-- and the parts of a tag are read
quote-stops : (blanks rest : List ℕ) → All is_space blanks → StopsAt is_name_byte (blanks ++ 34 ∷ rest)
quote-stops [] rest all = refl
quote-stops (c ∷ blanks) rest all = space-unnamed c all.0

before-name : (first name rest : List ℕ) → All is_space first → 0 < length name → All is_name_byte name
    → past_spaces (first ++ (name ++ rest)) ≡ name ++ rest
before-name first [] rest blank some_there all = absurd (omega (arith, some_there))
before-name first (c ∷ name) rest blank some_there all =
    split-spaces first c (name ++ rest) blank (name-unspaced c all.0)

pub split-tag : (text name value rest : List ℕ) → IsTag text name value rest
    → tag_front text ≡ Some (record { name = name; value = value; rest = rest })
unfolding tag_front
split-tag text name value rest t =
    let after_quote : List ℕ = value ++ (34 ∷ t.third ++ 93 ∷ rest) in
    let after_name : List ℕ = t.second ++ (34 ∷ after_quote) in
    ap (λ l. with_name (name_front (past_spaces l))) t.text_is
    ∙ ap (λ l. with_name (name_front l)) (before-name t.first name after_name t.first_blank t.named t.name_is)
    ∙ ap with_name (split-name name after_name t.named t.name_is (quote-stops t.second after_quote t.second_blank))
    ∙ ap (λ l. with_quote name (past_byte 34 l)) (split-spaces t.second 34 after_quote t.second_blank refl)
    ∙ ap (with_value name) (split-value value (t.third ++ 93 ∷ rest) t.value_is)
    ∙ ap (λ l. with_end name value (past_byte 93 l)) (split-spaces t.third 93 rest t.third_blank refl)
