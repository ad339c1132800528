-- What is skipped is what the grammar says.
use Rattle.std.proofs.Common.{◌≡◌, ℕ, zero, suc, ◌+◌, ◌-◌, ◌<◌, ◌⊎◌, inl, inr, List, [], ◌∷◌, ◌++◌, append_assoc}
use Rattle.std.proofs.Common.{length, take, drop, Option, Some, None, Bool, true, false, cond, not, nat_eq, ◌&&◌, ◌||◌}
use Rattle.std.proofs.Common.{refl, sym, ap, subst, ◌∙◌, arith}
use Rattle.std.specs.List.{prefix_len}
use Rattle.std.specs.Option.{option_map_or}
use Rattle.std.proofs.lemmas.Bool.{and_parts, ne_eqb}
use Rattle.std.proofs.lemmas.Bool.Decides.{nat_tests}
use Rattle.std.proofs.lemmas.List.{take-append-drop}
use Rattle.std.proofs.lemmas.List.Folds.{length-prefix_len}
use Rattle.std.proofs.Math.Seq.{drop-append_seam}
use Rattle.squares.specs.internal.DraughtsMarks.{nat_eq-same}
use Rattle.pdn.specs.SquareText.{is_digit}
use Rattle.pdn_games.specs.declared.skips.Nesting.{Nesting}
use Rattle.pdn_games.specs.Lengths.{digits_len}
use Rattle.pdn_games.specs.Skips.{is_blank, is_mark, is_in_line, past_first, past_brackets, past_marks}
use Rattle.pdn_games.specs.Skips.{past_line, past_skipped}
use Rattle.pdn_games.specs.internal.SkipGrammar.{Lacks, IsRun, IsInner, nothing, byte, braces, brackets, IsSkipped}
use Rattle.pdn_games.specs.internal.SkipGrammar.{blank}
use Rattle.pdn_games.specs.internal.SkipGrammar.{comment, note, variation, marks, line_end}

-- by cases of a test that something goes by
pub by-bool : {B G : Type 0} (f : Bool → B) (b : Bool) (z : B) → f b ≡ z → (b ≡ true → f true ≡ z → G)
    → (b ≡ false → f false ≡ z → G) → G
by-bool f true z e yea nay = yea refl e
by-bool f false z e yea nay = nay refl e

pub by-test : {A G : Type 0} {x y : A} (b : Bool) (z : A) → cond b x y ≡ z → (b ≡ true → x ≡ z → G)
    → (b ≡ false → y ≡ z → G) → G
by-test {x = x} {y = y} b z e yea nay = by-bool (λ t. cond t x y) b z e yea nay

-- two values that are there are one, and none is no value
pub same-some : {A : Type 0} {x y : A} → ◌≡◌ {A = Option A} (Some x) (Some y) → x ≡ y
same-some e = cc

pub none-some : {A G : Type 0} {y : A} → ◌≡◌ {A = Option A} None (Some y) → G
none-some e = absurd (cc)

-- what is taken further only where it is there
pub from-some : {A B : Type 0} (f : Option A → Option B) → f None ≡ None → (o : Option A) (z : B) → f o ≡ Some z
    → (v : A) × (o ≡ Some v) × (f (Some v) ≡ Some z)
from-some f none None z e = none-some (sym none ∙ e)
from-some f none (Some v) z e = (v, refl, e)

-- a byte that fails a test of equality is another
pub un-test : {A : Type 0} (c b : ℕ) → nat_eq c b ≡ false → c ≡ b → A
un-test c b is x = absurd (let same : nat_eq c b ≡ true = grind (arith, nat_tests, x) in
    let bad : true ≡ false = sym same ∙ is in cc)

-- up to the first of a byte
abbrev UpTo : ℕ → List ℕ → List ℕ → Type 0
UpTo b text rest = (inside : List ℕ) × Lacks b inside × (text ≡ inside ++ b ∷ rest)

first-parts : (b : ℕ) (text rest : List ℕ) → past_first b text ≡ Some rest → UpTo b text rest
first-parts b [] rest e = none-some e
first-parts b (c ∷ text) rest e =
    by-test (nat_eq c b) (Some rest) e (λ is f. ([], tt, (λ i. nat_eq-same c b is i ∷ same-some f i)))
    (λ is f. let w = first-parts b text rest f in (c ∷ w.0, ((λ x. un-test c b is x), w.1), ap (λ t. c ∷ t) w.2))

parts-first : (b : ℕ) (inside rest : List ℕ) → Lacks b inside → past_first b (inside ++ b ∷ rest) ≡ Some rest
parts-first b [] rest lacks = let is : nat_eq b b ≡ true = grind (arith, nat_tests) in
    ap (λ t. cond t (Some rest) (past_first b rest)) is
parts-first b (c ∷ inside) rest lacks = ap (λ t. cond t (Some (inside ++ b ∷ rest)) (past_first b (inside ++ b ∷ rest)))
    (ne_eqb c b lacks.0) ∙ parts-first b inside rest lacks.1

-- runs
run-parts : (p : ℕ → Bool) (text : List ℕ) → IsRun p (take (prefix_len p text) text) (drop (prefix_len p text) text)
run-parts p [] = (tt, tt)
run-parts p (c ∷ text) =
    elim (p c) as (λ t. p c ≡ t → IsRun p (take (cond t (1 + prefix_len p text) 0) (c ∷ text))
    (drop (cond t (1 + prefix_len p text) 0) (c ∷ text))) [
      | true ↦ λ is.
          let later = run-parts p text in
          let more : suc (prefix_len p text) ≡ 1 + prefix_len p text = omega arith in
          subst (λ k. IsRun p (take k (c ∷ text)) (drop k (c ∷ text))) more ((is, later.0), later.1)
      | false ↦ λ is. (tt, is)
    ] refl

pub parts-run : (p : ℕ → Bool) (run rest : List ℕ) → IsRun p run rest → prefix_len p (run ++ rest) ≡ length run
parts-run p [] [] is = refl
parts-run p [] (c ∷ rest) is = ap (λ t. cond t (1 + prefix_len p rest) 0) is.1
parts-run p (c ∷ run) rest is =
    let later = parts-run p run rest (is.0.1, is.1) in
    ap (λ t. cond t (1 + prefix_len p (run ++ rest)) 0) is.0.0 ∙ omega (arith, later)

pub run-past : (p : ℕ → Bool) (run rest : List ℕ) → IsRun p run rest
    → drop (prefix_len p (run ++ rest)) (run ++ rest) ≡ rest
run-past p run rest is = ap (λ k. drop k (run ++ rest)) (parts-run p run rest is) ∙ drop-append_seam run rest

-- brackets and braces that are still to be closed
abbrev at : ℕ → Bool → Nesting
at depth braced = record { depth = depth; braced = braced }

abbrev Closes : ℕ → List ℕ → List ℕ → Type 0
Closes zero text rest = (inside : List ℕ) × IsInner inside × (text ≡ inside ++ 41 ∷ rest)
Closes (suc depth) text rest = (inside : List ℕ) × (more : List ℕ) × IsInner inside × (text ≡ inside ++ 41 ∷ more)
    × Closes depth more rest

abbrev ClosesFrom : ℕ → Bool → List ℕ → List ℕ → Type 0
ClosesFrom depth true text rest = (inside : List ℕ) × (more : List ℕ) × Lacks 125 inside × (text ≡ inside ++ 125 ∷ more)
    × Closes depth more rest
ClosesFrom depth false text rest = Closes depth text rest

-- something more before what is to be closed
more-front : (depth : ℕ) (front text rest : List ℕ) → ((inside : List ℕ) → IsInner inside → IsInner (front ++ inside))
    → Closes depth text rest → Closes depth (front ++ text) rest
more-front zero front text rest grows (inside, is, split) =
    (front ++ inside, grows inside is, ap (λ t. front ++ t) split ∙ sym (append_assoc front inside (41 ∷ rest)))
more-front (suc depth) front text rest grows (inside, more, is, split, later) =
    let whole = ap (λ t. front ++ t) split ∙ sym (append_assoc front inside (41 ∷ more)) in
    (front ++ inside, more, grows inside is, whole, later)

-- something enclosed before what is to be closed
enclosed : (begin end depth : ℕ) (inside more rest : List ℕ)
    → ((i : List ℕ) → IsInner i → IsInner (begin ∷ inside ++ end ∷ i)) → Closes depth more rest
    → Closes depth (begin ∷ inside ++ end ∷ more) rest
enclosed begin end depth inside more rest grows later =
    subst (λ t. Closes depth t rest) (ap (λ l. begin ∷ l) (append_assoc inside (end ∷ []) more))
    (more-front depth (begin ∷ inside ++ end ∷ []) more rest
    (λ i h. subst IsInner (ap (λ l. begin ∷ l) (sym (append_assoc inside (end ∷ []) i))) (grows i h)) later)

-- brackets that are passed are closed
opened : (depth : ℕ) (c : ℕ) (text rest : List ℕ) → c ≡ 40 → Closes (suc depth) text rest → Closes depth (c ∷ text) rest
opened depth c text rest is (inside, more, inner, split, later) =
    subst (λ t. Closes depth t rest) (sym (λ i. is i ∷ split i))
    (enclosed 40 41 depth inside more rest (λ i h. brackets inside i inner h) later)

braced : (depth : ℕ) (c : ℕ) (text rest : List ℕ) → c ≡ 123 → ClosesFrom depth true text rest
    → Closes depth (c ∷ text) rest
braced depth c text rest is (inside, more, lacks, split, later) =
    subst (λ t. Closes depth t rest) (sym (λ i. is i ∷ split i))
    (enclosed 123 125 depth inside more rest (λ i h. braces inside i lacks h) later)

closed : (depth c : ℕ) (text rest : List ℕ) → c ≡ 41
    → ((d : ℕ) → past_brackets (at d false) text ≡ Some rest → Closes d text rest) →
    option_map_or (λ next. past_brackets next text) (cond (nat_eq depth 0) None (Some (at (depth - 1) false)))
    (Some text) ≡ Some rest → Closes depth (c ∷ text) rest
closed zero c text rest is later e = let same : text ≡ rest = cc in ([], nothing, (λ i. is i ∷ same i))
closed (suc depth) c text rest is later e =
    let other : nat_eq (suc depth) 0 ≡ false = ne_eqb (suc depth) 0 (λ x. omega (arith, x)) in
    let less : suc depth - 1 ≡ depth = omega arith in
    ([], text, nothing, (λ i. is i ∷ text), later depth (rw (other, less) at e))

brackets-parts : (text rest : List ℕ) (depth : ℕ) (b : Bool) → past_brackets (at depth b) text ≡ Some rest
    → ClosesFrom depth b text rest
brackets-parts [] rest depth b e = none-some e
brackets-parts (c ∷ text) rest depth true e =
    by-bool (λ t. past_brackets (at depth (not t)) text) (nat_eq c 125) (Some rest) e
    (λ is f. ([], text, tt, (λ i. nat_eq-same c 125 is i ∷ text), brackets-parts text rest depth false f))
    (λ is f. let w = brackets-parts text rest depth true f in
    (c ∷ w.0, w.1, ((λ x. un-test c 125 is x), w.2), ap (λ t. c ∷ t) w.3, w.4))
brackets-parts (c ∷ text) rest depth false e =
    by-bool (λ t.
    after (cond t (Some (at (depth + 1) false))
    (cond (not (nat_eq c 41)) (Some (at depth (nat_eq c 123)))
    (cond (nat_eq depth 0) None (Some (at (depth - 1) false)))))) (nat_eq c 40) (Some rest) e
    (λ is f.
    opened depth c text rest (nat_eq-same c 40 is)
    (brackets-parts text rest (suc depth) false
    (sym (ap (λ k. past_brackets (at k false) text) (let more : depth + 1 ≡ suc depth = omega arith in more)) ∙ f)))
    (λ no_open f.
    by-bool (λ t.
    after (cond (not t) (Some (at depth (nat_eq c 123))) (cond (nat_eq depth 0) None (Some (at (depth - 1) false)))))
    (nat_eq c 41) (Some rest) f
    (λ is g. closed depth c text rest (nat_eq-same c 41 is) (λ d h. brackets-parts text rest d false h) g)
    (λ no_close g.
    by-bool (λ t. past_brackets (at depth t) text) (nat_eq c 123) (Some rest) g
    (λ is h. braced depth c text rest (nat_eq-same c 123 is) (brackets-parts text rest depth true h))
    (λ no_brace h.
    more-front depth (c ∷ []) text rest (λ i inner.
    byte c i (λ x. un-test c 40 no_open x) (λ x. un-test c 41 no_close x) (λ x. un-test c 123 no_brace x) inner)
    (brackets-parts text rest depth false h))))
  where
    after : Option Nesting → Option (List ℕ)
    after o = option_map_or (λ next. past_brackets next text) o (Some text)

-- and brackets that are closed are passed
braces-pass : (depth : ℕ) (inside rest : List ℕ) → Lacks 125 inside
    → past_brackets (at depth true) (inside ++ 125 ∷ rest) ≡ past_brackets (at depth false) rest
braces-pass depth [] rest lacks = refl
braces-pass depth (c ∷ inside) rest lacks =
    ap (λ t. past_brackets (at depth (not t)) (inside ++ 125 ∷ rest)) (ne_eqb c 125 lacks.0)
    ∙ braces-pass depth inside rest lacks.1

close-deep : (depth : ℕ) (text : List ℕ)
    → past_brackets (at (depth + 1) false) (41 ∷ text) ≡ past_brackets (at depth false) text
close-deep depth text =
    let other : nat_eq (depth + 1) 0 ≡ false = ne_eqb (depth + 1) 0 (λ x. omega (arith, x)) in
    let less : (depth + 1) - 1 ≡ depth = omega arith in
    rw (other, less) refl

inner-pass : (inside : List ℕ) → IsInner inside → (depth : ℕ) (text : List ℕ)
    → past_brackets (at depth false) (inside ++ text) ≡ past_brackets (at depth false) text
inner-pass inside nothing depth text = refl
inner-pass inside (byte c t no_open no_close no_brace inner) depth text =
    let e1 = ne_eqb c 40 no_open in
    let e2 = ne_eqb c 41 no_close in
    let e3 = ne_eqb c 123 no_brace in
    rw (e1, e2, e3) (inner-pass t inner depth text)
inner-pass inside (braces i t lacks inner) depth text =
    ap (past_brackets (at depth true)) (append_assoc i (125 ∷ t) text) ∙ braces-pass depth i (t ++ text) lacks
    ∙ inner-pass t inner depth text
inner-pass inside (brackets i t within inner) depth text =
    ap (past_brackets (at (depth + 1) false)) (append_assoc i (41 ∷ t) text)
    ∙ inner-pass i within (depth + 1) (41 ∷ (t ++ text)) ∙ close-deep depth (t ++ text)
    ∙ inner-pass t inner depth text

pub run-of : (p : ℕ → Bool) (text rest : List ℕ) → drop (prefix_len p text) text ≡ rest
    → IsRun p (take (prefix_len p text) text) rest × (text ≡ take (prefix_len p text) text ++ rest)
run-of p text rest e =
    let run : List ℕ = take (prefix_len p text) text in
    (subst (IsRun p run) e (run-parts p text), sym (take-append-drop (prefix_len p text) text) ∙ ap (λ l. run ++ l) e)

the-line : (line : Bool) (c : ℕ) (text rest : List ℕ) → (c ≡ 59) ⊎ ((c ≡ 37) × (line ≡ true)) → past_line text ≡ rest
    → IsSkipped line (c ∷ text) rest
the-line line c text rest why e = let w = run-of is_in_line text rest e in
    line_end c (take (prefix_len is_in_line text) text) why w.0 (ap (λ l. c ∷ l) w.1)

-- a run that is not empty
pub some-taken : (p : ℕ → Bool) (text : List ℕ) → nat_eq (prefix_len p text) 0 ≡ false
    → 0 < length (take (prefix_len p text) text)
some-taken p text some_there =
    let long = length-prefix_len p text in
    let some : 0 < prefix_len p text = grind (arith, nat_tests, some_there) in
    omega (arith, long, some)

-- what is skipped has its parts, test by test in the order of the tests
pub skipped-parts : (line : Bool) (text rest : List ℕ) → past_skipped line text ≡ Some rest → IsSkipped line text rest
unfolding past_skipped
skipped-parts line [] rest e = none-some e
skipped-parts line (c ∷ text) rest e =
    by-test (is_blank c) (Some rest) e (λ is f. blank c is (ap (λ l. c ∷ l) (same-some f))) (λ no_blank e1.
    by-test (nat_eq c 123) (Some rest) e1
    (λ is f. let w = first-parts 125 text rest f in comment w.0 w.1 (λ i. nat_eq-same c 123 is i ∷ w.2 i))
    (λ no_brace e2.
    by-test (nat_eq c 36) (Some rest) e2
    (λ is f.
    by-test (nat_eq (digits_len text) 0) (Some rest) f (λ none g. none-some g) (λ some_there g.
    let w = run-of is_digit text rest (same-some g) in
    note (take (digits_len text) text) (some-taken is_digit text some_there) w.0
    (λ i. nat_eq-same c 36 is i ∷ w.1 i))) (λ no_note e3.
    by-test (nat_eq c 40) (Some rest) e3
    (λ is f. let w = brackets-parts text rest 0 false f in variation w.0 w.1 (λ i. nat_eq-same c 40 is i ∷ w.2 i))
    (λ no_bracket e4.
    by-test (is_mark c) (Some rest) e4
    (λ is f. let w = run-of is_mark text rest (same-some f) in
    marks c (take (prefix_len is_mark text) text) is w.0 (ap (λ l. c ∷ l) w.1)) (λ no_mark e5.
    by-test (nat_eq c 59) (Some rest) e5
    (λ is f. the-line line c text rest (inl (nat_eq-same c 59 is)) (same-some f)) (λ no_semicolon e6.
    by-test (line && nat_eq c 37) (Some rest) e6
    (λ is f. let w = and_parts line (nat_eq c 37) is in
    the-line line c text rest (inr (nat_eq-same c 37 w.1, w.0)) (same-some f)) (λ no_percent f. none-some f)))))))

mark-front : (line : Bool) (c : ℕ) (text : List ℕ) → is_mark c ≡ true
    → past_skipped line (c ∷ text) ≡ Some (past_marks text)
unfolding past_skipped
mark-front line c text is =
    by-bool (λ b. b || nat_eq c 63) (nat_eq c 33) true is
    (λ f g. ap (λ x. past_skipped line (x ∷ text)) (nat_eq-same c 33 f))
    (λ f g. ap (λ x. past_skipped line (x ∷ text)) (nat_eq-same c 63 g))

pub parts-skipped : (line : Bool) (text rest : List ℕ) → IsSkipped line text rest → past_skipped line text ≡ Some rest
unfolding past_skipped
parts-skipped line text rest (blank c is split) = ap (past_skipped line) split
    ∙ rw is refl
parts-skipped line text rest (comment inside lacks split) = ap (past_skipped line) split
    ∙ parts-first 125 inside rest lacks
parts-skipped line text rest (note digits some_there run split) =
    let long : digits_len (digits ++ rest) ≡ length digits = parts-run is_digit digits rest run in
    let other : nat_eq (length digits) 0 ≡ false = ne_eqb (length digits) 0 (λ x. omega (arith, x, some_there)) in
    ap (past_skipped line) split ∙ rw (long, other) (ap (λ l. Some l) (drop-append_seam digits rest))
parts-skipped line text rest (variation inside inner split) = ap (past_skipped line) split
    ∙ inner-pass inside inner 0 (41 ∷ rest)
parts-skipped line text rest (marks c run is mark_run split) = ap (past_skipped line) split
    ∙ mark-front line c (run ++ rest) is ∙ ap (λ l. Some l) (run-past is_mark run rest mark_run)
parts-skipped line text rest (line_end c run (inl is) in_line split) =
    ap (past_skipped line) split ∙ ap (λ x. past_skipped line (x ∷ run ++ rest)) is
    ∙ ap (λ l. Some l) (run-past is_in_line run rest in_line)
parts-skipped line text rest (line_end c run (inr (is, begins)) in_line split) =
    ap (past_skipped line) split ∙ (λ i. past_skipped (begins i) (is i ∷ run ++ rest))
    ∙ ap (λ l. Some l) (run-past is_in_line run rest in_line)
