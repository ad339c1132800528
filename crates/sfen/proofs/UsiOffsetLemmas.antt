-- A text that is no move's is refused where its longest beginning ends that begins one.
use Rattle.std.proofs.Common.{◌≡◌, ℕ, zero, suc, ◌+◌, ◌<◌, ◌≤◌, List, [], ◌∷◌, ◌++◌, length, take, drop, get_or, Bool}
use Rattle.std.proofs.Common.{true, false, cond, refl, ap, ◌∙◌, arith, lit≤, ◌-◌, max, is_some, Option, Some, None, sym}
use Rattle.std.proofs.Common.{subst, inl, inr}
use Rattle.std.proofs.lemmas.List.{at_drop_more}
use Rattle.sfen.specs.declared.usi_reading.UsiField.{UsiField}
use Rattle.sfen.specs.UsiReading.{fits, reach, step_places, drop_places, usi_reach, usi_reading, kind_reading, is_file}
use Rattle.sfen.specs.UsiReading.{is_rank}
use Rattle.std.proofs.lemmas.Bool.{cases_lt, eqb-true}
use Rattle.squares.specs.declared.shogi.piece.HandKind.{HandKind}
use Rattle.squares.specs.declared.shogi.moves.SMove.{SMove}
use Rattle.squares.specs.declared.shogi.moves.SMove.TheVariants.{Step, Drop}
use Rattle.squares.specs.ShogiGeometry.{shogi_number, file_of, rank_of}
use Rattle.squares.specs.ShogiPieces.{on_board}
use Rattle.sfen.specs.Letters.{capital}
use Rattle.sfen.specs.UsiText.{usi_text}
use Rattle.sfen.specs.internal.UsiText.{IsOnBoard, IsUsiText, BeginsUsi, IsLongestUsiBeginning, IsNoUsi}
use Rattle.sfen.proofs.UsiTextLemmas.{square-bytes, is_file-text, is_rank-text, kind_reading-text, kind_reading-sound}
use Rattle.sfen.proofs.UsiTextLemmas.{usi_reading-sound, text-read}

-- no text goes farther than its end
pub reach-within : (places : List UsiField) (text : List ℕ) → reach places text ≤ length text
reach-within [] text = omega arith
reach-within (p ∷ places) [] = omega arith
reach-within (p ∷ places) (c ∷ text) =
    let rest = reach-within places text in
    elim (fits p c) as (λ b. cond b (suc (reach places text)) 0 ≤ suc (length text))
    [ true ↦ omega (arith, rest) | false ↦ omega arith ]

-- a byte that does not fit
pub reach-stops : (places : List UsiField) (k : ℕ) (d : UsiField) (text : List ℕ) → k < length places → 1 ≤ length text
    → fits (get_or places k d) (get_or text 0 0) ≡ false → reach (drop k places) text ≡ 0
reach-stops places k d [] h some e = absurd (omega (arith, some))
reach-stops places k d (c ∷ text) h some e =
    at_drop_more (λ ps. reach ps (c ∷ text)) places k d h
    ∙ ap (λ b. cond b (suc (reach (drop (k + 1) places) text)) 0) e

pub reach-empty : (places : List UsiField) → reach places [] ≡ 0
reach-empty [] = refl
reach-empty (p ∷ places) = refl

-- where a beginning goes on to a text that fits, the text goes as far as this beginning
pub reach-begin : (places : List UsiField) (n : ℕ) (text rest : List ℕ) → n ≤ length text
    → length (take n text ++ rest) ≤ reach places (take n text ++ rest) → n ≤ reach places text
reach-begin places zero text rest h fit = omega arith
reach-begin places (suc n) [] rest h fit = absurd (omega (arith, h))
reach-begin [] (suc n) (c ∷ text) rest h fit = absurd (omega (arith, fit))
reach-begin (p ∷ places) (suc n) (c ∷ text) rest h fit =
    let whole = take n text ++ rest in
    elim (fits p c) as (λ b. suc (length whole) ≤ cond b (suc (reach places whole)) 0
    → suc n ≤ cond b (suc (reach places text)) 0) [
      | true ↦ λ f. let more = reach-begin places n text rest (omega (arith, h)) (omega (arith, f)) in omega
          (arith, more)
      | false ↦ λ f. absurd (omega (arith, f))
    ] fit

-- a text that fits all the places
abbrev pub Passes : List UsiField → List ℕ → Type 0
Passes [] [] = Unit {0}
Passes [] (c ∷ text) = ⊥
Passes (p ∷ places) [] = ⊥
Passes (p ∷ places) (c ∷ text) = (fits p c ≡ true) × Passes places text

-- a text that stops fitting goes on to one that fits
pub fill : (places : List UsiField) (text more : List ℕ) → Passes places more
    → Passes places (take (reach places text) text ++ drop (reach places text) more)
fill [] text [] h = h
fill [] text (d ∷ more) h = absurd h
fill (p ∷ places) text [] h = absurd h
fill (p ∷ places) [] (d ∷ more) h = h
fill (p ∷ places) (c ∷ text) (d ∷ more) h =
    elim (fits p c) as (λ b. fits p c ≡ b → Passes (p ∷ places)
    (take (cond b (suc (reach places text)) 0) (c ∷ text) ++ drop (cond b (suc (reach places text)) 0) (d ∷ more)))
    [ true ↦ λ e. (e, fill places text more h.1) | false ↦ λ _. h ] refl

-- ---- A text that is no move's is refused where its longest beginning ends that begins one

some-kind : (k : Option HandKind) → is_some k ≡ true → (kind : HandKind) × (k ≡ Some kind)
some-kind (Some kind) e = (kind, refl)
some-kind None e = cc

-- A step's text, and a drop's, fit their places.
abbrev pub WholeFits : List UsiField → List ℕ → Type 0
WholeFits places text = length text ≤ reach places text

step-fits : (from to : ℕ) (promote : Bool) → from < 81 → to < 81
    → WholeFits step_places (usi_text (Step from to promote))
unfolding step_places
step-fits from to promote f t =
    let a : is_file (48 + file_of from) ≡ true = is_file-text from f in
    let b : is_rank (96 + rank_of from) ≡ true = is_rank-text from f in
    let c : is_file (48 + file_of to) ≡ true = is_file-text to t in
    let d : is_rank (96 + rank_of to) ≡ true = is_rank-text to t in
    elim promote as (λ p. WholeFits step_places (usi_text (Step from to p)))
    [ true ↦ rw (a, b, c, d) (lit≤ tt) | false ↦ rw (a, b, c, d) (lit≤ tt) ]

drop-fits : (kind : HandKind) (to : ℕ) → to < 81 → WholeFits drop_places (usi_text (Drop kind to))
unfolding drop_places
drop-fits kind to t =
    let a : is_some (kind_reading (capital (on_board kind))) ≡ true = ap is_some (kind_reading-text kind) in
    let c : is_file (48 + file_of to) ≡ true = is_file-text to t in
    let d : is_rank (96 + rank_of to) ≡ true = is_rank-text to t in
    rw (a, c, d) (lit≤ tt)

longer : (text rest : List ℕ) (n : ℕ) (m : SMove) → n ≤ length text → IsOnBoard m → take n text ++ rest ≡ usi_text m
    → n ≤ usi_reach text
longer text rest n (Step from to promote) h on e =
    let whole = subst (WholeFits step_places) (sym e) (step-fits from to promote on.0 on.1) in
    let far = reach-begin step_places n text rest h whole in
    omega (arith, far)
longer text rest n (Drop kind to) h on e =
    let whole = subst (WholeFits drop_places) (sym e) (drop-fits kind to on) in
    let far = reach-begin drop_places n text rest h whole in
    omega (arith, far)

-- a text that fits the places is a move's text
step-of : (text : List ℕ) → Passes step_places text → (m : SMove) × IsUsiText text m
unfolding step_places
step-of [] h = absurd h
step-of (a ∷ []) h = absurd h.1
step-of (a ∷ b ∷ []) h = absurd h.1.1
step-of (a ∷ b ∷ c ∷ []) h = absurd h.1.1.1
step-of (a ∷ b ∷ c ∷ d ∷ []) h = absurd h.1.1.1.1
step-of (a ∷ b ∷ c ∷ d ∷ e ∷ []) h =
    let first = square-bytes a b h.0 h.1.0 in
    let second = square-bytes c d h.1.1.0 h.1.1.1.0 in
    let plus = eqb-true e 43 h.1.1.1.1.0 in (
      Step (shogi_number (a - 48) (b - 96)) (shogi_number (c - 48) (d - 96)) true,
      ((first.0, second.0), λ i. first.1 i ++ (second.1 i ++ plus i ∷ [])),
    )
step-of (a ∷ b ∷ c ∷ d ∷ e ∷ f ∷ text) h = absurd h.1.1.1.1.1

drop-of : (text : List ℕ) → Passes drop_places text → (m : SMove) × IsUsiText text m
unfolding drop_places
drop-of [] h = absurd h
drop-of (a ∷ []) h = absurd h.1
drop-of (a ∷ b ∷ []) h = absurd h.1.1
drop-of (a ∷ b ∷ c ∷ []) h = absurd h.1.1.1
drop-of (a ∷ b ∷ c ∷ d ∷ []) h =
    let square = square-bytes c d h.1.1.0 h.1.1.1.0 in
    let star = eqb-true b 42 h.1.0 in
    let kind = some-kind (kind_reading a) h.0 in
    let letter = kind_reading-sound a kind.0 kind.1 in
    (Drop kind.0 (shogi_number (c - 48) (d - 96)), (square.0, λ i. letter i ∷ star i ∷ square.1 i))
drop-of (a ∷ b ∷ c ∷ d ∷ e ∷ text) h = absurd h.1.1.1.1

-- 1a1a+ is a step's text, and R*1a a drop's
step-passes : Passes step_places (49 ∷ 97 ∷ 49 ∷ 97 ∷ 43 ∷ [])
unfolding step_places
step-passes = (refl, (refl, (refl, (refl, (refl, tt)))))

drop-passes : Passes drop_places (82 ∷ 42 ∷ 49 ∷ 97 ∷ [])
unfolding drop_places
drop-passes = (refl, (refl, (refl, (refl, tt))))

-- the longer of two beginnings begins a move's text
begins-longer : (text : List ℕ) (m n : ℕ) → BeginsUsi (take m text) → BeginsUsi (take n text)
    → BeginsUsi (take (max m n) text)
begins-longer text m n a b =
    elim (cases_lt m n) [
      | inl less ↦ let top : n ≡ max m n = omega arith in subst (λ k. BeginsUsi (take k text)) top b
      | inr most ↦ let top : m ≡ max m n = omega arith in subst (λ k. BeginsUsi (take k text)) top a
    ]

pub begins : (text : List ℕ) → BeginsUsi (take (usi_reach text) text)
begins text =
    let step = step-of _ (fill step_places text (49 ∷ 97 ∷ 49 ∷ 97 ∷ 43 ∷ []) step-passes) in
    let drop_ = drop-of _ (fill drop_places text (82 ∷ 42 ∷ 49 ∷ 97 ∷ []) drop-passes) in
    begins-longer text (reach step_places text) (reach drop_places text) (_, step.0, step.1) (_, drop_.0, drop_.1)

pub no-usi : (text : List ℕ) → usi_reading text ≡ None → IsNoUsi text (usi_reach text)
no-usi text e = record {
  none = λ m h. let read = text-read text m h in cc;
  longest = record {
    within = let a = reach-within step_places text in let b = reach-within drop_places text in omega (arith, a, b);
    begins = begins text;
    longest = λ n more within b. let far = longer text b.0 n b.1 within b.2.0 b.2.1 in omega (arith, far, more);
  };
}

one-longest : (text : List ℕ) (j k : ℕ) → IsLongestUsiBeginning text j → IsLongestUsiBeginning text k → j ≤ k
one-longest text j k a b = elim (cases_lt k j) [ inl h ↦ absurd (b.longest j h a.within a.begins) | inr h ↦ h ]

not-read : (text : List ℕ) → ((m : SMove) → IsUsiText text m → ⊥) → (r : Option SMove) → usi_reading text ≡ r
    → usi_reading text ≡ None
not-read text none None e = e
not-read text none (Some m) e = absurd (none m (usi_reading-sound text m e))

pub refused-here : (text : List ℕ) (bytes : ℕ) → IsNoUsi text bytes → (usi_reading text ≡ None)
    × (usi_reach text ≡ bytes)
refused-here text bytes h =
    let none = not-read text h.none (usi_reading text) refl in
    let own = no-usi text none in (
      none,
      omega (
        arith,
        one-longest text bytes (usi_reach text) h.longest own.longest,
        one-longest text (usi_reach text) bytes own.longest h.longest,
      ),
    )
