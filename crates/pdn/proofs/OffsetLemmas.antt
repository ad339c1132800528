-- Where a text goes wrong, its longest beginning that begins a text of the grammar ends.
use Rattle.std.proofs.Common.{◌≡◌, ℕ, suc, ◌+◌, ◌-◌, ◌<◌, ◌≤◌, ◌⊎◌, inl, inr, List, [], ◌∷◌, ◌++◌, length, take, Ok}
use Rattle.std.proofs.Common.{Err, refl, sym, ap, ◌∙◌, subst, append_assoc, arith, length-append}
use Rattle.std.proofs.Math.Seq.{take-append-add, take-append_seam}
use Rattle.std.proofs.lemmas.Bool.{cases_lt}
use Rattle.pdn.specs.Forms.{Form, FormReading, read_form}
use Rattle.pdn.specs.internal.Grammar.{HasForm}
use Rattle.pdn.specs.internal.Beginnings.{Begins, IsLongestBeginning}
use Rattle.pdn.proofs.StopLemmas.{first, Halts}
use Rattle.pdn.proofs.GrammarLemmas.{FormOutcome, form-outcome, read_form-text, text-read_form}

-- of two numbers one is no more than the other
pub le_or_more : (j k : ℕ) → (j ≤ k) ⊎ (k < j)
le_or_more j k = elim (cases_lt k j) [ inl h ↦ inr h | inr h ↦ inl h ]

-- no text of the grammar begins with more than what stands before the place where a text goes wrong
pub no-longer : (Begins Reads : List ℕ → Type 0)
    → ((t : List ℕ) → Begins t → ((more : List ℕ) → Reads (t ++ more)) → ⊥) → (text : List ℕ) (k : ℕ)
    → Halts 0 Begins Reads text k → (n : ℕ) → k < n → n ≤ length text → Begins (take n text) → ⊥
no-longer Begins Reads clash text k h n past within b = by_rest h.rest h.split h.reads
  where
    by_rest : (rest : List ℕ) → text ≡ h.written ++ rest
        → ((r : List ℕ) → first r ≡ first rest → Reads (h.written ++ r)) → ⊥
    by_rest [] split reads = absurd (omega (arith, ap length split, length-append h.written [], h.size))
    by_rest (c ∷ y) split reads =
        let tail = take (n - (length h.written + 1)) y in
        let past_it : n ≡ length h.written + suc (n - (length h.written + 1)) = omega (arith, h.size) in
        let cut : take n text ≡ h.written ++ c ∷ tail = (λ i. take (past_it i) (split i))
        ∙ take-append-add h.written (c ∷ y) (suc (n - (length h.written + 1))) in
        clash (h.written ++ c ∷ tail) (subst Begins cut b)
        (λ more. subst Reads (sym (append_assoc h.written (c ∷ tail) more)) (reads (c ∷ (tail ++ more)) refl))

-- and what stands before it is a beginning of the text
pub front-begins : (Begins Reads : List ℕ → Type 0) (text : List ℕ) (k : ℕ) → Halts 0 Begins Reads text k
    → (k ≤ length text) × Begins (take k text)
front-begins Begins Reads text k h =
    let size : k ≡ length h.written = omega (arith, h.size) in
    let cut : take k text ≡ h.written = (λ i. take (size i) (h.split i)) ∙ take-append_seam h.written h.rest in
    (omega (arith, ap length h.split, length-append h.written h.rest, h.size), subst Begins (sym cut) h.begins)

-- of two numbers of bytes, of which no longer beginning begins a text of the grammar, one is no more than the other
pub at-most : (Begins : List ℕ → Type 0) (text : List ℕ) (j k : ℕ) → j ≤ length text → Begins (take j text)
    → ((n : ℕ) → k < n → n ≤ length text → Begins (take n text) → ⊥) → j ≤ k
at-most Begins text j k within begins longest =
    elim (le_or_more j k) [ inl h ↦ h | inr h ↦ absurd (longest j h within begins) ]

pub longest-beginning : (text : List ℕ) (k : ℕ) → read_form text ≡ Err k → IsLongestBeginning text k
longest-beginning text k e =
    let Reads = λ (t : List ℕ). ◌≡◌ {A = FormReading} (read_form t) (Err k) in
    let h : Halts 0 Begins Reads text k = subst (FormOutcome text) e (form-outcome text) in
    let w = front-begins Begins Reads text k h in
    record {
      within = w.0;
      begins = w.1;
      longest = no-longer Begins Reads (λ t b wrong.
          let read = text-read_form (t ++ b.0) b.1 b.2 in let bad = wrong b.0 in cc) text k h;
    }

-- a text is refused where its longest beginning ends, if it has no form
refused : (text : List ℕ) (k : ℕ) → ((form : Form) → HasForm text form → ⊥) → IsLongestBeginning text k
    → (r : FormReading) → read_form text ≡ r → read_form text ≡ Err k
refused text k none h (Ok form) e = absurd (none form (read_form-text text form e))
refused text k none h (Err j) e =
    let g = longest-beginning text j e in
    e
    ∙ ap Err
    (omega (
      arith,
      at-most Begins text j k g.within g.begins h.longest,
      at-most Begins text k j h.within h.begins g.longest,
    ))

pub offset-refused : (text : List ℕ) (k : ℕ) → ((form : Form) → HasForm text form → ⊥) → IsLongestBeginning text k
    → read_form text ≡ Err k
offset-refused text k none h = refused text k none h (read_form text) refl

pub refused-offset : (text : List ℕ) (k : ℕ) → read_form text ≡ Err k → ((form : Form) → HasForm text form → ⊥)
    × IsLongestBeginning text k
refused-offset text k e = (λ form h. let read = text-read_form text form h in cc, longest-beginning text k e)
