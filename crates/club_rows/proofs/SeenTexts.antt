-- Which rows a list of texts has, each text once.
use Rattle.std.proofs.Common.{◌≡◌, ℕ, zero, suc, ◌+◌, ◌<◌, ◌⊎◌, inl, inr, List, [], ◌∷◌, ◌++◌, length, take, true}
use Rattle.std.proofs.Common.{false, cond, Some, refl, ap, sym, subst, ◌∙◌, arith, zero-add, true≢false}
use Rattle.std.specs.Prelude.{slice_get}
use Rattle.std.specs.Str.{bytes_eq}
use Rattle.std.proofs.lemmas.Bool.{cases_Bool, cases_order}
use Rattle.std.proofs.lemmas.Option.{slice_get_within}
use Rattle.std.proofs.lemmas.List.Sums.{sum_by-append}
use Rattle.sqlite_value.specs.declared.value.Value.{Value}
use Rattle.sqlite_value.specs.declared.value.Value.TheVariants.{Text}
use Rattle.sqlite.specs.Order.{Row, column}
use Rattle.sqlite_rules.specs.Lists.{Has}
use Rattle.sqlite_rules.proofs.ListLemmas.{some_from, some_has}
use Rattle.club_laws.proofs.Proved.{bytes_eq-same, same-bytes_eq, got-append, get-append, at-last}
pub use Rattle.club_rows.specs.internal.Seen.{FirstAt}
use Rattle.club_rows.specs.Seen.{times_in, stood_before, seen_row, rows_from, rows_of_texts}

abbrev pub Texts : Type 0
Texts = List (List ℕ)

-- ---- the place at which a text first stands

-- a text stands first at one place
pub one-first : (texts : Texts) (text : List ℕ) (a b : ℕ) → FirstAt texts a text → FirstAt texts b text → a ≡ b
one-first texts text a b one other = grind (arith, cases_order a b)

in-take : (texts : Texts) (ply : ℕ) (text : List ℕ) (k : ℕ) → k < ply → slice_get texts k ≡ Some text
    → Has (take ply texts) text
in-take [] ply text k low at = cc
in-take (t ∷ ts) zero text k low at = absurd (omega (arith, low))
in-take (t ∷ ts) (suc ply) text zero low at = let e : t ≡ text = cc in inl (sym e)
in-take (t ∷ ts) (suc ply) text (suc k) low at = inr (in-take ts ply text k (omega (arith, low)) at)

take-had : (texts : Texts) (ply : ℕ) (text : List ℕ) → Has (take ply texts) text → (k : ℕ) × (k < ply)
    × (slice_get texts k ≡ Some text)
take-had (t ∷ ts) (suc ply) text (inl is) = (0, omega arith, ap Some (sym is))
take-had (t ∷ ts) (suc ply) text (inr h) = let (k, low, at) = take-had ts ply text h in (suc k, omega (arith, low), at)
take-had [] zero text h = absurd h
take-had texts ply text h = absurd h

pub stood-at : (texts : Texts) (ply : ℕ) (text : List ℕ) → stood_before texts ply text ≡ true → (k : ℕ) × (k < ply)
    × (slice_get texts k ≡ Some text)
stood-at texts ply text is =
    let (t, has, same) = some_has (bytes_eq text) (take ply texts) is in
    take-had texts ply text (rw (same-bytes_eq text t same) has)

pub at-stood : (texts : Texts) (ply : ℕ) (text : List ℕ) (k : ℕ) → k < ply → slice_get texts k ≡ Some text
    → stood_before texts ply text ≡ true
at-stood texts ply text k low at = some_from (bytes_eq text) (take ply texts) text (in-take texts ply text k low at)
    (bytes_eq-same text text refl)

-- ---- the rows

-- the row of a text, at the place where it first stands
pub record IsOf (id : ℕ) (texts : List (List ℕ)) (row : Row) : Type 0 where
  pub text : List ℕ
  pub ply : ℕ
  pub first : FirstAt texts ply text
  pub is : row ≡ seen_row id text (times_in texts text) ply

module _ (id : ℕ) (texts : Texts) where
  -- the rest stands from that place on
  abbrev Rest : ℕ → Texts → Type 0
  Rest ply rest = (k : ℕ) → slice_get rest k ≡ slice_get texts (ply + k)

  rest-later : (ply : ℕ) (t : List ℕ) (rest : Texts) → Rest ply (t ∷ rest) → Rest (suc ply) rest
  rest-later ply t rest is k = let e : ply + suc k ≡ suc ply + k = omega arith in is (suc k) ∙ ap (slice_get texts) e

  here : (ply : ℕ) (t : List ℕ) (rest : Texts) → Rest ply (t ∷ rest) → slice_get texts ply ≡ Some t
  here ply t rest is = let e : ply ≡ ply + 0 = omega arith in ap (slice_get texts) e ∙ sym (is 0)

  from-had : (ply : ℕ) (rest : Texts) (row : Row) → Rest ply rest → Has (rows_from id texts ply rest) row
      → IsOf id texts row
  from-had ply [] row at h = absurd h
  from-had ply (t ∷ rest) row at h =
      let later = from-had (suc ply) rest row (rest-later ply t rest at) in
      elim (cases_Bool (stood_before texts ply t)) [
        | inl stood ↦ later (rw stood at h)
        | inr new ↦
            let split : (row ≡ seen_row id t (times_in texts t) ply) ⊎ Has (rows_from id texts (suc ply) rest) row =
            rw new at h in
            elim split [
              | inl is ↦ record {
                text = t;
                ply = ply;
                first = grind (arith, here ply t rest at, at-stood texts ply t, new);
                is = is;
              }
              | inr has ↦ later has
            ]
      ]

  from-has : (ply : ℕ) (rest : Texts) (k : ℕ) (text : List ℕ) → Rest ply rest → FirstAt texts (ply + k) text
      → slice_get rest k ≡ Some text → Has (rows_from id texts ply rest)
      (seen_row id text (times_in texts text) (ply + k))
  from-has ply [] k text at first stands = cc
  from-has ply (t ∷ rest) zero text at first stands =
      let same : text ≡ t = cc in
      let e : ply + 0 ≡ ply = omega arith in
      elim (cases_Bool (stood_before texts ply t)) [
        | inl stood ↦
            let (k, low, there) = stood-at texts ply t stood in
            absurd (first.earliest k (omega (arith, low)) (there ∙ ap Some (sym same)))
        | inr new ↦ rw new (inl (λ i. seen_row id (same i) (times_in texts (same i)) (e i)))
      ]
  from-has ply (t ∷ rest) (suc k) text at first stands =
      let e : ply + suc k ≡ suc ply + k = omega arith in
      let later = rw (← e) at (from-has (suc ply) rest k text (rest-later ply t rest at) (rw e at first) stands) in
      elim (cases_Bool (stood_before texts ply t)) [ inl stood ↦ rw stood later | inr new ↦ rw new (inr later) ]

  -- each row is that of a text where it first stands, and each text has it
  pub row-had : (row : Row) → Has (rows_of_texts id texts) row → IsOf id texts row
  row-had row h = from-had 0 texts row (λ k. let e : 0 + k ≡ k = omega arith in ap (slice_get texts) (sym e)) h

  pub row-has : (ply : ℕ) (text : List ℕ) → FirstAt texts ply text
      → Has (rows_of_texts id texts) (seen_row id text (times_in texts text) ply)
  row-has ply text first =
      let e : 0 + ply ≡ ply = omega arith in
      subst (λ p. Has (rows_of_texts id texts) (seen_row id text (times_in texts text) p)) e
      (from-has 0 texts ply text (λ k. let e : 0 + k ≡ k = omega arith in ap (slice_get texts) (sym e))
      (subst (λ p. FirstAt texts p text) (sym e) first) first.at)

-- ---- keys

-- rows of one game with the same text are one
pub one-row : (id : ℕ) (texts : Texts) (row other : Row) → Has (rows_of_texts id texts) row
    → Has (rows_of_texts id texts) other → column row 1 ≡ column other 1 → row ≡ other
one-row id texts row other h g same =
    let it = row-had id texts row h in
    let its = row-had id texts other g in
    let values : ◌≡◌ {A = Value} (Text it.text) (Text its.text) = sym (ap (λ r. column r 1) it.is)
    ∙ (same ∙ ap (λ r. column r 1) its.is) in
    let text : it.text ≡ its.text = cc in
    let ply = one-first texts its.text it.ply its.ply (rw text at it.first) its.first in
    it.is ∙ ((λ i. seen_row id (text i) (times_in texts (text i)) (ply i)) ∙ sym its.is)

-- ---- one text more

module _ (texts : Texts) (new : List ℕ) where
  abbrev More : Texts
  More = texts ++ new ∷ []

  times-more : (text : List ℕ) → times_in More text ≡ times_in texts text + cond (bytes_eq text new) 1 0
  times-more text = sum_by-append (λ t. cond (bytes_eq text t) 1 0) texts (new ∷ [])
      ∙ ap (λ n. times_in texts text + n) (zero-add (cond (bytes_eq text new) 1 0))

  -- another text stands as often as before
  pub times-other : (text : List ℕ) → bytes_eq text new ≡ false → times_in More text ≡ times_in texts text
  times-other text differ = grind (arith, times-more text)

  -- and the new one once more
  pub times-new : times_in More new ≡ times_in texts new + 1
  times-new = grind (arith, times-more new, bytes_eq-same new new refl)

  -- what stood first keeps its place
  pub first-more : (ply : ℕ) (text : List ℕ) → FirstAt texts ply text → FirstAt More ply text
  first-more ply text first = record {
    at = get-append texts (new ∷ []) ply text first.at;
    earliest = λ k low there.
        grind (arith, got-append texts new k text there, slice_get_within texts ply text first.at);
  }

  -- a new one comes at the end
  pub first-new : ((k : ℕ) → slice_get texts k ≡ Some new → ⊥) → FirstAt More (length texts) new
  first-new never = record {
    at = at-last texts new;
    earliest = λ k low there. grind (arith, got-append texts new k new there);
  }

  -- another one had its place before
  pub first-old : (ply : ℕ) (text : List ℕ) → bytes_eq text new ≡ false → FirstAt More ply text → FirstAt texts ply text
  first-old ply text differ first = elim (got-append texts new ply text first.at) [
    | inl at ↦
        record { at = at; earliest = λ k low there. first.earliest k low (get-append texts (new ∷ []) k text there) }
    | inr last ↦ absurd (true≢false (sym (bytes_eq-same text new (sym last.1)) ∙ differ))
  ]
