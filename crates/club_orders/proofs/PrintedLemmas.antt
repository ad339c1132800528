-- The lines of a batch, one after another.
use Rattle.std.proofs.Common.{◌≡◌, ℕ, ◌≤◌, List, [], ◌∷◌, ◌++◌, length, take, drop, Option}
use Rattle.std.proofs.Common.{refl, sym, ap, ◌∙◌, subst, append-nil, append_assoc}
use Rattle.std.proofs.lemmas.List.{take-append-drop, drop_all}
use Rattle.std.proofs.Math.Seq.{take-append_seam}
use Rattle.std.proofs.KnownBytes.{Appends-nil, Appends-trans}
use Rattle.std.specs.Io.KnownBytes.{Appends}
use Rattle.club_requests.specs.declared.answers.Outcome.{Outcome}
use Rattle.club_orders.specs.Batches.{answer_line, answer_lines, IsBegunWith}

pub begun_some : (a b : Option (List ℕ)) (text : List ℕ) (n : ℕ) → Appends a b (take n text) → IsBegunWith a b text
begun_some a b text n written =
    record { front = take n text; rest = drop n text; is = sym (take-append-drop n text); written = written }

-- what was written of a text is so many of its bytes
pub begun_take : (a b : Option (List ℕ)) (text : List ℕ) → IsBegunWith a b text → (n : ℕ) × Appends a b (take n text)
begun_take a b text begun =
    let front : take (length begun.front) text ≡ begun.front =
    ap (take (length begun.front)) begun.is ∙ take-append_seam begun.front begun.rest in (
      length begun.front,
      subst (Appends a b) (sym front) begun.written,
    )

-- nothing of no text is written
pub begun_none : (a : Option (List ℕ)) → IsBegunWith a a []
begun_none a = record { front = []; rest = []; is = refl; written = Appends-nil a }

-- so much was written that what is left makes the whole
pub record IsWrittenUpTo (before now : Option (List ℕ)) (left whole : List ℕ) : Type 0 where
  pub text : List ℕ
  pub written : Appends before now text
  pub is : text ++ left ≡ whole

-- nothing was written yet
pub up_to_none : (a : Option (List ℕ)) (whole : List ℕ) → IsWrittenUpTo a a whole whole
up_to_none a whole = record { text = []; written = Appends-nil a; is = refl }

-- the first of two texts was written
pub up_to_first : (a b : Option (List ℕ)) (first next : List ℕ) → Appends a b first → IsWrittenUpTo a b next (first ++ next)
up_to_first a b first next written = record { text = first; written = written; is = refl }

module _ (a b : Option (List ℕ)) (left whole : List ℕ) (so : IsWrittenUpTo a b left whole) where
  pub up_to_begun : IsBegunWith a b whole
  up_to_begun = record { front = so.text; rest = left; is = sym so.is; written = so.written }

  pub up_to_all : left ≡ [] → Appends a b whole
  up_to_all none =
      subst (Appends a b) (sym (append-nil so.text) ∙ (ap (λ l. so.text ++ l) (sym none) ∙ so.is)) so.written

  module _ (c : Option (List ℕ)) (line next : List ℕ) (at : left ≡ line ++ next) where
    pub up_to_next : Appends b c line → IsWrittenUpTo a c next whole
    up_to_next more =
        record {
          text = so.text ++ line;
          written = Appends-trans a b c so.text line so.written more;
          is = append_assoc so.text line next ∙ (ap (λ l. so.text ++ l) (sym at) ∙ so.is);
        }

    pub up_to_part : IsBegunWith b c line → IsBegunWith a c whole
    up_to_part more =
        record {
          front = so.text ++ more.front;
          rest = more.rest ++ next;
          is = sym so.is
              ∙ (ap (λ l. so.text ++ l) (at ∙ (ap (λ l. l ++ next) more.is
              ∙ append_assoc more.front more.rest next))
              ∙ sym (append_assoc so.text more.front (more.rest ++ next)));
          written = Appends-trans a b c so.text more.front so.written more.written;
        }

no_outcomes : (numbers : List ℕ) → answer_lines numbers [] ≡ []
no_outcomes [] = refl
no_outcomes (number ∷ numbers) = refl

-- what is left of the lines at a place
pub line_at : (numbers more_numbers : List ℕ) (outcomes more : List Outcome) (k number : ℕ) (outcome : Outcome)
    → drop k numbers ≡ number ∷ more_numbers → drop k outcomes ≡ outcome ∷ more
    → answer_lines (drop k numbers) (drop k outcomes)
    ≡ answer_line number outcome ++ answer_lines more_numbers more
line_at numbers more_numbers outcomes more k number outcome at_number at_outcome =
    λ i. answer_lines (at_number i) (at_outcome i)

pub no_number : (numbers : List ℕ) (outcomes : List Outcome) (k : ℕ) → length numbers ≤ k
    → answer_lines (drop k numbers) (drop k outcomes) ≡ []
no_number numbers outcomes k past = ap (λ l. answer_lines l (drop k outcomes)) (drop_all k numbers past)

pub no_outcome : (numbers : List ℕ) (outcomes : List Outcome) (k : ℕ) → length outcomes ≤ k
    → answer_lines (drop k numbers) (drop k outcomes) ≡ []
no_outcome numbers outcomes k past =
    ap (λ l. answer_lines (drop k numbers) l) (drop_all k outcomes past) ∙ no_outcomes (drop k numbers)

-- ---- parts of a text, each with the bytes that were written for it

pub begun_first : (a b : Option (List ℕ)) (first rest bytes : List ℕ) → first ≡ bytes
    → ((n : ℕ) × Appends a b (take n bytes)) → IsBegunWith a b (first ++ rest)
begun_first a b first rest bytes is begun =
    up_to_part a a (first ++ rest) (first ++ rest) (up_to_none a (first ++ rest)) b bytes rest
    (ap (λ l. l ++ rest) is) (begun_some a b bytes begun.0 begun.1)

written_first : (a b : Option (List ℕ)) (first rest bytes : List ℕ) → first ≡ bytes → Appends a b bytes
    → IsWrittenUpTo a b rest (first ++ rest)
written_first a b first rest bytes is written =
    record { text = bytes; written = written; is = ap (λ l. l ++ rest) (sym is) }

pub begun_second : (a b c : Option (List ℕ)) (first second rest bytes more : List ℕ) → first ≡ bytes
    → Appends a b bytes → second ≡ more → ((n : ℕ) × Appends b c (take n more))
    → IsBegunWith a c (first ++ (second ++ rest))
begun_second a b c first second rest bytes more is written also begun =
    up_to_part a b (second ++ rest) (first ++ (second ++ rest)) (written_first a b first (second ++ rest) bytes is written)
    c more rest (ap (λ l. l ++ rest) also) (begun_some b c more begun.0 begun.1)

pub begun_third : (a b c d : Option (List ℕ)) (first second third bytes more last : List ℕ) → first ≡ bytes
    → Appends a b bytes → second ≡ more → Appends b c more → third ≡ last → ((n : ℕ) × Appends c d (take n last))
    → IsBegunWith a d (first ++ (second ++ third))
begun_third a b c d first second third bytes more last is written also continued ends begun =
    let first_two = up_to_next a b (second ++ third) (first ++ (second ++ third))
    (written_first a b first (second ++ third) bytes is written) c more third (ap (λ l. l ++ third) also) continued in
    up_to_part a c third (first ++ (second ++ third)) first_two d last [] (ends ∙ sym (append-nil last))
    (begun_some c d last begun.0 begun.1)

pub begun_rest : (a b c : Option (List ℕ)) (first rest bytes : List ℕ) → first ≡ bytes → Appends a b bytes
    → IsBegunWith b c rest → IsBegunWith a c (first ++ rest)
begun_rest a b c first rest bytes is written begun =
    up_to_part a b rest (first ++ rest) (written_first a b first rest bytes is written) c rest []
    (sym (append-nil rest)) begun

pub begun_same : (a b : Option (List ℕ)) (text bytes : List ℕ) → text ≡ bytes
    → ((n : ℕ) × Appends a b (take n bytes)) → IsBegunWith a b text
begun_same a b text bytes is begun = subst (IsBegunWith a b) (sym is) (begun_some a b bytes begun.0 begun.1)
