-- A text is read from its front as far as it goes on well.
use Rattle.std.proofs.Common.{◌≡◌, ℕ, ◌+◌, List, [], ◌∷◌, ◌++◌, length, Option, Some, None, refl, sym, ap, ◌∙◌, subst}

-- the first byte, if there is one
abbrev pub first : List ℕ → Option ℕ
first [] = None
first (c ∷ rest) = Some c

-- What was read of a text, and of each text that goes on after it with the same first byte as this one.
pub record Goes (Is : List ℕ → Type 0) (Reads : List ℕ → List ℕ → Type 0) (text rest : List ℕ) : Type 0 where
  pub written : List ℕ
  pub split : text ≡ written ++ rest
  pub is : Is written
  pub reads : (r : List ℕ) → first r ≡ first rest → Reads (written ++ r) r

-- Where a text after `base` bytes goes wrong: what stands before that begins well, and each text that goes on after it
-- with the same first byte as this one goes wrong there.
pub record Halts (base : ℕ) (Begins Reads : List ℕ → Type 0) (text : List ℕ) (offset : ℕ) : Type 0 where
  pub written : List ℕ
  pub rest : List ℕ
  pub split : text ≡ written ++ rest
  pub size : base + length written ≡ offset
  pub begins : Begins written
  pub reads : (r : List ℕ) → first r ≡ first rest → Reads (written ++ r)

-- a text that goes on to one of the grammar
pub record Begun (V : Type 0) (Is : V → List ℕ → Type 0) (text : List ℕ) : Type 0 where
  pub more : List ℕ
  pub value : V
  pub is : Is value (text ++ more)

pub first-append : (xs r s : List ℕ) → first r ≡ first s → first (xs ++ r) ≡ first (xs ++ s)
first-append [] r s e = e
first-append (x ∷ xs) r s e = refl

-- The same of a text that stands after another, which `put` puts before it.
module _ (put : List ℕ → List ℕ) (join : (x y : List ℕ) → put x ++ y ≡ put (x ++ y)) (text whole : List ℕ)
    (whole_is : whole ≡ put text) where
  pub after : {Is Is' : List ℕ → Type 0} {Reads Reads' : List ℕ → List ℕ → Type 0} (rest : List ℕ)
      → Goes Is Reads text rest → ((t : List ℕ) → Is t → Is' (put t))
      → ((t r : List ℕ) → first t ≡ first text → first r ≡ first rest → Reads t r → Reads' (put t) r)
      → Goes Is' Reads' whole rest
  after {Reads' = Reads'} rest g is reads =
      record {
        written = put g.written;
        split = whole_is ∙ ap put g.split ∙ sym (join g.written rest);
        is = is g.written g.is;
        reads = λ r alike.
            subst (λ t. Reads' t r) (sym (join g.written r))
            (reads (g.written ++ r) r (first-append g.written r rest alike ∙ ap first (sym g.split)) alike
            (g.reads r alike));
      }

  pub halts-after : {base base' k k' : ℕ} {Begins Begins' Reads Reads' : List ℕ → Type 0}
      → Halts base Begins Reads text k
      → ((t : List ℕ) → base + length t ≡ k → base' + length (put t) ≡ k')
      → ((t : List ℕ) → Begins t → Begins' (put t))
      → ((t : List ℕ) → first t ≡ first text → Reads t → Reads' (put t)) → Halts base' Begins' Reads' whole k'
  halts-after {Reads' = Reads'} h size begins reads =
      record {
        written = put h.written;
        rest = h.rest;
        split = whole_is ∙ ap put h.split ∙ sym (join h.written h.rest);
        size = size h.written h.size;
        begins = begins h.written h.begins;
        reads = λ r alike.
            subst Reads' (sym (join h.written r))
            (reads (h.written ++ r) (first-append h.written r h.rest alike ∙ ap first (sym h.split)) (h.reads r alike));
      }
