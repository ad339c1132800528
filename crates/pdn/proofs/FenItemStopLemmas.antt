-- How far an item of a position's text is read.
use Rattle.std.proofs.Common.{◌≡◌, ℕ, ◌+◌, ◌-◌, inl, inr, cond, nat_eq, List, [], ◌∷◌, ◌++◌, length, Option, Some, None}
use Rattle.std.proofs.Common.{Ok, Err, refl, sym, ap, ◌∙◌, subst, append_assoc, arith, length-append}
use Rattle.squares.specs.declared.sides.Side.{Side}
use Rattle.squares.specs.declared.draughts.piece.DPiece.{DPiece}
use Rattle.squares.specs.internal.DraughtsMarks.{nat_eq-same}
use Rattle.pdn.specs.declared.items.Item.{Item}
use Rattle.pdn.specs.SquareText.{FrontReading, read_square}
use Rattle.pdn.specs.FenItems.{man, king, past_byte, read_end, ItemReading, king_of, range_of, after_man, men_of}
use Rattle.pdn.specs.FenItems.{read_kind, read_item}
use Rattle.pdn.specs.internal.FenGrammar.{IsItemText}
use Rattle.pdn.proofs.StopLemmas.{first, Goes, Halts, Begun, first-append, after, halts-after}
use Rattle.pdn.proofs.NumberLemmas.{good, IsLast, Outcome, end-outcome, square-outcome}
use Rattle.pdn.proofs.FormLemmas.{is_past, not_past}
use Rattle.pdn.proofs.GrammarLemmas.{SquareGoes}

-- what a byte before a text tells, and what its first byte alone tells
pub past_byte-is : (byte : ℕ) (text rest : List ℕ) → past_byte byte text ≡ Some rest → text ≡ byte ∷ rest
past_byte-is byte [] rest e = cc
past_byte-is byte (c ∷ r) rest e = let w = is_past (nat_eq c byte) r rest e in λ i. nat_eq-same c byte w.0 i ∷ w.1 i

pub past_byte-alike : (byte : ℕ) (text r : List ℕ) → first r ≡ first text → past_byte byte text ≡ None
    → past_byte byte r ≡ None
past_byte-alike byte text [] alike none = refl
past_byte-alike byte [] (c ∷ z) alike none = cc
past_byte-alike byte (d ∷ y) (c ∷ z) alike none = let same : c ≡ d = cc in
    ap (λ b. cond b (Some z) None) (ap (λ x. nat_eq x byte) same ∙ not_past (nat_eq d byte) y none)

-- an item after so many bytes
abbrev pub IsItemAt : ℕ → Side → Item → List ℕ → Type 0
IsItemAt base side i text = (i.at ≡ base) × IsItemText side i text

abbrev pub ReadsItem : ℕ → Side → List ℕ → ItemReading → Type 0
ReadsItem base side text r = (total : ℕ) → total ≡ base + length text
    → ◌≡◌ {A = ItemReading} (read_item total side text) r

abbrev pub ItemGoes : ℕ → Side → List ℕ → Item → List ℕ → Type 0
ItemGoes base side text item rest = Goes (IsItemAt base side item)
    (λ t r. ReadsItem base side t (Ok (record { item = item; rest = r }))) text rest

abbrev pub ItemOutcome : ℕ → Side → List ℕ → ItemReading → Type 0
ItemOutcome base side text (Ok front) = ItemGoes base side text front.item front.rest
ItemOutcome base side text (Err offset) = Halts base (Begun Item (IsItemAt base side))
    (λ t. ReadsItem base side t (Err offset)) text offset

abbrev pub item_of : ℕ → ℕ → ℕ → DPiece → Item
item_of at from to piece = record { at = at; from = from; to = to; piece = piece }

module _ (side : Side) (base : ℕ) where
  pub kings : (total : ℕ) (rest : List ℕ) (r : FrontReading) → total ≡ base + length (75 ∷ rest) → read_square rest ≡ r
      → read_item total side (75 ∷ rest) ≡ king_of base (base + 1) side r
  unfolding read_item
  kings total rest r size e =
      let place : total - length (75 ∷ rest) ≡ base = omega (arith, size) in
      let before : total - length rest ≡ base + 1 = omega (arith, size) in
      λ i. king_of (place i) (before i) side (e i)

  pub plain : (total : ℕ) (text : List ℕ) (r : FrontReading) → total ≡ base + length text → past_byte 75 text ≡ None
      → read_square text ≡ r → read_item total side text ≡ men_of total base side r
  unfolding read_item
  plain total text r size none e =
      let place : total - length text ≡ base = omega (arith, size) in
      ap (read_kind total side text) none ∙ (λ i. men_of total (place i) side (e i))

  king-outcome : (rest : List ℕ) (r : FrontReading) → Outcome read_square (IsLast 0) rest r
      → ItemOutcome base side (75 ∷ rest) (king_of base (base + 1) side r)
  king-outcome rest (Ok front) g =
      after (λ t. 75 ∷ t) (λ x y. refl) rest (75 ∷ rest) refl front.rest g
      (λ t h. (refl, inr (inl (t, h.0, refl, refl, refl))))
      (λ t r alike same s total size. kings total t (good front.square r) size s)
  king-outcome rest (Err bytes) h =
      halts-after (λ t. 75 ∷ t) (λ x y. refl) rest (75 ∷ rest) refl h (λ t s. omega arith)
      (λ t b. record {
        more = b.more;
        value = item_of base b.value b.value (king side);
        is = (refl, inr (inl (t ++ b.more, b.is.0, refl, refl, refl)));
      }) (λ t alike s total size. kings total t (Err bytes) size s)

  module _ (text : List ℕ) (none : past_byte 75 text ≡ None) where
    man-outcome : (n : ℕ) (rest : List ℕ) → SquareGoes text n rest → past_byte 45 rest ≡ None
        → ItemGoes base side text (item_of base n n (man side)) rest
    man-outcome n rest g hyphen =
        after (λ t. t) (λ x y. refl) text text refl rest g (λ t h. (refl, inl (h.0, refl, refl)))
        (λ t r alike same s total size.
        plain total t (good n r) size (past_byte-alike 75 text t alike none) s
        ∙ ap (after_man total base side (record { square = n; rest = r })) (past_byte-alike 45 rest r same hyphen))

    module _ (n : ℕ) (more : List ℕ) (g : SquareGoes text n (45 ∷ more)) where
      -- a range is read so far whatever follows its hyphen
      onward : (total : ℕ) (t : List ℕ) (r : FrontReading) → total ≡ base + length (g.written ++ 45 ∷ t)
          → read_end n t ≡ r → read_item total side (g.written ++ 45 ∷ t)
          ≡ range_of base (base + length g.written + 1) side n r
      onward total t r size e =
          let place : total - length t ≡ base + length g.written + 1 =
          omega (arith, size, length-append g.written (45 ∷ t)) in
          let alike = first-append g.written (45 ∷ t) (45 ∷ more) refl ∙ ap first (sym g.split) in
          plain total (g.written ++ 45 ∷ t) (good n (45 ∷ t)) size
          (past_byte-alike 75 text (g.written ++ 45 ∷ t) alike none) (g.reads (45 ∷ t) refl)
          ∙ (λ i. range_of base (place i) side n (e i))

      range-outcome : (r : FrontReading) → Outcome (read_end n) (IsLast n) more r
          → ItemOutcome base side text (range_of base (base + length g.written + 1) side n r)
      range-outcome (Ok front) e =
          after (λ t. g.written ++ 45 ∷ t) (λ x y. append_assoc g.written (45 ∷ x) y) more text g.split front.rest e
          (λ t h. (refl, inr (inr (g.written, t, g.is.0, h.0, h.1, refl, refl))))
          (λ t r alike same s total size. onward total t (good front.square r) size s)
      range-outcome (Err bytes) e =
          halts-after (λ t. g.written ++ 45 ∷ t) (λ x y. append_assoc g.written (45 ∷ x) y) more text g.split e
          (λ t s. omega (arith, length-append g.written (45 ∷ t)))
          (λ t b. record {
            more = b.more;
            value = item_of base n b.value (man side);
            is = (
              refl,
              inr (inr (
                g.written,
                t ++ b.more,
                g.is.0,
                b.is.0,
                b.is.1,
                refl,
                append_assoc g.written (45 ∷ t) b.more,
              )),
            );
          }) (λ t alike s total size. onward total t (Err bytes) size s)

    men-rest : (total n : ℕ) (rest : List ℕ) → total ≡ base + length text → SquareGoes text n rest
        → (o : Option (List ℕ)) → past_byte 45 rest ≡ o
        → ItemOutcome base side text (after_man total base side (record { square = n; rest = rest }) o)
    men-rest total n rest size g None e = man-outcome n rest g e
    men-rest total n rest size g (Some more) e =
        let h : SquareGoes text n (45 ∷ more) = subst (SquareGoes text n) (past_byte-is 45 rest more e) g in
        let place : total - length more ≡ base + length h.written + 1 =
        omega (arith, size, ap length h.split, length-append h.written (45 ∷ more)) in
        subst (λ b. ItemOutcome base side text (range_of base b side n (read_end n more))) (sym place)
        (range-outcome n more h (read_end n more) (end-outcome n n h.is.0.0 (omega arith) more))

    men-outcome : (total : ℕ) → total ≡ base + length text → (r : FrontReading) → Outcome read_square (IsLast 0) text r
        → ItemOutcome base side text (men_of total base side r)
    men-outcome total size (Ok front) g = men-rest total front.square front.rest size g (past_byte 45 front.rest) refl
    men-outcome total size (Err bytes) h =
        halts-after (λ t. t) (λ x y. refl) text text refl h (λ t s. omega arith)
        (λ t b. record {
          more = b.more;
          value = item_of base b.value b.value (man side);
          is = (refl, inl (b.is.0, refl, refl));
        }) (λ t alike s total size. plain total t (Err bytes) size (past_byte-alike 75 text t alike none) s)

  by-kind : (total : ℕ) (text : List ℕ) → total ≡ base + length text → (o : Option (List ℕ)) → past_byte 75 text ≡ o
      → ItemOutcome base side text (read_item total side text)
  by-kind total text size None e = subst (ItemOutcome base side text)
      (sym (plain total text (read_square text) size e refl))
      (men-outcome text e total size (read_square text) (square-outcome text))
  by-kind total text size (Some rest) e =
      let is = past_byte-is 75 text rest e in
      subst (λ t. ItemOutcome base side t (read_item total side t)) (sym is)
      (subst (ItemOutcome base side (75 ∷ rest))
      (sym (kings total rest (read_square rest) (size ∙ ap (λ t. base + length t) is) refl))
      (king-outcome rest (read_square rest) (square-outcome rest)))

  pub item-outcome : (total : ℕ) (text : List ℕ) → total ≡ base + length text
      → ItemOutcome base side text (read_item total side text)
  item-outcome total text size = by-kind total text size (past_byte 75 text) refl
