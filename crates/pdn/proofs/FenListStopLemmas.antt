-- How far a list of a position's text is read.
use Rattle.std.proofs.Common.{◌≡◌, ℕ, zero, suc, ◌+◌, ◌<◌, ◌≤◌, true, false, List, [], ◌∷◌, ◌++◌, length, Option, Some}
use Rattle.std.proofs.Common.{None, Ok, Err, refl, sym, ap, ◌∙◌, subst, append_assoc, append-nil, arith, ◌||◌, nat_eq}
use Rattle.std.proofs.Common.{length-append}
use Rattle.squares.specs.declared.sides.Side.{Side}
use Rattle.pdn.specs.declared.items.Item.{Item}
use Rattle.pdn.specs.FenItems.{past_byte, ItemReading, read_item, Items, ItemsReading, ReadsItems, bad_item, last_item}
use Rattle.pdn.specs.FenItems.{more_items, ends_list, ReadsList, no_item, some_items}
use Rattle.pdn.specs.internal.FenGrammar.{AreItemsText}
use Rattle.pdn.proofs.StopLemmas.{first, Goes, Halts, Begun, after, halts-after}
use Rattle.pdn.proofs.FenItemStopLemmas.{past_byte-is, past_byte-alike, ItemGoes, ItemOutcome, item-outcome}

-- items after those before, one at least, and any number of them
pub record AreSome (base : ℕ) (side : Side) (before items : List Item) (text : List ℕ) : Type 0 where
  pub head : Item
  pub tail : List Item
  pub items_are : items ≡ before ++ head ∷ tail
  pub are : AreItemsText side base (head ∷ tail) text

pub record AreAny (base : ℕ) (side : Side) (before items : List Item) (text : List ℕ) : Type 0 where
  pub added : List Item
  pub items_are : items ≡ before ++ added
  pub are : AreItemsText side base added text

-- what is read after `base` bytes
abbrev pub ReadsSome : ℕ → Side → List Item → List ℕ → ItemsReading → Type 0
ReadsSome base side before text r = (total : ℕ) → total ≡ base + length text → ReadsItems total side before text r

abbrev pub ReadsAny : ℕ → Side → List Item → List ℕ → ItemsReading → Type 0
ReadsAny base side before text r = (total : ℕ) → total ≡ base + length text → ReadsList total side before text r

abbrev pub ItemsOutcome : ℕ → Side → List Item → List ℕ → ItemsReading → Type 0
ItemsOutcome base side before text (Ok list) = Goes (AreSome base side before list.items)
    (λ t r. ReadsSome base side before t (Ok (record { items = list.items; rest = r }))) text list.rest
ItemsOutcome base side before text (Err offset) = Halts base (Begun (List Item) (AreSome base side []))
    (λ t. ReadsSome base side before t (Err offset)) text offset

abbrev pub ListGoes : ℕ → Side → List Item → List ℕ → Items → Type 0
ListGoes base side before text list = Goes (AreAny base side before list.items)
    (λ t r. ReadsAny base side before t (Ok (record { items = list.items; rest = r }))) text list.rest

abbrev pub ListOutcome : ℕ → Side → List Item → List ℕ → ItemsReading → Type 0
ListOutcome base side before text (Ok list) = ListGoes base side before text list
ListOutcome base side before text (Err offset) = Halts base (Begun (List Item) (AreItemsText side base))
    (λ t. ReadsAny base side before t (Err offset)) text offset

-- some reading with its outcome
pub record ItemsRead (base : ℕ) (side : Side) (before : List Item) (text : List ℕ) : Type 0 where
  pub reading : ItemsReading
  pub outcome : ItemsOutcome base side before text reading

pub record ListRead (base : ℕ) (side : Side) (before : List Item) (text : List ℕ) : Type 0 where
  pub reading : ItemsReading
  pub outcome : ListOutcome base side before text reading

module _ (side : Side) (base : ℕ) (before : List Item) (text : List ℕ) where
  -- more items are read after an item and its comma
  items-more : (item : Item) (more : List ℕ) (g : ItemGoes base side text item (44 ∷ more)) (r : ItemsReading)
      → ItemsOutcome (base + length g.written + 1) side (before ++ item ∷ []) more r
      → ItemsOutcome base side before text r
  items-more item more g r k = by_reading r k
    where
      onward : (t : List ℕ) (r : ItemsReading)
          → ReadsSome (base + length g.written + 1) side (before ++ item ∷ []) t r
          → ReadsSome base side before (g.written ++ 44 ∷ t) r
      onward t r later total size =
          more_items before (g.written ++ 44 ∷ t) item (44 ∷ t) t r (g.reads (44 ∷ t) refl total size) refl
          (later total (omega (arith, size, length-append g.written (44 ∷ t))))

      by_reading : (r : ItemsReading) → ItemsOutcome (base + length g.written + 1) side (before ++ item ∷ []) more r
          → ItemsOutcome base side before text r
      by_reading (Ok list) k =
          after (λ t. g.written ++ 44 ∷ t) (λ x y. append_assoc g.written (44 ∷ x) y) more text g.split list.rest k
          (λ t h. record {
            head = item;
            tail = h.head ∷ h.tail;
            items_are = h.items_are ∙ append_assoc before (item ∷ []) (h.head ∷ h.tail);
            are = (g.written, t, g.is.0, g.is.1, h.are, refl);
          }) (λ t r alike same s. onward t (Ok (record { items = list.items; rest = r })) s)
      by_reading (Err offset) k =
          halts-after (λ t. g.written ++ 44 ∷ t) (λ x y. append_assoc g.written (44 ∷ x) y) more text g.split k
          (λ t s. omega (arith, length-append g.written (44 ∷ t)))
          (λ t b. record {
            more = b.more;
            value = item ∷ b.is.head ∷ b.is.tail;
            is = record {
              head = item;
              tail = b.is.head ∷ b.is.tail;
              items_are = refl;
              are = (g.written, t ++ b.more, g.is.0, g.is.1, b.is.are, append_assoc g.written (44 ∷ t) b.more);
            };
          }) (λ t alike s. onward t (Err offset) s)

  module _ (later : (base : ℕ) (before : List Item) (t : List ℕ) → length t < length text
      → ItemsRead base side before t) where
    by-comma : (item : Item) (rest : List ℕ) → ItemGoes base side text item rest → (o : Option (List ℕ))
        → past_byte 44 rest ≡ o → ItemsRead base side before text
    by-comma item rest g None e =
        record {
          reading = Ok (record { items = before ++ item ∷ []; rest = rest });
          outcome =
              after (λ t. t) (λ x y. refl) text text refl rest g
              (λ t h. record { head = item; tail = []; items_are = refl; are = h })
              (λ t r alike same s total size.
              last_item before t item r (s total size) (past_byte-alike 44 rest r same e));
        }
    by-comma item rest g (Some more) e =
        let h : ItemGoes base side text item (44 ∷ more) =
        subst (ItemGoes base side text item) (past_byte-is 44 rest more e) g in
        let w = later (base + length h.written + 1) (before ++ item ∷ []) more
        (omega (arith, ap length h.split, length-append h.written (44 ∷ more))) in
        record { reading = w.reading; outcome = items-more item more h w.reading w.outcome }

    by-item : (r : ItemReading) → ItemOutcome base side text r → ItemsRead base side before text
    by-item (Ok front) g = by-comma front.item front.rest g (past_byte 44 front.rest) refl
    by-item (Err offset) h =
        record {
          reading = Err offset;
          outcome =
              halts-after (λ t. t) (λ x y. refl) text text refl h (λ t s. s)
              (λ t b. record {
                more = b.more;
                value = b.value ∷ [];
                is = record { head = b.value; tail = []; items_are = refl; are = b.is };
              }) (λ t alike s total size. bad_item before t offset (s total size));
        }

    step-items : ItemsRead base side before text
    step-items = by-item (read_item (base + length text) side text)
        (item-outcome side base (base + length text) text refl)

items-outcome : (side : Side) (fuel base : ℕ) (before : List Item) (text : List ℕ) → length text ≤ fuel
    → ItemsRead base side before text
items-outcome side zero base before text fits = step-items side base before text
    (λ b xs t less. absurd (omega arith))
items-outcome side (suc fuel) base before text fits =
    step-items side base before text (λ b xs t less. items-outcome side fuel b xs t (omega arith))

ends_list-alike : (text r : List ℕ) → first r ≡ first text → ends_list r ≡ ends_list text
ends_list-alike [] [] alike = refl
ends_list-alike [] (c ∷ z) alike = cc
ends_list-alike (d ∷ y) [] alike = cc
ends_list-alike (d ∷ y) (c ∷ z) alike = let same : c ≡ d = cc in ap (λ x. nat_eq x 58 || nat_eq x 46) same

module _ (base : ℕ) (side : Side) (before : List Item) (text : List ℕ) where
  some-outcome : ends_list text ≡ false → (r : ItemsReading) → ItemsOutcome base side before text r
      → ListOutcome base side before text r
  some-outcome some (Ok list) g =
      after (λ t. t) (λ x y. refl) text text refl list.rest g
      (λ t h. record { added = h.head ∷ h.tail; items_are = h.items_are; are = h.are })
      (λ t r alike same s total size.
      some_items before t (Ok (record { items = list.items; rest = r })) (ends_list-alike text t alike ∙ some)
      (s total size))
  some-outcome some (Err offset) h =
      halts-after (λ t. t) (λ x y. refl) text text refl h (λ t s. s)
      (λ t b. record { more = b.more; value = b.is.head ∷ b.is.tail; is = b.is.are })
      (λ t alike s total size. some_items before t (Err offset) (ends_list-alike text t alike ∙ some) (s total size))

  pub list-outcome : ListRead base side before text
  list-outcome =
      elim (ends_list text) as (λ b. ends_list text ≡ b → ListRead base side before text) [
        | true ↦
            λ e. record {
              reading = Ok (record { items = before; rest = text });
              outcome = record {
                written = [];
                split = refl;
                is = record { added = []; items_are = sym (append-nil before); are = refl };
                reads = λ r alike total size. no_item before r (ends_list-alike text r alike ∙ e);
              };
            }
        | false ↦ λ e.
            let w = items-outcome side (length text) base before text (omega arith) in
            record { reading = w.reading; outcome = some-outcome e w.reading w.outcome }
      ] refl
