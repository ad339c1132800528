-- The test of a text is true exactly if the text means the opening. No promise of the program rests on these
-- definitions.
use Rattle.std.proofs.Common.{◌≡◌, ◌↔◌, ℕ, zero, suc, ◌+◌, ◌≤◌, ◌<◌, Bool, true, false, List, [], ◌∷◌, ◌++◌, length}
use Rattle.std.proofs.Common.{Option, Some, None, Result, Ok, Err, refl, sym, ap, subst, ◌∙◌, arith}
use Rattle.std.specs.Prelude.{IsTrue, if◌then◌else◌}
use Rattle.std.proofs.lemmas.List.{length-append}
use Rattle.squares.specs.declared.sides.Side.{Side}
use Rattle.squares.specs.Sides.{other}
use Rattle.squares.specs.DraughtsOpening.{opening}
use Rattle.squares.specs.DraughtsSamePosition.{same_position}
use Rattle.squares.specs.internal.DraughtsSamePosition.{same_position-same, same_position-itself}
use Rattle.pdn.specs.declared.items.Item.{Item}
use Rattle.pdn.specs.FenItems.{past_byte, ItemReading, read_item, Items, ItemsReading, ReadsItems, bad_item, last_item}
use Rattle.pdn.specs.FenItems.{more_items, ends_list, ReadsList, no_item, some_items}
use Rattle.pdn.specs.FenForm.{Header, read_header, read_between, past_end, FenReading}
use Rattle.pdn.specs.FenForm.{FenForm, ReadsRest, ended, ReadsLists, both, ReadsForm, lists}
use Rattle.pdn.specs.internal.FenGrammar.{AreItemsText, HasFenForm}
use Rattle.pdn.specs.ReadFen.{repeated, position_of, IsFen}
use Rattle.pdn.proofs.Proved.{form-parts}
use Rattle.club_games.specs.internal.FenReading.{after_item, with_item, items_reading, list_reading, ended_reading}
use Rattle.club_games.specs.internal.FenReading.{second_reading, between_reading, first_reading, header_reading}
use Rattle.club_games.specs.internal.FenReading.{form_reading}
use Rattle.club_games.specs.internal.FenReading.{is_opening_unless, is_opening_form, is_opening}

-- ---- what the function reads is read by the grammar's reader

-- a reading that continues another without an error continues one without an error
read-on : {A B : Type 0} (r : Result A ℕ) (next : Result A ℕ → Result B ℕ) (value : B)
    → ((offset : ℕ) → next (Err offset) ≡ Err offset) → next r ≡ Ok value
    → (front : A) × (r ≡ Ok front) × (next (Ok front) ≡ Ok value)
read-on (Ok front) next value stops is = (front, refl, is)
read-on (Err offset) next value stops is = absurd (let no = sym (stops offset) ∙ is in cc)

module _ (total : ℕ) (side : Side) where
  after-sound : (more : List Item → List ℕ → ItemsReading) (before : List Item) (text : List ℕ) (item : Item)
      (rest : List ℕ) (comma : Option (List ℕ)) (list : Items)
      → ◌≡◌ {A = ItemReading} (read_item total side text) (Ok (record { item = item; rest = rest }))
      → past_byte 44 rest ≡ comma
      → ((items : List Item) (t : List ℕ) → more items t ≡ Ok list → ReadsItems total side items t (Ok list))
      → after_item more (before ++ item ∷ []) rest comma ≡ Ok list → ReadsItems total side before text (Ok list)
  after-sound more before text item rest None list read comma sound is =
      subst (ReadsItems total side before text) is (last_item before text item rest read comma)
  after-sound more before text item rest (Some next) list read comma sound is =
      more_items before text item rest next (Ok list) read comma (sound (before ++ item ∷ []) next is)

  items-sound : (n : ℕ) (before : List Item) (text : List ℕ) (list : Items)
      → items_reading n total side before text ≡ Ok list → ReadsItems total side before text (Ok list)
  items-sound zero before text list is = absurd (cc)
  items-sound (suc n) before text list is =
      let more = λ (items : List Item) (rest : List ℕ). items_reading n total side items rest in
      let (front, read, on) = read-on (read_item total side text) (with_item more before) list (λ offset. refl) is in
      after-sound more before text front.item front.rest (past_byte 44 front.rest) list read refl
      (λ items t. items-sound n items t list) on

  list-sound : (n : ℕ) (before : List Item) (text : List ℕ) (list : Items)
      → list_reading n total side before text ≡ Ok list → ReadsList total side before text (Ok list)
  list-sound n before text list is = by (ends_list text) refl is
    where
      by : (b : Bool) → ends_list text ≡ b → ◌≡◌ {A = ItemsReading}
          (if b then Ok (record { items = before; rest = text }) else items_reading n total side before text) (Ok list)
          → ReadsList total side before text (Ok list)
      by true ends is = subst (ReadsList total side before text) is (no_item before text ends)
      by false ends is = some_items before text (Ok list) ends (items-sound n before text list is)

ended-sound : (total : ℕ) (turn side : Side) (before : List Item) (text : List ℕ) (form : FenForm) (list : Items)
    → ReadsList total side before text (Ok list) → (past : Option ℕ) → past_end total list.rest ≡ past
    → ended_reading turn list.items past ≡ Ok form → ReadsRest total turn side before text (Ok form)
ended-sound total turn side before text form list reads (Some offset) past is = absurd (cc)
ended-sound total turn side before text form list reads None past is =
    subst (ReadsRest total turn side before text) is (ended list reads past)

form-sound : (text : List ℕ) (form : FenForm) → form_reading text ≡ Ok form → ReadsForm text (Ok form)
unfolding form_reading
form-sound text form is =
    let n = length text in
    let (header, read, a) = read-on (read_header text) (header_reading n n) form (λ offset. refl) is in
    let (list, first, b) = read-on (list_reading n n header.first [] header.rest) (first_reading n n header) form
    (λ offset. refl) a in
    let (rest, between, c) = read-on (read_between n header.first list.rest) (between_reading n n header list.items)
    form (λ offset. refl) b in
    let (more, second, d) = read-on (list_reading n n (other header.first) list.items rest)
    (second_reading n header.turn) form (λ offset. refl) c in
    let reads = list-sound n (other header.first) n list.items rest more second in
    lists header (Ok form) read
    (both list rest (Ok form) (list-sound n header.first n [] header.rest list first) between
    (ended-sound n header.turn (other header.first) list.items rest form more reads (past_end n more.rest)
    (refl {a = past_end n more.rest}) d))

-- ---- what the grammar's reader reads, the function reads, where it may take so many items

-- a reading gives an item more than it begins with
abbrev Grows : List Item → ItemsReading → Type 0
Grows before (Ok list) = length before < length list.items
Grows before (Err offset) = Unit {0}

more-items : (before : List Item) (item : Item) → length (before ++ item ∷ []) ≡ length before + 1
more-items before item = length-append before (item ∷ [])

weaker : (before : List Item) (item : Item) (r : ItemsReading) → Grows (before ++ item ∷ []) r → Grows before r
weaker before item (Err offset) g = tt
weaker before item (Ok list) g = let more = more-items before item in omega (arith, more, g)

module _ (total : ℕ) (side : Side) where
  items-grow : (before : List Item) (text : List ℕ) (r : ItemsReading) → ReadsItems total side before text r
      → Grows before r
  items-grow before text r (bad_item b t offset read) = tt
  items-grow before text r (last_item b t item rest read comma) = let more = more-items b item in omega (arith, more)
  items-grow before text r (more_items b t item rest more s read comma reads) =
      weaker b item s (items-grow (b ++ item ∷ []) more s reads)

  list-grow : (before : List Item) (text : List ℕ) (list : Items) → ReadsList total side before text (Ok list)
      → length before ≤ length list.items
  list-grow before text list (no_item b t ends) = omega arith
  list-grow before text list (some_items b t s ends reads) =
      let grown = items-grow b t (Ok list) reads in omega (arith, grown)

  -- so many items may be taken
  abbrev MayTake : ℕ → List Item → ItemsReading → Type 0
  MayTake n before (Ok list) = length list.items ≤ length before + n
  MayTake n before (Err offset) = ⊥

  items-complete : (n : ℕ) (before : List Item) (text : List ℕ) (r : ItemsReading) → ReadsItems total side before text r
      → MayTake n before r → items_reading n total side before text ≡ r
  items-complete zero before text (Err offset) reads few = absurd few
  items-complete zero before text (Ok list) reads few =
      let grown = items-grow before text (Ok list) reads in absurd (omega (arith, grown, few))
  items-complete (suc n) before text r (bad_item b t offset read) few = absurd few
  items-complete (suc n) before text r (last_item b t item rest read comma) few =
      ap (λ x. with_item (λ items rest. items_reading n total side items rest) b x) read
      ∙ ap (λ x. after_item (λ items rest. items_reading n total side items rest) (b ++ item ∷ []) rest x) comma
  items-complete (suc n) before text r (more_items b t item rest more s read comma reads) few =
      ap (λ x. with_item (λ items rest. items_reading n total side items rest) b x) read
      ∙ ap (λ x. after_item (λ items rest. items_reading n total side items rest) (b ++ item ∷ []) rest x) comma
      ∙ items-complete n (b ++ item ∷ []) more s reads (fewer s few)
    where
      fewer : (q : ItemsReading) → MayTake (suc n) b q → MayTake n (b ++ item ∷ []) q
      fewer (Ok list) few = let one = more-items b item in omega (arith, one, few)
      fewer (Err offset) few = few

  list-complete : (n : ℕ) (before : List Item) (text : List ℕ) (r : ItemsReading) → ReadsList total side before text r
      → MayTake n before r → list_reading n total side before text ≡ r
  list-complete n before text r (no_item b t ends) few =
      ap (λ x. if x then Ok (record { items = b; rest = t }) else items_reading n total side b t) ends
  list-complete n before text r (some_items b t s ends reads) few =
      ap (λ x. if x then Ok (record { items = b; rest = t }) else items_reading n total side b t) ends
      ∙ items-complete n b t s reads few

-- the items of a text are no more than its bytes
items-few : (side : Side) (before : ℕ) (items : List Item) (text : List ℕ) → AreItemsText side before items text
    → length items ≤ length text + 1
items-few side before [] text are = omega arith
items-few side before (i ∷ []) text are = omega arith
items-few side before (i ∷ j ∷ items) text (first, rest, at, is, are, split) =
    let fewer = items-few side (before + length first + 1) (j ∷ items) rest are in
    let long : length text ≡ length first + suc (length rest) = ap length split ∙ length-append first (44 ∷ rest) in
    omega (arith, fewer, long)

module _ (text : List ℕ) (form : FenForm) (h : HasFenForm text form) where
  form-few : length form.items ≤ length text
  form-few =
      let first = items-few h.listed 3 h.first h.first_text h.first_is in
      let second = items-few (other h.listed) (3 + length h.first_text + 2) h.second h.second_text h.second_is in
      let items = simp length-append at (ap length h.items) in
      let whole = simp length-append at (ap length h.text_is) in
      omega (arith, first, second, items, whole)

module _ (n total : ℕ) (header : Header) where
  -- the second list and the end are read as the grammar's reader reads them, where so many items may be taken
  rest-complete : (before : List Item) (text : List ℕ) (form : FenForm)
      → ReadsRest total header.turn (other header.first) before text (Ok form) → length form.items ≤ n
      → (second_reading total header.turn (list_reading n total (other header.first) before text) ≡ Ok form)
      × (length before ≤ length form.items)
  rest-complete before text form (ended list reads past) few = (
    ap (second_reading total header.turn)
        (list-complete total (other header.first) n before text (Ok list) reads (omega (arith, few)))
        ∙ ap (ended_reading header.turn list.items) past,
    list-grow total (other header.first) before text list reads,
  )

  lists-complete : (form : FenForm) → length form.items ≤ n → ReadsLists total header (Ok form)
      → first_reading n total header (list_reading n total header.first [] header.rest) ≡ Ok form
  lists-complete form few (both list rest r first between reads) =
      let second = rest-complete list.items rest form reads few in
      let fewer = second.1 in
      ap (first_reading n total header)
      (list-complete total header.first n [] header.rest (Ok list) first (omega (arith, few, fewer)))
      ∙ ap (between_reading n total header list.items) between ∙ second.0

form-complete : (text : List ℕ) (form : FenForm) → ReadsForm text (Ok form)
    → form_reading text ≡ Ok form
unfolding form_reading
form-complete text form (lists header r read reads) =
    ap (header_reading (length text) (length text)) read
    ∙ lists-complete (length text) (length text) header form
    (form-few text form (form-parts text form (lists header r read reads))) reads

-- ---- the test

opening-true : (text : List ℕ) → IsFen text opening → is_opening text ≡ true
opening-true text (form, reads, once, is) =
    ap is_opening_form (form-complete text form reads) ∙ ap (is_opening_unless form) once
    ∙ ap (λ p. same_position p opening) (sym is) ∙ same_position-itself opening

true-opening : (text : List ℕ) → is_opening text ≡ true → IsFen text opening
true-opening text is = by (form_reading text) refl is
  where
    once : (form : FenForm) (again : Option ℕ) → ReadsForm text (Ok form) → repeated form.items ≡ again
        → is_opening_unless form again ≡ true → IsFen text opening
    once form (Some offset) reads again is = absurd (cc)
    once form None reads again is = (form, reads, again, sym (same_position-same (position_of form) opening is))

    by : (read : FenReading) → form_reading text ≡ read → is_opening_form read ≡ true → IsFen text opening
    by (Err offset) read is = absurd (cc)
    by (Ok form) read is = once form (repeated form.items) (form-sound text form read) refl is

pub tells-opening : (text : List ℕ) → IsTrue (is_opening text) ↔ IsFen text opening
tells-opening text = (true-opening text, opening-true text)
