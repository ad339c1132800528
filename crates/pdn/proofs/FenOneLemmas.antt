-- A position's text is read in one way.
use Rattle.std.proofs.Common.{◌≡◌, Bool, Option, ℕ, inl, inr, List, [], ◌∷◌, ◌++◌, Some, None, true, false, Ok, Err}
use Rattle.std.proofs.Common.{length, refl, sym, ap, ◌∙◌, subst}
use Rattle.squares.specs.declared.sides.Side.{Side}
use Rattle.squares.specs.DraughtsBoard.{Position}
use Rattle.squares.specs.Sides.{other}
use Rattle.pdn.specs.declared.items.Item.{Item}
use Rattle.pdn.specs.declared.faults.FenFault.{FenFault}
use Rattle.pdn.specs.declared.faults.FenFault.TheVariants as fault
use Rattle.pdn.specs.FenItems.{ItemFront, ItemReading, Items, ItemsReading, past_byte, read_item, ReadsItems, bad_item}
use Rattle.pdn.specs.FenItems.{last_item, more_items, ends_list, ReadsList, no_item, some_items}
use Rattle.pdn.specs.FenForm.{Header, HeaderReading, RestReading, FenReading, read_header, read_between, past_end}
use Rattle.pdn.specs.FenForm.{ReadsRest, bad_second, bad_end, ended, ReadsLists, bad_first, bad_between, both}
use Rattle.pdn.specs.FenForm.{ReadsForm, bad_header, lists}
use Rattle.pdn.specs.ReadFen.{position_of, IsFen}
use Rattle.pdn.specs.internal.ReadFen.{HasFenFault}

module _ (total : ℕ) (side : Side) where
  -- what is read after an item, and where no item is read
  abbrev pub AfterComma : List Item → ItemFront → Option (List ℕ) → ItemsReading → Type 0
  AfterComma before front None r = r ≡ Ok (record { items = before ++ front.item ∷ []; rest = front.rest })
  AfterComma before front (Some more) r = ReadsItems total side (before ++ front.item ∷ []) more r

  abbrev pub AfterItem : List Item → ItemReading → ItemsReading → Type 0
  AfterItem before (Err offset) r = r ≡ Err offset
  AfterItem before (Ok front) r = AfterComma before front (past_byte 44 front.rest) r

  after-item : (before : List Item) (text : List ℕ) (r : ItemsReading) → ReadsItems total side before text r
      → AfterItem before (read_item total side text) r
  after-item before text r (bad_item b t o e) = subst (λ (x : ItemReading). AfterItem b x r) (sym e) refl
  after-item before text r (last_item b t item rest e g) =
      let front : ItemFront = record { item = item; rest = rest } in
      subst (λ (x : ItemReading). AfterItem b x r) (sym e) (subst (λ o. AfterComma b front o r) (sym g) refl)
  after-item before text r (more_items b t item rest more reading e g h) =
      let front : ItemFront = record { item = item; rest = rest } in
      subst (λ (x : ItemReading). AfterItem b x reading) (sym e) (subst (λ o. AfterComma b front o reading) (sym g) h)

  items-one : (before : List Item) (text : List ℕ) (r s : ItemsReading) → ReadsItems total side before text r
      → ReadsItems total side before text s → s ≡ r
  items-one before text r s (bad_item b t o e) k = subst (λ (x : ItemReading). AfterItem b x s) e (after-item b t s k)
  items-one before text r s (last_item b t item rest e g) k =
      let front : ItemFront = record { item = item; rest = rest } in
      subst (λ o. AfterComma b front o s) g (subst (λ (x : ItemReading). AfterItem b x s) e (after-item b t s k))
  items-one before text r s (more_items b t item rest more reading e g h) k =
      let front : ItemFront = record { item = item; rest = rest } in
      items-one (b ++ item ∷ []) more reading s h
      (subst (λ o. AfterComma b front o s) g (subst (λ (x : ItemReading). AfterItem b x s) e (after-item b t s k)))

  -- a list that has no item, or has some
  abbrev pub AfterStart : List Item → List ℕ → Bool → ItemsReading → Type 0
  AfterStart before text true r = r ≡ Ok (record { items = before; rest = text })
  AfterStart before text false r = ReadsItems total side before text r

  after-start : (before : List Item) (text : List ℕ) (r : ItemsReading) → ReadsList total side before text r
      → AfterStart before text (ends_list text) r
  after-start before text r (no_item b t e) = subst (λ x. AfterStart b t x r) (sym e) refl
  after-start before text r (some_items b t reading e h) = subst (λ x. AfterStart b t x reading) (sym e) h

  pub list-one : (before : List Item) (text : List ℕ) (r s : ItemsReading) → ReadsList total side before text r
      → ReadsList total side before text s → s ≡ r
  list-one before text r s (no_item b t e) k = subst (λ x. AfterStart b t x s) e (after-start b t s k)
  list-one before text r s (some_items b t reading e h) k =
      items-one b t reading s h (subst (λ x. AfterStart b t x s) e (after-start b t s k))

-- the second list and the end
module _ (total : ℕ) (turn second : Side) (before : List Item) (text : List ℕ) where
  abbrev pub at_end : Items → Option ℕ → FenReading
  at_end list None = Ok (record { turn = turn; items = list.items })
  at_end list (Some offset) = Err offset

  abbrev pub after_second : ItemsReading → FenReading
  after_second (Err offset) = Err offset
  after_second (Ok list) = at_end list (past_end total list.rest)

  rest-list : (r : FenReading) → ReadsRest total turn second before text r → (l : ItemsReading)
      × ReadsList total second before text l × (r ≡ after_second l)
  rest-list r (bad_second o h) = (Err o, h, refl)
  rest-list r (bad_end list o h g) = (Ok list, h, sym (ap (at_end list) g))
  rest-list r (ended list h g) = (Ok list, h, sym (ap (at_end list) g))

  rest-one : (r s : FenReading) → ReadsRest total turn second before text r → ReadsRest total turn second before text s
      → s ≡ r
  rest-one r s h k =
      let v = rest-list r h in
      let w = rest-list s k in
      w.2 ∙ ap after_second (list-one total second before text v.0 w.0 v.1 w.1) ∙ sym v.2

-- both lists
module _ (total : ℕ) (header : Header) where
  abbrev pub AfterBetween : Items → RestReading → FenReading → Type 0
  AfterBetween list (Err offset) r = r ≡ Err offset
  AfterBetween list (Ok rest) r = ReadsRest total header.turn (other header.first) list.items rest r

  abbrev pub AfterFirst : ItemsReading → FenReading → Type 0
  AfterFirst (Err offset) r = r ≡ Err offset
  AfterFirst (Ok list) r = AfterBetween list (read_between total header.first list.rest) r

  after-first : (r : FenReading) → ReadsLists total header r → (l : ItemsReading)
      × ReadsList total header.first [] header.rest l × AfterFirst l r
  after-first r (bad_first o h) = (Err o, h, refl)
  after-first r (bad_between list o h e) =
      (Ok list, h, subst (λ (x : RestReading). AfterBetween list x r) (sym e) refl)
  after-first r (both list rest reading h e f) =
      (Ok list, h, subst (λ (x : RestReading). AfterBetween list x reading) (sym e) f)

  between-one : (list : Items) (b : RestReading) (r s : FenReading) → AfterBetween list b r → AfterBetween list b s
      → s ≡ r
  between-one list (Err offset) r s h k = k ∙ sym h
  between-one list (Ok rest) r s h k = rest-one total header.turn (other header.first) list.items rest r s h k

  first-one : (l : ItemsReading) (r s : FenReading) → AfterFirst l r → AfterFirst l s → s ≡ r
  first-one (Err offset) r s h k = k ∙ sym h
  first-one (Ok list) r s h k = between-one list (read_between total header.first list.rest) r s h k

  lists-one : (r s : FenReading) → ReadsLists total header r → ReadsLists total header s → s ≡ r
  lists-one r s h k =
      let v = after-first r h in
      let w = after-first s k in
      let same = list-one total header.first [] header.rest v.0 w.0 v.1 w.1 in
      first-one v.0 r s v.2 (subst (λ (l : ItemsReading). AfterFirst l s) same w.2)

-- a whole text
module _ (text : List ℕ) where
  abbrev pub AfterHeader : HeaderReading → FenReading → Type 0
  AfterHeader (Err offset) r = r ≡ Err offset
  AfterHeader (Ok header) r = ReadsLists (length text) header r

  after-header : (r : FenReading) → ReadsForm text r → AfterHeader (read_header text) r
  after-header r (bad_header o e) = subst (λ (x : HeaderReading). AfterHeader x r) (sym e) refl
  after-header r (lists header reading e h) = subst (λ (x : HeaderReading). AfterHeader x reading) (sym e) h

  header-one : (x : HeaderReading) (r s : FenReading) → AfterHeader x r → AfterHeader x s → s ≡ r
  header-one (Err offset) r s h k = k ∙ sym h
  header-one (Ok header) r s h k = lists-one (length text) header r s h k

  pub form-one : (r s : FenReading) → ReadsForm text r → ReadsForm text s → s ≡ r
  form-one r s h k = header-one (read_header text) r s (after-header r h) (after-header s k)

  pub fen-one : (p q : Position) → IsFen text p → IsFen text q → q ≡ p
  fen-one p q h k =
      let e = form-one (Ok h.0) (Ok k.0) h.1 k.1 in
      let same : k.0 ≡ h.0 = cc in
      k.3 ∙ ap position_of same ∙ sym h.3

  pub fen-well : (p : Position) (e : FenFault) → IsFen text p → HasFenFault text e → e ≡ fault.Memory
  fen-well p fault.Memory h k = refl
  fen-well p (fault.BadText o) h (inl k) = let e = form-one (Ok h.0) (Err o) h.1 k in cc
  fen-well p (fault.BadText o) h (inr k) =
      let e = form-one (Ok h.0) (Ok k.0) h.1 k.1 in
      let same : k.0 ≡ h.0 = cc in
      let none = h.2 in
      let some = k.2 in
      cc
