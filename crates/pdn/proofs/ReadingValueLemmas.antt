-- The function that reads moves is as the rules say.
use Rattle.std.proofs.Common.{◌≡◌, ◌≢◌, ℕ, ◌<◌, inl, inr, Bool, true, false, cond, not, ◌&&◌, ◌||◌, nat_eq, List, []}
use Rattle.std.proofs.Common.{◌∷◌, ◌++◌, length, Option, Some, None, Ok, Err, IsOk, refl, sym, ap, ◌∙◌, subst, arith}
use Rattle.std.specs.Prelude.{◌↔◌, map}
use Rattle.std.specs.List.{list_any, list_all, range_with_len, Contains}
use Rattle.std.specs.Option.{option_map_or}
use Rattle.std.specs.FinSet as set
use Rattle.std.proofs.lemmas.Bool.{and_parts, eqb-true, eq-eqb}
use Rattle.squares.specs.declared.draughts.piece.DPiece.{DPiece}
use Rattle.squares.specs.declared.draughts.moves.DMove.{DMove}
use Rattle.squares.specs.DraughtsBoard.{Position}
use Rattle.squares.specs.TheOnly.{TheOnly}
use Rattle.squares.specs.internal.In.{In, In-map, In-Contains, Contains-In, list_any-found, list_any-finds}
use Rattle.draughts_moves.specs.declared.checking.Illegal.{Illegal}
use Rattle.draughts_moves.specs.declared.checking.Illegal.TheVariants.{NoSuchMove, MustCapture, NotLongest}
use Rattle.draughts_moves.specs.Capture.{Capture, without}
use Rattle.draughts_moves.specs.Legal.{Legal}
use Rattle.draughts_moves.specs.Search.{routes_of}
use Rattle.draughts_moves.specs.Listing.{captures_at, move_to, step_to}
use Rattle.draughts_moves.specs.Check.{Answer}
use Rattle.draughts_moves.specs.internal.Check.{check_of}
use Rattle.draughts_moves.proofs.Proved.{check_of-is, own_at-own, routes_of-complete, greatest-bounds, greatest-fits}
use Rattle.draughts_moves.proofs.Proved.{In-range}
use Rattle.pdn.specs.declared.faults.MoveFault.{MoveFault}
use Rattle.pdn.specs.declared.faults.MoveFault.TheVariants as fault
use Rattle.pdn.specs.Forms.{Form, FormReading, quiet, capture, read_form}
use Rattle.pdn.specs.internal.Passing.{passes}
use Rattle.pdn.specs.Choice.{same_move}
use Rattle.pdn.specs.internal.Choice.{IsChoice, IsTie}
use Rattle.pdn.specs.MoveValue.{legal_moves, routes_in}
use Rattle.pdn.specs.internal.MoveValue.{does_fit, Choosing, choose, some_fit, chosen, checked}
use Rattle.pdn.specs.internal.MoveValue.{form_reading, with_form, move_reading}
use Rattle.pdn.specs.ReadMove.{Fits, NoneFits, StandsFor, IsAmbiguous, IsRefused, IsRead}
use Rattle.pdn.specs.internal.ReadMove.{SomeFits, IsFormFault}
use Rattle.pdn.specs.ReadMove.{HasReadFault, Reading, IsReadingOf}
use Rattle.pdn.proofs.ChoiceLemmas.{same_move-same, same_move-itself}
use Rattle.pdn.proofs.PassingLemmas.{route-fits, fits-passes}
use Rattle.pdn.proofs.ReadingLemmas as reading
use Rattle.pdn.proofs.OneMoveLemmas.{one_form, reads-one, reads-well}
use Rattle.pdn.proofs.ValueLemmas.{legal_moves-legal, legal-legal_moves, routes_in-Capture, Capture-routes_in}

module _ (p : Position) (from : ℕ) (middle : List ℕ) (to : ℕ) where
  pub does_fit-fits : (m : DMove) → does_fit p from middle to m ≡ true → Fits p from middle to m
  unfolding does_fit
  does_fit-fits m e =
      let first = and_parts (nat_eq m.from from) (nat_eq m.to to && list_any (passes middle) (routes_in p m)) e in
      let rest = and_parts (nat_eq m.to to) (list_any (passes middle) (routes_in p m)) first.1 in
      let w = list_any-found (passes middle) (routes_in p m) rest.1 in
      route-fits p m from middle to (eqb-true m.from from first.0) (eqb-true m.to to rest.0) w.0
      (routes_in-Capture p m w.0 w.1) w.2

  pub fits-does_fit : (m : DMove) → Fits p from middle to m → does_fit p from middle to m ≡ true
  unfolding does_fit
  fits-does_fit m f =
      let leaves = eq-eqb m.from from f.leaves in
      let comes = eq-eqb m.to to f.comes in
      let some = list_any-finds (passes middle) (routes_in p m) (f.before ++ to ∷ [])
      (Capture-routes_in p m (f.before ++ to ∷ []) f.route) (fits-passes p m from middle to f) in
      λ i. leaves i && (comes i && some i)

-- what a choice is
abbrev pub IsChosen : (DMove → Type 0) → List DMove → Choosing → Type 0
IsChosen F ms (Ok choice) = IsChoice F ms choice
IsChosen F ms (Err e) = (e ≡ fault.Ambiguous) × IsTie F ms

module _ (F : DMove → Type 0) (f : DMove → Bool) (sound : (m : DMove) → f m ≡ true → F m)
    (complete : (m : DMove) → F m → f m ≡ true) where
  agree : (x n : DMove) (a : Bool) → f n ≡ a → (not a || same_move x n) ≡ true → a ≡ true → x ≡ n
  agree x n true e h g = same_move-same x n h
  agree x n false e h g = cc

  differ : (x n : DMove) (a : Bool) → f n ≡ a → (not a || same_move x n) ≡ false → (a ≡ true) × (x ≢ n)
  differ x n true e h = (refl, λ same. let itself = same_move-itself x n same in cc)
  differ x n false e h = cc

  all_agree : (x : DMove) (ms : List DMove) → list_all (λ n. not (f n) || same_move x n) ms ≡ true → (n : DMove)
      → In n ms → F n → n ≡ x
  all_agree x [] e n h fits = absurd h
  all_agree x (y ∷ ms) e n (inl is) fits =
      let tests = and_parts (not (f y) || same_move x y) (list_all (λ n. not (f n) || same_move x n) ms) e in
      sym is ∙ sym (agree x y (f y) refl tests.0 (complete y (subst F (sym is) fits)))
  all_agree x (y ∷ ms) e n (inr h) fits =
      let tests = and_parts (not (f y) || same_move x y) (list_all (λ n. not (f n) || same_move x n) ms) e in
      all_agree x ms tests.1 n h fits

  one_differs : (x : DMove) (ms : List DMove) → list_all (λ n. not (f n) || same_move x n) ms ≡ false → (n : DMove)
      × In n ms × F n × (x ≢ n)
  one_differs x [] e = cc
  one_differs x (y ∷ ms) e =
      elim (not (f y) || same_move x y) as (λ b. (not (f y) || same_move x y) ≡ b
      → (b && list_all (λ n. not (f n) || same_move x n) ms) ≡ false → (n : DMove) × In n (y ∷ ms) × F n × (x ≢ n)) [
        | true ↦ λ _ rest. let w = one_differs x ms rest in (w.0, inr w.1, w.2, w.3)
        | false ↦ λ here _. let w = differ x y (f y) refl here in (y, inl refl, sound y w.0, w.1)
      ] refl e

  skipped : (x : DMove) (ms : List DMove) (r : Choosing) → (F x → ⊥) → IsChosen F ms r → IsChosen F (x ∷ ms) r
  skipped x ms (Ok None) refuted none = λ n h fits.
      elim h [ inl is ↦ refuted (subst F (sym is) fits) | inr k ↦ none n k fits ]
  skipped x ms (Ok (Some m)) refuted choice = (
    inr choice.0,
    choice.1,
    λ n h fits. elim h
        [ inl is ↦ absurd (refuted (subst F (sym is) fits)) | inr k ↦ choice.2 n k fits ],
  )
  skipped x ms (Err e) refuted tie =
      (tie.0, (tie.1.0, tie.1.1, inr tie.1.2, tie.1.3, inr tie.1.4, tie.1.5, tie.1.6))

  pub choose-is : (ms : List DMove) → IsChosen F ms (choose f ms)
  choose-is [] = λ n h fits. h
  choose-is (x ∷ ms) =
      elim (f x) as (λ b. f x ≡ b → IsChosen F (x ∷ ms)
      (cond b (cond (list_all (λ n. not (f n) || same_move x n) ms) (Ok (Some x)) (Err fault.Ambiguous))
      (choose f ms))) [
        | true ↦
            λ here.
            elim (list_all (λ n. not (f n) || same_move x n) ms) as (λ b.
            list_all (λ n. not (f n) || same_move x n) ms ≡ b
            → IsChosen F (x ∷ ms) (cond b (Ok (Some x)) (Err fault.Ambiguous))) [
              | true ↦
                  λ all.
                  (inl refl, sound x here, λ n h fits. elim h [ inl is ↦ sym is | inr k ↦ all_agree x ms all n k fits ])
              | false ↦ λ e. let w = one_differs x ms e in (refl, (x, w.0, inl refl, sound x here, inr w.1, w.2, w.3))
            ] refl
        | false ↦ λ here. skipped x ms (choose f ms) (λ fits. let found = complete x fits in cc) (choose-is ms)
      ] refl

module _ (p : Position) (from : ℕ) (middle : List ℕ) (to : ℕ) where
  pub some_fit-SomeFits : some_fit p from middle to ≡ true → SomeFits p from middle to
  unfolding some_fit
  some_fit-SomeFits e =
      let w = list_any-found (λ n. list_any (does_fit p from middle to) (captures_at p n from)) (range_with_len 0 51) e
      in
      let v = list_any-found (does_fit p from middle to) (captures_at p w.0 from) w.2 in
      (v.0, does_fit-fits p from middle to v.0 v.2)

  captures_at-has : (m : DMove) (ls : List ℕ) → Capture p m.from ls m.taken m.to
      → In m (captures_at p (length ls) m.from)
  unfolding captures_at
  captures_at-has m ls c =
      let own = own_at-own p m.from c.piece c.stands c.own in
      let found = routes_of-complete (without p.board m.from) c.piece ls set.empty m.from m.taken m.to c.route in
      subst
      (λ (o : Option DPiece).
      In m
      (option_map_or (λ q. map (move_to m.from) (routes_of (without p.board m.from) q (length ls) set.empty m.from))
      o [])) (sym own)
      (In-map (move_to m.from) (m.taken, m.to) (routes_of (without p.board m.from) c.piece (length ls) set.empty m.from)
      found)

  few : (m : DMove) (ls : List ℕ) → Capture p m.from ls m.taken m.to → length ls < 51
  few m ls c =
      omega (
        arith,
        greatest-bounds (without p.board m.from) c.piece ls set.empty m.from m.taken m.to c.route,
        greatest-fits (without p.board m.from) c.piece set.empty m.from,
      )

  pub SomeFits-some_fit : SomeFits p from middle to → some_fit p from middle to ≡ true
  unfolding some_fit
  SomeFits-some_fit w =
      let m = w.0 in
      let f = w.1 in
      let ls = f.before ++ to ∷ [] in
      let n = length ls in
      let among = subst (λ x. In m (captures_at p n x)) f.leaves (captures_at-has m ls f.route) in
      let here = list_any-finds (does_fit p from middle to) (captures_at p n from) m among
      (fits-does_fit p from middle to m f) in
      list_any-finds (λ n. list_any (does_fit p from middle to) (captures_at p n from)) (range_with_len 0 51) n
      (In-range 0 51 n (omega arith) (omega (arith, few m ls f.route))) here

  members : (n : DMove) → Contains (legal_moves p) n ↔ Legal p n
  members n = (
    λ h. legal_moves-legal p n (Contains-In n (legal_moves p) h),
    λ legal. In-Contains n (legal_moves p) (legal-legal_moves p n legal),
  )

  cause-is : (some : Bool) → some_fit p from middle to ≡ some → NoneFits p from middle to
      → IsRefused p (capture from middle to) (cond some NotLongest NoSuchMove)
  cause-is true e none = (none, reading.short-fits p from middle to none (some_fit-SomeFits e))
  cause-is false e none = (
    none,
    λ w. let found = SomeFits-some_fit (reading.ShortFits-SomeFits p from middle to w) in
        cc,
  )

pub IsReadBy : Position → Form → Reading → Type 0
IsReadBy p form (Ok m) = StandsFor p form m
IsReadBy p form (Err e) = IsFormFault p form e × (e ≢ fault.Memory)

capture-read : (p : Position) (from : ℕ) (middle : List ℕ) (to : ℕ) (r : Choosing)
    → IsChosen (Fits p from middle to) (legal_moves p) r
    → IsReadBy p (capture from middle to) (chosen (some_fit p from middle to) r)
unfolding IsReadBy
capture-read p from middle to (Ok None) none = (
  cause-is p from middle to (some_fit p from middle to) refl
      (reading.none-chosen p from middle to (legal_moves p) (legal_moves p) refl (members p from middle to) none),
  λ e. cc,
)
capture-read p from middle to (Ok (Some m)) choice =
    reading.chosen p from middle to (legal_moves p) (legal_moves p) refl (members p from middle to) m choice
capture-read p from middle to (Err e) tie = (
  subst (IsFormFault p (capture from middle to)) (sym tie.0)
      (reading.choice-fault p from middle to (legal_moves p) (legal_moves p) refl (members p from middle to)
      fault.Ambiguous tie.1),
  λ memory. let is = tie.0 in cc,
)

quiet-read : (p : Position) (from to : ℕ) (a : Answer) → check_of p (step_to from to) ≡ a
    → IsReadBy p (quiet from to) (checked (step_to from to) a)
unfolding IsReadBy
quiet-read p from to (Ok u) e = (refl, (check_of-is p (step_to from to)).legal.0 (subst IsOk (sym e) refl))
quiet-read p from to (Err cause) e = (e, λ memory. cc)

form-read : (p : Position) (form : Form) → IsReadBy p form (form_reading p form)
form-read p (quiet from to) = quiet-read p from to (check_of p (step_to from to)) refl
form-read p (capture from middle to) = capture-read p from middle to
    (choose (does_fit p from middle to) (legal_moves p))
    (choose-is (Fits p from middle to) (does_fit p from middle to) (does_fit-fits p from middle to)
    (fits-does_fit p from middle to) (legal_moves p))

of_form : (p : Position) (text : List ℕ) (form : Form) → read_form text ≡ Ok form → (r : Reading) → IsReadBy p form r
    → IsReadingOf p text r
unfolding IsReadBy
of_form p text form e (Ok m) h = (form, e, h)
of_form p text form e (Err fault.Memory) h = absurd (h.1 refl)
of_form p text form e (Err (fault.BadText offset)) h = absurd h.0
of_form p text form e (Err fault.Ambiguous) h = ((form, e, h.0), h.1)
of_form p text form e (Err (fault.Illegal cause)) h = ((form, e, h.0), h.1)

of_text : (p : Position) (text : List ℕ) (r : FormReading) → read_form text ≡ r → IsReadingOf p text (with_form p r)
of_text p text (Ok form) e = of_form p text form e (form_reading p form) (form-read p form)
of_text p text (Err offset) e = (e, λ memory. cc)

pub reading-is : (p : Position) (text : List ℕ) → IsReadingOf p text (move_reading p text)
unfolding move_reading
reading-is p text = of_text p text (read_form text) refl

no_tie : (p : Position) (f : Form) (cause : Illegal) → IsAmbiguous p f → IsRefused p f cause → ⊥
no_tie p (quiet from to) cause h k = h
no_tie p (capture from middle to) NoSuchMove h k = k.0 h.0 h.2 h.3
no_tie p (capture from middle to) MustCapture h k = k
no_tie p (capture from middle to) NotLongest h k = k.0 h.0 h.2 h.3

one_cause : (p : Position) (f : Form) (c d : Illegal) → IsRefused p f c → IsRefused p f d → c ≡ d
one_cause p (quiet from to) c d h k = cc
one_cause p (capture from middle to) NoSuchMove NoSuchMove h k = refl
one_cause p (capture from middle to) NoSuchMove MustCapture h k = absurd k
one_cause p (capture from middle to) NoSuchMove NotLongest h k = absurd (h.1 k.1)
one_cause p (capture from middle to) MustCapture d h k = absurd h
one_cause p (capture from middle to) NotLongest NoSuchMove h k = absurd (k.1 h.1)
one_cause p (capture from middle to) NotLongest MustCapture h k = absurd k
one_cause p (capture from middle to) NotLongest NotLongest h k = refl

-- a text has one fault beside that of memory
one_fault : (p : Position) (text : List ℕ) (d e : MoveFault) → HasReadFault p text d → HasReadFault p text e
    → d ≢ fault.Memory → e ≢ fault.Memory → d ≡ e
one_fault p text fault.Memory e h k nd ne = absurd (nd refl)
one_fault p text (fault.BadText offset) fault.Memory h k nd ne = absurd (ne refl)
one_fault p text (fault.BadText offset) (fault.BadText other) h k nd ne = let same : offset ≡ other = cc in
    ap fault.BadText same
one_fault p text (fault.BadText offset) fault.Ambiguous h k nd ne = let g = k.1 in cc
one_fault p text (fault.BadText offset) (fault.Illegal cause) h k nd ne = let g = k.1 in cc
one_fault p text fault.Ambiguous fault.Memory h k nd ne = absurd (ne refl)
one_fault p text fault.Ambiguous (fault.BadText offset) h k nd ne = let g = h.1 in cc
one_fault p text fault.Ambiguous fault.Ambiguous h k nd ne = refl
one_fault p text fault.Ambiguous (fault.Illegal cause) h k nd ne =
    absurd (no_tie p h.0 cause h.2 (subst (λ f. IsRefused p f cause) (one_form text h.0 k.0 h.1 k.1) k.2))
one_fault p text (fault.Illegal cause) fault.Memory h k nd ne = absurd (ne refl)
one_fault p text (fault.Illegal cause) (fault.BadText offset) h k nd ne = let g = h.1 in cc
one_fault p text (fault.Illegal cause) fault.Ambiguous h k nd ne =
    absurd (no_tie p k.0 cause k.2 (subst (λ f. IsRefused p f cause) (one_form text k.0 h.0 k.1 h.1) h.2))
one_fault p text (fault.Illegal cause) (fault.Illegal reason) h k nd ne =
    ap fault.Illegal
    (one_cause p h.0 cause reason h.2 (subst (λ f. IsRefused p f reason) (one_form text h.0 k.0 h.1 k.1) k.2))

module _ (p : Position) (text : List ℕ) where
  to_ok : (r : Reading) (m : DMove) → IsReadingOf p text r → IsRead p text m → r ≡ Ok m
  to_ok (Ok n) m h k = ap Ok (reads-one p text m n k h)
  to_ok (Err f) m h k = absurd (h.1 (reads-well p text m f k h.0))

  to_err : (r : Reading) (e : MoveFault) → IsReadingOf p text r → HasReadFault p text e × (e ≢ fault.Memory) → r ≡ Err e
  to_err (Ok n) e h k = absurd (k.1 (reads-well p text n e h k.0))
  to_err (Err f) e h k = ap Err (one_fault p text f e h.0 k.0 h.1 k.1)

  pub reading-ok : (m : DMove) → (move_reading p text ≡ Ok m) ↔ IsRead p text m
  reading-ok m =
      (λ e. subst (IsReadingOf p text) e (reading-is p text), to_ok (move_reading p text) m (reading-is p text))

  pub reading-err : (e : MoveFault) → (move_reading p text ≡ Err e) ↔ (HasReadFault p text e × (e ≢ fault.Memory))
  reading-err e =
      (λ is. subst (IsReadingOf p text) is (reading-is p text), to_err (move_reading p text) e (reading-is p text))

  pub reading-one : (r : Reading) → IsReadingOf p text r → r ≡ move_reading p text
  reading-one (Ok m) h = sym ((reading-ok m).1 h)
  reading-one (Err e) h = sym ((reading-err e).1 h)

  -- a text has one reading
  abbrev pub reading-answer : TheOnly (IsReadingOf p text)
  reading-answer = record { value = move_reading p text; is = reading-is p text; only = reading-one }
