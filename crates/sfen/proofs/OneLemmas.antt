-- What the reader's answers say of a text, and that a text is read in one way.
use Rattle.std.proofs.Common.{◌≡◌, ℕ, ◌+◌, ◌<◌, List, length, take, get_or, Some, None, sym, ap, ◌∙◌, subst, ◌≤◌, []}
use Rattle.std.proofs.Common.{◌∷◌, ◌++◌, inl, inr, drop, Option, refl, arith}
use Rattle.sfen.specs.declared.places.SfenState.{SfenState}
use Rattle.sfen.specs.declared.places.Action.{Action}
use Rattle.sfen.specs.declared.reading.Reading.{Reading}
use Rattle.sfen.specs.internal.Signs.{sign_of}
use Rattle.sfen.specs.internal.Places.{IsSane, next, number_at_end}
use Rattle.sfen.specs.internal.Reading.{act, follow, take_byte, run, beginning, StopsAt, if_some}
use Rattle.sfen.proofs.SoundLemmas.{IfStep, Leads, sane-next, form-of, sound, moved-place}
use Rattle.sfen.proofs.Stages.{run-more, run-after, run-none, Stage, moved, moved_by, grow, start, form_of, seen}
use Rattle.sfen.proofs.Stages.{seen-run, small-set, tally-count}
use Rattle.std.specs.Prelude.{min, option_map}
use Rattle.std.proofs.Math.Seq.{take-length}
use Rattle.std.proofs.lemmas.List.{take-append-drop, take-take}
use Rattle.std.proofs.lemmas.Bool.{cases_lt}
use Rattle.squares.specs.declared.sides.Side.{Side}
use Rattle.squares.specs.declared.sides.Side.TheVariants.{First, Second}
use Rattle.squares.specs.declared.shogi.piece.HandKind.{HandKind}
use Rattle.squares.specs.ShogiHands.{count_of, hand_of}
use Rattle.squares.specs.ShogiSets.{ShogiPosition}
use Rattle.squares.specs.internal.ShogiSets.{IsShogiPosition, HasKings, KeepsSets, in_play, set_size}
use Rattle.sfen.specs.internal.SfenGrammar.{SfenForm, HasSfenForm, HasNoForm, BeginsSfen, IsLongestBeginning}
use Rattle.sfen.specs.internal.SfenGrammar.{IsSfenText}
use Rattle.sfen.specs.internal.SfenGrammar.{AreHands, held_total, HasTooMany, HeldItem, IsRefused}
use Rattle.sfen.proofs.BoardLemmas.{fresh-nothing}
use Rattle.sfen.proofs.CompleteLemmas.{complete, closes}
use Rattle.squares.specs.declared.shogi.piece.HandKind.TheVariants as in_hand
use Rattle.squares.specs.declared.shogi.hand.Hand.{Hand}
use Rattle.squares.specs.declared.shogi.hand.Hands.{Hands}
use Rattle.sfen.specs.declared.faults.SfenFault.{SfenFault}
use Rattle.sfen.specs.declared.faults.SfenFault.TheVariants.{BadText, TooManyPieces, Kings}

-- a byte that is taken
pub takes : (reading after : Reading) (byte : ℕ) (place : SfenState) (action : Action) → IsSane reading.place
    → next reading.place (sign_of byte) ≡ Some (place, action) → after ≡ act action reading
    → (take_byte reading byte ≡ Some (record after { place = place })) × IsSane place
takes reading after byte place action sane is acted = (
  ap (λ o. follow o reading) is ∙ ap (λ (r : Reading). Some (record r { place = place })) (sym acted),
  subst (IfStep Leads) is (sane-next reading.place byte sane),
)

module _ (text : List ℕ) (i c : ℕ) (reading : Reading) (within : i < length text) (is : c ≡ get_or text i 0)
    (before : run take_byte beginning (take i text) ≡ Some reading) where
  pub goes-on : (after : Reading) → take_byte reading c ≡ Some after
      → run take_byte beginning (take (i + 1) text) ≡ Some after
  goes-on after e = run-more take_byte beginning reading text i c within is before ∙ e

  pub stops-at : take_byte reading c ≡ None → StopsAt text i
  stops-at e =
      let none = run-more take_byte beginning reading text i c within is before ∙ e in
      record { within = within; reading = reading; before = before; none = none }

-- ---- What the reader's answers say of a text

run-sane : (text : List ℕ) (s e : Stage) → IsSane s.place → run grow s text ≡ Some e → IsSane e.place
run-sane [] s e sane read = let same : s ≡ e = cc in subst (λ x. IsSane x.place) same sane
run-sane (c ∷ text) s e sane read =
    elim (next s.place (sign_of c)) as (λ o. IfStep Leads o → if_some (λ t. run grow t text) (moved_by o s) ≡ Some e
    → IsSane e.place) [
      | None ↦ λ l k. cc
      | Some step ↦ λ l k. run-sane text (moved step.0 step.1 s) e (subst IsSane (sym (moved-place step.0 step.1 s)) l)
          k
    ]
    (sane-next s.place c sane)
    read

start-sane : IsSane start.place
start-sane = ((omega arith, omega arith), omega arith)

-- what is read to its end has that form
pub has-form : (text : List ℕ) (e : Stage) (number : ℕ) → run grow start text ≡ Some e
    → number_at_end e.place ≡ Some number → HasSfenForm text (form_of e number)
has-form text e number read end =
    let w = sound text start e number start-sane (fresh-nothing 1 9) read end in form-of text (form_of e number) w.0 w.1

-- what is read begins a text
begins : (text : List ℕ) (e : Stage) → run grow start text ≡ Some e → BeginsSfen text
begins text e read =
    let h = closes e (run-sane text start e start-sane read) in (
      h.rest,
      form_of h.last h.number,
      has-form (text ++ h.rest) h.last h.number
          (run-after grow text start e h.rest read ∙ h.read) h.ends,
    )

not-both : {A : Type 0} (o : Option A) (a : A) → o ≡ Some a → o ≡ None → ⊥
not-both o a is none = cc

-- what begins a text is read
not-begun : (text : List ℕ) → run grow start text ≡ None → BeginsSfen text → ⊥
not-begun text none w =
    let h = complete (text ++ w.0) w.1 w.2 in
    not-both (run grow start (text ++ w.0)) h.last h.read (run-none grow text start w.0 none)

pub record StageOf (text : List ℕ) (reading : Reading) : Type 0 where
  pub stage : Stage
  pub read : run grow start text ≡ Some stage
  pub seen_is : seen stage ≡ reading

pub stage-of : (text : List ℕ) (reading : Reading) → run take_byte beginning text ≡ Some reading → StageOf text reading
stage-of text reading read =
    elim (run grow start text) as (λ o. run grow start text ≡ o → option_map seen o ≡ Some reading
    → StageOf text reading) [
      | None ↦ λ e k. cc
      | Some s ↦ λ e k. record { stage = s; read = e; seen_is = cc }
    ] refl (sym (seen-run text start) ∙ read)

none-of : (text : List ℕ) → run take_byte beginning text ≡ None → run grow start text ≡ None
none-of text none =
    elim (run grow start text) as (λ o. option_map seen o ≡ None → o ≡ None) [
      | None ↦ λ k. refl
      | Some s ↦ λ k. cc
    ] (sym (seen-run text start) ∙ none)

pub stopped : (text : List ℕ) (bytes : ℕ) → StopsAt text bytes → HasNoForm text × IsLongestBeginning text bytes
stopped text bytes h =
    let before = stage-of (take bytes text) h.reading h.before in
    let none = none-of (take (bytes + 1) text) h.none in (
      λ form has.
          let w = complete text form has in
          let whole = take-append-drop (bytes + 1) text in
          not-both (run grow start text) w.last w.read
          (ap (run grow start) (sym whole) ∙ run-none grow (take (bytes + 1) text) start (drop (bytes + 1) text)
          none),
      record {
        within = omega (arith, h.within);
        begins = begins (take bytes text) before.stage before.read;
        longest = λ n above below w.
            let rest = drop (bytes + 1) (take n text) in
            let parts = sym (take-append-drop (bytes + 1) (take n text))
            ∙ ap (λ t. t ++ rest) (take-take (bytes + 1) n text (omega (arith, above))) in
            not-begun (take n text) (ap (run grow start) parts ∙ run-none grow (take (bytes + 1) text) start rest none)
            w;
      },
    )

-- the whole text is read, and does not end there
pub unfinished : (text : List ℕ) (reading : Reading) → run take_byte beginning text ≡ Some reading
    → number_at_end reading.place ≡ None → HasNoForm text × IsLongestBeginning text (length text)
unfinished text reading read open_end =
    let s = stage-of text reading read in
    let whole = take-length text in (
      λ form has.
          let w = complete text form has in
          let last : Some w.last ≡ Some s.stage = sym w.read ∙ s.read in
          let same : w.last ≡ s.stage = cc in
          let place : number_at_end w.last.place ≡ number_at_end reading.place =
          ap (λ (t : Stage). number_at_end t.place) same ∙ ap (λ (r : Reading). number_at_end r.place) s.seen_is in
          not-both (number_at_end reading.place) form.number (sym place ∙ w.ends) open_end,
      record {
        within = omega arith;
        begins = subst BeginsSfen (sym whole) (begins text s.stage s.read);
        longest = λ n above below w. absurd (omega (arith, above, below));
      },
    )

-- Readings to the end.
module _ (text : List ℕ) (reading : Reading) (number : ℕ) (read : run take_byte beginning text ≡ Some reading)
    (end : number_at_end reading.place ≡ Some number) where
  stage : StageOf text reading
  stage = stage-of text reading read

  abbrev form : SfenForm
  form = record { board = reading.board; turn = reading.turn; held = stage.stage.held; number = number }

  has : HasSfenForm text form
  has =
      subst
      (λ (r : Reading).
      HasSfenForm text (record { board = r.board; turn = r.turn; held = stage.stage.held; number = number }))
      stage.seen_is
      (has-form text stage.stage number stage.read
      (ap (λ (r : Reading). number_at_end r.place) stage.seen_is ∙ end))

  held-is : (side : Side) (kind : HandKind)
      → count_of kind (hand_of side reading.hands) ≡ min (held_total side kind stage.stage.held) 255
  held-is side kind = ap (λ (r : Reading). count_of kind (hand_of side r.hands)) (sym stage.seen_is)
      ∙ tally-count side kind stage.stage.held

  pub exceeding : (kind : HandKind) × (set_size kind < in_play kind reading.board reading.hands) → (form : SfenForm)
      × HasSfenForm text form × HasTooMany form
  exceeding w = (form, has, (w.0, omega (arith, w.1, held-is First w.0, held-is Second w.0)))

  hands-are : KeepsSets reading.board reading.hands → AreHands reading.hands stage.stage.held
  hands-are keeps First kind = omega (arith, keeps kind, small-set kind, held-is First kind)
  hands-are keeps Second kind = omega (arith, keeps kind, small-set kind, held-is Second kind)

  pub text-of : (position : ShogiPosition) → IsShogiPosition reading.board reading.hands
      → position ≡ record { board = reading.board; hands = reading.hands; turn = reading.turn }
      → IsSfenText text position number
  text-of position is same = subst (λ (p : ShogiPosition). IsSfenText text p number) (sym same)
      (stage.stage.held, has, hands-are is.sets, is)

  pub without-kings : ((kind : HandKind) × (set_size kind < in_play kind reading.board reading.hands) → ⊥)
      → (IsShogiPosition reading.board reading.hands → ⊥) → (form : SfenForm) × HasSfenForm text form
      × (HasTooMany form → ⊥) × (HasKings form.board → ⊥)
  without-kings within none = (
    form,
    has,
    (λ w. within (w.0, omega (arith, w.1, small-set w.0, held-is First w.0, held-is Second w.0))),
    λ kings.
        none (record {
          kings = kings;
          sets = λ kind. elim (cases_lt (set_size kind) (in_play kind reading.board reading.hands))
              [ inl above ↦ absurd (within (kind, above)) | inr few ↦ few ];
        }),
  )

-- a text has one form
pub one-form : (text : List ℕ) (a b : SfenForm) → HasSfenForm text a → HasSfenForm text b → a ≡ b
one-form text a b has_a has_b =
    let v = complete text a has_a in
    let w = complete text b has_b in
    let last : Some v.last ≡ Some w.last = sym v.read ∙ w.read in
    let same : v.last ≡ w.last = cc in
    let ends : Some a.number ≡ Some b.number = sym v.ends ∙ ap (λ (s : Stage). number_at_end s.place) same ∙ w.ends in
    let number : a.number ≡ b.number = cc in
    sym v.form_is ∙ (λ i. form_of (same i) (number i)) ∙ w.form_is

-- ---- A text is read in one way

same-hand : (a b : Hand) → ((kind : HandKind) → count_of kind a ≡ count_of kind b) → a ≡ b
same-hand a b same = λ i. record {
  rook = same in_hand.Rook i;
  bishop = same in_hand.Bishop i;
  gold = same in_hand.Gold i;
  silver = same in_hand.Silver i;
  knight = same in_hand.Knight i;
  lance = same in_hand.Lance i;
  pawn = same in_hand.Pawn i;
}

-- hands that the same list gives are the same
same-hands : (a b : Hands) (items : List HeldItem) → AreHands a items → AreHands b items → a ≡ b
same-hands a b items is_a is_b =
    let first = same-hand a.first b.first (λ kind. is_a First kind ∙ sym (is_b First kind)) in
    let second = same-hand a.second b.second (λ kind. is_a Second kind ∙ sym (is_b Second kind)) in
    λ i. record { first = first i; second = second i }

pub stands-for-one : (text : List ℕ) (p q : ShogiPosition) (m n : ℕ) → IsSfenText text p m → IsSfenText text q n
    → (p ≡ q) × (m ≡ n)
stands-for-one text p q m n is_p is_q =
    let a : SfenForm = record { board = p.board; turn = p.turn; held = is_p.0; number = m } in
    let b : SfenForm = record { board = q.board; turn = q.turn; held = is_q.0; number = n } in
    let same = one-form text a b is_p.1 is_q.1 in
    let held : is_p.0 ≡ is_q.0 = ap (λ (f : SfenForm). f.held) same in
    let hands = same-hands p.hands q.hands is_q.0 (subst (AreHands p.hands) held is_p.2) is_q.2 in (
      λ i. record { board = (same i).board; hands = hands i; turn = (same i).turn },
      ap (λ (f : SfenForm). f.number) same,
    )

not-longer : (text : List ℕ) (m n : ℕ) → IsLongestBeginning text m → IsLongestBeginning text n → m ≤ n
not-longer text m n longest_m longest_n =
    elim (cases_lt n m)
    [ inl above ↦ absurd (longest_n.longest m above longest_m.within longest_m.begins) | inr below ↦ below ]

pub one-fault : (text : List ℕ) (fault other : SfenFault) → IsRefused text fault → IsRefused text other → other ≡ fault
one-fault text (BadText m) (BadText n) a b =
    let below = not-longer text m n a.1 b.1 in
    let above = not-longer text n m b.1 a.1 in
    let same : n ≡ m = omega (arith, below, above) in
    ap BadText same
one-fault text (BadText m) _ a b = absurd (a.0 b.0 b.1)
one-fault text TooManyPieces (BadText n) a b = absurd (b.0 a.0 a.1)
one-fault text TooManyPieces TooManyPieces a b = refl
one-fault text TooManyPieces Kings a b = absurd (b.2 (subst HasTooMany (one-form text a.0 b.0 a.1 b.1) a.2))
one-fault text Kings (BadText n) a b = absurd (b.0 a.0 a.1)
one-fault text Kings TooManyPieces a b = absurd (a.2 (subst HasTooMany (one-form text b.0 a.0 b.1 a.1) b.2))
one-fault text Kings Kings a b = refl

pub not-refused : (text : List ℕ) (fault : SfenFault) (p : ShogiPosition) (n : ℕ) → IsRefused text fault
    → IsSfenText text p n → ⊥
not-refused text (BadText m) p n refused is =
    refused.0 (record { board = p.board; turn = p.turn; held = is.0; number = n }) is.1
not-refused text TooManyPieces p n refused is =
    let form : SfenForm = record { board = p.board; turn = p.turn; held = is.0; number = n } in
    let many = subst HasTooMany (one-form text refused.0 form refused.1 is.1) refused.2 in
    let keeps = is.3.sets many.0 in
    omega (arith, many.1, keeps, is.2 First many.0, is.2 Second many.0)
not-refused text Kings p n refused is =
    let form : SfenForm = record { board = p.board; turn = p.turn; held = is.0; number = n } in
    let same = one-form text form refused.0 is.1 refused.1 in
    refused.3 (subst (λ (f : SfenForm). HasKings f.board) same is.3.kings)
