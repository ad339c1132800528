-- The computed end of a line is its only end.
use Rattle.std.proofs.Common.{◌≡◌, ℕ, suc, ◌+◌, ◌-◌, ◌<◌, ◌≤◌, nat_eq, Bool, true, false, not, ◌||◌}
use Rattle.std.proofs.Common.{cond, List, length, drop, get_or, Option, Some, None, refl, sym, ap, ◌∙◌, subst, arith}
use Rattle.std.proofs.Common.{true≢false, leb-true, le-leb, lt-ltb, eqb-true, eq-eqb, inl, inr}
use Rattle.std.specs.Prelude.{IsTrue, ◌↔◌, if◌then◌else◌}
use Rattle.std.specs.List.{count_by, position_or_len}
use Rattle.std.specs.Option.{option_map_or}
use Rattle.std.proofs.lemmas.List.{get_or-drop, length-drop, take_all}
use Rattle.std.proofs.lemmas.List.Sums.{fails_before_first, passes_at_first}
use Rattle.std.proofs.lemmas.Bool.{cases_lt}
use Rattle.game_history.proofs.Proved.{length-positions, get-positions}
use Rattle.squares.specs.declared.sides.Side.{Side}
use Rattle.squares.specs.declared.sides.Side.TheVariants.{First, Second}
use Rattle.squares.specs.declared.shogi.moves.SMove.{SMove}
use Rattle.squares.specs.Sides.{other, same_side}
use Rattle.squares.specs.ShogiSets.{ShogiPosition}
use Rattle.squares.specs.TheOnly.{TheOnly}
use Rattle.squares.specs.ShogiSamePosition.{same_shogi_position}
use Rattle.squares.specs.internal.ShogiSamePosition.{same_shogi_position-same, same_shogi_position-itself}
use Rattle.shogi_moves.specs.Rules.{HasMove, play}
use Rattle.shogi_moves.specs.internal.Computed.{has_move}
use Rattle.shogi_moves.proofs.Proved.{has_move-is, king_attacked-is}
use Rattle.shogi_repetition.specs.declared.ends.SEnd.{SEnd}
use Rattle.shogi_repetition.specs.declared.ends.SEnd.TheVariants.{NoMove, PerpetualCheck, Fourfold, PlyLimit}
use Rattle.shogi_repetition.specs.Line.{last_position, position_after}
use Rattle.shogi_repetition.specs.internal.Line.{positions}
use Rattle.shogi_repetition.specs.Ends.{StandsAfter, StandsFourTimes, FirstOccurs, InCheck, GaveCheckThroughout}
use Rattle.shogi_repetition.specs.Ends.{ChecksAlone, EndsSo, is_in_check, end_by_checks}
use Rattle.shogi_repetition.specs.internal.Computed.{keeps_checking, checks_throughout, stands_four_times, since_first}
use Rattle.shogi_repetition.specs.internal.Computed.{repetition, first_end, end_of}
use Rattle.shogi_repetition.proofs.PlaceLemmas.{next, counted, steps, stepped}

-- a move of the side, with or without check
step-is : {P : Type 0} (side turn : Side) (b : Bool) → (IsTrue b ↔ P)
    → ((same_side turn (other side) || b) ≡ true) ↔ (turn ≡ side → P)
step-is First First b h = (λ e _. h.0 e, λ f. h.1 (f refl))
step-is Second Second b h = (λ e _. h.0 e, λ f. h.1 (f refl))
step-is _ _ b h = (λ _ e. cc, λ _. refl)

module _ (start : ShogiPosition) (ms : List SMove) where
  abbrev pub last : ShogiPosition
  last = last_position start ms

  abbrev pub all : List ShogiPosition
  all = positions start ms

  abbrev pub is_last : ShogiPosition → Bool
  is_last p = same_shogi_position p last

  abbrev Passes : ℕ → Type 0
  Passes k = is_last (get_or all k last) ≡ true

  stands : (k : ℕ) → k ≤ length ms → Passes k → StandsAfter start ms k
  stands k h e = sym (get-positions play start ms k last h) ∙ same_shogi_position-same (get_or all k last) last e

  passes : (k : ℕ) → k ≤ length ms → StandsAfter start ms k → Passes k
  passes k h e = ap (λ p. same_shogi_position p last) (get-positions play start ms k last h ∙ e)
      ∙ same_shogi_position-itself last

  stands-last : StandsAfter start ms (length ms)
  stands-last = ap (last_position start) (take_all (length ms) ms (omega arith))

  below : (k : ℕ) → k < length all → k ≤ length ms
  below k h = let many = length-positions play start ms in omega (arith, many, h)

  within : (k : ℕ) → k ≤ length ms → k < length all
  within k h = let many = length-positions play start ms in omega (arith, many, h)

  found-four : 4 ≤ count_by is_last all → StandsFourTimes start ms
  found-four h =
      let a = next is_last last all 0 (omega (arith, h)) in
      let b = next is_last last all (suc a.0) (omega (arith, h, a.4)) in
      let c = next is_last last all (suc b.0) (omega (arith, h, a.4, b.4)) in
      let e = next is_last last all (suc c.0) (omega (arith, h, a.4, b.4, c.4)) in
      record {
        first = a.0;
        second = b.0;
        third = c.0;
        second_later = omega (arith, b.1);
        third_later = omega (arith, c.1);
        last_later = omega (arith, e.1, below e.0 e.2);
        at_first = stands a.0 (below a.0 a.2) a.3;
        at_second = stands b.0 (below b.0 b.2) b.3;
        at_third = stands c.0 (below c.0 c.2) c.3;
      }

  four-found : StandsFourTimes start ms → 4 ≤ count_by is_last all
  four-found s =
      let ab = s.second_later in
      let bc = s.third_later in
      let cn = s.last_later in
      let more = λ (from k : ℕ) (low : from ≤ k) (high : k ≤ length ms) (at : StandsAfter start ms k).
      counted is_last last all from k low (within k high) (passes k high at) in
      omega (
        arith,
        more 0 s.first (omega arith) (omega (arith, ab, bc, cn)) s.at_first,
        more (suc s.first) s.second (omega (arith, ab)) (omega (arith, bc, cn)) s.at_second,
        more (suc s.second) s.third (omega (arith, bc)) (omega (arith, cn)) s.at_third,
        more (suc s.third) (length ms) (omega (arith, cn)) (omega arith) stands-last,
      )

  four-is : IsTrue (stands_four_times last all) ↔ StandsFourTimes start ms
  unfolding stands_four_times
  four-is = (λ e. found-four (leb-true 4 (count_by is_last all) e), λ s. le-leb 4 (count_by is_last all) (four-found s))

  -- after how many plies the last position stood first
  abbrev pub place : ℕ
  place = position_or_len is_last all

  none-before : (k : ℕ) → k < place → Passes k → ⊥
  none-before k h e = true≢false (sym e ∙ fails_before_first is_last all k last h)

  no-later : place ≤ length ms
  no-later = elim (cases_lt (length ms) place) [
    | inl less ↦ absurd (none-before (length ms) less (passes (length ms) (omega arith) stands-last))
    | inr least ↦ least
  ]

  pub first-stands : FirstOccurs start ms place
  first-stands =
      record {
        within = no-later;
        stands = stands place no-later (passes_at_first is_last all last (within place no-later));
        earliest = λ k h s. none-before k h (passes k (omega (arith, h, no-later)) s);
      }

  pub since_first-is : since_first last all ≡ drop place all
  unfolding since_first
  since_first-is =
      ap (λ b. option_map_or (λ f. drop f all) (cond b (Some place) None) all)
      (lt-ltb place (length all) (within place no-later))

  module _ (side : Side) (f : ℕ) where
    abbrev rest : List ShogiPosition
    rest = drop f all

    one : (k : ℕ) → f + suc k ≤ length ms
        → (keeps_checking side (get_or rest k last) (get_or rest (suc k) last) ≡ true)
        ↔ ((position_after start ms (f + k)).turn ≡ side → InCheck (position_after start ms (f + suc k)))
    one k h =
        let before : get_or rest k last ≡ position_after start ms (f + k) = get_or-drop f all k last
        ∙ get-positions play start ms (f + k) last (omega (arith, h)) in
        let after : get_or rest (suc k) last ≡ position_after start ms (f + suc k) = get_or-drop f all (suc k) last
        ∙ get-positions play start ms (f + suc k) last h in
        let p = position_after start ms (f + k) in
        let q = position_after start ms (f + suc k) in
        let same : keeps_checking side (get_or rest k last) (get_or rest (suc k) last) ≡ keeps_checking side p q = λ i.
        keeps_checking side (before i) (after i) in
        let step = step-is side p.turn (is_in_check q) (king_attacked-is q.board q.turn) in
        (λ e. step.0 (sym same ∙ e), λ g. same ∙ step.1 g)

    length-rest : length rest ≡ length ms + 1 - f
    length-rest = length-drop f all ∙ ap (λ n. n - f) (length-positions play start ms)

    throughout-is : IsTrue (checks_throughout side (drop f all)) ↔ GaveCheckThroughout start ms side f
    unfolding checks_throughout
    throughout-is = (
      λ e k from below own.
          let j : ℕ = k - f in
          let kept = steps (keeps_checking side) last rest e j (omega (arith, from, below, length-rest)) in
          let at : f + j ≡ k = omega (arith, from) in
          let next_at : f + suc j ≡ k + 1 = omega (arith, from) in
          rw next_at at ((one j (omega (arith, from, below))).0 kept (rw at own)),
      λ gave. stepped (keeps_checking side) last rest (λ k h.
          let bound : f + suc k ≤ length ms = omega (arith, h, length-rest) in
          let next_at : f + k + 1 ≡ f + suc k = omega arith in
          (one k bound).1 (λ own. rw next_at at (gave (f + k) (omega arith) (omega (arith, bound)) own))),
    )

  -- the last position stood first at one place
  pub one-first : (f g : ℕ) → FirstOccurs start ms f → FirstOccurs start ms g → f ≡ g
  one-first f g a b =
      let low : f < g → ⊥ = λ less. b.earliest f less a.stands in
      let high : g < f → ⊥ = λ more. a.earliest g more b.stands in
      omega (arith, low, high)

  abbrev Throughout : Side → Type 0
  Throughout side = GaveCheckThroughout start ms side place

  here : (side : Side) → ChecksAlone start ms side → Throughout side × (Throughout (other side) → ⊥)
  here side x =
      let same : x.since ≡ place = one-first x.since place x.first first-stands in (
        subst (λ f. GaveCheckThroughout start ms side f) same x.checks,
        λ gave. x.alone (subst (λ f. GaveCheckThroughout start ms (other side) f) (sym same) gave),
      )

  -- at most one side gave check alone
  one-alone : (a b : Side) → ChecksAlone start ms a → ChecksAlone start ms b → a ≡ b
  one-alone First First x y = refl
  one-alone Second Second x y = refl
  one-alone First Second x y = absurd ((here First x).1 (here Second y).0)
  one-alone Second First x y = absurd ((here Second x).1 (here First y).0)

  alone : (side : Side) → Throughout side → (Throughout (other side) → ⊥) → ChecksAlone start ms side
  alone side gave none = record { since = place; first = first-stands; checks = gave; alone = none }

  none-alone : (b : Bool) → (IsTrue b ↔ Throughout First) → (IsTrue b ↔ Throughout Second) → (side : Side)
      → ChecksAlone start ms side → ⊥
  none-alone b first second First x = let at = here First x in at.1 (second.0 (first.1 at.0))
  none-alone b first second Second x = let at = here Second x in at.1 (first.0 (second.1 at.0))

  -- the end by which sides gave check throughout
  by_checks : (a b : Bool) → (IsTrue a ↔ Throughout First) → (IsTrue b ↔ Throughout Second) → HasMove last
      → StandsFourTimes start ms → EndsSo start ms (Some (end_by_checks a b))
  by_checks true false first second has stands =
      (has, stands, alone First (first.0 refl) (λ gave. let e = second.1 gave in cc))
  by_checks false true first second has stands =
      (has, stands, alone Second (second.0 refl) (λ gave. let e = first.1 gave in cc))
  by_checks true true first second has stands = (has, stands, none-alone true first second)
  by_checks false false first second has stands = (has, stands, none-alone false first second)

  by_repetition : HasMove last → StandsFourTimes start ms → EndsSo start ms (Some (repetition last all))
  unfolding repetition
  by_repetition =
      rw since_first-is (by_checks (checks_throughout First (drop place all))
      (checks_throughout Second (drop place all)) (throughout-is First place)
      (throughout-is Second place))

  by_tests : (can four_times at_limit : Bool) (repeated : SEnd) → (IsTrue can ↔ HasMove last)
      → (IsTrue four_times ↔ StandsFourTimes start ms) → (IsTrue at_limit ↔ (length ms ≡ 600))
      → (HasMove last → StandsFourTimes start ms → EndsSo start ms (Some repeated))
      →
      EndsSo start ms
      (if not can then Some NoMove else if four_times then Some repeated else if at_limit then Some PlyLimit else None)
  by_tests false s q r moves fourth limit ends = λ has. let e = moves.1 has in cc
  by_tests true true q r moves fourth limit ends = ends (moves.0 refl) (fourth.0 refl)
  by_tests true false true r moves fourth limit ends = (moves.0 refl, λ s. let e = fourth.1 s in cc, limit.0 refl)
  by_tests true false false r moves fourth limit ends =
      (moves.0 refl, λ s. let e = fourth.1 s in cc, λ n. let e = limit.1 n in cc)

  pub end_of-is : EndsSo start ms (end_of start ms)
  unfolding end_of first_end
  end_of-is = by_tests (has_move last) (stands_four_times last all) (nat_eq (length ms) 600) (repetition last all)
      (has_move-is last) four-is (eqb-true (length ms) 600, eq-eqb (length ms) 600) by_repetition

  pub one-end : (one two : Option SEnd) → EndsSo start ms one → EndsSo start ms two → one ≡ two
  one-end None None x y = refl
  one-end (Some NoMove) (Some NoMove) x y = refl
  one-end (Some (PerpetualCheck a)) (Some (PerpetualCheck b)) x y =
      ap (λ side. Some (PerpetualCheck side)) (one-alone a b x.2 y.2)
  one-end (Some (PerpetualCheck a)) (Some Fourfold) x y = absurd (y.2 a x.2)
  one-end (Some Fourfold) (Some (PerpetualCheck b)) x y = absurd (x.2 b y.2)
  one-end (Some Fourfold) (Some Fourfold) x y = refl
  one-end (Some PlyLimit) (Some PlyLimit) x y = refl
  one-end None (Some PlyLimit) x y = absurd (x.2 y.2)
  one-end (Some PlyLimit) None x y = absurd (y.2 x.2)
  one-end (Some NoMove) _ x y = absurd (x y.0)
  one-end _ (Some NoMove) x y = absurd (y x.0)
  one-end None _ x y = absurd (x.1 y.1)
  one-end (Some PlyLimit) _ x y = absurd (x.1 y.1)
  one-end _ _ x y = absurd (y.1 x.1)

-- a line has one end, or goes on
abbrev pub line-end : (start : ShogiPosition) (ms : List SMove) → TheOnly (EndsSo start ms)
line-end start ms =
    record {
      value = end_of start ms;
      is = end_of-is start ms;
      only = λ other is. one-end start ms other (end_of start ms) is (end_of-is start ms);
    }
