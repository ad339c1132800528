-- What follows of marks that are those of a line.
use Rattle.std.proofs.Common.{◌≡◌, ℕ, ◌+◌, ◌-◌, ◌≤◌, Bool, true, false, not, cond}
use Rattle.std.proofs.Common.{nat_le, List, [], ◌∷◌, ◌++◌, length, get_or, Option, Some, None, refl, sym}
use Rattle.std.proofs.Common.{ap, subst, ◌∙◌, arith, length-append}
use Rattle.std.specs.Prelude.{if◌then◌else◌}
use Rattle.std.specs.BTreeMap.{get}
use Rattle.std.specs.Ordering.{eq_by_cmp}
use Rattle.std.proofs.Math.Seq.{take-length}
use Rattle.game_history.specs.declared.faults.LineFault.TheVariants.{AfterEnd, Illegal as illegal}
use Rattle.game_history.specs.Line as line
use Rattle.game_history.proofs.Proved as lines
use Rattle.squares.specs.declared.sides.Side.TheVariants.{First, Second}
use Rattle.squares.specs.declared.shogi.moves.SMove.{SMove}
use Rattle.squares.specs.ShogiSets.{ShogiPosition}
use Rattle.squares.specs.ShogiSamePosition.{same_shogi_position}
use Rattle.squares.specs.internal.ShogiSamePosition.{same_shogi_position-same, same_shogi_position-itself}
use Rattle.squares.specs.internal.ShogiOrder.{position_cmp}
use Rattle.squares.specs.internal.ShogiOrderLaws.{position_cmp-tied}
use Rattle.shogi_moves.specs.declared.checking.Illegal.{Illegal}
use Rattle.shogi_moves.specs.Rules.{Legal, FirstBroken, play}
use Rattle.shogi_moves.specs.internal.Computed.{has_move}
use Rattle.shogi_repetition.specs.declared.ends.SEnd.{SEnd}
use Rattle.shogi_repetition.specs.declared.ends.SEnd.TheVariants.{NoMove, PlyLimit}
use Rattle.shogi_repetition.specs.declared.marks.Marks.{Marks}
use Rattle.shogi_repetition.specs.declared.marks.RepetitionCount.{RepetitionCount}
use Rattle.shogi_repetition.specs.declared.tails.Tail.{Tail}
use Rattle.shogi_repetition.specs.Line.{last_position}
use Rattle.shogi_repetition.specs.internal.Line.{positions}
use Rattle.shogi_repetition.specs.Ends.{FirstOccurs, EndsSo, is_in_check}
use Rattle.shogi_repetition.specs.Faults.{shogi_lines}
use Rattle.shogi_repetition.specs.internal.Faults.{HasFault}
use Rattle.shogi_repetition.specs.Tails.{no_checks, count_on, tail_after, next_tail, repetition_by, end_by}
use Rattle.shogi_repetition.specs.internal.Counting.{HasStood, Follows, stood_again}
use Rattle.shogi_repetition.proofs.PlaceLemmas.{counted}
use Rattle.shogi_repetition.proofs.EndLemmas.{end_of-is}
use Rattle.shogi_repetition.proofs.TailLemmas.{tail-begins, tail-goes-on, ends-by-tail}

-- ---- the numbers

at-limit : (can repeated : Bool) (by_checks : SEnd)
    → (if not can then Some NoMove else if repeated then Some by_checks else Some PlyLimit) ≡ None → ⊥
at-limit false repeated by_checks e = cc
at-limit true true by_checks e = cc
at-limit true false by_checks e = cc

-- a line of 600 plies has ended
pub unlimited : (tail : Tail) (last : ShogiPosition) (plies times first : ℕ) → end_by tail last plies times first ≡ None
    → plies ≡ 600 → ⊥
unfolding end_by
unlimited tail last plies times first e limit =
    at-limit (has_move last) (nat_le 4 times) (repetition_by tail (600 - first)) (rw limit at e)

count-bound : (b : Bool) (n k : ℕ) → n ≤ k → count_on n b ≤ k + 1
count-bound true n k h = omega (arith, h)
count-bound false n k h = omega arith

pub next-checks : (tail : Tail) (after : ShogiPosition) (k : ℕ) → tail.first_checks ≤ k → tail.second_checks ≤ k
    → ((next_tail tail after).first_checks ≤ k + 1) × ((next_tail tail after).second_checks ≤ k + 1)
next-checks tail after k one two =
    elim after.turn as (λ t. ((tail_after tail (is_in_check after) t).first_checks ≤ k + 1)
    × ((tail_after tail (is_in_check after) t).second_checks ≤ k + 1)) [
      | First ↦ (omega (arith, one), count-bound (is_in_check after) tail.second_checks k two)
      | Second ↦ (count-bound (is_in_check after) tail.first_checks k one, omega (arith, two))
    ]

-- ---- how often a position stood

abbrev times : ShogiPosition → List SMove → ShogiPosition → ℕ
times = line.times_at play same_shogi_position

-- the key of a map is a position itself
at-key : (p q : ShogiPosition) {A : Type 0} (a b : A)
    → cond (eq_by_cmp position_cmp p q) a b ≡ cond (same_shogi_position p q) a b
at-key p q a b = ap (λ t. cond t a b) (sym (position_cmp-tied p q))

begins-so : (p q : ShogiPosition) (b : Bool) → same_shogi_position p q ≡ b
    → HasStood p [] q (cond b (Some (record { times = 1; first = 0 })) None)
begins-so p q true e = (
  sym (lines.count_by-one (λ r. same_shogi_position r q) p ∙ ap (λ b. cond b 1 0) e),
  subst (λ r. line.FirstAt play p [] r 0) (same_shogi_position-same p q e) (lines.first-of-none play p),
)
begins-so p q false e = lines.count_by-one (λ r. same_shogi_position r q) p ∙ ap (λ b. cond b 1 0) e

pub start-follows : (p : ShogiPosition) (marks : Marks) → marks.last ≡ p → marks.plies ≡ 0
    → marks.stood ≡ record { times = 1; first = 0 } → marks.tail ≡ no_checks
    →
    ((q : ShogiPosition) → get position_cmp marks.seen q ≡ cond (eq_by_cmp position_cmp p q)
    (Some (record { times = 1; first = 0 })) None) → Follows p [] marks
start-follows p marks last plies stood tail seen =
    record {
      played = lines.played-none shogi_lines p;
      last = last;
      plies = plies;
      times = ap (λ s. s.times) stood
          ∙ sym (lines.count_by-one (λ q. same_shogi_position q p) p
          ∙ ap (λ b. cond b 1 0) (same_shogi_position-itself p));
      first = subst (λ s. FirstOccurs p [] s.first) (sym stood) (lines.first-of-none play p);
      tail = tail ∙ sym (tail-begins p);
      seen = λ q. subst (HasStood p [] q) (sym (seen q ∙ at-key p q _ _))
          (begins-so p q (same_shogi_position p q) refl);
    }

pub tells-end : (start : ShogiPosition) (ms : List SMove) (marks : Marks) (end : Option SEnd) → Follows start ms marks
    → end ≡ end_by marks.tail marks.last marks.plies marks.stood.times marks.stood.first → EndsSo start ms end
tells-end start ms marks end follows e =
    subst (EndsSo start ms) (sym (e
    ∙ (λ i. end_by (follows.tail i) (follows.last i) (follows.plies i) (follows.times i) marks.stood.first)
    ∙ ends-by-tail start ms marks.stood.first follows.first)) (end_of-is start ms)

-- ---- a line that goes on

module _ (start : ShogiPosition) (ms : List SMove) (m : SMove) (marks : Marks) (follows : Follows start ms marks) where
  abbrev more : List SMove
  more = ms ++ m ∷ []

  longer : length more ≡ length ms + 1
  longer = length-append ms (m ∷ [])

  abbrev ended : Option SEnd
  ended = end_by marks.tail marks.last marks.plies marks.stood.times marks.stood.first

  ends : (end : Option SEnd) → ended ≡ end → EndsSo start ms end
  ends end e = tells-end start ms marks end follows (sym e)

  pub after-end : (found : SEnd) → ended ≡ Some found → HasFault start more (AfterEnd (marks.plies + 1))
  after-end found e =
      lines.after-end shogi_lines start ms m marks.plies found follows.plies follows.played (ends (Some found) e)

  pub not-legal : (cause : Illegal) → ended ≡ None → FirstBroken marks.last m cause
      → HasFault start more (illegal (marks.plies + 1) cause)
  not-legal cause e broken = lines.not-legal shogi_lines start ms m marks.plies cause follows.plies follows.played
      (ends None e) (subst (λ p. FirstBroken p m cause) follows.last broken)

  module _ (next : ShogiPosition) (is_next : next ≡ play marks.last m) where
    next-is : next ≡ play (last_position start ms) m
    next-is = is_next ∙ ap (λ p. play p m) follows.last

    after : last_position start more ≡ next
    after = lines.last_position-append play start ms m ∙ sym next-is

    once-more : (q : ShogiPosition) (b : Bool) → same_shogi_position next q ≡ b
        → times start more q ≡ times start ms q + cond b 1 0
    once-more q b e = lines.times-more play same_shogi_position start ms m q
        ∙ ap (λ p. times start ms q + cond (same_shogi_position p q) 1 0) (sym next-is)
        ∙ ap (λ c. times start ms q + cond c 1 0) e

    -- a position that did not stand before stands after the last ply for the first time
    none-before : times start ms next ≡ 0 → line.FirstAt play start more next (marks.plies + 1)
    none-before none =
        let at : length more ≡ marks.plies + 1 = omega (arith, follows.plies, longer) in
        subst (line.FirstAt play start more next) at (record {
          within = omega arith;
          stands = ap (last_position start) (take-length more) ∙ after;
          earliest = λ k h e.
              let within : k ≤ length ms = omega (arith, h, longer) in
              let there : get_or (positions start ms) k next ≡ next = lines.get-positions play start ms k next within
              ∙ sym (lines.after-longer play start ms (m ∷ []) k within) ∙ e in
              let one = counted (λ p. same_shogi_position p next) next (positions start ms) 0 k (omega arith)
              (omega (arith, within, lines.length-positions play start ms))
              (ap (λ p. same_shogi_position p next) there ∙ same_shogi_position-itself next) in
              omega (arith, one, none);
        })

    again : marks.plies ≤ 600 → (o : Option RepetitionCount) → HasStood start ms next o
        → HasStood start more next (Some (stood_again (marks.plies + 1) o))
    again within None none =
        (omega (arith, once-more next true (same_shogi_position-itself next), none), none-before none)
    again within (Some s) (stood, first) =
        let grown = once-more next true (same_shogi_position-itself next) in
        let few = lines.few-times play same_shogi_position start ms next in
        let small : s.times ≤ 601 = omega (arith, stood, few, follows.plies, within) in
        (omega (arith, grown, stood, small), lines.first-longer play start ms (m ∷ []) next s.first first)

    as-before : (q : ShogiPosition) (o : Option RepetitionCount) → same_shogi_position next q ≡ false → HasStood start ms q o
        → HasStood start more q o
    as-before q None e none = omega (arith, once-more q false e, none)
    as-before q (Some s) e (stood, first) =
        (omega (arith, once-more q false e, stood), lines.first-longer play start ms (m ∷ []) q s.first first)

    stood-so : marks.plies ≤ 600 → (q : ShogiPosition) (b : Bool) → same_shogi_position next q ≡ b
        →
        HasStood start more q
        (cond b (Some (stood_again (marks.plies + 1) (get position_cmp marks.seen next)))
        (get position_cmp marks.seen q))
    stood-so within q true e =
        subst (λ r. HasStood start more r (Some (stood_again (marks.plies + 1) (get position_cmp marks.seen next))))
        (same_shogi_position-same next q e) (again within (get position_cmp marks.seen next) (follows.seen next))
    stood-so within q false e = as-before q (get position_cmp marks.seen q) e (follows.seen q)

    -- the marks of the line with one move more
    pub next-follows : (new : Marks) → marks.plies ≤ 600 → ended ≡ None → Legal marks.last m
        → new.last ≡ next → new.plies ≡ marks.plies + 1 → new.tail ≡ next_tail marks.tail next
        → new.stood ≡ stood_again (marks.plies + 1) (get position_cmp marks.seen next)
        →
        ((q : ShogiPosition) → get position_cmp new.seen q ≡ cond (eq_by_cmp position_cmp next q) (Some new.stood)
        (get position_cmp marks.seen q)) → Follows start more new
    next-follows new within e legal last_is plies_are tail_is stood_is seen =
        let stood : HasStood start more (last_position start more) (Some new.stood) =
        subst (λ q. HasStood start more q (Some new.stood)) (sym after)
        (subst (λ s. HasStood start more next (Some s)) (sym stood_is)
        (again within (get position_cmp marks.seen next) (follows.seen next))) in
        record {
          played = lines.played-more shogi_lines start ms m follows.played (ends None e)
              (subst (λ p. Legal p m) follows.last legal);
          last = last_is ∙ sym after;
          plies = plies_are ∙ ap (λ n. n + 1) follows.plies ∙ sym longer;
          times = stood.0;
          first = stood.1;
          tail = tail_is ∙ (λ i. next_tail (follows.tail i) (next-is i)) ∙ sym (tail-goes-on start ms m);
          seen = λ q. subst (HasStood start more q)
              (sym
              (seen q ∙ at-key next q _ _
              ∙ ap (λ s. cond (same_shogi_position next q) (Some s) (get position_cmp marks.seen q)) stood_is))
              (stood-so within q (same_shogi_position next q) refl);
        }
