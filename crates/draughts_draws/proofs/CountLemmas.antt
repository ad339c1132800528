-- What follows of counts that are those of a line.
use Rattle.std.proofs.Common.{◌≡◌, ℕ, ◌+◌, ◌≤◌, Bool, true, false, not, cond, nat_eq}
use Rattle.std.proofs.Common.{nat_le, List, [], ◌∷◌, ◌++◌, Option, Some, None}
use Rattle.std.proofs.Common.{Err, refl, sym, ap, subst, ◌∙◌, arith, length-append}
use Rattle.std.specs.Prelude.{unwrap_or, if◌then◌else◌}
use Rattle.std.specs.HashMap.{get}
use Rattle.game_history.specs.Line as line
use Rattle.game_history.proofs.Proved as lines
use Rattle.squares.specs.declared.draughts.moves.DMove.{DMove}
use Rattle.squares.specs.DraughtsBoard.{Position}
use Rattle.squares.specs.DraughtsSamePosition.{same_position}
use Rattle.squares.specs.internal.DraughtsSamePosition.{same_position-same, same_position-itself}
use Rattle.draughts_moves.specs.declared.checking.Illegal.{Illegal}
use Rattle.draughts_moves.specs.Legal.{Legal, play}
use Rattle.draughts_moves.specs.internal.Check.{check_of}
use Rattle.draughts_moves.specs.internal.Search.{has_move}
use Rattle.draughts_draws.specs.declared.counts.DrawCounts.{DrawCounts}
use Rattle.draughts_draws.specs.declared.ends.DEnd.{DEnd}
use Rattle.draughts_draws.specs.declared.ends.DEnd.TheVariants.{NoMove, Repetition, KingMoves}
use Rattle.draughts_draws.specs.declared.ends.DEnd.TheVariants.{PlyLimit}
use Rattle.game_history.specs.declared.faults.LineFault.TheVariants.{AfterEnd, Illegal as illegal}
use Rattle.draughts_draws.specs.declared.tails.Class.{Class}
use Rattle.draughts_draws.specs.declared.tails.Tail.{Tail}
use Rattle.draughts_draws.specs.Line.{last_position}
use Rattle.draughts_draws.specs.Ends.{is_king_move, end_of}
use Rattle.draughts_draws.specs.Faults.{draughts_lines}
use Rattle.draughts_draws.specs.internal.Faults.{HasFault}
use Rattle.draughts_draws.specs.Tails.{in_class, class_of, first_tail, count_on, next_tail, class_end, end_or}
use Rattle.draughts_draws.specs.Tails.{end_by}
use Rattle.draughts_draws.specs.internal.Counting.{Follows}
use Rattle.draughts_draws.proofs.TailLemmas.{tail-begins, tail-goes-on, ends-by-tail}

-- ---- the numbers

at-limit : (can thrice kings : Bool) (by_class : Option DEnd)
    →
    (if not can then Some NoMove else if thrice then Some Repetition else if kings then Some KingMoves else end_or
    by_class (Some PlyLimit)) ≡ None → ⊥
at-limit false thrice kings by_class e = cc
at-limit true true kings by_class e = cc
at-limit true false true by_class e = cc
at-limit true false false (Some end) e = cc
at-limit true false false None e = cc

-- a line of 600 plies has ended
pub unlimited : (tail : Tail) (last : Position) (plies times : ℕ) → end_by tail last plies times ≡ None → plies ≡ 600
    → ⊥
unfolding end_by
unlimited tail last plies times e limit =
    at-limit (has_move last) (nat_le 3 times) (nat_le 50 tail.king_plies) (class_end tail last)
    (ap
    (λ n. if not (has_move last) then Some NoMove else if nat_le 3 times then Some Repetition else if nat_le 50
    tail.king_plies then Some KingMoves else end_or (class_end tail last)
    (if nat_eq n 600 then Some PlyLimit else None)) (sym limit) ∙ e)

king-bound : (b : Bool) (n k : ℕ) → n ≤ k → (if b then n + 1 else 0) ≤ k + 1
king-bound true n k h = omega (arith, h)
king-bound false n k h = omega arith

class-bound : (before : Position) (n k : ℕ) (o : Option Class) → n ≤ k + 1 → count_on before n o ≤ k + 1 + 1
class-bound before n k None h = omega arith
class-bound before n k (Some c) h =
    elim (in_class c before) as (λ b. (if b then n + 1 else 1) ≤ k + 1 + 1) [
      | true ↦ omega (arith, h)
      | false ↦ omega arith
    ]

pub next-king_plies : (tail : Tail) (before : Position) (m : DMove) (after : Position) (k : ℕ) → tail.king_plies ≤ k
    → (next_tail tail before m after).king_plies ≤ k + 1
next-king_plies tail before m after k h = king-bound (is_king_move before m) tail.king_plies k h

pub next-class_positions : (tail : Tail) (before : Position) (m : DMove) (after : Position) (k : ℕ)
    → tail.class_positions ≤ k + 1 → (next_tail tail before m after).class_positions ≤ k + 1 + 1
next-class_positions tail before m after k h = class-bound before tail.class_positions k (class_of after) h

-- ---- how often a position stood

found : (b : Bool) (n : ℕ) (o : Option ℕ) → unwrap_or (cond b (Some n) o) 0 ≡ cond b n (unwrap_or o 0)
found true n o = refl
found false n o = refl

pub start-follows : (p : Position) (counts : DrawCounts) → counts.last ≡ p → counts.plies ≡ 0 → counts.times ≡ 1
    → counts.tail ≡ first_tail p
    → ((q : Position) → get same_position counts.seen q ≡ cond (same_position p q) (Some 1) None) → Follows p [] counts
start-follows p counts last plies times tail seen =
    record {
      played = lines.played-none draughts_lines p;
      last = last;
      plies = plies;
      times = times
          ∙ sym (lines.count_by-one (λ q. same_position q p) p ∙ ap (λ b. cond b 1 0) (same_position-itself p));
      tail = tail ∙ sym (tail-begins p);
      stood = λ q. ap (λ o. unwrap_or o 0) (seen q) ∙ found (same_position p q) 1 None
          ∙ sym (lines.count_by-one (λ r. same_position r q) p);
    }

pub end-is : (start : Position) (ms : List DMove) (counts : DrawCounts) → Follows start ms counts
    → end_by counts.tail counts.last counts.plies counts.times ≡ end_of start ms
end-is start ms counts follows = (λ i. end_by (follows.tail i) (follows.last i) (follows.plies i) (follows.times i))
    ∙ ends-by-tail start ms

-- ---- a line that goes on

module _ (start : Position) (ms : List DMove) (m : DMove) (counts : DrawCounts)
    (follows : Follows start ms counts) where
  abbrev more : List DMove
  more = ms ++ m ∷ []

  pub after-end : (found : DEnd) → end_by counts.tail counts.last counts.plies counts.times ≡ Some found
      → HasFault start more (AfterEnd (counts.plies + 1))
  after-end found e = lines.after-end draughts_lines start ms m counts.plies found follows.plies follows.played
      (sym (end-is start ms counts follows) ∙ e)

  pub not-legal : (cause : Illegal) → end_by counts.tail counts.last counts.plies counts.times ≡ None
      → check_of counts.last m ≡ Err cause → HasFault start more (illegal (counts.plies + 1) cause)
  not-legal cause e refused = lines.not-legal draughts_lines start ms m counts.plies cause follows.plies follows.played
      (sym (end-is start ms counts follows) ∙ e) (ap (λ p. check_of p m) (sym follows.last) ∙ refused)

  module _ (next : Position) (is_next : next ≡ play counts.last m) where
    next-is : next ≡ play (last_position start ms) m
    next-is = is_next ∙ ap (λ p. play p m) follows.last

    once-more : (q : Position) → line.times_at play same_position start more q
        ≡ line.times_at play same_position start ms q + cond (same_position next q) 1 0
    once-more q = lines.times-more play same_position start ms m q
        ∙ ap (λ p. line.times_at play same_position start ms q + cond (same_position p q) 1 0) (sym next-is)

    pub few : counts.plies ≤ 600 → unwrap_or (get same_position counts.seen next) 0 ≤ 601
    few within =
        let is = follows.stood next in
        let bound = lines.few-times play same_position start ms next in
        let plies = follows.plies in
        omega (arith, within, is, bound, plies)

    stood-more : (q : Position) (b : Bool) (times : ℕ) → same_position next q ≡ b
        → times ≡ unwrap_or (get same_position counts.seen next) 0 + 1
        → cond b times (unwrap_or (get same_position counts.seen q) 0)
        ≡ line.times_at play same_position start ms q + cond b 1 0
    stood-more q true times e is =
        let there : unwrap_or (get same_position counts.seen next) 0 ≡ line.times_at play same_position start ms q =
        ap (λ p. unwrap_or (get same_position counts.seen p) 0) (same_position-same next q e) ∙ follows.stood q in
        is ∙ ap (λ n. n + 1) there
    stood-more q false times e is = let there = follows.stood q in omega (arith, there)

    -- the counts of the line with one move more
    pub next-follows : (new : DrawCounts) → end_by counts.tail counts.last counts.plies counts.times ≡ None
        → Legal counts.last m → new.last ≡ next → new.plies ≡ counts.plies + 1
        → new.tail ≡ next_tail counts.tail counts.last m next
        → new.times ≡ unwrap_or (get same_position counts.seen next) 0 + 1
        →
        ((q : Position) → get same_position new.seen q ≡ cond (same_position next q) (Some new.times)
        (get same_position counts.seen q)) → Follows start more new
    next-follows new e legal last_is plies_are tail_is times_are seen =
        let stands : (q : Position) → unwrap_or (get same_position new.seen q) 0
        ≡ line.times_at play same_position start more q =
        λ q. ap (λ o. unwrap_or o 0) (seen q) ∙ found (same_position next q) new.times
        (get same_position counts.seen q)
        ∙ stood-more q (same_position next q) new.times refl times_are ∙ sym (once-more q) in
        let after : next ≡ last_position start more = next-is ∙ sym (lines.last_position-append play start ms m) in
        let now : get same_position new.seen next ≡ Some new.times = seen next
        ∙ ap (λ b. cond b (Some new.times) (get same_position counts.seen next)) (same_position-itself next) in
        record {
          played = lines.played-more draughts_lines start ms m follows.played (sym (end-is start ms counts follows) ∙ e)
              (subst (λ p. Legal p m) follows.last legal);
          last = last_is ∙ after;
          plies = plies_are ∙ ap (λ n. n + 1) follows.plies ∙ sym (length-append ms (m ∷ []));
          times = ap (λ o. unwrap_or o 0) (sym now) ∙ stands next
              ∙ ap (line.times_at play same_position start more) after;
          tail = tail_is ∙ (λ i. next_tail (follows.tail i) (follows.last i) m (next-is i))
              ∙ sym (tail-goes-on start ms m);
          stood = stands;
        }
