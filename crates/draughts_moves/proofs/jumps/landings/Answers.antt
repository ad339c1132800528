use Rattle.std.proofs.Common.{◌≡◌, ℕ, ◌+◌, ◌-◌, ◌≤◌, ◌∷◌, [], ◌++◌, List, length, ◌∙◌, refl, sym, ap, arith}
use Rattle.std.proofs.Common.{append_assoc}
use Rattle.std.proofs.lemmas.List.{length-append, append-nil}
use Rattle.squares.specs.DraughtsGeometry.{line, ray}
use Rattle.squares.specs.internal.DraughtsGeometry.{line-step, line-edge}
use Rattle.draughts_moves.proofs.LineLemmas.{some-is_none, not_some-is_none}
use Rattle.draughts_moves.proofs.jumps.landings.Goals as goal

one_longer : (start xs ys : List (ℕ × ℕ)) (j : ℕ × ℕ) (i : ℕ) → ys ≡ xs ++ j ∷ [] → length xs ≤ length start + i
    → length ys ≤ length start + (i + 1)
one_longer start xs ys j i e h = omega (arith, ap length e, length-append xs (j ∷ []))

pub loop-init : goal.loop-init
unfolding ray
loop-init c = record { so_far = λ b are. refl; room = omega arith }

pub returns-in-None-clause-added : goal.returns-in-None-clause-added
returns-in-None-clause-added c = λ b are.
    let w = c.loop in
    rw (line-edge (9 - w.counter) c.args.toward w.at (sym c.step.ensures ∙ c.in-None.is), append-nil)
    at (w.invariant.so_far b are)

pub returns-then-contains-clause-added : goal.returns-then-contains-clause-added
returns-then-contains-clause-added c = λ b are.
    let w = c.loop in
    let next = c.in-Some.next in
    let here = line-step (9 - w.counter) (9 - (w.counter + 1)) c.args.toward w.at next
    (sym c.step.ensures ∙ c.in-Some.is) (omega (arith, c.loop-test.true)) in
    let stands = some-is_none (b next) (sym (are next) ∙ sym c.contains.ensures ∙ c.if-contains.true) in
    rw (here, stands, append-nil) at (w.invariant.so_far b are)

pub loop-preserved : goal.loop-preserved
loop-preserved c =
    let w = c.loop in
    let next = c.in-Some.next in
    let here = line-step (9 - w.counter) (9 - (w.counter + 1)) c.args.toward w.at next
    (sym c.step.ensures ∙ c.in-Some.is) (omega (arith, c.loop-test.true)) in
    record {
      so_far = λ b are.
          let clear = not_some-is_none (b next) (sym (are next) ∙ sym c.contains.ensures ∙ c.if-contains.false) in
          rw (c.push.ensures, append_assoc w.jumps ((c.args.over, next) ∷ []))
          (rw (here, clear) at (w.invariant.so_far b are));
      room = one_longer c.args.jumps.now w.jumps c.push.new.self (c.args.over, next) w.counter c.push.ensures
          w.invariant.room;
    }

pub returns-clause-added : goal.returns-clause-added
unfolding line
returns-clause-added c = λ b are.
    let none : 9 - c.loop.counter ≡ 0 = omega (arith, c.loop-test.false, c.loop.auto.counter-end) in
    rw (none, append-nil) at (c.loop.invariant.so_far b are)
