use Rattle.std.proofs.Common.{◌≡◌, ℕ, ◌<◌, List, inl, inr, get_or, length, take, refl, sym, ap, ◌∙◌, subst, arith}
use Rattle.std.specs.FinSet as set
use Rattle.std.proofs.lemmas.List.{take_all}
use Rattle.squares.specs.DraughtsBoard.{Position}
use Rattle.squares.specs.internal.In.{In, In-get_or, In-take_more}
use Rattle.draughts_moves.specs.Capture.{without}
use Rattle.draughts_moves.specs.Search.{jumps, prey_left}
use Rattle.draughts_moves.proofs.Proved.{jumps-sound, prey_left-falls}
use Rattle.draughts_moves.specs.declared.mover.Mover.{Mover}
use Rattle.pdn.specs.internal.Subsequence.{unmatched_after}
use Rattle.pdn.specs.internal.Reaching.{GoesTo, StepsTo}
use Rattle.pdn.proofs.PassingLemmas.{GoesTo-by, GoesTo-first}
use Rattle.pdn.proofs.reaching.+goes_to.Goals as goal

-- what is asked of a mover
Goes : Position → Mover → List ℕ → ℕ → Type 0
Goes p mover middle to = GoesTo (without p.board mover.origin) mover.piece mover.taken mover.at middle to

-- what the loop looks at is a jump
item-jump : (items js : List (ℕ × ℕ)) (k : ℕ) (item : ℕ × ℕ) → item ≡ get_or items k item → k < length items
    → items ≡ js → In item js
item-jump items js k item is within same = subst (λ xs. In item xs) same
    (subst (λ x. In x items) (sym is) (In-get_or items k item within))

pub returns-then-ends_here : goal.returns-then-ends_here
returns-then-ends_here t c =
    let b = without c.args.position.now.board c.args.mover.now.origin in
    let item = c.loop-over-item.result in
    let jump = item-jump c.items-over-items.result.now _ c.loop-over.over-index item c.loop-over-item.is
    c.loop-over-test.true c.loop-over.invariant.items_are in (
      λ _. GoesTo-by b c.args.mover.now.piece c.args.mover.now.taken c.args.mover.now.at c.args.middle.now c.args.to
          item
          jump (inl (c.ends_here.ensures.0 c.if-ends_here.true)),
      λ _. refl,
    )

pub goes_to-requires : goal.goes_to-requires
goes_to-requires t c =
    let b = without c.args.position.now.board c.args.mover.now.origin in
    let item = c.loop-over-item.result in
    let jump = jumps-sound b c.args.mover.now.piece c.args.mover.now.taken c.args.mover.now.at item.0 item.1
    (item-jump c.items-over-items.result.now _ c.loop-over.over-index item c.loop-over-item.is c.loop-over-test.true
    c.loop-over.invariant.items_are) in
    let falls = prey_left-falls b c.args.mover.now.piece c.args.mover.now.taken c.args.mover.now.at item.0 item.1 jump
    in
    let left_by : Mover → ℕ = λ mover. prey_left (without c.args.position.now.board mover.origin) mover.piece
    mover.taken in
    let less : left_by c.after_jump-next.result ≡ prey_left b c.args.mover.now.piece
    (set.insert c.args.mover.now.taken item.0) = ap left_by c.after_jump-next.ensures in
    let at_most : prey_left b c.args.mover.now.piece c.args.mover.now.taken ≡ t = c.decreases in
    let smaller : left_by c.after_jump-next.result < t = omega (arith, falls, less, at_most) in
    (smaller, tt)

pub returns-then-goes_to : goal.returns-then-goes_to
unfolding Goes
returns-then-goes_to t c =
    let b = without c.args.position.now.board c.args.mover.now.origin in
    let item = c.loop-over-item.result in
    let jump = item-jump c.items-over-items.result.now _ c.loop-over.over-index item c.loop-over-item.is
    c.loop-over-test.true c.loop-over.invariant.items_are in
    let there : Goes c.args.position.now c.after_jump-next.result c.unmatched_after.result.now c.args.to =
    c.goes_to.ensures.0 c.if-goes_to.true in
    let next = subst (λ (mover : Mover). Goes c.args.position.now mover (unmatched_after c.args.middle.now item.1) c.args.to)
    c.after_jump-next.ensures
    (subst (λ xs. Goes c.args.position.now c.after_jump-next.result xs c.args.to) c.unmatched_after.ensures there) in (
      λ _. GoesTo-by b c.args.mover.now.piece c.args.mover.now.taken c.args.mover.now.at c.args.middle.now c.args.to
          item
          jump (inr next),
      λ _. refl,
    )

pub loop-over-preserved : goal.loop-over-preserved
unfolding Goes
loop-over-preserved t c =
    let b = without c.args.position.now.board c.args.mover.now.origin in
    let item = c.loop-over-item.result in
    let items = c.items-over-items.result.now in
    record {
      none = λ j h r.
          elim (In-take_more items c.loop-over.over-index j item c.loop-over-test.true h) [
            | inl before ↦ c.loop-over.invariant.none j before r
            | inr this ↦
                let same : j ≡ item = sym this ∙ sym c.loop-over-item.is in
                let here : StepsTo b c.args.mover.now.piece c.args.mover.now.taken item c.args.middle.now c.args.to =
                subst
                (λ (k : ℕ × ℕ). StepsTo b c.args.mover.now.piece c.args.mover.now.taken k c.args.middle.now
                c.args.to) same r in
                elim here [
                  | inl ends ↦ let found = c.ends_here.ensures.1 ends in let not_found = c.if-ends_here.false in cc
                  | inr goes ↦
                      let next : Goes c.args.position.now c.after_jump-next.result (unmatched_after c.args.middle.now item.1)
                      c.args.to =
                      subst
                      (λ (mover : Mover). Goes c.args.position.now mover (unmatched_after c.args.middle.now item.1) c.args.to)
                      (sym c.after_jump-next.ensures) goes in
                      let found =
                      c.goes_to.ensures.1
                      (subst (λ xs. Goes c.args.position.now c.after_jump-next.result xs c.args.to) (sym c.unmatched_after.ensures)
                      next) in
                      let not_found = c.if-goes_to.false in
                      cc
                ]
          ];
      items_are = c.loop-over.invariant.items_are;
    }

pub returns : goal.returns
returns t c =
    let b = without c.args.position.now.board c.args.mover.now.origin in
    let items = c.items-over-items.result.now in (
      λ e. cc,
      λ r.
          let w = GoesTo-first b c.args.mover.now.piece c.args.mover.now.taken c.args.mover.now.at c.args.middle.now
          c.args.to r in
          let all_items : take c.loop-over.over-index items ≡ jumps b c.args.mover.now.piece c.args.mover.now.taken
          c.args.mover.now.at =
          take_all c.loop-over.over-index items c.loop-over-test.false ∙ c.loop-over.invariant.items_are in
          absurd (c.loop-over.invariant.none w.0 (subst (λ js. In w.0 js) (sym all_items) w.1) w.2),
    )
