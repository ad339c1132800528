use Rattle.std.proofs.Common.{◌≡◌, None, nat_lt, nat_eq, cond, ap, ◌∙◌, arith}
use Rattle.std.specs.Prelude.{if◌then◌else◌}
use Rattle.std.specs.Ordering.{nat_cmp}
use Rattle.std.specs.FinMap as map
use Rattle.squares.specs.ShogiBoard.{ShogiBoard}
use Rattle.squares.specs.ShogiOpening.{opening_cell}
use Rattle.squares.proofs.ShogiOpened.{set_up_more, all_set_up, none_yet}
use Rattle.squares.proofs.shogi.opening.opening_board.Goals as goal

pub loop-number-init : goal.loop-number-init
loop-number-init c q = ap (λ (b : ShogiBoard). map.get b q) c.empty-board.ensures ∙ map.get-empty nat_cmp q ∙ none_yet q

pub loop-number-preserved : goal.loop-number-preserved
loop-number-preserved c =
    let w = c.loop-number in
    set_up_more w.board c.set_up.new.board w.number w.invariant
    (λ q. c.set_up.ensures q ∙ ap (λ n. if nat_eq q n then opening_cell n else map.get w.board q) c.of_number.ensures)

pub returns : goal.returns
returns c =
    let w = c.loop-number in
    let end : w.number ≡ 81 = omega (arith, c.loop-number-test.false, w.auto.number-end) in
    all_set_up w.board (λ q. w.invariant q ∙ ap (λ n. cond (nat_lt q n) (opening_cell q) None) end)
