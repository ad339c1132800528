use Rattle.std.proofs.Common.{◌≡◌, ◌++◌, List, sym, ◌∙◌, subst}
use Rattle.std.specs.Prelude.{◌↔◌}
use Rattle.std.specs.List.{Contains}
use Rattle.std.specs.List.Sorted.{IsStrictlySortedBy}
use Rattle.squares.specs.declared.shogi.moves.SMove.{SMove}
use Rattle.shogi_moves.specs.Rules.{Legal}
use Rattle.shogi_moves.specs.internal.Computed.{is_legal}
use Rattle.shogi_moves.specs.Listing.{move_cmp}
use Rattle.shogi_moves.specs.internal.Listing.{all_moves}
use Rattle.shogi_moves.proofs.MateLemmas.{moves-sorted, moves-members}
use Rattle.shogi_moves.proofs.listing.legal.Goals as goal

listed : (c : goal.In_ok-visit_moves) → c.listed.inside.moves.items ≡ all_moves (is_legal c.args.position.now)
listed c =
    c.listed.view_is ∙ c.in_ok-visit_moves.ensures
    ∙ (λ i. c.new.ensures.items i ++ all_moves (is_legal (c.from_position.ensures.value i)))

pub returns-clause-in_order : goal.returns-clause-in_order
returns-clause-in_order c = subst (λ ms. IsStrictlySortedBy move_cmp ms) (sym (listed c))
    (moves-sorted c.args.position.now)

pub returns-clause-members : goal.returns-clause-members
returns-clause-members c m =
    let p = c.args.position.now in
    subst (λ (ms : List SMove). Contains ms m ↔ Legal p m) (sym (listed c)) (moves-members p m)
