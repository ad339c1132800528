use Rattle.std.proofs.Common.{◌++◌, ap, ◌∙◌}
use Rattle.std.specs.List.{flat_map}
use Rattle.squares.specs.DraughtsSets.{ascending}
use Rattle.draughts_moves.specs.internal.Listing.{quiet_in_order}
use Rattle.draughts_moves.proofs.ListLemmas.{quiet-of_able}
use Rattle.draughts_moves.proofs.listing.quiet_moves.Goals as goal

pub loop-square-init : goal.loop-square-init
loop-square-init c =
    let p = c.args.position.now in
    let able = c.may_go-able.result in
    ap (λ ms. ms ++ flat_map (quiet_in_order p) (ascending able)) c.in_ok-moves.ensures.items
    ∙ quiet-of_able p able c.may_go-able.ensures
