use Rattle.std.proofs.Common.{◌<◌, sym, ap, ◌∙◌, arith}
use Rattle.std.specs.FinMap as map
use Rattle.shogi_moves.specs.internal.Facing.{seen}
use Rattle.shogi_moves.proofs.FacingLemmas.{seen-attacked}
use Rattle.shogi_moves.proofs.PinLemmas.{king_safe, nothing_in, cleared_first, cleared_more, cleared_all}
use Rattle.shogi_moves.proofs.pins.unpinned_pieces.Goals as goal

pub returns-then-checked : goal.returns-then-checked
returns-then-checked c n e = absurd (nothing_in c.new.result n c.new.ensures e)

pub loop-king-init : goal.loop-king-init
loop-king-init c = cleared_first c.args.board.now c.args.side _ _ _ c.squares_of_side-own.ensures
    c.kings_of-kings.ensures c.difference-free.ensures

pub without_pinned-free-requires : goal.without_pinned-free-requires
without_pinned-free-requires c =
    let b = c.args.board.now in
    let pop = c.in-Some.ensures in
    ap (seen b c.args.side) c.of_number.ensures
    ∙ seen-attacked b c.args.side c.in-Some.king (omega (arith, pop.3))
    ∙ king_safe b c.args.side c.in-Some.king (sym c.requires ∙ c.if-checked.false)
    (c.loop-king.invariant.kings c.in-Some.king pop.4)

pub loop-king-preserved : goal.loop-king-preserved
loop-king-preserved c =
    let b = c.args.board.now in
    let pop = c.in-Some.ensures in
    let safe = c.without_pinned-free.ensures.safe in
    cleared_more b c.args.side _ _ c.in-Some.king pop _ _ c.without_pinned-free.ensures.kept
    (λ n e.
    sym (seen-attacked (map.remove b n) c.args.side c.in-Some.king (omega (arith, pop.3)))
    ∙ sym (ap (seen (map.remove b n) c.args.side) c.of_number.ensures) ∙ safe n e) c.loop-king.invariant

pub returns : goal.returns
returns c = cleared_all c.args.board.now c.args.side _ _ c.in_default.ensures.0 c.loop-king.invariant
