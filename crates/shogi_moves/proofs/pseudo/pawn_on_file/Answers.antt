use Rattle.std.proofs.Common.{◌==◌, ◌∙◌, ℕ, true, false, sym, ap}
use Rattle.squares.specs.ShogiGeometry.{file_of}
use Rattle.shogi_moves.proofs.KingLemmas.{pawns-on_file, any-popped}
use Rattle.shogi_moves.proofs.pseudo.pawn_on_file.Goals as goal

pub loop-there-init : goal.loop-there-init
loop-there-init c = pawns-on_file c.args.board.now c.args.side c.args.square c.pawns_of-rest.result
    c.pawns_of-rest.ensures

pub returns-then-on_one_file : goal.returns-then-on_one_file
returns-then-on_one_file c =
    let a = λ (q : ℕ). file_of q == file_of c.args.square in
    any-popped a _ _ _ true _ c.in-Some.ensures.0 c.loop-there.invariant
    (ap a (sym c.of_number.ensures) ∙ sym c.on_one_file.ensures ∙ c.if-on_one_file.true)

pub loop-there-preserved : goal.loop-there-preserved
loop-there-preserved c =
    let a = λ (q : ℕ). file_of q == file_of c.args.square in
    any-popped a _ _ _ false _ c.in-Some.ensures.0 c.loop-there.invariant
    (ap a (sym c.of_number.ensures) ∙ sym c.on_one_file.ensures ∙ c.if-on_one_file.false)
