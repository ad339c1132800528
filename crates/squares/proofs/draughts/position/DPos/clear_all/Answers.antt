use Rattle.std.proofs.Common.{sym, ap, ◌∙◌}
use Rattle.squares.specs.DraughtsBoard.{Position}
use Rattle.squares.proofs.DraughtsKept.{cleared_next, cleared_none}
use Rattle.squares.proofs.draughts.position.DPos.clear_all.Goals as goal

pub loop-square-preserved : goal.loop-square-preserved
loop-square-preserved c =
    let w = c.loop-square in
    let pop = c.in-Some.ensures in
    record {
      board = cleared_next w.rest c.pop.new.self w.self.board c.clear.new.self.board c.in-Some.square pop.1 pop.2
          (ap (λ (p : Position). p.board) c.clear.ensures) ∙ w.invariant.board;
      turn = ap (λ (p : Position). p.turn) c.clear.ensures ∙ w.invariant.turn;
    }

pub returns : goal.returns
returns c =
    let w = c.loop-square in
    let board = sym (cleared_none w.rest w.self.board c.in_default.ensures.0) ∙ w.invariant.board in
    λ i. record { board = board i; turn = w.invariant.turn i }
