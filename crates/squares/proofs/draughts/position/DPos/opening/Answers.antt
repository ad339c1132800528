use Rattle.std.proofs.Common.{◌≡◌, ◌+◌, ◌-◌, ℕ, ◌<◌, Option, None, List, length, get_or, ap, ◌∙◌, arith}
use Rattle.std.specs.FinMap as map
use Rattle.std.specs.FinSet as set
use Rattle.std.proofs.lemmas.List.FromFn.{fill_by_all}
use Rattle.masks.specs.Words.{Numbers}
use Rattle.squares.specs.declared.draughts.piece.DPiece.{DPiece}
use Rattle.squares.specs.declared.sides.Side.TheVariants.{First, Second}
use Rattle.squares.specs.DraughtsBoard.{Position, board_of}
use Rattle.squares.specs.internal.DraughtsBoard.{is_of}
use Rattle.squares.specs.internal.DraughtsKept.{Marks, KeepsCells}
use Rattle.squares.specs.DraughtsOpening.{opening_piece, opening}
use Rattle.squares.specs.internal.DraughtsCells.{get-board_of}
use Rattle.squares.proofs.DraughtsKept.{no_kings, cells_from, kept_from}
use Rattle.squares.proofs.draughts.position.DPos.opening.Goals as goal

kept : (cells : List (Option DPiece)) (f s r : Numbers) → length cells ≡ 50
    → ((k : ℕ) → k < 50 → get_or cells k None ≡ opening_piece (k + 1)) → Marks (is_of First) f (board_of cells)
    → Marks (is_of Second) s (board_of cells) → r ≡ set.empty → KeepsCells cells f s r
kept cells f s r many filled first second none = record {
  has_cells = many;
  of_first = first;
  of_second = second;
  of_kings = no_kings cells r none many filled;
}

pub returns-clause-value : goal.returns-clause-value
unfolding opening
returns-clause-value c =
    ap (λ (cells : List (Option DPiece)). let p : Position = record { board = board_of cells; turn = First } in p)
    (cells_from c.loop-i.cells c.squares_in.result c.squares_in-2.result c.new.result
    (kept c.loop-i.cells _ _ _ c.loop-i.invariant.0 (λ k h. c.loop-i.invariant.1 k (omega arith)) c.squares_in.ensures
    c.squares_in-2.ensures c.new.ensures)
    ∙ fill_by_all (λ k. opening_piece (k + 1)) c.loop-i.cells 50 None c.loop-i.invariant.0
    (λ k h. c.loop-i.invariant.1 k (omega arith)))

pub returns-clause-pieces : goal.returns-clause-pieces
returns-clause-pieces c = λ n on.
    ap (λ cells. map.get (board_of cells) n)
    (cells_from c.loop-i.cells c.squares_in.result c.squares_in-2.result c.new.result
    (kept c.loop-i.cells _ _ _ c.loop-i.invariant.0 (λ k h. c.loop-i.invariant.1 k (omega arith)) c.squares_in.ensures
    c.squares_in-2.ensures c.new.ensures))
    ∙ get-board_of c.loop-i.cells n (n - 1) (omega arith) ∙ c.loop-i.invariant.1 (n - 1) (omega arith)
    ∙ ap opening_piece (let e : n - 1 + 1 ≡ n = omega arith in e)

pub invariant_of-result : goal.invariant_of-result
invariant_of-result c =
    kept_from c.loop-i.cells c.squares_in.result c.squares_in-2.result c.new.result
    (kept c.loop-i.cells _ _ _ c.loop-i.invariant.0 (λ k h. c.loop-i.invariant.1 k (omega arith)) c.squares_in.ensures
    c.squares_in-2.ensures c.new.ensures)
