use Rattle.std.proofs.Common.{sym, ◌∙◌, refl, arith}
use Rattle.std.specs.Ordering.{nat_cmp}
use Rattle.std.specs.FinSet.{len-empty}
use Rattle.squares.specs.internal.DraughtsMarks.{nat_eq_same}
use Rattle.draughts_moves.proofs.FoundLemmas.{ends_of-piece, captured-no_piece}
use Rattle.draughts_moves.proofs.MostLemmas.{greatest_at-own, greatest_at-none}
use Rattle.draughts_moves.proofs.move_visitor.seek_from.Goals as goal

pub returns-in_ok-seek-in-Some-clause-size : goal.returns-in_ok-seek-in-Some-clause-size
returns-in_ok-seek-in-Some-clause-size c =
    let size = rw c.new.ensures at c.in_ok-seek-in-Some.ensures.size in
    omega (
      arith,
      size,
      len-empty nat_cmp,
      greatest_at-own c.args.position.now c.args.square c.in-Some.piece (sym c.own_at.ensures ∙ c.in-Some.is),
    )

pub returns-in_ok-seek-in-Some-clause-moves : goal.returns-in_ok-seek-in-Some-clause-moves
returns-in_ok-seek-in-Some-clause-moves c =
    rw (
      c.new.ensures,
      ends_of-piece c.args.position.now c.seek.new.found.size c.args.square c.in-Some.piece
          (sym c.own_at.ensures ∙ c.in-Some.is),
    ) at c.in_ok-seek-in-Some.ensures.moves

pub returns-in-None-clause-size : goal.returns-in-None-clause-size
returns-in-None-clause-size c =
    omega (arith, greatest_at-none c.args.position.now c.args.square (sym c.own_at.ensures ∙ c.in-None.is))

pub returns-in-None-clause-moves : goal.returns-in-None-clause-moves
returns-in-None-clause-moves c =
    let size = c.args.found.now.size in
    rw (
      captured-no_piece c.args.position.now size c.args.square (sym c.own_at.ensures ∙ c.in-None.is),
      nat_eq_same size size refl,
    )
