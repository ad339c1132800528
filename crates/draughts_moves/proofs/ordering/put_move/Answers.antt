use Rattle.std.proofs.Common.{sym, ◌∙◌, refl, arith}
use Rattle.draughts_moves.specs.Listing.{move_cmp}
use Rattle.draughts_moves.proofs.PlaceLemmas.{move_cmp-total, place-begin, place-greater, place-equal, place-less}
use Rattle.draughts_moves.proofs.PlaceLemmas.{place-first}
use Rattle.draughts_moves.proofs.ordering.put_move.Goals as goal

pub loop-passed-init : goal.loop-passed-init
loop-passed-init c = record {
  rest = place-begin move_cmp move_cmp-total c.args.played c.args.moves.now.items c.len-count.result 0
      (omega (arith, c.len-count.ensures, c.args.moves.now.ok.0));
  same = refl;
}

pub loop-passed-preserved : goal.loop-passed-preserved
loop-passed-preserved c =
    let w = c.loop-passed in
    record {
      rest = place-greater move_cmp move_cmp-total c.args.played c.args.moves.now.items c.len-count.result w.passed
          c.index.result.now (omega (arith, c.len-count.ensures, c.args.moves.now.ok.0)) c.loop-passed-test.true
          w.invariant.rest (rw w.invariant.same at c.index.ensures) (sym c.compare.ensures ∙ c.in-Greater.is);
      same = w.invariant.same;
    }

pub returns-in-Equal : goal.returns-in-Equal
returns-in-Equal c =
    let w = c.loop-passed in
    w.invariant.same
    ∙ place-equal move_cmp move_cmp-total c.args.played c.args.moves.now.items c.len-count.result w.passed
    c.index.result.now (omega (arith, c.len-count.ensures, c.args.moves.now.ok.0)) c.loop-passed-test.true
    w.invariant.rest (rw w.invariant.same at c.index.ensures) c.requires (sym c.compare.ensures ∙ c.in-Equal.is)

pub returns-in-Less : goal.returns-in-Less
returns-in-Less c =
    let w = c.loop-passed in
    (rw w.invariant.same at c.in_ok-insert-in-Less.ensures.items)
    ∙ place-less move_cmp move_cmp-total c.args.played c.args.moves.now.items c.len-count.result w.passed
    c.index.result.now (omega (arith, c.len-count.ensures, c.args.moves.now.ok.0)) c.loop-passed-test.true
    w.invariant.rest (rw w.invariant.same at c.index.ensures) c.requires (sym c.compare.ensures ∙ c.in-Less.is)

pub returns : goal.returns
returns c =
    (rw c.loop-passed.invariant.same at c.in_ok-insert.ensures.items)
    ∙ place-first move_cmp move_cmp-total c.args.played c.args.moves.now.items c.len-count.result c.loop-passed.passed
    c.loop-passed-test.false c.loop-passed.invariant.rest
