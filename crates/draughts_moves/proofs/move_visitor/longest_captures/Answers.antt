use Rattle.std.proofs.Common.{[], ap, ◌∙◌}
use Rattle.squares.specs.OrderedLists.{put_all}
use Rattle.draughts_moves.specs.Search.{greatest_at, most}
use Rattle.draughts_moves.specs.Listing.{move_cmp}
use Rattle.draughts_moves.specs.internal.Found.{captured}
use Rattle.draughts_moves.proofs.FoundLemmas.{captured-able, captured-moves, popped-on, gathers-end, sorted-none}
use Rattle.draughts_moves.proofs.FoundLemmas.{kept-none}
use Rattle.draughts_moves.proofs.MaxLemmas.{most-able}
use Rattle.draughts_moves.proofs.move_visitor.longest_captures.Goals as goal

pub loop-square-init : goal.loop-square-init
loop-square-init c =
    let p = c.args.position.now in
    let able = c.may_take-able in
    record {
      most_is = rw c.new-found.ensures.size (most-able p able.result able.ensures);
      listed = rw (captured-able p able.result able.ensures, c.new-found.ensures.moves)
          (rw (kept-none c.new-found.result.size (most p)));
      sorted = rw c.new-found.ensures.moves sorted-none;
    }

pub loop-square-preserved : goal.loop-square-preserved
loop-square-preserved c =
    let w = c.loop-square in
    let next = c.seek_from.new.found in
    popped-on c.args.position.now w.able c.pop.new.self c.in-Some.square w.found.size next.size _ w.found.moves.items
    next.moves.items c.in-Some.ensures.0 w.invariant c.in_ok-seek_from.ensures.size c.in_ok-seek_from.ensures.moves

pub returns-clause-size : goal.returns-clause-size
returns-clause-size c =
    let p = c.args.position.now in
    (gathers-end (greatest_at p) (captured p (most p)) (most p) _ c.loop-square.found.size
    c.loop-square.found.moves.items (rw c.in_default.ensures.1 at c.loop-square.invariant)).0

pub returns-clause-moves : goal.returns-clause-moves
returns-clause-moves c = λ positive.
    let p = c.args.position.now in
    let end = gathers-end (greatest_at p) (captured p (most p)) (most p) _ c.loop-square.found.size
    c.loop-square.found.moves.items (rw c.in_default.ensures.1 at c.loop-square.invariant) in
    rw end.0 (end.1 ∙ ap (λ ms. put_all move_cmp ms []) (captured-moves p (rw end.0 at positive)))
