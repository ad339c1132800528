use Rattle.std.proofs.Common.{[], length, ap, ◌∙◌, arith}
use Rattle.squares.specs.OrderedLists.{put_all}
use Rattle.draughts_moves.specs.Listing.{move_cmp, moves}
use Rattle.draughts_moves.specs.internal.Listing.{quiet_list}
use Rattle.draughts_moves.proofs.LegalLists.{all-sorted, members_all, quiet_all}
use Rattle.draughts_moves.proofs.ListLemmas.{quiet-sorted}
use Rattle.draughts_moves.proofs.MostLemmas.{IsMost-most}
use Rattle.draughts_moves.proofs.counting.legal_move_count.Goals as goal

pub returns-then-found-gt0 : goal.returns-then-found-gt0
returns-then-found-gt0 c =
    let p = c.args.position.now in
    let n = c.in_ok-found.found.size in
    record {
      moves = put_all move_cmp (moves p n) [];
      once = all-sorted p n;
      members = members_all p n (rw c.in_ok-found.ensures.size (IsMost-most p));
      counted = ap length (c.as_slice.ensures.value ∙ c.in_ok-found.ensures.moves c.if-found-gt0.true);
    }

pub returns : goal.returns
returns c =
    let p = c.args.position.now in
    record {
      moves = quiet_list p;
      once = quiet-sorted p;
      members = quiet_all p (omega (arith, c.if-found-gt0.false, c.in_ok-found.ensures.size));
      counted = c.count_of_quiet.ensures;
    }
