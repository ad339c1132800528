use Rattle.std.proofs.Common.{arith}
use Rattle.draughts_moves.proofs.LegalLists.{all-sorted, members_all, quiet_all}
use Rattle.draughts_moves.proofs.ListLemmas.{quiet-sorted}
use Rattle.draughts_moves.proofs.MostLemmas.{IsMost-most}
use Rattle.draughts_moves.proofs.listing.legal.Goals as goal

pub returns-then-found-gt0-clause-in_order : goal.returns-then-found-gt0-clause-in_order
returns-then-found-gt0-clause-in_order c = rw (c.in_ok-found.ensures.moves c.if-found-gt0.true)
    (all-sorted c.args.position.now c.in_ok-found.found.size)

pub returns-then-found-gt0-clause-members : goal.returns-then-found-gt0-clause-members
returns-then-found-gt0-clause-members c =
    let p = c.args.position.now in
    rw (c.in_ok-found.ensures.moves c.if-found-gt0.true)
    (members_all p c.in_ok-found.found.size (rw c.in_ok-found.ensures.size (IsMost-most p)))

pub returns-clause-in_order : goal.returns-clause-in_order
returns-clause-in_order c = rw c.in_ok-moves.ensures (quiet-sorted c.args.position.now)

pub returns-clause-members : goal.returns-clause-members
returns-clause-members c = rw c.in_ok-moves.ensures
    (quiet_all c.args.position.now (omega (arith, c.if-found-gt0.false, c.in_ok-found.ensures.size)))
