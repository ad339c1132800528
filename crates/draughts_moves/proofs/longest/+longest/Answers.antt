use Rattle.std.proofs.Common.{◌≡◌, ℕ, ◌<◌, sym, ap, ◌∙◌, arith}
use Rattle.std.specs.FinSet as set
use Rattle.std.proofs.lemmas.List.{take_all}
use Rattle.draughts_moves.specs.declared.mover.Mover.{Mover}
use Rattle.draughts_moves.specs.Capture.{without}
use Rattle.draughts_moves.specs.Search.{prey_left}
use Rattle.draughts_moves.proofs.Basics.{In-item}
use Rattle.draughts_moves.proofs.JumpLemmas.{jumps-sound}
use Rattle.draughts_moves.proofs.LineLemmas.{greatest-none}
use Rattle.draughts_moves.proofs.Prey.{prey_left-falls}
use Rattle.draughts_moves.proofs.RouteLemmas.{greatest-jumps, greatest-fits}
use Rattle.draughts_moves.proofs.longest.+longest.Goals as goal

pub returns-then-not-can_jump-clause-value : goal.returns-then-not-can_jump-clause-value
returns-then-not-can_jump-clause-value t c =
    let m = c.args.mover.now in
    sym
    (greatest-none (without c.args.position.now.board m.origin) m.piece m.taken m.at
    (sym c.can_jump.ensures ∙ c.if-not-can_jump.true))

pub longest-more-requires : goal.longest-more-requires
longest-more-requires t c =
    let m = c.args.mover.now in
    let b = without c.args.position.now.board m.origin in
    let item = c.loop-over-item.result in
    let among = In-item c.items-over-items.result.now _ c.loop-over.over-index item c.loop-over-test.true
    c.loop-over-item.is c.loop-over.invariant.items_are in
    let jump = jumps-sound b m.piece m.taken m.at item.0 item.1 among in
    let left_by : Mover → ℕ = λ mover. prey_left (without c.args.position.now.board mover.origin) mover.piece
    mover.taken in
    let less : left_by c.after_jump-next.result ≡ prey_left b m.piece (set.insert m.taken item.0) =
    ap left_by c.after_jump-next.ensures in
    let at_most : prey_left b m.piece m.taken ≡ t = c.decreases in
    let smaller : left_by c.after_jump-next.result < t = omega
    (arith, prey_left-falls b m.piece m.taken m.at item.0 item.1 jump, less, at_most) in
    (smaller, tt)

pub returns-clause-value : goal.returns-clause-value
returns-clause-value t c =
    let m = c.args.mover.now in
    rw (greatest-jumps (without c.args.position.now.board m.origin) m.piece m.taken m.at)
    (rw (
      take_all c.loop-over.over-index c.items-over-items.result.now c.loop-over-test.false,
      c.loop-over.invariant.items_are,
    ) at c.loop-over.invariant.best_is)

pub returns-clause-few : goal.returns-clause-few
returns-clause-few t c =
    let m = c.args.mover.now in
    omega (
      arith,
      returns-clause-value t c,
      greatest-fits (without c.args.position.now.board m.origin) m.piece m.taken m.at,
    )
