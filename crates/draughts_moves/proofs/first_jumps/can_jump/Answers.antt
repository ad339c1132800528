use Rattle.std.proofs.Common.{◌∙◌, refl, sym}
use Rattle.draughts_moves.specs.Capture.{without}
use Rattle.draughts_moves.proofs.LineLemmas.{any-jumps}
use Rattle.draughts_moves.proofs.first_jumps.can_jump.Goals as goal

pub returns-then-can_jump_along : goal.returns-then-can_jump_along
returns-then-can_jump_along c =
    let m = c.args.mover.now in
    let b = without c.args.position.now.board m.origin in
    rw (
      any-jumps b m.piece m.taken m.at,
      sym (c.can_jump_along.ensures b m.piece m.taken c.look-met.ensures refl) ∙ c.if-can_jump_along.true,
    )

pub returns-then-can_jump_along-2 : goal.returns-then-can_jump_along-2
returns-then-can_jump_along-2 c =
    let m = c.args.mover.now in
    let b = without c.args.position.now.board m.origin in
    rw (
      any-jumps b m.piece m.taken m.at,
      sym (c.can_jump_along.ensures b m.piece m.taken c.look-met.ensures refl) ∙ c.if-can_jump_along.false,
      sym (c.can_jump_along-2.ensures b m.piece m.taken c.look-met.ensures refl) ∙ c.if-can_jump_along-2.true,
    )

pub returns-then-can_jump_along-3 : goal.returns-then-can_jump_along-3
returns-then-can_jump_along-3 c =
    let m = c.args.mover.now in
    let b = without c.args.position.now.board m.origin in
    rw (
      any-jumps b m.piece m.taken m.at,
      sym (c.can_jump_along.ensures b m.piece m.taken c.look-met.ensures refl) ∙ c.if-can_jump_along.false,
      sym (c.can_jump_along-2.ensures b m.piece m.taken c.look-met.ensures refl) ∙ c.if-can_jump_along-2.false,
      sym (c.can_jump_along-3.ensures b m.piece m.taken c.look-met.ensures refl) ∙ c.if-can_jump_along-3.true,
    )

pub returns : goal.returns
returns c =
    let m = c.args.mover.now in
    let b = without c.args.position.now.board m.origin in
    rw (
      any-jumps b m.piece m.taken m.at,
      sym (c.can_jump_along.ensures b m.piece m.taken c.look-met.ensures refl) ∙ c.if-can_jump_along.false,
      sym (c.can_jump_along-2.ensures b m.piece m.taken c.look-met.ensures refl) ∙ c.if-can_jump_along-2.false,
      sym (c.can_jump_along-3.ensures b m.piece m.taken c.look-met.ensures refl) ∙ c.if-can_jump_along-3.false,
    ) (c.can_jump_along-4.ensures b m.piece m.taken c.look-met.ensures refl)
