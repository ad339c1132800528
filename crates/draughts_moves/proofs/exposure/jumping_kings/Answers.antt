use Rattle.std.proofs.Common.{rules, ◌≡◌, false, sym, ◌∙◌}
use Rattle.squares.specs.declared.draughts.direction.Direction.{Direction}
use Rattle.squares.specs.declared.draughts.direction.Direction.TheVariants.{UpLeft, UpRight, DownLeft, DownRight}
use Rattle.squares.specs.DraughtsSets.{Squares}
use Rattle.draughts_moves.specs.internal.Search.{AreExposed}
use Rattle.draughts_moves.proofs.IdleLemmas.{first_able, less_able, faces_none}
use Rattle.draughts_moves.proofs.exposure.jumping_kings.Goals as goal

pub returns-then-is_empty : goal.returns-then-is_empty
returns-then-is_empty c = rw c.intersection-able.ensures
    (first_able c.args.position.now c.squares_of-own.result c.kings.result
    (rw c.turn.ensures at c.squares_of-own.ensures) c.kings.ensures)

pub loop-square-init : goal.loop-square-init
loop-square-init c = rw c.intersection-able.ensures
    (first_able c.args.position.now c.squares_of-own.result c.kings.result
    (rw c.turn.ensures at c.squares_of-own.ensures) c.kings.ensures)

pub loop-square-preserved-then-not-king_can_jump : goal.loop-square-preserved-then-not-king_can_jump
loop-square-preserved-then-not-king_can_jump c =
    let p = c.args.position.now in
    let sight = c.look-sight.result in
    let seen = c.look-sight.ensures in
    let none : c.king_can_jump.result ≡ false = search rules in
    let these : Direction → Squares = elim
    [ UpLeft ↦ sight.up_left | UpRight ↦ sight.up_right | DownLeft ↦ sight.down_left | DownRight ↦ sight.down_right ] in
    let exposed : (d : Direction) → AreExposed p d (these d) = elim
    [ UpLeft ↦ seen.up_left | UpRight ↦ seen.up_right | DownLeft ↦ seen.down_left | DownRight ↦ seen.down_right ] in
    rw c.without-able.ensures
    (less_able p c.loop-square.able c.in-Some.square c.loop-square.invariant
    (λ q own king. faces_none p c.in-Some.square q own king sight.pieces seen.pieces these exposed
    (sym c.king_can_jump.ensures ∙ none)))
