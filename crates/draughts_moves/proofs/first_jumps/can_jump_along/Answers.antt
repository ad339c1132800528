use Rattle.std.proofs.Common.{◌∙◌, sym}
use Rattle.draughts_moves.proofs.first_jumps.can_jump_along.Goals as goal

pub returns-then-king : goal.returns-then-king
returns-then-king c = λ b p t met is. rw (is ∙ c.if-king.true) (c.king_can_jump.ensures b p t met)

pub returns : goal.returns
returns c = λ b p t met is. rw (is ∙ c.if-king.false) (c.man_can_jump.ensures b p t met)
