use Rattle.std.proofs.Common.{◌≡◌, ◌-◌, ◌∙◌, ap, arith}
use Rattle.shogi_moves.specs.Reach.{line}
use Rattle.shogi_moves.specs.internal.Facing.{farthest, faced, faced_along}
use Rattle.shogi_moves.proofs.attacks.is_faced.Goals as goal

pub returns : goal.returns
unfolding faced_along
returns c =
    let h = c.args.heading in
    let whole : farthest h - 0 ≡ farthest h = omega arith in
    c.is_faced_from.ensures
    ∙ ap (λ k. faced c.args.board.now c.args.side h 0 (line k c.args.side h c.args.square)) whole
