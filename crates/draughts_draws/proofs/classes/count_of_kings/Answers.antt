use Rattle.std.proofs.Common.{◌&&◌, ap, ◌∙◌}
use Rattle.std.specs.Cmp.{nat_cmp_total}
use Rattle.std.specs.FinMap as map
use Rattle.std.specs.FinSet as set
use Rattle.squares.specs.internal.DraughtsBoard.{is_of}
use Rattle.draughts_draws.specs.Ends.{is_king_of, count_of_kings}
use Rattle.draughts_draws.proofs.SizeLemmas.{len-counts, king_is}
use Rattle.draughts_draws.proofs.classes.count_of_kings.Goals as goal

pub returns : goal.returns
unfolding count_of_kings
returns c =
    let side = c.args.side in
    let board = c.args.position.now.board in
    let kings = c.kings.result in
    c.len.ensures ∙ len-counts c.intersection.result (λ n. is_king_of side (map.get board n))
    (λ n. ap (λ s. set.contains s n) c.intersection.ensures
    ∙ set.contains-intersection nat_cmp_total c.squares_of-own.result kings n
    ∙ ap (λ b. b && set.contains kings n) (c.squares_of-own.ensures n)
    ∙ ap (λ b. is_of side (map.get board n) && b) (c.kings.ensures n) ∙ king_is side (map.get board n))
    (λ n off. ap (is_king_of side) (c.keeps_to_its_squares.ensures n off))
