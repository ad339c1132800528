use Rattle.std.proofs.Common.{ap, ◌∙◌}
use Rattle.std.specs.FinMap as map
use Rattle.draughts_draws.specs.Ends.{is_piece_of, count_of_pieces}
use Rattle.draughts_draws.proofs.SizeLemmas.{len-counts, piece_is}
use Rattle.draughts_draws.proofs.classes.count_of_pieces.Goals as goal

pub returns : goal.returns
unfolding count_of_pieces
returns c =
    let board = c.args.position.now.board in
    c.len.ensures ∙ len-counts c.squares_of.result (λ n. is_piece_of c.args.side (map.get board n))
    (λ n. c.squares_of.ensures n ∙ piece_is c.args.side (map.get board n))
    (λ n off. ap (is_piece_of c.args.side) (c.keeps_to_its_squares.ensures n off))
