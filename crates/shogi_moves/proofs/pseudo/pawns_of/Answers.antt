use Rattle.std.proofs.Common.{◌∙◌}
use Rattle.std.specs.FinMap as map
use Rattle.shogi_moves.proofs.KingLemmas.{pawn-cell}
use Rattle.shogi_moves.proofs.pseudo.pawns_of.Goals as goal

pub returns : goal.returns
returns c q = c.squares_of.ensures q ∙ pawn-cell c.args.side (map.get c.args.board.now q)
