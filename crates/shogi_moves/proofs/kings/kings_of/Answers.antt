use Rattle.std.proofs.Common.{◌∙◌}
use Rattle.std.specs.FinMap as map
use Rattle.shogi_moves.proofs.KingLemmas.{king-cell}
use Rattle.shogi_moves.proofs.kings.kings_of.Goals as goal

pub returns : goal.returns
returns c q = c.squares_of.ensures q ∙ king-cell c.args.side (map.get c.args.board.now q)
