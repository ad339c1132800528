use Rattle.std.proofs.Common.{◌++◌, ap, string_bytes}
use Rattle.pdn.proofs.FenLemmas.{parted-all}
use Rattle.pdn.proofs.fen.push_pieces.Goals as goal

pub loop-square-init : goal.loop-square-init
loop-square-init c = ap (λ t. string_bytes c.args.text.now ++ t)
    (parted-all c.args.side c.args.position.now.board c.squares_of-rest.result c.squares_of-rest.ensures)
