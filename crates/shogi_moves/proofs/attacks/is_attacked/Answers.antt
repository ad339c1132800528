use Rattle.std.proofs.Common.{◌<◌, ◌∙◌, rules}
use Rattle.shogi_moves.proofs.FacingLemmas.{seen-attacked}
use Rattle.shogi_moves.proofs.attacks.is_attacked.Goals as goal

pub returns : goal.returns
returns c =
    let on : c.args.square < 81 = search rules in
    c.is_seen.ensures ∙ seen-attacked c.args.board.now c.args.side c.args.square on
