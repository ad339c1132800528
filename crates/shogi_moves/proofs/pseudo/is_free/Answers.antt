use Rattle.std.proofs.Common.{◌<◌, ◌∙◌, sym, ap, rules}
use Rattle.std.specs.Prelude.{is_none}
use Rattle.shogi_moves.proofs.RuleLemmas.{is_free-is}
use Rattle.shogi_moves.proofs.pseudo.is_free.Goals as goal

pub returns-in-None : goal.returns-in-None
returns-in-None c =
    let on : c.args.square < 81 = search rules in
    sym (is_free-is c.args.board.now c.args.square on ∙ ap is_none (sym c.piece_at.ensures ∙ c.in-None.is))

pub returns-in-Some : goal.returns-in-Some
returns-in-Some c =
    let on : c.args.square < 81 = search rules in
    sym (is_free-is c.args.board.now c.args.square on ∙ ap is_none (sym c.piece_at.ensures ∙ c.in-Some.is))
