use Rattle.std.proofs.Common.{ap, sym, ◌∙◌, Some, cond, nat_eq}
use Rattle.std.specs.Cmp.{nat_cmp_total, unsigned_tied}
use Rattle.std.specs.FinMap as map
use Rattle.squares.proofs.shogi.opening.set_up.Goals as goal

pub returns-in-Some : goal.returns-in-Some
returns-in-Some c q =
    let a = c.args in
    ap (λ b. map.get b q) c.put.ensures ∙ map.get-insert nat_cmp_total a.board.now a.square c.in-Some.piece q
    ∙ ap (λ b. cond b (Some c.in-Some.piece) (map.get a.board.now q)) (unsigned_tied q a.square)
    ∙ ap (λ o. cond (nat_eq q a.square) o (map.get a.board.now q)) (sym c.in-Some.is ∙ c.opening_cell.ensures)
