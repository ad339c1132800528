use Rattle.std.proofs.Common.{◌≡◌, ◌==◌, true, ap, ◌∙◌, arith}
use Rattle.std.proofs.lemmas.Grind.{common_steps}
use Rattle.cross_tables.proofs.FieldLemmas.{weighted-own}
use Rattle.cross_tables.proofs.field.weighted.Goals as goal

pub returns : goal.returns
returns c rows t =
    let row = c.args.row.now in
    let same : (row.member == c.args.member) ≡ true = grind (arith, common_steps, c.if-row-member.false) in
    weighted-own c.args.member rows row _ _ same c.from.ensures
    (c.from-2.ensures ∙ ap (λ s. s.points) (c.totals_of-opponent.ensures rows t))
