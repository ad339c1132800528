use Rattle.std.proofs.Common.{◌∙◌}
use Rattle.cross_tables.specs.Lines.{line_text}
use Rattle.club_answers.proofs.cross_table.line_at.Goals as goal

pub returns : goal.returns
returns c =
    let name = c.in_ok-name.ensures in
    let cells = c.deref-2.ensures.value ∙ c.in_ok-cells.ensures.own c.args.scores.now
    (c.deref.ensures.value ∙ c.in_ok-own.ensures) in
    c.in_ok-text.ensures ∙ (λ i. line_text c.args.place (name i) c.args.standing.now.sums (cells i))
