use Rattle.std.proofs.Common.{◌≡◌, ℕ, ◌+◌, ◌++◌, List, length, map, ap, ◌∙◌, arith}
use Rattle.std.proofs.lemmas.List.{length-map}
use Rattle.csa.specs.declared.lines.NumberedStatement.{NumberedStatement}
use Rattle.csa.specs.Lines.{statements_on}
use Rattle.csa.proofs.LineLemmas.{lines-grow}
use Rattle.csa.proofs.lines.push_lines.Goals as goal

pub loop-i-preserved : goal.loop-i-preserved
loop-i-preserved c =
    let parts : List (List ℕ) = map (λ x. x.now) c.args.parts.now in
    let same : length parts ≡ length c.args.parts.now = length-map c.args.parts.now (λ x. x.now) in
    let i : ℕ = c.loop-i.i in
    let old : List NumberedStatement = c.loop-i.placed.items in
    lines-grow parts i old _ _ (omega (arith, same))
    (c.in_ok-push_line.ensures ∙ ap (λ l. old ++ statements_on (i + 1) l) c.line_at.ensures) c.loop-i.invariant
