use Rattle.std.proofs.Common.{◌≡◌, ℕ, ◌++◌, List, [], map, eqb, ap, ◌∙◌}
use Rattle.std.specs.List.{slice_split}
use Rattle.std.specs.Str.Lines.{lines_of_parts}
use Rattle.csa.specs.declared.lines.NumberedStatement.{NumberedStatement}
use Rattle.csa.specs.Lines.{statements_from, text_statements}
use Rattle.csa.proofs.lines.statements_of.Goals as goal

pub returns : goal.returns
unfolding text_statements
returns c =
    let found : List (List ℕ) = map (λ x. x.now) c.deref.result.now in
    let parts : found ≡ slice_split (λ b. eqb b 10) c.args.text.now = ap (map (λ x. x.now)) c.deref.ensures.value
    ∙ c.in_ok-parts.ensures in
    let bare : c.new-placed.result.items ≡ [] = c.new-placed.ensures.items in
    c.in_ok-push_lines.ensures ∙ ap (λ (l : List NumberedStatement). l ++ statements_from 1 (lines_of_parts found)) bare
    ∙ ap (λ ps. statements_from 1 (lines_of_parts ps)) parts
