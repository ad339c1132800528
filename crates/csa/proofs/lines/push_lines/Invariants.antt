use Rattle.std.proofs.Common.{◌≡◌, ◌+◌, ◌++◌, drop, map}
use Rattle.std.specs.Str.Lines.{lines_of_parts}
use Rattle.csa.specs.Lines.{statements_from}
use Rattle.csa.proofs.lines.push_lines.Given as goal

abbrev pub invariant-loop-i : goal.invariant-loop-i
invariant-loop-i l =
    l.placed.items ++ statements_from (l.i + 1) (lines_of_parts (drop l.i (map (λ x. x.now) l.parts)))
    ≡ l.initial.placed.items ++ statements_from 1 (lines_of_parts (map (λ x. x.now) l.parts))
