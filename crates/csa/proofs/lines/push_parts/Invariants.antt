use Rattle.std.proofs.Common.{◌≡◌, ◌++◌, drop, map}
use Rattle.csa.specs.Lines.{placed_all}
use Rattle.csa.proofs.lines.push_parts.Given as goal

abbrev pub invariant-loop-i : goal.invariant-loop-i
invariant-loop-i l =
    l.placed.items ++ placed_all l.line (map (λ x. x.now) (drop l.i l.parts)) ≡ l.initial.placed.items
    ++ placed_all l.line (map (λ x. x.now) l.parts)
