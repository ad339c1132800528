use Rattle.std.proofs.Common.{◌≡◌, ◌++◌, ◌-◌, string_bytes}
use Rattle.diagrams.specs.BodDiagram.{ranks_text}
use Rattle.diagrams.proofs.bod.push_ranks.Given as goal

abbrev pub invariant-loop-rank : goal.invariant-loop-rank
invariant-loop-rank l =
    string_bytes l.text ++ ranks_text l.board l.rank (10 - l.rank) ≡ string_bytes l.initial.text
    ++ ranks_text l.board 1 9
