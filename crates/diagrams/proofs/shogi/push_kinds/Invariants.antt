use Rattle.std.proofs.Common.{◌≡◌, ◌++◌, drop, string_bytes}
use Rattle.diagrams.specs.ShogiDiagram.{kinds_text}
use Rattle.diagrams.specs.ShogiLines.{hand_kinds}
use Rattle.diagrams.proofs.shogi.push_kinds.Given as goal

abbrev pub invariant-loop-kind : goal.invariant-loop-kind
invariant-loop-kind l =
    string_bytes l.text ++ kinds_text l.hand (drop l.kind-index hand_kinds) ≡ string_bytes l.initial.text
    ++ kinds_text l.hand hand_kinds
