use Rattle.std.proofs.Common.{◌≡◌, ◌++◌, ◌-◌, string_bytes}
use Rattle.diagrams.specs.ShogiDiagram.{squares_text}
use Rattle.diagrams.proofs.shogi.push_squares.Given as goal

abbrev pub invariant-loop-past : goal.invariant-loop-past
invariant-loop-past l =
    string_bytes l.text ++ squares_text l.board l.rank (9 - l.past) ≡ string_bytes l.initial.text
    ++ squares_text l.board l.rank 9
