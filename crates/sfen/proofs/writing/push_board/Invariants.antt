use Rattle.std.proofs.Common.{◌≡◌, ◌++◌, ◌-◌, string_bytes}
use Rattle.sfen.specs.SfenText.{more_ranks}
use Rattle.sfen.proofs.writing.push_board.Given as goal

abbrev pub invariant-loop-rank : goal.invariant-loop-rank
invariant-loop-rank l =
    string_bytes l.text ++ more_ranks l.board l.rank (10 - l.rank) ≡ string_bytes l.initial.text
    ++ more_ranks l.board 2 8
