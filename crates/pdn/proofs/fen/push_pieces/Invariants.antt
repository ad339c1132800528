use Rattle.std.proofs.Common.{◌≡◌, ◌++◌, length, string_bytes}
use Rattle.squares.specs.DraughtsSets.{ascending}
use Rattle.pdn.specs.FenText.{pieces_text}
use Rattle.pdn.proofs.FenLemmas.{parted, items_on}
use Rattle.pdn.proofs.fen.push_pieces.Given as goal

abbrev pub invariant-loop-square : goal.invariant-loop-square
invariant-loop-square l =
    string_bytes l.text ++ parted l.is_first (items_on l.side l.position.board (ascending l.rest))
    ≡ string_bytes l.initial.text ++ pieces_text l.side l.position.board

abbrev pub decreases-loop-square : goal.decreases-loop-square
decreases-loop-square l = length (ascending l.rest)
