-- A diagram of Japanese programs tells the position.
use Rattle.std.proofs.Common.{◌≡◌, ℕ, List, ◌∷◌, ◌++◌, length, refl, ap, arith, append_assoc}
use Rattle.std.proofs.Math.Utf8.{encode}
use Rattle.squares.specs.declared.sides.Side.{Side}
use Rattle.squares.specs.declared.sides.Side.TheVariants.{First, Second}
use Rattle.squares.specs.ShogiBoard.{ShogiBoard}
use Rattle.diagrams.specs.BodDiagram.{heading, board_text, hand_name, hand_text, bod_text, turn_line}
use Rattle.diagrams.specs.ShogiLines.{hand_kinds}
use Rattle.diagrams.specs.internal.Laws.{TellsBod}
use Rattle.diagrams.proofs.BodCells.{boards-apart}
use Rattle.diagrams.proofs.BodHands.{IsLineEnd, hands-apart}
use Rattle.diagrams.proofs.PositionLemmas.{positions-apart}

before-board : (board : ShogiBoard) (more : List ℕ) → IsLineEnd (10 ∷ (board_text board ++ more))
unfolding board_text heading hand_kinds encode
before-board board more = search

at-end : (side : Side) → IsLineEnd (10 ∷ turn_line side)
unfolding hand_kinds encode
at-end First = search
at-end Second = search

-- the last line tells the turn
turns-apart : (a b : Side) → turn_line a ≡ turn_line b → a ≡ b
unfolding encode
turns-apart First First e = refl
turns-apart First Second e = let count : 0 ≡ 10 = ap length e in absurd (omega (arith, count))
turns-apart Second First e = let count : 10 ≡ 0 = ap length e in absurd (omega (arith, count))
turns-apart Second Second e = refl

pub position-same : TellsBod
unfolding bod_text encode
position-same p q sound_p sound_q on_p on_q same =
    positions-apart (hand_name Second) (hand_name First) hand_text board_text (λ p. turn_line p.turn) IsLineEnd
    hands-apart boards-apart before-board (λ p. at-end p.turn) p q sound_p sound_q on_p on_q
    (turns-apart p.turn q.turn) (simp append_assoc at same)
