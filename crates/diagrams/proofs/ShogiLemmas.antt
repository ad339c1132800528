-- What the diagram of a position of shogi tells.
use Rattle.std.proofs.Common.{◌≡◌, ℕ, ◌+◌, ◌-◌, ◌<◌, ◌==◌, List, [], ◌∷◌, ◌++◌, get_or, drop, Option, Some, None, refl}
use Rattle.std.proofs.Common.{sym, ◌∙◌, arith, if◌then◌else◌, nat_lt, append_assoc}
use Rattle.std.specs.Prelude.{codes}
use Rattle.std.proofs.lemmas.List.{append_cancel_left}
use Rattle.squares.specs.declared.sides.Side.{Side}
use Rattle.squares.specs.declared.sides.Side.TheVariants.{First, Second}
use Rattle.squares.specs.declared.shogi.piece.Role.{Role}
use Rattle.squares.specs.declared.shogi.piece.Role.TheVariants as role
use Rattle.squares.specs.declared.shogi.piece.SPiece.{SPiece}
use Rattle.squares.specs.ShogiBoard.{ShogiBoard}
use Rattle.diagrams.specs.ShogiDiagram.{cell_text, squares_text, rank_text, ranks_text, heading, board_text, hand_text}
use Rattle.diagrams.specs.ShogiDiagram.{shogi_text}
use Rattle.diagrams.specs.ShogiLines.{hand_kinds}
use Rattle.diagrams.specs.internal.Laws.{KeepsToShogiSquares, TellsShogi}
use Rattle.diagrams.proofs.BoardLemmas as boards
use Rattle.diagrams.proofs.LetterHands.{IsLineEnd, hands-apart}
use Rattle.diagrams.proofs.PositionLemmas.{positions-apart}

-- what a mark and a letter stand for
abbrev read_role : ℕ → ℕ → Role
read_role mark c =
    if mark == 43 then
    (if c == 82 then role.PromotedRook else if c == 66 then role.PromotedBishop else
    if c == 83 then role.PromotedSilver else if c == 78 then role.PromotedKnight else
    if c == 76 then role.PromotedLance else role.PromotedPawn)
    else
    (if c == 75 then role.King else if c == 82 then role.Rook else if c == 66 then role.Bishop else
    if c == 71 then role.Gold else if c == 83 then role.Silver else if c == 78 then role.Knight else
    if c == 76 then role.Lance else role.Pawn)

abbrev read_cell : List ℕ → Option SPiece
read_cell text =
    let mark : ℕ = get_or text 1 0 in
    let c : ℕ = get_or text 2 0 in
    if c == 46 then None else
    if nat_lt c 91 then Some (record { side = First; role = read_role mark c }) else
    Some (record { side = Second; role = read_role mark (c - 32) })

piece-read : (side : Side) (piece : Role) (r : List ℕ)
    → read_cell (cell_text (Some (record { side = side; role = piece })) ++ r)
    ≡ Some (record { side = side; role = piece })
piece-read First role.King r = refl
piece-read Second role.King r = refl
piece-read _ _ r = refl

cell-read : (cell : Option SPiece) (r : List ℕ)
    → (read_cell (cell_text cell ++ r) ≡ cell) × (drop 3 (cell_text cell ++ r) ≡ r)
cell-read None r = (refl, refl)
cell-read (Some piece) r = (piece-read piece.side piece.role r, refl)

-- what stands behind the squares of a rank
abbrev after : ℕ → List ℕ
after rank = 32 ∷ (96 + rank) ∷ 10 ∷ []

rank-is : (board : ShogiBoard) (rank : ℕ) (r : List ℕ)
    → rank_text board rank ++ r ≡ squares_text board rank 9 ++ (after rank ++ r)
unfolding rank_text
rank-is board rank r = append_assoc (squares_text board rank 9) (after rank) r

boards-apart : (a b : ShogiBoard) → KeepsToShogiSquares a → KeepsToShogiSquares b → (r s : List ℕ)
    → board_text a ++ r ≡ board_text b ++ s → (a ≡ b) × (r ≡ s)
unfolding board_text
boards-apart a b on_a on_b r s e =
    boards.boards-apart cell_text read_cell 3 cell-read rank_text [] after rank-is a b on_a on_b r s
    (append_cancel_left heading _ _
    (sym (append_assoc heading (ranks_text a 1 9) r) ∙ e ∙ append_assoc heading (ranks_text b 1 9) s))

low : 10 < 48
low = omega arith

before-board : (board : ShogiBoard) (more : List ℕ) → IsLineEnd (10 ∷ (board_text board ++ more))
unfolding board_text heading hand_kinds
before-board board more = search low

at-end : IsLineEnd (10 ∷ [])
unfolding hand_kinds
at-end = search low

pub position-same : TellsShogi
unfolding shogi_text
position-same p q sound_p sound_q on_p on_q same turn =
    positions-apart (codes "White:") (codes "Black:") hand_text board_text (λ p. []) IsLineEnd hands-apart boards-apart
    before-board (λ p. at-end) p q sound_p sound_q on_p on_q (λ e. turn) (simp append_assoc at same)
