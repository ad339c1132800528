-- What the board of a diagram of Japanese programs tells.
use Rattle.std.proofs.Common.{◌≡◌, ℕ, ◌+◌, ◌*◌, ◌==◌, List, ◌++◌, get_or, drop, Option, Some, None, refl, sym, ◌∙◌}
use Rattle.std.proofs.Common.{if◌then◌else◌, append_assoc}
use Rattle.std.specs.Prelude.{codes}
use Rattle.std.proofs.Math.Utf8.{encode}
use Rattle.std.proofs.lemmas.List.{append_cancel_left}
use Rattle.squares.specs.declared.sides.Side.{Side}
use Rattle.squares.specs.declared.sides.Side.TheVariants.{First, Second}
use Rattle.squares.specs.declared.shogi.piece.Role.{Role}
use Rattle.squares.specs.declared.shogi.piece.Role.TheVariants as role
use Rattle.squares.specs.declared.shogi.piece.SPiece.{SPiece}
use Rattle.squares.specs.ShogiBoard.{ShogiBoard}
use Rattle.diagrams.specs.BodNames.{empty_square, side_mark, role_name, digit_name, cell_text}
use Rattle.diagrams.specs.BodDiagram.{squares_text, rank_text, ranks_text, heading, border, board_text}
use Rattle.diagrams.specs.internal.Laws.{KeepsToShogiSquares}
use Rattle.diagrams.proofs.BoardLemmas as boards

-- the three bytes of a name as one number
abbrev value : ℕ → List ℕ → ℕ
value k text = 65536 * get_or text k 0 + 256 * get_or text (k + 1) 0 + get_or text (k + 2) 0

abbrev read_role : ℕ → Role
read_role v =
    if v == 15175305 then role.King else
    if v == 15311771 then role.Rook else
    if v == 15247250 then role.Bishop else
    if v == 15304593 then role.Gold else
    if v == 15305344 then role.Silver else
    if v == 15114626 then role.Knight else
    if v == 15312537 then role.Lance else
    if v == 15117737 then role.Pawn else
    if v == 15318669 then role.PromotedRook else
    if v == 15312556 then role.PromotedBishop else
    if v == 15041960 then role.PromotedSilver else
    if v == 15047853 then role.PromotedKnight else
    if v == 15113615 then role.PromotedLance else
    role.PromotedPawn

abbrev read_cell : List ℕ → Option SPiece
read_cell text =
    if value 1 text == 14910395 then None else
    if get_or text 0 0 == 118 then Some (record { side = Second; role = read_role (value 1 text) }) else
    Some (record { side = First; role = read_role (value 1 text) })

piece-read : (side : Side) (piece : Role) (r : List ℕ)
    → (read_cell ((side_mark side ++ role_name piece) ++ r) ≡ Some (record { side = side; role = piece }))
    × (drop 4 ((side_mark side ++ role_name piece) ++ r) ≡ r)
unfolding encode
piece-read First role.King r = (refl, refl)
piece-read Second role.King r = (refl, refl)
piece-read _ _ r = (refl, refl)

cell-read : (cell : Option SPiece) (r : List ℕ)
    → (read_cell (cell_text cell ++ r) ≡ cell) × (drop 4 (cell_text cell ++ r) ≡ r)
unfolding empty_square encode
cell-read None r = (refl, refl)
cell-read (Some piece) r = piece-read piece.side piece.role r

-- what stands behind the squares of a rank
abbrev after : ℕ → List ℕ
after rank = codes "|" ++ (digit_name rank ++ codes "\n")

rank-is : (board : ShogiBoard) (rank : ℕ) (r : List ℕ)
    → rank_text board rank ++ r ≡ codes "|" ++ (squares_text board rank 9 ++ (after rank ++ r))
unfolding rank_text
rank-is board rank r = append_assoc (codes "|" ++ squares_text board rank 9) (after rank) r

-- the edge before the ranks, and what stands behind them
board-is : (board : ShogiBoard) (r : List ℕ)
    → board_text board ++ r ≡ heading ++ (border ++ (ranks_text board 1 9 ++ (border ++ r)))
unfolding board_text
board-is board r = simp append_assoc

pub boards-apart : (a b : ShogiBoard) → KeepsToShogiSquares a → KeepsToShogiSquares b → (r s : List ℕ)
    → board_text a ++ r ≡ board_text b ++ s → (a ≡ b) × (r ≡ s)
boards-apart a b on_a on_b r s e =
    let cut = boards.boards-apart cell_text read_cell 4 cell-read rank_text (codes "|") after rank-is a b on_a on_b
    (border ++ r) (border ++ s) (append_cancel_left border _ _
    (append_cancel_left heading _ _ (sym (board-is a r) ∙ e ∙ board-is b s))) in
    (cut.0, append_cancel_left border r s cut.1)
