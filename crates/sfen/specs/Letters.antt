-- The letters of pieces and sides in SFEN and USI: capitals for First's pieces, small letters for Second's.
use Rattle.std.specs.Prelude.{ℕ, ◌+◌, List, [], ◌∷◌, if◌then◌else◌}
use Rattle.squares.specs.declared.sides.Side.{Side}
use Rattle.squares.specs.declared.sides.Side.TheVariants.{First, Second}
use Rattle.squares.specs.declared.shogi.piece.Kind.{Kind}
use Rattle.squares.specs.declared.shogi.piece.Kind.TheVariants as kind
use Rattle.squares.specs.declared.shogi.piece.SPiece.{SPiece}
use Rattle.squares.specs.ShogiPieces.{is_promoted, kind_of}

-- K, R, B, G, S, N, L, P
abbrev pub capital : Kind → ℕ
capital kind.King = 75
capital kind.Rook = 82
capital kind.Bishop = 66
capital kind.Gold = 71
capital kind.Silver = 83
capital kind.Knight = 78
capital kind.Lance = 76
capital kind.Pawn = 80

-- the letter of a side's piece of this kind
abbrev pub letter : Side → Kind → ℕ
letter First kind = capital kind
letter Second kind = capital kind + 32

-- the letter of the piece's kind, after a `+` if the piece is promoted
abbrev pub piece_text : SPiece → List ℕ
piece_text piece = if is_promoted piece.role then 43 ∷ letter piece.side (kind_of piece.role)
    ∷ [] else letter piece.side (kind_of piece.role) ∷ []

-- b for First (Black), w for Second (White)
abbrev pub turn_letter : Side → ℕ
turn_letter First = 98
turn_letter Second = 119
