-- The SFEN letters of shogi pieces: upper case for First (Black), lower case for Second.
use Rattle.std.specs.Prelude.{ℕ, ◌+◌, Option, Some, None, if◌then◌else◌}
use Rattle.squares.specs.declared.sides.Side.{Side}
use Rattle.squares.specs.declared.sides.Side.TheVariants.{First, Second}
use Rattle.squares.specs.declared.shogi.piece.Kind.{Kind}
use Rattle.squares.specs.declared.shogi.piece.Kind.TheVariants as kind
use Rattle.squares.specs.declared.shogi.piece.SPiece.{SPiece}
use Rattle.squares.specs.ShogiPieces.{is_promoted, kind_of}

-- K, R, B, G, S, N, L, P
abbrev pub capital : Kind → ℕ
capital kind.King = 75
capital kind.Rook = 82
capital kind.Bishop = 66
capital kind.Gold = 71
capital kind.Silver = 83
capital kind.Knight = 78
capital kind.Lance = 76
capital kind.Pawn = 80

-- The letter of a side's piece of this kind.
abbrev pub piece_letter : Side → Kind → ℕ
piece_letter First kind = capital kind
piece_letter Second kind = capital kind + 32

-- A `+` before a promoted piece, otherwise a space.
abbrev pub cell_mark : Option SPiece → ℕ
cell_mark None = 32
cell_mark (Some piece) = if is_promoted piece.role then 43 else 32

-- The letter of the kind, or a full stop for an empty square.
abbrev pub cell_letter : Option SPiece → ℕ
cell_letter None = 46
cell_letter (Some piece) = piece_letter piece.side (kind_of piece.role)
