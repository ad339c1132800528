-- Classification of the bytes of an SFEN text. No promise of the program rests on these definitions.
use Rattle.std.specs.Prelude.{◌≤◌, ℕ, ◌-◌, ◌==◌, ◌&&◌, nat_le, Option, Some, None, if◌then◌else◌}
use Rattle.squares.specs.declared.sides.Side.{Side}
use Rattle.squares.specs.declared.sides.Side.TheVariants.{First, Second}
use Rattle.squares.specs.declared.shogi.piece.Kind.{Kind}
use Rattle.squares.specs.declared.shogi.piece.Kind.TheVariants as kind
use Rattle.sfen.specs.declared.signs.Sign.{Sign}
use Rattle.sfen.specs.declared.signs.Sign.TheVariants.{Zero, Digit, Piece, White, Plus, Minus, Slash, Blank, Other}

-- the kind of piece with this capital letter
abbrev pub capital_kind : ℕ → Option Kind
capital_kind c =
    if c == 75 then Some kind.King
    else if c == 82 then Some kind.Rook
    else if c == 66 then Some kind.Bishop
    else if c == 71 then Some kind.Gold
    else if c == 83 then Some kind.Silver
    else if c == 78 then Some kind.Knight
    else if c == 76 then Some kind.Lance
    else if c == 80 then Some kind.Pawn
    else None

abbrev pub piece_sign : Side → Option Kind → Sign
piece_sign side None = Other
piece_sign side (Some kind) = Piece side kind

abbrev pub sign_of : ℕ → Sign
sign_of c =
    if c == 48 then Zero
    else if nat_le 49 c && nat_le c 57 then Digit (c - 48)
    else if c == 43 then Plus
    else if c == 45 then Minus
    else if c == 47 then Slash
    else if c == 32 then Blank
    else if c == 119 then White
    else if nat_le 65 c && nat_le c 90 then piece_sign First (capital_kind c)
    else if nat_le 97 c && nat_le c 122 then piece_sign Second (capital_kind (c - 32))
    else Other

abbrev pub IsSaneSign : Sign → Type 0
IsSaneSign (Digit n) = (1 ≤ n) × (n ≤ 9)
IsSaneSign _ = Unit {0}
