-- The two-letter codes of pieces, and squares as two digits.
use Rattle.std.specs.Prelude.{ℕ, ◌-◌, ◌==◌, ◌&&◌, nat_le, Bool, Option, Some, None, List, codes, if◌then◌else◌}
use Rattle.squares.specs.declared.shogi.piece.Role.{Role}
use Rattle.squares.specs.declared.shogi.piece.Role.TheVariants as role
use Rattle.squares.specs.ShogiGeometry.{shogi_number}

-- the code of a piece's role
abbrev pub code_of : Role → List ℕ
code_of role.King = codes "OU"
code_of role.Rook = codes "HI"
code_of role.Bishop = codes "KA"
code_of role.Gold = codes "KI"
code_of role.Silver = codes "GI"
code_of role.Knight = codes "KE"
code_of role.Lance = codes "KY"
code_of role.Pawn = codes "FU"
code_of role.PromotedRook = codes "RY"
code_of role.PromotedBishop = codes "UM"
code_of role.PromotedSilver = codes "NG"
code_of role.PromotedKnight = codes "NK"
code_of role.PromotedLance = codes "NY"
code_of role.PromotedPawn = codes "TO"

-- the role with this two-letter code
abbrev pub role_of : ℕ → ℕ → Option Role
role_of a b =
    if a == 79 && b == 85 then Some role.King
    else if a == 72 && b == 73 then Some role.Rook
    else if a == 75 && b == 65 then Some role.Bishop
    else if a == 75 && b == 73 then Some role.Gold
    else if a == 71 && b == 73 then Some role.Silver
    else if a == 75 && b == 69 then Some role.Knight
    else if a == 75 && b == 89 then Some role.Lance
    else if a == 70 && b == 85 then Some role.Pawn
    else if a == 82 && b == 89 then Some role.PromotedRook
    else if a == 85 && b == 77 then Some role.PromotedBishop
    else if a == 78 && b == 71 then Some role.PromotedSilver
    else if a == 78 && b == 75 then Some role.PromotedKnight
    else if a == 78 && b == 89 then Some role.PromotedLance
    else if a == 84 && b == 79 then Some role.PromotedPawn
    else None

-- a decimal digit
abbrev pub is_digit : ℕ → Bool
is_digit c = nat_le 48 c && nat_le c 57

-- a digit from 1 to 9
abbrev pub is_place : ℕ → Bool
is_place c = nat_le 49 c && nat_le c 57

-- the square with these digits of file and rank
abbrev pub square_of : ℕ → ℕ → Option ℕ
square_of file rank = if is_place file && is_place rank then Some (shogi_number (file - 48) (rank - 48)) else None
