-- The words of a BOD diagram, in UTF-8.
use Rattle.std.specs.Prelude.{ℕ, ◌%◌, ◌==◌, List, [], ◌∷◌, ◌++◌, Option, Some, None, nat_lt, codes, if◌then◌else◌}
use Rattle.std.proofs.Math.Utf8.{encodes}
use Rattle.squares.specs.declared.sides.Side.{Side}
use Rattle.squares.specs.declared.sides.Side.TheVariants.{First, Second}
use Rattle.squares.specs.declared.shogi.piece.Role.{Role}
use Rattle.squares.specs.declared.shogi.piece.Role.TheVariants as role
use Rattle.squares.specs.declared.shogi.piece.SPiece.{SPiece}

-- an empty square
unfoldable pub empty_square : List ℕ
empty_square = encodes (codes " ・")

-- The numeral ten.
unfoldable pub ten : List ℕ
ten = encodes (codes "十")

-- The wide space (U+3000).
unfoldable pub wide_blank : List ℕ
wide_blank = encodes (12288 ∷ [])

-- The text of an empty hand.
unfoldable pub nothing : List ℕ
nothing = encodes (codes "なし")

-- The mark before a piece, a `v` for White's pieces and a space for Black's.
abbrev pub side_mark : Side → List ℕ
side_mark First = codes " "
side_mark Second = codes "v"

-- The character of a piece on the board, by its role.
abbrev pub role_name : Role → List ℕ
role_name role.King = encodes (codes "玉")
role_name role.Rook = encodes (codes "飛")
role_name role.Bishop = encodes (codes "角")
role_name role.Gold = encodes (codes "金")
role_name role.Silver = encodes (codes "銀")
role_name role.Knight = encodes (codes "桂")
role_name role.Lance = encodes (codes "香")
role_name role.Pawn = encodes (codes "歩")
role_name role.PromotedRook = encodes (codes "龍")
role_name role.PromotedBishop = encodes (codes "馬")
role_name role.PromotedSilver = encodes (codes "全")
role_name role.PromotedKnight = encodes (codes "圭")
role_name role.PromotedLance = encodes (codes "杏")
role_name role.PromotedPawn = encodes (codes "と")

-- The numerals 1 to 9; empty for 0.
abbrev pub digit_name : ℕ → List ℕ
digit_name n =
    if n == 0 then [] else
    if n == 1 then encodes (codes "一") else
    if n == 2 then encodes (codes "二") else
    if n == 3 then encodes (codes "三") else
    if n == 4 then encodes (codes "四") else
    if n == 5 then encodes (codes "五") else
    if n == 6 then encodes (codes "六") else
    if n == 7 then encodes (codes "七") else
    if n == 8 then encodes (codes "八") else
    encodes (codes "九")

-- A count below 20; empty for 1.
abbrev pub count_name : ℕ → List ℕ
count_name n =
    if n == 1 then [] else if nat_lt n 10 then digit_name (n % 10) else (ten ++ digit_name (n % 10))

-- The content of a square.
abbrev pub cell_text : Option SPiece → List ℕ
cell_text None = empty_square
cell_text (Some piece) = side_mark piece.side ++ role_name piece.role
