-- Kinds and roles of shogi pieces, and promotion.
use Rattle.std.specs.Prelude.{Bool, true, false, Option, Some, None}
use Rattle.squares.specs.declared.shogi.piece.Kind.{Kind}
use Rattle.squares.specs.declared.shogi.piece.Kind.TheVariants as kind
use Rattle.squares.specs.declared.shogi.piece.HandKind.{HandKind}
use Rattle.squares.specs.declared.shogi.piece.HandKind.TheVariants as in_hand
use Rattle.squares.specs.declared.shogi.piece.Role.{Role}
use Rattle.squares.specs.declared.shogi.piece.Role.TheVariants as role

-- The kind of a piece, regardless of promotion.
abbrev pub kind_of : Role → Kind
kind_of role.King = kind.King
kind_of role.Rook = kind.Rook
kind_of role.Bishop = kind.Bishop
kind_of role.Gold = kind.Gold
kind_of role.Silver = kind.Silver
kind_of role.Knight = kind.Knight
kind_of role.Lance = kind.Lance
kind_of role.Pawn = kind.Pawn
kind_of role.PromotedRook = kind.Rook
kind_of role.PromotedBishop = kind.Bishop
kind_of role.PromotedSilver = kind.Silver
kind_of role.PromotedKnight = kind.Knight
kind_of role.PromotedLance = kind.Lance
kind_of role.PromotedPawn = kind.Pawn

-- Whether the role is that of a promoted piece.
abbrev pub is_promoted : Role → Bool
is_promoted role.PromotedRook = true
is_promoted role.PromotedBishop = true
is_promoted role.PromotedSilver = true
is_promoted role.PromotedKnight = true
is_promoted role.PromotedLance = true
is_promoted role.PromotedPawn = true
is_promoted _ = false

-- The role of an unpromoted piece.
abbrev pub demoted : Kind → Role
demoted kind.King = role.King
demoted kind.Rook = role.Rook
demoted kind.Bishop = role.Bishop
demoted kind.Gold = role.Gold
demoted kind.Silver = role.Silver
demoted kind.Knight = role.Knight
demoted kind.Lance = role.Lance
demoted kind.Pawn = role.Pawn

-- The role of a promoted piece; kings and golds have none.
abbrev pub promotes_to : Kind → Option Role
promotes_to kind.King = None
promotes_to kind.Gold = None
promotes_to kind.Rook = Some role.PromotedRook
promotes_to kind.Bishop = Some role.PromotedBishop
promotes_to kind.Silver = Some role.PromotedSilver
promotes_to kind.Knight = Some role.PromotedKnight
promotes_to kind.Lance = Some role.PromotedLance
promotes_to kind.Pawn = Some role.PromotedPawn

-- The kind of a piece in hand; the king has none.
abbrev pub hand_kind : Kind → Option HandKind
hand_kind kind.King = None
hand_kind kind.Rook = Some in_hand.Rook
hand_kind kind.Bishop = Some in_hand.Bishop
hand_kind kind.Gold = Some in_hand.Gold
hand_kind kind.Silver = Some in_hand.Silver
hand_kind kind.Knight = Some in_hand.Knight
hand_kind kind.Lance = Some in_hand.Lance
hand_kind kind.Pawn = Some in_hand.Pawn

-- The kind on the board of a piece from the hand.
abbrev pub on_board : HandKind → Kind
on_board in_hand.Rook = kind.Rook
on_board in_hand.Bishop = kind.Bishop
on_board in_hand.Gold = kind.Gold
on_board in_hand.Silver = kind.Silver
on_board in_hand.Knight = kind.Knight
on_board in_hand.Lance = kind.Lance
on_board in_hand.Pawn = kind.Pawn
