use Rattle.std.proofs.Common.{rules}
use Rattle.std.proofs.Math.Utf8.{encode}
use Rattle.diagrams.proofs.bod.role_name.Goals as goal

pub returns-in-King : goal.returns-in-King
returns-in-King c = unfold encode in search rules

pub returns-in-Rook : goal.returns-in-Rook
returns-in-Rook c = unfold encode in search rules

pub returns-in-Bishop : goal.returns-in-Bishop
returns-in-Bishop c = unfold encode in search rules

pub returns-in-Gold : goal.returns-in-Gold
returns-in-Gold c = unfold encode in search rules

pub returns-in-Silver : goal.returns-in-Silver
returns-in-Silver c = unfold encode in search rules

pub returns-in-Knight : goal.returns-in-Knight
returns-in-Knight c = unfold encode in search rules

pub returns-in-Lance : goal.returns-in-Lance
returns-in-Lance c = unfold encode in search rules

pub returns-in-Pawn : goal.returns-in-Pawn
returns-in-Pawn c = unfold encode in search rules

pub returns-in-PromotedRook : goal.returns-in-PromotedRook
returns-in-PromotedRook c = unfold encode in search rules

pub returns-in-PromotedBishop : goal.returns-in-PromotedBishop
returns-in-PromotedBishop c = unfold encode in search rules

pub returns-in-PromotedSilver : goal.returns-in-PromotedSilver
returns-in-PromotedSilver c = unfold encode in search rules

pub returns-in-PromotedKnight : goal.returns-in-PromotedKnight
returns-in-PromotedKnight c = unfold encode in search rules

pub returns-in-PromotedLance : goal.returns-in-PromotedLance
returns-in-PromotedLance c = unfold encode in search rules

pub returns-in-PromotedPawn : goal.returns-in-PromotedPawn
returns-in-PromotedPawn c = unfold encode in search rules
