use Rattle.std.proofs.Common.{◌≡◌, Bool, Decides, true, false, ◌&&◌, None, Some, Option, refl, sym, ap, ◌∙◌, subst}
use Rattle.std.specs.Cmp.{both_ways}
use Rattle.std.specs.FinMap.{get}
use Rattle.std.specs.Option.{option_eq}
use Rattle.std.proofs.lemmas.List.{ext_get_or}
use Rattle.std.proofs.lemmas.Slice.Eq.{slice_eq-Decides}
use denote.Enum.Bare.{sameb, same_true, true_same}
use Rattle.squares.specs.contracts.sides.Side as side
use Rattle.squares.specs.contracts.shogi.piece.Role as role
use Rattle.squares.specs.declared.shogi.piece.SPiece.{SPiece}
use Rattle.squares.specs.ShogiBoard.{ShogiBoard, shogi_board_of}
use Rattle.squares.specs.ShogiSamePosition.{same_shogi_board}
use Rattle.squares.specs.internal.ShogiSamePosition.{same_shogi_board-same, same_shogi_board-itself}
use Rattle.squares.proofs.ShogiCells.{get-shogi_board_of}
use Rattle.squares.proofs.shogi.board.SBoardPartialEq.eq.Goals as goal

cells-Decides : (E : SPiece → SPiece → Bool) → ((a b : SPiece) → Decides (E a b) (a ≡ b)) → (a b : Option SPiece)
    → Decides (option_eq E a b) (a ≡ b)
cells-Decides E each None None = (λ _. refl, λ _. refl)
cells-Decides E each None (Some b) = (λ e. cc, λ e. cc)
cells-Decides E each (Some a) None = (λ e. cc, λ e. cc)
cells-Decides E each (Some a) (Some b) = (λ e. ap Some ((each a b).0 e), λ e. (each a b).1 cc)

-- what `==` tells at two pieces
abbrev piece_eq : SPiece → SPiece → Bool
piece_eq a b = sameb side.the_type a.side b.side && sameb role.the_type a.role b.role

both : (a b : Bool) → (a && b) ≡ true → (a ≡ true) × (b ≡ true)
both true b e = (refl, e)
both false b e = cc

piece-Decides : (a b : SPiece) → Decides (piece_eq a b) (a ≡ b)
piece-Decides a b = (
  λ e. let w = both (sameb side.the_type a.side b.side) (sameb role.the_type a.role b.role) e in
      let sides = same_true side.the_type tt a.side b.side w.0 in
      let roles = same_true role.the_type tt a.role b.role w.1 in
      λ i. record { side = sides i; role = roles i },
  λ e. let sides = true_same side.the_type a.side b.side (ap (λ (p : SPiece). p.side) e) in
      let roles = true_same role.the_type a.role b.role (ap (λ (p : SPiece). p.role) e) in
      λ i. sides i && roles i,
)

pub returns : goal.returns
returns c =
    let mine = c.self.inside.cells in
    let theirs = c.other.inside.cells in
    let b : ShogiBoard = c.args.self.now in
    let d : ShogiBoard = c.args.other.now in
    let test = slice_eq-Decides (cells-Decides piece_eq piece-Decides) mine theirs c.eq.result c.eq.ensures in
    both_ways c.eq.result (same_shogi_board b d)
    (λ is_true. let one : b ≡ d = sym c.self.view_is ∙ ap shogi_board_of (test.0 is_true) ∙ c.other.view_is in
    subst (λ x. same_shogi_board b x ≡ true) one (same_shogi_board-itself b))
    (λ same. let views : shogi_board_of mine ≡ shogi_board_of theirs = c.self.view_is ∙ same_shogi_board-same b d same
    ∙ sym c.other.view_is in
    test.1 (ext_get_or None mine theirs (c.self.invariant.has_cells ∙ sym c.other.invariant.has_cells)
    (λ k below. sym (get-shogi_board_of mine k) ∙ ap (λ (x : ShogiBoard). get x k) views
    ∙ get-shogi_board_of theirs k)))
