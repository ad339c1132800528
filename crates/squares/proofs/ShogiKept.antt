-- The cells and the sets of squares are kept together: on the empty board, and after each change of a square.
use Rattle.std.proofs.Common.{◌≡◌, ℕ, ◌<◌, true, false, ◌&&◌, cond, Option, Some, None, List, length, get_or, refl, sym}
use Rattle.std.proofs.Common.{ap, ◌∙◌, subst, arith, replicate}
use Rattle.std.specs.Ordering.{nat_cmp, eq_by_cmp, is_eq}
use Rattle.std.proofs.lemmas.Cmp.{tied_itself}
use Rattle.std.specs.FinMap.{nat_cmp-IsAntisymmetric}
use Rattle.std.specs.Cmp.{nat_cmp_total}
use Rattle.std.specs.FinMap as map
use Rattle.std.specs.FinSet as set
use Rattle.std.proofs.Math.ListN.{set as list_set}
use Rattle.std.proofs.lemmas.List.{length-set}
use Rattle.masks.specs.Words.{Numbers}
use Rattle.squares.specs.declared.sides.Side.{Side}
use Rattle.squares.specs.declared.sides.Side.TheVariants.{First, Second}
use Rattle.squares.specs.declared.shogi.piece.Role.{Role}
use Rattle.squares.specs.declared.shogi.piece.Role.TheVariants as role
use Rattle.squares.specs.declared.shogi.piece.SPiece.{SPiece}
use Rattle.squares.specs.ShogiBoard.{ShogiBoard, shogi_board_of}
use Rattle.squares.specs.internal.ShogiWords.{KeepsBoard, Tracks, squares_at, is_side, is_role, holds, side_place}
use Rattle.squares.specs.internal.ShogiWords.{role_place}
use Rattle.squares.proofs.ShogiCells.{get-shogi_board_of, shogi_board_of-put, shogi_board_of-clear}
use Rattle.squares.proofs.ShogiTracks.{one_square, side_taken, side_added, role_taken, role_added}

module _ (cells : List (Option SPiece)) (sides roles : List Numbers) (n : ℕ) (p : SPiece)
    (kept : KeepsBoard cells sides roles) (within : n < 81) where
  in_cells : n < length cells
  in_cells = omega (arith, within, kept.has_cells)

  in_sides : side_place p.side < length sides
  in_sides = subst (λ k. side_place p.side < k) (sym kept.has_sides) (below p.side)
    where
      below : (side : Side) → side_place side < 2
      below First = omega arith
      below Second = omega arith

  in_roles : role_place p.role < length roles
  in_roles = subst (λ k. role_place p.role < k) (sym kept.has_roles) (below p.role)
    where
      below : (r : Role) → role_place r < 14
      below role.King = omega arith
      below role.Rook = omega arith
      below role.Bishop = omega arith
      below role.Gold = omega arith
      below role.Silver = omega arith
      below role.Knight = omega arith
      below role.Lance = omega arith
      below role.Pawn = omega arith
      below role.PromotedRook = omega arith
      below role.PromotedBishop = omega arith
      below role.PromotedSilver = omega arith
      below role.PromotedKnight = omega arith
      below role.PromotedLance = omega arith
      below role.PromotedPawn = omega arith

  kept_without : get_or cells n None ≡ Some p →
      KeepsBoard (list_set cells n None)
      (list_set sides (side_place p.side) (set.remove (squares_at sides (side_place p.side)) n))
      (list_set roles (role_place p.role) (set.remove (squares_at roles (role_place p.role)) n))
  kept_without is =
      let stands : map.get (shogi_board_of cells) n ≡ Some p = get-shogi_board_of cells n ∙ is in
      let board : map.remove (shogi_board_of cells) n ≡ shogi_board_of (list_set cells n None) =
      sym (shogi_board_of-clear cells n in_cells) in
      record {
        has_cells = length-set cells n None ∙ kept.has_cells;
        has_sides = length-set sides (side_place p.side) _ ∙ kept.has_sides;
        has_roles = length-set roles (role_place p.role) _ ∙ kept.has_roles;
        by_side = subst (Tracks side_place is_side _) board
            (side_taken sides (shogi_board_of cells) n p in_sides kept.by_side stands);
        by_role = subst (Tracks role_place is_role _) board
            (role_taken roles (shogi_board_of cells) n p in_roles kept.by_role stands);
      }

  kept_with : map.get (shogi_board_of cells) n ≡ None →
      KeepsBoard (list_set cells n (Some p))
      (list_set sides (side_place p.side) (set.insert (squares_at sides (side_place p.side)) n))
      (list_set roles (role_place p.role) (set.insert (squares_at roles (role_place p.role)) n))
  kept_with free =
      let board : map.insert (shogi_board_of cells) n p ≡ shogi_board_of (list_set cells n (Some p)) =
      sym (shogi_board_of-put cells n p in_cells) in
      record {
        has_cells = length-set cells n (Some p) ∙ kept.has_cells;
        has_sides = length-set sides (side_place p.side) _ ∙ kept.has_sides;
        has_roles = length-set roles (role_place p.role) _ ∙ kept.has_roles;
        by_side = subst (Tracks side_place is_side _) board
            (side_added sides (shogi_board_of cells) n p in_sides kept.by_side free);
        by_role = subst (Tracks role_place is_role _) board
            (role_added roles (shogi_board_of cells) n p in_roles kept.by_role free);
      }

  -- as the code has computed the places
  module _ (i a b : ℕ) (at : i ≡ n) (at_side : a ≡ side_place p.side) (at_role : b ≡ role_place p.role) where
    pub cleared : (new_sides new_roles : List Numbers)
        → new_sides ≡ list_set sides a (set.remove (squares_at sides a) n)
        → new_roles ≡ list_set roles b (set.remove (squares_at roles b) n) → get_or cells n None ≡ Some p
        → KeepsBoard (list_set cells i None) new_sides new_roles
    cleared new_sides new_roles s r is =
        let one : new_sides ≡ list_set sides (side_place p.side) (set.remove (squares_at sides (side_place p.side)) n) =
        s ∙ ap (λ k. list_set sides k (set.remove (squares_at sides k) n)) at_side in
        let two : new_roles ≡ list_set roles (role_place p.role) (set.remove (squares_at roles (role_place p.role)) n) =
        r ∙ ap (λ k. list_set roles k (set.remove (squares_at roles k) n)) at_role in
        subst (λ k. KeepsBoard (list_set cells k None) new_sides new_roles) (sym at)
        (subst (λ ss. KeepsBoard (list_set cells n None) ss new_roles) (sym one)
        (subst (KeepsBoard (list_set cells n None) _) (sym two) (kept_without is)))

    pub filled : (new_sides new_roles : List Numbers) → new_sides ≡ list_set sides a (set.insert (squares_at sides a) n)
        → new_roles ≡ list_set roles b (set.insert (squares_at roles b) n) → map.get (shogi_board_of cells) n ≡ None
        → KeepsBoard (list_set cells i (Some p)) new_sides new_roles
    filled new_sides new_roles s r free =
        let one : new_sides ≡ list_set sides (side_place p.side) (set.insert (squares_at sides (side_place p.side)) n) =
        s ∙ ap (λ k. list_set sides k (set.insert (squares_at sides k) n)) at_side in
        let two : new_roles ≡ list_set roles (role_place p.role) (set.insert (squares_at roles (role_place p.role)) n) =
        r ∙ ap (λ k. list_set roles k (set.insert (squares_at roles k) n)) at_role in
        subst (λ k. KeepsBoard (list_set cells k (Some p)) new_sides new_roles) (sym at)
        (subst (λ ss. KeepsBoard (list_set cells n (Some p)) ss new_roles) (sym one)
        (subst (KeepsBoard (list_set cells n (Some p)) _) (sym two) (kept_with free)))

-- what is on neither list stands for no piece
pub holds-both : (piece : SPiece) (cell : Option SPiece)
    → (is_side piece.side cell && is_role piece.role cell) ≡ holds piece cell
holds-both piece None = refl
holds-both piece (Some other) = refl

-- nothing is left where a piece was taken off
pub free-removed : (board : ShogiBoard) (n : ℕ) → map.get (map.remove board n) n ≡ None
free-removed board n = map.get-remove nat_cmp_total board n n ∙ ap (λ b. cond b None (map.get board n)) (itself n)
  where
    itself : (n : ℕ) → eq_by_cmp nat_cmp n n ≡ true
    itself n = ap is_eq (tied_itself nat_cmp_total n)

-- nothing changes where nothing stood
pub remove-free : (board : ShogiBoard) (n : ℕ) → map.get board n ≡ None → board ≡ map.remove board n
remove-free board n free =
    map.same_map nat_cmp_total nat_cmp-IsAntisymmetric _ _
    (λ q. elim (eq_by_cmp nat_cmp q n) as (λ b. eq_by_cmp nat_cmp q n ≡ b
    → map.get board q ≡ cond b None (map.get board q)) [
      | true ↦ λ e. ap (map.get board) (one_square q n e) ∙ free
      | false ↦ λ _. refl
    ] refl
    ∙ sym (map.get-remove nat_cmp_total board n q))

abbrev pub nothing : List (Option SPiece)
nothing = replicate 81 None

-- the empty board
pub kept_empty : (s t : Numbers) → s ≡ set.empty → t ≡ set.empty → KeepsBoard nothing (replicate 2 s) (replicate 14 t)
unfolding shogi_board_of
kept_empty s t none_s none_t =
    let none : (a : Numbers) → a ≡ set.empty → (q : ℕ)
    → set.contains a q ≡ false = λ a is q. ap (λ b. set.contains b q) is ∙ set.contains-empty nat_cmp q in
    let cell : (q : ℕ) → map.get (shogi_board_of nothing) q ≡ None = λ q. map.get-empty nat_cmp q in
    record {
      has_cells = refl;
      has_sides = refl;
      has_roles = refl;
      by_side = λ side q. ap (λ a. set.contains a q) (one_side side) ∙ none s none_s q
          ∙ ap (is_side side) (sym (cell q));
      by_role = λ r q. ap (λ a. set.contains a q) (one_role r) ∙ none t none_t q ∙ ap (is_role r) (sym (cell q));
    }
  where
    one_side : (side : Side) → squares_at (replicate 2 s) (side_place side) ≡ s
    one_side First = refl
    one_side Second = refl

    one_role : (r : Role) → squares_at (replicate 14 t) (role_place r) ≡ t
    one_role role.King = refl
    one_role role.Rook = refl
    one_role role.Bishop = refl
    one_role role.Gold = refl
    one_role role.Silver = refl
    one_role role.Knight = refl
    one_role role.Lance = refl
    one_role role.Pawn = refl
    one_role role.PromotedRook = refl
    one_role role.PromotedBishop = refl
    one_role role.PromotedSilver = refl
    one_role role.PromotedKnight = refl
    one_role role.PromotedLance = refl
    one_role role.PromotedPawn = refl
