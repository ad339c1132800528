-- The opening, set up square by square, and that it is a position.
use Rattle.std.proofs.Common.{◌≡◌, ℕ, ◌+◌, ◌<◌, ◌≤◌, true, false, cond, nat_eq, nat_lt, Option, None, List, sym, ap}
use Rattle.std.proofs.Common.{◌∙◌, arith, get_or, length, ◌⊎◌, inl, inr}
use Rattle.std.specs.Prelude.{map as list_map, if◌then◌else◌}
use Rattle.std.specs.List.{range_with_len}
use Rattle.std.specs.Cmp.{nat_cmp_total}
use Rattle.std.specs.FinMap as map
use Rattle.std.specs.FinMap.{nat_cmp-IsAntisymmetric}
use Rattle.std.proofs.lemmas.Grind.{common_steps}
use Rattle.std.proofs.lemmas.Bool.{cases_order}
use Rattle.std.proofs.lemmas.List.{get_or_past}
use Rattle.std.proofs.lemmas.List.FromFn.{get_or-map-range_with_len, length-map-range_with_len}
use Rattle.squares.specs.declared.shogi.piece.SPiece.{SPiece}
use Rattle.squares.specs.declared.sides.Side.TheVariants.{First, Second}
use Rattle.squares.specs.declared.shogi.piece.HandKind.TheVariants.{Rook, Bishop, Gold, Silver, Knight, Lance, Pawn}
use Rattle.squares.specs.ShogiBoard.{ShogiBoard}
use Rattle.squares.specs.declared.shogi.hand.Hands.{Hands}
use Rattle.squares.specs.ShogiSets.{ShogiPosition}
use Rattle.squares.specs.internal.ShogiSets.{IsShogiPosition, HasKings, KeepsSets, count_on, holds_king}
use Rattle.squares.specs.internal.ShogiSets.{holds_kind}
use Rattle.squares.specs.ShogiOpening.{opening_cell, opening}
use Rattle.squares.proofs.ShogiCells.{get-shogi_board_of}
use Rattle.squares.proofs.ShogiCounts.{count_on-cells}

lt_true : (a b : ℕ) → a < b → nat_lt a b ≡ true
lt_true a b h = grind (arith, common_steps)

lt_false : (a b : ℕ) → b ≤ a → nat_lt a b ≡ false
lt_false a b h = grind (arith, common_steps)

eq_true : (a b : ℕ) → a ≡ b → nat_eq a b ≡ true
eq_true a b h = grind (arith, common_steps)

eq_below : (a b : ℕ) → a < b → nat_eq a b ≡ false
eq_below a b h = grind (arith, common_steps)

eq_above : (a b : ℕ) → b < a → nat_eq a b ≡ false
eq_above a b h = grind (arith, common_steps)

module _ (old new : ShogiBoard) (i : ℕ)
    (so_far : (q : ℕ) → map.get old q ≡ cond (nat_lt q i) (opening_cell q) None) where
  pub free_yet : map.get old i ≡ None
  free_yet = so_far i ∙ ap (λ b. cond b (opening_cell i) None) (lt_false i i (omega arith))

  module _ (step : (q : ℕ) → map.get new q ≡ (if nat_eq q i then opening_cell i else map.get old q)) where
    at : (q : ℕ) → ((q ≡ i) ⊎ ((q < i) ⊎ (i < q)))
        → (if nat_eq q i then opening_cell i else map.get old q) ≡ cond (nat_lt q (i + 1)) (opening_cell q) None
    at q (inl e) =
        ap (λ b. if b then opening_cell i else map.get old q) (eq_true q i e) ∙ sym (ap opening_cell e)
        ∙ sym (ap (λ b. cond b (opening_cell q) None) (lt_true q (i + 1) (omega arith)))
    at q (inr (inl less)) =
        ap (λ b. if b then opening_cell i else map.get old q) (eq_below q i less) ∙ so_far q
        ∙ ap (λ b. cond b (opening_cell q) None) (lt_true q i less)
        ∙ sym (ap (λ b. cond b (opening_cell q) None) (lt_true q (i + 1) (omega arith)))
    at q (inr (inr more)) =
        ap (λ b. if b then opening_cell i else map.get old q) (eq_above q i more) ∙ so_far q
        ∙ ap (λ b. cond b (opening_cell q) None) (lt_false q i (omega arith))
        ∙ sym (ap (λ b. cond b (opening_cell q) None) (lt_false q (i + 1) (omega arith)))

    pub set_up_more : (q : ℕ) → map.get new q ≡ cond (nat_lt q (i + 1)) (opening_cell q) None
    set_up_more q = step q ∙ at q (cases_order q i)

abbrev cells : List (Option SPiece)
cells = list_map opening_cell (range_with_len 0 81)

pub all_set_up : (board : ShogiBoard) → ((q : ℕ) → map.get board q ≡ cond (nat_lt q 81) (opening_cell q) None)
    → board ≡ opening.board
unfolding opening
all_set_up board done =
    map.same_map nat_cmp_total nat_cmp-IsAntisymmetric _ _
    (λ q. done q ∙ here q (cases_order q 81) ∙ sym (get-shogi_board_of cells q))
  where
    past : (q : ℕ) → 81 ≤ q → cond (nat_lt q 81) (opening_cell q) None ≡ get_or cells q None
    past q h = ap (λ b. cond b (opening_cell q) None) (lt_false q 81 h)
        ∙ sym (get_or_past cells q None (omega (arith, length-map-range_with_len opening_cell 0 81)))

    here : (q : ℕ) → ((q ≡ 81) ⊎ ((q < 81) ⊎ (81 < q))) → cond (nat_lt q 81) (opening_cell q) None ≡ get_or cells q None
    here q (inr (inl less)) = ap (λ b. cond b (opening_cell q) None) (lt_true q 81 less)
        ∙ sym (get_or-map-range_with_len opening_cell 0 81 q q None less (omega arith))
    here q (inl e) = past q (omega arith)
    here q (inr (inr more)) = past q (omega arith)

within : (a b : ℕ) → a ≡ b → a + 0 + 0 ≤ b
within a b e = omega (arith, e)

many : length cells ≡ 81
many = length-map-range_with_len opening_cell 0 81

kings : HasKings opening.board
unfolding opening
kings First = count_on-cells (holds_king First) cells many
kings Second = count_on-cells (holds_king Second) cells many

sets : KeepsSets opening.board opening.hands
unfolding opening
sets Rook = within (count_on (holds_kind Rook) opening.board) 2 (count_on-cells (holds_kind Rook) cells many)
sets Bishop = within (count_on (holds_kind Bishop) opening.board) 2 (count_on-cells (holds_kind Bishop) cells many)
sets Gold = within (count_on (holds_kind Gold) opening.board) 4 (count_on-cells (holds_kind Gold) cells many)
sets Silver = within (count_on (holds_kind Silver) opening.board) 4 (count_on-cells (holds_kind Silver) cells many)
sets Knight = within (count_on (holds_kind Knight) opening.board) 4 (count_on-cells (holds_kind Knight) cells many)
sets Lance = within (count_on (holds_kind Lance) opening.board) 4 (count_on-cells (holds_kind Lance) cells many)
sets Pawn = within (count_on (holds_kind Pawn) opening.board) 18 (count_on-cells (holds_kind Pawn) cells many)

pub opening-IsShogiPosition : IsShogiPosition opening.board opening.hands
opening-IsShogiPosition = record { kings = kings; sets = sets }

pub none_yet : (q : ℕ) → None ≡ cond (nat_lt q 0) (opening_cell q) None
none_yet q = sym (ap (λ b. cond b (opening_cell q) None) (lt_false q 0 (omega arith)))

-- the opening, from its parts
pub opening-parts : (board : ShogiBoard) (hands : Hands) → board ≡ opening.board → hands ≡ opening.hands
    → (let p : ShogiPosition = record { board = board; hands = hands; turn = First } in p) ≡ opening
unfolding opening
opening-parts board hands b h = λ i. record { board = b i; hands = h i; turn = First }
