-- The order of shogi positions is total, and only equal positions compare as equal. No promise of the program rests on
-- these definitions.
use Rattle.std.proofs.Common.{◌≡◌, ℕ, Bool, true, false, ◌&&◌, List, [], ◌∷◌, ◌∙◌, refl, sym, ap, subst}
use Rattle.std.specs.Cmp.{IsTotalOrder, IsPartialOrder, both_ways, unsigned_tied, partial_order_from_agreeing_total}
use Rattle.std.specs.Cmp.Lexicographic.{slice_cmp}
use Rattle.std.specs.Ordering.{nat_cmp, is_eq, eq_by_cmp, ordering_then, as_partial_cmp}
use Rattle.std.specs.FinMap as map
use Rattle.std.specs.declared.cmp.Ordering.{Ordering}
use Rattle.std.specs.declared.cmp.Ordering.TheVariants.{Less, Equal, Greater}
use Rattle.std.proofs.lemmas.Cmp.{nat_cmp_total, on_total, then_total, back_total, lists_total, tied_itself}
use denote.Enum.Bare.{sameb, same_true}
use Rattle.squares.specs.contracts.sides.Side as side
use Rattle.squares.specs.contracts.shogi.piece.Role as role
use Rattle.squares.specs.contracts.sides.SideOrd.TheImpl.Laws as side_laws
use Rattle.squares.specs.contracts.shogi.hand.HandsOrd.TheImpl.Laws as hands_laws
use Rattle.squares.specs.contracts.shogi.piece.SPieceOrd.TheImpl.Laws as piece_laws
use Rattle.squares.specs.declared.sides.Side.{Side}
use Rattle.squares.specs.declared.shogi.hand.Hands.{Hands}
use Rattle.squares.specs.declared.shogi.piece.SPiece.{SPiece}
use Rattle.squares.specs.ShogiBoard.{ShogiBoard}
use Rattle.squares.specs.ShogiSets.{ShogiPosition}
use Rattle.squares.specs.ShogiSamePosition.{same_shogi_position}
use Rattle.squares.specs.internal.ShogiSamePosition.{same_shogi_position-itself, same_shogi_position-same}
use Rattle.squares.specs.ShogiSamePosition.{same_hand}
use Rattle.squares.specs.internal.ShogiSamePosition.{same_hands-same}
use Rattle.squares.specs.internal.DraughtsMarks.{nat_eq-same}
use Rattle.squares.specs.internal.ShogiOrder.{side_cmp, hands_cmp, piece_cmp, entry_cmp, board_cmp, position_cmp}

-- A lexicographic tie is a tie of each part.
then_tied : (a b : Ordering) → is_eq (ordering_then a b) ≡ true → (is_eq a ≡ true) × (is_eq b ≡ true)
then_tied Less b e = cc
then_tied Equal b e = (refl, e)
then_tied Greater b e = cc

equal_of : (o : Ordering) → is_eq o ≡ true → o ≡ Equal
equal_of Less e = cc
equal_of Equal e = refl
equal_of Greater e = cc

both : (a b : Bool) → (a && b) ≡ true → (a ≡ true) × (b ≡ true)
both true b e = (refl, e)
both false b e = cc

side_cmp-tied : (a b : Side) → is_eq (side_cmp a b) ≡ true → a ≡ b
side_cmp-tied a b e = same_true side.the_type tt a b (side_laws.matches_eq-law a b ∙ e)

hands_cmp-tied : (a b : Hands) → is_eq (hands_cmp a b) ≡ true → a ≡ b
unfolding same_hand
hands_cmp-tied a b e = same_hands-same a b (hands_laws.matches_eq-law a b ∙ e)

piece_cmp-tied : (a b : SPiece) → is_eq (piece_cmp a b) ≡ true → a ≡ b
piece_cmp-tied a b e =
    let w = both (sameb side.the_type a.side b.side) (sameb role.the_type a.role b.role)
    (piece_laws.matches_eq-law a b ∙ e) in
    let sides = same_true side.the_type tt a.side b.side w.0 in
    let roles = same_true role.the_type tt a.role b.role w.1 in
    λ i. record { side = sides i; role = roles i }

entry_cmp-tied : (a b : ℕ × SPiece) → is_eq (entry_cmp a b) ≡ true → a ≡ b
entry_cmp-tied a b e =
    let w = then_tied (nat_cmp b.0 a.0) (piece_cmp a.1 b.1) e in
    let square = sym (nat_eq-same b.0 a.0 (sym (unsigned_tied b.0 a.0) ∙ w.0)) in
    let piece = piece_cmp-tied a.1 b.1 w.1 in
    λ i. (square i, piece i)

entries-tied : (xs ys : List (ℕ × SPiece)) → is_eq (slice_cmp entry_cmp xs ys) ≡ true → xs ≡ ys
entries-tied [] [] e = refl
entries-tied [] (y ∷ ys) e = cc
entries-tied (x ∷ xs) [] e = cc
entries-tied (x ∷ xs) (y ∷ ys) e =
    let w = then_tied (entry_cmp x y) (slice_cmp entry_cmp xs ys) e in
    λ i. entry_cmp-tied x y w.0 i ∷ entries-tied xs ys w.1 i

entry_cmp-total : IsTotalOrder entry_cmp
entry_cmp-total = then_total (back_total (on_total (λ e. e.0) nat_cmp_total)) (on_total (λ e. e.1) piece_laws.total-law)

pub board_cmp-total : IsTotalOrder board_cmp
unfolding board_cmp
board_cmp-total = on_total map.entries (lists_total entry_cmp-total)

board_cmp-same : (a b : ShogiBoard) → is_eq (board_cmp a b) ≡ true → a ≡ b
unfolding board_cmp
board_cmp-same a b e = map.same_entries_map a b (entries-tied (map.entries a) (map.entries b) e)

pub position_cmp-total : IsTotalOrder position_cmp
unfolding position_cmp
position_cmp-total =
    then_total (then_total (on_total (λ p. p.turn) side_laws.total-law) (on_total (λ p. p.hands) hands_laws.total-law))
    (on_total (λ p. p.board) board_cmp-total)

position_cmp-same : (p q : ShogiPosition) → is_eq (position_cmp p q) ≡ true → p ≡ q
unfolding position_cmp
position_cmp-same p q e =
    let v = then_tied (ordering_then (side_cmp p.turn q.turn) (hands_cmp p.hands q.hands)) (board_cmp p.board q.board) e
    in
    let w = then_tied (side_cmp p.turn q.turn) (hands_cmp p.hands q.hands) v.0 in
    let turn = side_cmp-tied p.turn q.turn w.0 in
    let hands = hands_cmp-tied p.hands q.hands w.1 in
    let board = board_cmp-same p.board q.board v.1 in
    λ i. record { board = board i; hands = hands i; turn = turn i }

pub position_cmp-tied : (p q : ShogiPosition) → same_shogi_position p q ≡ eq_by_cmp position_cmp p q
position_cmp-tied p q =
    both_ways (same_shogi_position p q) (eq_by_cmp position_cmp p q)
    (λ e.
    ap is_eq
    (subst (λ r. position_cmp p r ≡ Equal) (same_shogi_position-same p q e) (tied_itself position_cmp-total p)))
    (λ e. subst (λ r. same_shogi_position p r ≡ true) (position_cmp-same p q e) (same_shogi_position-itself p))

pub position_cmp-partial : IsPartialOrder same_shogi_position (as_partial_cmp position_cmp)
position_cmp-partial = partial_order_from_agreeing_total position_cmp position_cmp-total (λ p q. refl) position_cmp-tied
