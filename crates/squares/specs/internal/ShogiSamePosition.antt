-- Equality of shogi positions: the same board, the same hands and the same side to move. No promise of the program
-- rests on these definitions.
use Rattle.std.proofs.Common.{◌≡◌, ℕ, Bool, true, false, ◌&&◌, nat_eq, List, [], ◌∷◌, ◌∙◌, refl, sym, ap}
use Rattle.std.specs.Cmp.{IsEquivalence, IsPartialEquivalence, partial_equiv_from_equiv, both_ways}
use Rattle.std.specs.FinMap as map
use denote.Enum.Bare.{same_true, true_same}
use Rattle.squares.specs.contracts.shogi.piece.Role.{the_type}
use Rattle.squares.specs.declared.shogi.piece.Role.{Role}
use Rattle.squares.specs.declared.shogi.piece.SPiece.{SPiece}
use Rattle.squares.specs.declared.shogi.hand.Hand.{Hand}
use Rattle.squares.specs.declared.shogi.hand.Hands.{Hands}
use Rattle.squares.specs.Sides.{same_side}
use Rattle.squares.specs.internal.Sides.{same_side-same, same_side-itself}
use Rattle.squares.specs.ShogiBoard.{ShogiBoard}
use Rattle.squares.specs.ShogiSets.{ShogiPosition}
use Rattle.squares.specs.internal.DraughtsMarks.{nat_eq_same, nat_eq-same}
use Rattle.squares.specs.ShogiSamePosition.{same_role, same_shogi_piece, same_shogi_entry, same_shogi_entries}
use Rattle.squares.specs.ShogiSamePosition.{same_shogi_board, same_hand, same_hands, same_shogi_position}

and_true : (a b : Bool) → (a && b) ≡ true → (a ≡ true) × (b ≡ true)
and_true true b e = (refl, e)
and_true false b e = cc

pub same_role-same : (a b : Role) → same_role a b ≡ true → a ≡ b
same_role-same a b e = same_true the_type tt a b e

pub same_role-itself : (a : Role) → same_role a a ≡ true
same_role-itself a = true_same the_type a a refl

pub same_shogi_piece-same : (a b : SPiece) → same_shogi_piece a b ≡ true → a ≡ b
same_shogi_piece-same a b e =
    let v = and_true (same_side a.side b.side) (same_role a.role b.role) e in
    let side = same_side-same a.side b.side v.0 in
    let role = same_role-same a.role b.role v.1 in
    λ i. record { side = side i; role = role i }

pub same_shogi_piece-itself : (a : SPiece) → same_shogi_piece a a ≡ true
same_shogi_piece-itself a = λ i. same_side-itself a.side i && same_role-itself a.role i

same_shogi_entry-same : (a b : ℕ × SPiece) → same_shogi_entry a b ≡ true → a ≡ b
same_shogi_entry-same a b e =
    let w = and_true (nat_eq a.0 b.0) (same_shogi_piece a.1 b.1) e in
    let square = nat_eq-same a.0 b.0 w.0 in
    let piece = same_shogi_piece-same a.1 b.1 w.1 in
    λ i. (square i, piece i)

same_shogi_entry-itself : (a : ℕ × SPiece) → same_shogi_entry a a ≡ true
same_shogi_entry-itself a = λ i. nat_eq_same a.0 a.0 refl i && same_shogi_piece-itself a.1 i

same_shogi_entries-same : (xs ys : List (ℕ × SPiece)) → same_shogi_entries xs ys ≡ true → xs ≡ ys
same_shogi_entries-same [] [] e = refl
same_shogi_entries-same [] (b ∷ ys) e = cc
same_shogi_entries-same (a ∷ xs) [] e = cc
same_shogi_entries-same (a ∷ xs) (b ∷ ys) e =
    let w = and_true (same_shogi_entry a b) (same_shogi_entries xs ys) e in
    λ i. same_shogi_entry-same a b w.0 i ∷ same_shogi_entries-same xs ys w.1 i

same_shogi_entries-itself : (xs : List (ℕ × SPiece)) → same_shogi_entries xs xs ≡ true
same_shogi_entries-itself [] = refl
same_shogi_entries-itself (a ∷ xs) = λ i. same_shogi_entry-itself a i && same_shogi_entries-itself xs i

pub same_shogi_board-same : (a b : ShogiBoard) → same_shogi_board a b ≡ true → a ≡ b
unfolding same_shogi_board
same_shogi_board-same a b e = map.same_entries_map a b (same_shogi_entries-same (map.entries a) (map.entries b) e)

pub same_shogi_board-itself : (a : ShogiBoard) → same_shogi_board a a ≡ true
unfolding same_shogi_board
same_shogi_board-itself a = same_shogi_entries-itself (map.entries a)

same_shogi_board-swap : (a b : ShogiBoard) → same_shogi_board a b ≡ same_shogi_board b a
same_shogi_board-swap a b =
    both_ways (same_shogi_board a b) (same_shogi_board b a)
    (λ e. ap (λ c. same_shogi_board c a) (sym (same_shogi_board-same a b e)) ∙ same_shogi_board-itself a)
    (λ e. ap (λ c. same_shogi_board c b) (sym (same_shogi_board-same b a e)) ∙ same_shogi_board-itself b)

pub same_shogi_board-equivalence : IsEquivalence same_shogi_board
same_shogi_board-equivalence =
    record {
      refl = same_shogi_board-itself;
      symm = same_shogi_board-swap;
      congr = λ a b c e. ap (λ d. same_shogi_board d c) (same_shogi_board-same a b e);
    }

pub same_shogi_board-partial : IsPartialEquivalence same_shogi_board
same_shogi_board-partial = partial_equiv_from_equiv same_shogi_board-equivalence

same_hand-same : (a b : Hand) → same_hand a b ≡ true → a ≡ b
unfolding same_hand
same_hand-same a b e =
    let r = and_true (nat_eq a.rook b.rook) _ e in
    let s = and_true (nat_eq a.bishop b.bishop) _ r.1 in
    let t = and_true (nat_eq a.gold b.gold) _ s.1 in
    let u = and_true (nat_eq a.silver b.silver) _ t.1 in
    let v = and_true (nat_eq a.knight b.knight) _ u.1 in
    let w = and_true (nat_eq a.lance b.lance) (nat_eq a.pawn b.pawn) v.1 in
    let rook = nat_eq-same a.rook b.rook r.0 in
    let bishop = nat_eq-same a.bishop b.bishop s.0 in
    let gold = nat_eq-same a.gold b.gold t.0 in
    let silver = nat_eq-same a.silver b.silver u.0 in
    let knight = nat_eq-same a.knight b.knight v.0 in
    let lance = nat_eq-same a.lance b.lance w.0 in
    let pawn = nat_eq-same a.pawn b.pawn w.1 in
    λ i. record {
      rook = rook i;
      bishop = bishop i;
      gold = gold i;
      silver = silver i;
      knight = knight i;
      lance = lance i;
      pawn = pawn i;
    }

same_hand-itself : (a : Hand) → same_hand a a ≡ true
unfolding same_hand
same_hand-itself a =
    let itself : (n : ℕ) → nat_eq n n ≡ true = λ n. nat_eq_same n n refl in
    λ i.
    itself a.rook i &&
    (itself a.bishop i &&
    (itself a.gold i && (itself a.silver i && (itself a.knight i && (itself a.lance i && itself a.pawn i)))))

pub same_hands-same : (a b : Hands) → same_hands a b ≡ true → a ≡ b
same_hands-same a b e =
    let w = and_true (same_hand a.first b.first) (same_hand a.second b.second) e in
    let first = same_hand-same a.first b.first w.0 in
    let second = same_hand-same a.second b.second w.1 in
    λ i. record { first = first i; second = second i }

pub same_hands-itself : (a : Hands) → same_hands a a ≡ true
same_hands-itself a = λ i. same_hand-itself a.first i && same_hand-itself a.second i

pub same_shogi_position-same : (p q : ShogiPosition) → same_shogi_position p q ≡ true → p ≡ q
unfolding same_shogi_position
same_shogi_position-same p q e =
    let v = and_true (same_side p.turn q.turn) (same_hands p.hands q.hands && same_shogi_board p.board q.board) e in
    let w = and_true (same_hands p.hands q.hands) (same_shogi_board p.board q.board) v.1 in
    let turn = same_side-same p.turn q.turn v.0 in
    let hands = same_hands-same p.hands q.hands w.0 in
    let board = same_shogi_board-same p.board q.board w.1 in
    λ i. record { board = board i; hands = hands i; turn = turn i }

pub same_shogi_position-itself : (p : ShogiPosition) → same_shogi_position p p ≡ true
unfolding same_shogi_position
same_shogi_position-itself p = λ i. same_side-itself p.turn i &&
    (same_hands-itself p.hands i && same_shogi_board-itself p.board i)

same_shogi_position-swap : (p q : ShogiPosition) → same_shogi_position p q ≡ same_shogi_position q p
same_shogi_position-swap p q =
    both_ways (same_shogi_position p q) (same_shogi_position q p)
    (λ e. ap (λ r. same_shogi_position r p) (sym (same_shogi_position-same p q e)) ∙ same_shogi_position-itself p)
    (λ e. ap (λ r. same_shogi_position r q) (sym (same_shogi_position-same q p e)) ∙ same_shogi_position-itself q)

pub same_shogi_position-equivalence : IsEquivalence same_shogi_position
same_shogi_position-equivalence =
    record {
      refl = same_shogi_position-itself;
      symm = same_shogi_position-swap;
      congr = λ p q r e. ap (λ s. same_shogi_position s r) (same_shogi_position-same p q e);
    }

pub same_shogi_position-partial : IsPartialEquivalence same_shogi_position
same_shogi_position-partial = partial_equiv_from_equiv same_shogi_position-equivalence
