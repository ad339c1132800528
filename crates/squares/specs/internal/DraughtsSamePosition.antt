-- Equality of draughts positions: the same pieces on the same squares, and the same side to move. No promise of the
-- program rests on these definitions.
use Rattle.std.proofs.Common.{◌≡◌, ℕ, Bool, true, false, ◌&&◌, nat_eq, List, [], ◌∷◌, ◌∙◌}
use Rattle.std.proofs.Common.{refl, sym, ap}
use Rattle.std.specs.Cmp.{IsEquivalence, IsPartialEquivalence, partial_equiv_from_equiv, both_ways}
use Rattle.std.specs.FinMap as map
use Rattle.squares.specs.declared.draughts.piece.DPiece.{DPiece}
use Rattle.squares.specs.Sides.{same_side}
use Rattle.squares.specs.internal.Sides.{same_side-same, same_side-itself}
use Rattle.squares.specs.DraughtsBoard.{Position}
use Rattle.squares.specs.internal.DraughtsMarks.{nat_eq_same, nat_eq-same}
use Rattle.squares.specs.DraughtsSamePosition.{same_rank, same_piece, same_entry, same_entries, same_position}

and_true : (a b : Bool) → (a && b) ≡ true → (a ≡ true) × (b ≡ true)
and_true true b e = (refl, e)
and_true false b e = cc

same_rank-same : (a b : Bool) → same_rank a b ≡ true → a ≡ b
same_rank-same true true e = refl
same_rank-same true false e = cc
same_rank-same false true e = cc
same_rank-same false false e = refl

same_rank-itself : (a : Bool) → same_rank a a ≡ true
same_rank-itself true = refl
same_rank-itself false = refl

same_piece-same : (a b : DPiece) → same_piece a b ≡ true → a ≡ b
same_piece-same a b e =
    let v = and_true (same_side a.side b.side) (same_rank a.king b.king) e in
    let side = same_side-same a.side b.side v.0 in
    let king = same_rank-same a.king b.king v.1 in
    λ i. record { side = side i; king = king i }

same_piece-itself : (a : DPiece) → same_piece a a ≡ true
same_piece-itself a = λ i. same_side-itself a.side i && same_rank-itself a.king i

same_entry-same : (a b : ℕ × DPiece) → same_entry a b ≡ true → a ≡ b
same_entry-same a b e =
    let w = and_true (nat_eq a.0 b.0) (same_piece a.1 b.1) e in
    let square = nat_eq-same a.0 b.0 w.0 in
    let piece = same_piece-same a.1 b.1 w.1 in
    λ i. (square i, piece i)

same_entry-itself : (a : ℕ × DPiece) → same_entry a a ≡ true
same_entry-itself a = λ i. nat_eq_same a.0 a.0 refl i && same_piece-itself a.1 i

same_entries-same : (xs ys : List (ℕ × DPiece)) → same_entries xs ys ≡ true → xs ≡ ys
same_entries-same [] [] e = refl
same_entries-same [] (b ∷ ys) e = cc
same_entries-same (a ∷ xs) [] e = cc
same_entries-same (a ∷ xs) (b ∷ ys) e =
    let w = and_true (same_entry a b) (same_entries xs ys) e in
    λ i. same_entry-same a b w.0 i ∷ same_entries-same xs ys w.1 i

same_entries-itself : (xs : List (ℕ × DPiece)) → same_entries xs xs ≡ true
same_entries-itself [] = refl
same_entries-itself (a ∷ xs) = λ i. same_entry-itself a i && same_entries-itself xs i

pub same_position-same : (p q : Position) → same_position p q ≡ true → p ≡ q
unfolding same_position
same_position-same p q e =
    let w = and_true (same_side p.turn q.turn) (same_entries (map.entries p.board) (map.entries q.board)) e in
    let turn = same_side-same p.turn q.turn w.0 in
    let board = map.same_entries_map p.board q.board (same_entries-same (map.entries p.board) (map.entries q.board) w.1)
    in
    λ i. record { board = board i; turn = turn i }

pub same_position-itself : (p : Position) → same_position p p ≡ true
unfolding same_position
same_position-itself p = λ i. same_side-itself p.turn i && same_entries-itself (map.entries p.board) i

same_position-swap : (p q : Position) → same_position p q ≡ same_position q p
same_position-swap p q =
    both_ways (same_position p q) (same_position q p)
    (λ e. ap (λ r. same_position r p) (sym (same_position-same p q e)) ∙ same_position-itself p)
    (λ e. ap (λ r. same_position r q) (sym (same_position-same q p e)) ∙ same_position-itself q)

pub same_position-equivalence : IsEquivalence same_position
same_position-equivalence =
    record {
      refl = same_position-itself;
      symm = same_position-swap;
      congr = λ p q r e. ap (λ s. same_position s r) (same_position-same p q e);
    }

pub same_position-partial : IsPartialEquivalence same_position
same_position-partial = partial_equiv_from_equiv same_position-equivalence
