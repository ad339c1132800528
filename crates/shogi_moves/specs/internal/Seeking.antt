-- Results of a visitor over moves. No promise of the program rests on these definitions.
use Rattle.std.proofs.Common.{◌≡◌, Bool, true, false, ◌&&◌, ◌||◌, List, [], ◌∷◌, ◌++◌, refl, sym, ap}
use Rattle.std.specs.Prelude.{not}
use Rattle.std.proofs.lemmas.List.{append_assoc, append-nil}
use Rattle.squares.specs.declared.shogi.moves.SMove.{SMove}
use Rattle.squares.specs.ShogiSets.{ShogiPosition}
use Rattle.shogi_moves.specs.internal.Computed.{is_pseudo, leaves_king, escapes, mates_by_pawn, is_legal}

-- The list is not empty.
abbrev pub is_any : List SMove → Bool
is_any [] = false
is_any (m ∷ ms) = true

-- Only pseudo-legal moves pass these tests.
pub escapes-only : (p : ShogiPosition) (m : SMove) → is_pseudo p m ≡ false → escapes p m ≡ false
unfolding escapes
escapes-only p m e = ap (λ b. b && not (leaves_king p m)) e

pub is_legal-only : (p : ShogiPosition) (m : SMove) → is_pseudo p m ≡ false → is_legal p m ≡ false
unfolding is_legal
is_legal-only p m e = ap (λ b. b && not (mates_by_pawn p m)) (escapes-only p m e)

-- A move once found stays found.
pub found_none : (b : Bool) → (b || is_any []) ≡ b
found_none true = refl
found_none false = refl

pub found_more : (b : Bool) (xs ys : List SMove) → (b || is_any (xs ++ ys)) ≡ ((b || is_any xs) || is_any ys)
found_more true xs ys = refl
found_more false [] ys = refl
found_more false (x ∷ xs) ys = refl

-- Moves are listed one after another.
pub listed_none : (xs : List SMove) → xs ++ [] ≡ xs
listed_none xs = append-nil xs

pub listed_more : (xs ys zs : List SMove) → xs ++ (ys ++ zs) ≡ (xs ++ ys) ++ zs
listed_more xs ys zs = sym (append_assoc xs ys zs)
