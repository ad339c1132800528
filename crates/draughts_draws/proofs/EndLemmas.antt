-- The computed end of a line is its only end.
use Rattle.std.proofs.Common.{◌≡◌, inl, inr, nat_eq, Bool, true, false, not, List, [], ◌∷◌, length, Option, Some}
use Rattle.std.proofs.Common.{None, refl, sym, ◌∙◌, eqb-true, eq-eqb}
use Rattle.std.specs.Prelude.{IsTrue, ◌↔◌, if◌then◌else◌}
use Rattle.squares.specs.declared.draughts.moves.DMove.{DMove}
use Rattle.squares.specs.DraughtsBoard.{Position}
use Rattle.squares.specs.TheOnly.{TheOnly}
use Rattle.draughts_moves.specs.internal.Search.{has_move}
use Rattle.draughts_moves.proofs.Proved.{move-answer}
use Rattle.draughts_draws.specs.declared.ends.DEnd.{DEnd}
use Rattle.draughts_draws.specs.declared.ends.DEnd.TheVariants.{NoMove, Repetition, KingMoves, ThreeToOne, TwoToOne}
use Rattle.draughts_draws.specs.declared.ends.DEnd.TheVariants.{PlyLimit}
use Rattle.draughts_draws.specs.Line.{last_position, positions}
use Rattle.draughts_draws.specs.Ends.{stands_thrice, are_king_moves, is_three_to_one, is_two_to_one, ends_with, Meets}
use Rattle.draughts_draws.specs.Ends.{IsFirstOf, ends_in_order, EndsSo, first_end, end_of}

-- a test that is false where a proposition holds
not-is : {P : Type 0} (b : Bool) → (IsTrue b ↔ P) → IsTrue (not b) ↔ (P → ⊥)
not-is true is = (λ e. cc, λ none. absurd (none (is.0 refl)))
not-is false is = (λ _ holds. let e = is.1 holds in cc, λ _. refl)

module _ (start : Position) (ms : List DMove) where
  abbrev last : Position
  last = last_position start ms

  abbrev all : List Position
  all = positions start ms

  -- whether the condition of an end is met
  abbrev test : DEnd → Bool
  test NoMove = not (has_move last)
  test Repetition = stands_thrice last all
  test KingMoves = are_king_moves all ms
  test ThreeToOne = ends_with 33 is_three_to_one all
  test TwoToOne = ends_with 11 is_two_to_one all
  test PlyLimit = nat_eq (length ms) 600

  test-is : (end : DEnd) → IsTrue (test end) ↔ Meets start ms end
  test-is NoMove = not-is (has_move last) (move-answer last).is
  test-is PlyLimit = (eqb-true (length ms) 600, eq-eqb (length ms) 600)
  test-is Repetition = (λ e. e, λ e. e)
  test-is KingMoves = (λ e. e, λ e. e)
  test-is ThreeToOne = (λ e. e, λ e. e)
  test-is TwoToOne = (λ e. e, λ e. e)

  abbrev first_of : List DEnd → Option DEnd
  first_of [] = None
  first_of (end ∷ ends) = if test end then Some end else first_of ends

  by_test : (end : DEnd) (ends : List DEnd) (b : Bool) → (IsTrue b ↔ Meets start ms end)
      → IsFirstOf start ms ends (first_of ends)
      → IsFirstOf start ms (end ∷ ends) (if b then Some end else first_of ends)
  by_test end ends true is later = inl (is.0 refl, refl)
  by_test end ends false is later = inr (λ met. let e = is.1 met in cc, later)

  first-is : (ends : List DEnd) → IsFirstOf start ms ends (first_of ends)
  first-is [] = refl
  first-is (end ∷ ends) = by_test end ends (test end) (test-is end) (first-is ends)

  pub end_of-is : EndsSo start ms (end_of start ms)
  unfolding end_of first_end
  end_of-is = first-is ends_in_order

  one-first : (ends : List DEnd) (one two : Option DEnd) → IsFirstOf start ms ends one → IsFirstOf start ms ends two
      → one ≡ two
  one-first [] one two x y = x ∙ sym y
  one-first (end ∷ ends) one two (inl x) (inl y) = x.1 ∙ sym y.1
  one-first (end ∷ ends) one two (inl x) (inr y) = absurd (y.0 x.0)
  one-first (end ∷ ends) one two (inr x) (inl y) = absurd (x.0 y.0)
  one-first (end ∷ ends) one two (inr x) (inr y) = one-first ends one two x.1 y.1

  pub one-end : (one two : Option DEnd) → EndsSo start ms one → EndsSo start ms two → one ≡ two
  one-end = one-first ends_in_order

-- a line has one end, or goes on
abbrev pub line-end : (start : Position) (ms : List DMove) → TheOnly (EndsSo start ms)
line-end start ms =
    record {
      value = end_of start ms;
      is = end_of-is start ms;
      only = λ other is. one-end start ms other (end_of start ms) is (end_of-is start ms);
    }
