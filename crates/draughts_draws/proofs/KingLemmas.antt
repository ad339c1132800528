-- Without a king on the board no side has a lone king.
use Rattle.std.proofs.Common.{◌≡◌, ℕ, Bool, true, false, not, ◌&&◌, ◌||◌, ◌==◌, cond, Option, Some, None}
use Rattle.std.proofs.Common.{true≢false, refl, sym, ap, ◌∙◌}
use Rattle.std.specs.FinMap as map
use Rattle.std.specs.List.{range_with_len}
use Rattle.std.proofs.lemmas.List.Recursion.{is_count_by}
use Rattle.squares.specs.declared.draughts.piece.DPiece.{DPiece}
use Rattle.squares.specs.declared.sides.Side.{Side}
use Rattle.squares.specs.declared.sides.Side.TheVariants.{First, Second}
use Rattle.squares.specs.DraughtsBoard.{Position}
use Rattle.squares.specs.internal.DraughtsKept.{is_king}
use Rattle.squares.specs.Sides.{same_side}
use Rattle.draughts_draws.specs.Ends.{is_king_of, count_of_pieces, count_of_kings, has_lone_king, has_three, has_two}
use Rattle.draughts_draws.specs.Ends.{is_three_to_one, is_two_to_one}

and_none : (a : Bool) → (a && false) ≡ false
and_none true = refl
and_none false = refl

pub unless : (a : Bool) → a ≡ true → not a ≡ false
unless true is = refl
unless false is = absurd (true≢false (sym is))

either_none : (a b c d : Bool) → b ≡ false → d ≡ false → ((a && b) || (c && d)) ≡ false
either_none a b c d left right =
    ap (λ x. (a && x) || (c && d)) left ∙ ap (λ x. (a && false) || (c && x)) right
    ∙ ap (λ x. x || (c && false)) (and_none a) ∙ and_none c

no_king_of : (side : Side) (o : Option DPiece) → is_king o ≡ false → is_king_of side o ≡ false
no_king_of side None none = refl
no_king_of side (Some piece) none = ap (λ k. same_side piece.side side && k) none ∙ and_none (same_side piece.side side)

module _ (p : Position) (kingless : (n : ℕ) → is_king (map.get p.board n) ≡ false) where
  kings_none : (side : Side) → count_of_kings side p ≡ 0
  unfolding count_of_kings
  kings_none side = sym (is_count_by (λ _. 0) (λ n. is_king_of side (map.get p.board n)) refl
      (λ n ns. ap (λ b. cond b 1 0) (sym (no_king_of side (map.get p.board n) (kingless n)))) (range_with_len 1 50))

  lone_none : (side : Side) → has_lone_king side p ≡ false
  lone_none side = ap (λ k. (count_of_pieces side p == 1) && (k == 1)) (kings_none side)
      ∙ and_none (count_of_pieces side p == 1)

  pub three_to_one_none : is_three_to_one p ≡ false
  three_to_one_none = either_none (has_three First p) _ (has_three Second p) _ (lone_none Second) (lone_none First)

  pub two_to_one_none : is_two_to_one p ≡ false
  two_to_one_none = either_none (has_lone_king First p || has_two First p) _ (has_lone_king Second p || has_two Second p)
      _ (lone_none Second) (lone_none First)
