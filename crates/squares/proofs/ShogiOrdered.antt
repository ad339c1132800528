-- Cells compared in turn order the boards that they keep.
use Rattle.std.proofs.Common.{◌≡◌, ℕ, suc, ◌<◌, Bool, true, ◌&&◌, T, List, [], ◌∷◌, length, refl, sym, ap, ◌∙◌, subst}
use Rattle.std.proofs.Common.{arith, Option, Some, None}
use Rattle.std.specs.Ordering.{nat_cmp, is_lt, ordering_then}
use Rattle.std.specs.Cmp.{nat_cmp_total}
use Rattle.std.specs.Cmp.Lexicographic.{slice_cmp}
use Rattle.std.specs.Option.{option_cmp}
use Rattle.std.specs.FinMap as map
use Rattle.std.specs.FinMap.{nat_cmp-IsAntisymmetric}
use Rattle.std.specs.FinMap.Entries.{below_all, is_sorted}
use Rattle.std.proofs.lemmas.Grind.{common_steps}
use Rattle.std.specs.declared.cmp.Ordering.TheVariants.{Less, Equal, Greater}
use Rattle.squares.specs.declared.shogi.piece.SPiece.{SPiece}
use Rattle.squares.specs.ShogiBoard.{occupied_cells, shogi_board_of}
use Rattle.squares.specs.internal.ShogiOrder.{piece_cmp, entry_cmp, board_cmp}

nat_less : (a b : ℕ) → a < b → nat_cmp a b ≡ Less
nat_less a b h = grind (arith, common_steps)

nat_tied : (a : ℕ) → nat_cmp a a ≡ Equal
nat_tied a = grind (arith, common_steps)

nat_greater : (a b : ℕ) → b < a → nat_cmp a b ≡ Greater
nat_greater a b h = grind (arith, common_steps)

both : (a b : Bool) → a ≡ true → b ≡ true → (a && b) ≡ true
both a b e f = λ i. e i && f i

-- the squares that hold a piece rise
rises : (cells : List (Option SPiece)) (n q : ℕ) → q < n → below_all nat_cmp q (occupied_cells n cells) ≡ true
rises [] n q h = refl
rises (None ∷ cells) n q h = rises cells (suc n) q (omega arith)
rises (Some p ∷ cells) n q h = both (is_lt (nat_cmp q n)) (below_all nat_cmp q (occupied_cells (suc n) cells))
    (ap is_lt (nat_less q n h)) (rises cells (suc n) q (omega arith))

occupied-sorted : (cells : List (Option SPiece)) (n : ℕ) → is_sorted nat_cmp (occupied_cells n cells) ≡ true
occupied-sorted [] n = refl
occupied-sorted (None ∷ cells) n = occupied-sorted cells (suc n)
occupied-sorted (Some p ∷ cells) n = both (below_all nat_cmp n (occupied_cells (suc n) cells))
    (is_sorted nat_cmp (occupied_cells (suc n) cells)) (rises cells (suc n) n (omega arith))
    (occupied-sorted cells (suc n))

pub entries-shogi_board_of : (cells : List (Option SPiece))
    → map.entries (shogi_board_of cells) ≡ occupied_cells 0 cells
unfolding shogi_board_of
entries-shogi_board_of cells =
    let es = occupied_cells 0 cells in
    let sorted : T (is_sorted nat_cmp es) = subst T (sym (occupied-sorted cells 0)) tt in
    ap map.entries (map.same_map nat_cmp_total nat_cmp-IsAntisymmetric (map.from_entries es) (map.from_sorted es)
    (λ q. map.get-from_entries nat_cmp_total es q ∙ sym (map.get-from_sorted nat_cmp es q sorted)))
    ∙ map.entries-from_sorted nat_cmp es sorted

-- a board whose next piece stands on a later square comes before, and so does one with no further piece
before_later : (cells : List (Option SPiece)) (n m : ℕ) (p : SPiece) (es : List (ℕ × SPiece)) → n < m
    → slice_cmp entry_cmp (occupied_cells m cells) ((n, p) ∷ es) ≡ Less
before_later [] n m p es h = refl
before_later (None ∷ cells) n m p es h = before_later cells n (suc m) p es (omega arith)
before_later (Some q ∷ cells) n m p es h =
    ap (λ o. ordering_then (ordering_then o (piece_cmp q p)) (slice_cmp entry_cmp (occupied_cells (suc m) cells) es))
    (nat_less n m h)

after_later : (cells : List (Option SPiece)) (n m : ℕ) (p : SPiece) (es : List (ℕ × SPiece)) → n < m
    → slice_cmp entry_cmp ((n, p) ∷ es) (occupied_cells m cells) ≡ Greater
after_later [] n m p es h = refl
after_later (None ∷ cells) n m p es h = after_later cells n (suc m) p es (omega arith)
after_later (Some q ∷ cells) n m p es h =
    ap (λ o. ordering_then (ordering_then o (piece_cmp p q)) (slice_cmp entry_cmp es (occupied_cells (suc m) cells)))
    (nat_greater m n h)

-- lists of cells of one length are ordered as the boards
cells_cmp : (xs ys : List (Option SPiece)) (n : ℕ) → length xs ≡ length ys
    → slice_cmp (option_cmp piece_cmp) xs ys ≡ slice_cmp entry_cmp (occupied_cells n xs) (occupied_cells n ys)
cells_cmp [] [] n e = refl
cells_cmp [] (y ∷ ys) n e = absurd (omega (arith, e))
cells_cmp (x ∷ xs) [] n e = absurd (omega (arith, e))
cells_cmp (None ∷ xs) (None ∷ ys) n e = cells_cmp xs ys (suc n) (omega (arith, e))
cells_cmp (None ∷ xs) (Some q ∷ ys) n e = sym (before_later xs n (suc n) q (occupied_cells (suc n) ys) (omega arith))
cells_cmp (Some p ∷ xs) (None ∷ ys) n e = sym (after_later ys n (suc n) p (occupied_cells (suc n) xs) (omega arith))
cells_cmp (Some p ∷ xs) (Some q ∷ ys) n e =
    ap (λ o. ordering_then (piece_cmp p q) o) (cells_cmp xs ys (suc n) (omega (arith, e)))
    ∙ ap
    (λ o. ordering_then (ordering_then o (piece_cmp p q))
    (slice_cmp entry_cmp (occupied_cells (suc n) xs) (occupied_cells (suc n) ys))) (sym (nat_tied n))

pub board_cmp-cells : (xs ys : List (Option SPiece)) → length xs ≡ length ys
    → slice_cmp (option_cmp piece_cmp) xs ys ≡ board_cmp (shogi_board_of xs) (shogi_board_of ys)
unfolding board_cmp
board_cmp-cells xs ys e = cells_cmp xs ys 0 e
    ∙ (λ i. slice_cmp entry_cmp (sym (entries-shogi_board_of xs) i) (sym (entries-shogi_board_of ys) i))
