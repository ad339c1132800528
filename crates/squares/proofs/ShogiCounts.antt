-- Counting the cells of a board counts its squares.
use Rattle.std.proofs.Common.{◌≡◌, ℕ, ◌+◌, ◌<◌, ◌≤◌, lit<, Bool, cond, List, [], ◌∷◌, length, get_or, refl, sym, ap}
use Rattle.std.proofs.Common.{◌∙◌, Option, None}
use Rattle.std.specs.Prelude.{count_by, fold, map}
use Rattle.std.specs.List.{range_with_len}
use Rattle.std.specs.FinMap.{get}
use Rattle.std.proofs.lemmas.List.FromFn.{fill_by_all}
use Rattle.squares.specs.declared.shogi.piece.SPiece.{SPiece}
use Rattle.squares.specs.ShogiBoard.{ShogiBoard, shogi_board_of}
use Rattle.squares.specs.declared.sides.Side.TheVariants.{First, Second}
use Rattle.squares.specs.declared.shogi.piece.HandKind.{HandKind}
use Rattle.squares.specs.declared.shogi.piece.HandKind.TheVariants.{Rook, Bishop, Gold, Silver, Knight, Lance, Pawn}
use Rattle.squares.specs.declared.shogi.hand.Hands.{Hands}
use Rattle.squares.specs.internal.ShogiSets.{count_on, holds_king, HasKings, KeepsSets, in_play, set_size}
use Rattle.squares.proofs.ShogiCells.{get-shogi_board_of}

fold-map_by : {A B C : Type 0} (g : C → B → C) (f : A → B) (c : C) (xs : List A)
    → fold g c (map f xs) ≡ fold (λ c x. g c (f x)) c xs
fold-map_by g f c [] = refl
fold-map_by g f c (x ∷ xs) = fold-map_by g f (g c (f x)) xs

count_by-map_by : {A B : Type 0} (p : B → Bool) (f : A → B) (xs : List A)
    → count_by p (map f xs) ≡ count_by (λ x. p (f x)) xs
count_by-map_by p f xs = fold-map_by (λ a x. a + cond (p x) 1 0) f 0 xs

-- the kinds, in their order
abbrev pub kinds : List HandKind
kinds = Rook ∷ Bishop ∷ Gold ∷ Silver ∷ Knight ∷ Lance ∷ Pawn ∷ []

-- the cells that pass are the squares that pass
pub count_on-cells : (test : Option SPiece → Bool) (cells : List (Option SPiece)) → length cells ≡ 81
    → count_on test (shogi_board_of cells) ≡ count_by test cells
unfolding count_on
count_on-cells test cells h =
    let each : (n : ℕ) → get (shogi_board_of cells) n ≡ get_or cells n None = get-shogi_board_of cells in
    (λ i. count_by (λ n. test (each n i)) (range_with_len 0 81))
    ∙ sym (count_by-map_by test (λ n. get_or cells n None) (range_with_len 0 81))
    ∙ sym (ap (count_by test) (fill_by_all (λ n. get_or cells n None) cells 81 None h (λ k _. refl)))

-- each side has one king where First and Second have
pub has_kings_lem : (board : ShogiBoard) → count_on (holds_king First) board ≡ 1
    → count_on (holds_king Second) board ≡ 1 → HasKings board
has_kings_lem board first second First = first
has_kings_lem board first second Second = second

-- the sets are kept where those of the seven kinds are
pub keeps_sets_lem : (board : ShogiBoard) (hands : Hands)
    → ((k : ℕ) → k < 7 → in_play (get_or kinds k Rook) board hands ≤ set_size (get_or kinds k Rook))
    → KeepsSets board hands
keeps_sets_lem board hands each Rook = each 0 (lit< tt)
keeps_sets_lem board hands each Bishop = each 1 (lit< tt)
keeps_sets_lem board hands each Gold = each 2 (lit< tt)
keeps_sets_lem board hands each Silver = each 3 (lit< tt)
keeps_sets_lem board hands each Knight = each 4 (lit< tt)
keeps_sets_lem board hands each Lance = each 5 (lit< tt)
keeps_sets_lem board hands each Pawn = each 6 (lit< tt)
