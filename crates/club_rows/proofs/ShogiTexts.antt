-- The texts of shogi are in ASCII.
use Rattle.std.proofs.Common.{◌≡◌, ℕ, zero, suc, ◌+◌, ◌<◌, ◌≤◌, List, [], ◌∷◌, ◌++◌, length, Option, Some, None, Bool}
use Rattle.std.proofs.Common.{Ok, refl, arith}
use Rattle.std.proofs.lemmas.Bool.{cond_both}
use Rattle.squares.specs.declared.sides.Side.{Side}
use Rattle.squares.specs.declared.sides.Side.TheVariants.{First, Second}
use Rattle.squares.specs.declared.shogi.hand.Hand.{Hand}
use Rattle.squares.specs.declared.shogi.hand.Hands.{Hands}
use Rattle.squares.specs.declared.shogi.moves.SMove.{SMove}
use Rattle.squares.specs.declared.shogi.moves.SMove.TheVariants.{Step, Drop}
use Rattle.squares.specs.declared.shogi.piece.HandKind.{HandKind}
use Rattle.squares.specs.declared.shogi.piece.Kind.{Kind}
use Rattle.squares.specs.declared.shogi.piece.SPiece.{SPiece}
use Rattle.squares.specs.ShogiHands.{count_of}
use Rattle.squares.specs.ShogiPieces.{is_promoted, kind_of, on_board}
use Rattle.squares.specs.ShogiBoard.{ShogiBoard}
use Rattle.squares.specs.ShogiSets.{ShogiPosition}
use Rattle.sfen.specs.Letters.{capital, letter, piece_text, turn_letter}
use Rattle.sfen.specs.SfenGrammar.{cells_from}
use Rattle.sfen.specs.SfenText.{gap_text, cells_text, rank_text, more_ranks, board_text, held_text, kinds_text}
use Rattle.sfen.specs.SfenText.{hand_kinds, or_hyphen, hands_text, position_text}
use Rattle.sfen.specs.UsiReading.{usi_reach, usi_reading}
use Rattle.sfen.specs.UsiText.{square_text, promotion_text, usi_text}
use Rattle.sfen.specs.internal.UsiText.{IsOnBoard}
use Rattle.sfen.proofs.Proved.{usi_reading-sound}
use Rattle.club_games.specs.Shogi.{shogi, move_read}
use Rattle.club_games.specs.internal.ShogiLaws.{shogi-reads_back}
use Rattle.club_rows.proofs.PlainTexts.{Plain, plain-append, decimal-plain, ArePlain}

-- ---- positions

capital-low : (k : Kind) → capital k < 96
capital-low k = grind arith

letter-low : (side : Side) (k : Kind) → letter side k < 128
letter-low side k = grind (arith, capital-low k)

piece-plain : (piece : SPiece) → Plain (piece_text piece)
piece-plain piece =
    let low = letter-low piece.side (kind_of piece.role) in
    cond_both (is_promoted piece.role) _ _ Plain (λ e. omega (arith, low)) (λ e. omega (arith, low))

gap-plain : (gap : ℕ) → gap ≤ 9 → Plain (gap_text gap)
gap-plain gap few = grind arith

cells-plain : (gap : ℕ) (cells : List (Option SPiece)) → gap + length cells ≤ 9 → Plain (cells_text gap cells)
cells-plain gap [] few = gap-plain gap (omega (arith, few))
cells-plain gap (None ∷ cells) few = cells-plain (suc gap) cells (omega (arith, few))
cells-plain gap (Some piece ∷ cells) few =
    plain-append (gap_text gap) _ (gap-plain gap (omega (arith, few)))
    (plain-append (piece_text piece) _ (piece-plain piece) (cells-plain 0 cells (omega (arith, few))))

cells-length : (board : ShogiBoard) (rank count : ℕ) → length (cells_from board rank count) ≤ count
cells-length board rank zero = omega arith
cells-length board rank (suc count) = let most = cells-length board rank count in omega (arith, most)

rank-plain : (board : ShogiBoard) (rank : ℕ) → Plain (rank_text board rank)
unfolding rank_text
rank-plain board rank = cells-plain 0 (cells_from board rank 9) (let most = cells-length board rank 9 in
    omega (arith, most))

ranks-plain : (board : ShogiBoard) (rank more : ℕ) → Plain (more_ranks board rank more)
ranks-plain board rank zero = tt
ranks-plain board rank (suc more) =
    (omega arith, plain-append (rank_text board rank) _ (rank-plain board rank) (ranks-plain board (suc rank) more))

board-plain : (board : ShogiBoard) → Plain (board_text board)
unfolding board_text
board-plain board = plain-append (rank_text board 1) _ (rank-plain board 1) (ranks-plain board 2 8)

held-plain : (side : Side) (hand_kind : HandKind) (count : ℕ) → Plain (held_text side hand_kind count)
held-plain side hand_kind zero = tt
held-plain side hand_kind (suc zero) = (letter-low side (on_board hand_kind), tt)
held-plain side hand_kind (suc (suc n)) =
    plain-append _ _ (decimal-plain (suc (suc n))) (letter-low side (on_board hand_kind), tt)

kinds-plain : (side : Side) (hand : Hand) (kinds : List HandKind) → Plain (kinds_text side hand kinds)
kinds-plain side hand [] = tt
kinds-plain side hand (k ∷ kinds) = plain-append (held_text side k (count_of k hand)) _
    (held-plain side k (count_of k hand)) (kinds-plain side hand kinds)

hyphen-plain : (text : List ℕ) → Plain text → Plain (or_hyphen text)
hyphen-plain text plain = grind arith

hands-plain : (hands : Hands) → Plain (hands_text hands)
unfolding hands_text
hands-plain hands =
    hyphen-plain _
    (plain-append (kinds_text First hands.first hand_kinds) _ (kinds-plain First hands.first hand_kinds)
    (kinds-plain Second hands.second hand_kinds))

turn-low : (side : Side) → turn_letter side < 128
turn-low side = grind arith

position-plain : (p : ShogiPosition) → Plain (position_text p)
unfolding position_text
position-plain p = plain-append (board_text p.board) _ (board-plain p.board)
    (omega arith, (turn-low p.turn, (omega arith, hands-plain p.hands)))

-- ---- moves: what is read has the form of a move's text

square-plain : (n : ℕ) → n < 81 → Plain (square_text n)
square-plain n on = (omega (arith, on), (omega (arith, on), tt))

promotion-plain : (promote : Bool) → Plain (promotion_text promote)
promotion-plain promote = grind arith

usi-plain : (m : SMove) → IsOnBoard m → Plain (usi_text m)
usi-plain (Step from to promote) on =
    plain-append (square_text from) (square_text to ++ promotion_text promote) (square-plain from on.0)
    (plain-append (square_text to) (promotion_text promote) (square-plain to on.1) (promotion-plain promote))
usi-plain (Drop k to) on = (let low = capital-low (on_board k) in omega (arith, low), (omega arith, square-plain to on))

reading-plain : (text : List ℕ) (reach : ℕ) (m : SMove) (o : Option SMove) → usi_reading text ≡ o
    → move_read o reach ≡ Ok m → Plain text
reading-plain text reach m None is read = cc
reading-plain text reach m (Some n) is read =
    let usi = usi_reading-sound text n is in rw usi.1 (usi-plain n usi.0)

move-plain : (p : ShogiPosition) (m : SMove) → shogi.check p m ≡ Ok tt → Plain (usi_text m)
move-plain p m ok = reading-plain (usi_text m) (usi_reach (usi_text m)) m (usi_reading (usi_text m)) refl
    (shogi-reads_back p m ok)

pub shogi-plain : ArePlain shogi
shogi-plain = record { move = move-plain; position = position-plain }
