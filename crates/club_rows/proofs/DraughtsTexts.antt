-- The texts of draughts are in ASCII.
use Rattle.std.proofs.Common.{◌≡◌, ℕ, zero, suc, ◌+◌, ◌≤◌, List, [], ◌∷◌, ◌++◌, Option, Some, None, Ok, Err, refl}
use Rattle.std.proofs.Common.{arith, nat_lt, ◌<◌}
use Rattle.std.specs.Prelude.{IfSome}
use Rattle.std.specs.List.{AllByRecursion, cons_option, filter_map, join_with_byte, range_with_len}
use Rattle.std.specs.FinMap as finite_map
use Rattle.std.proofs.lemmas.Bool.{cond_both}
use Rattle.squares.specs.declared.draughts.moves.DMove.{DMove}
use Rattle.squares.specs.declared.draughts.piece.DPiece.{DPiece}
use Rattle.squares.specs.declared.sides.Side.{Side}
use Rattle.squares.specs.declared.sides.Side.TheVariants.{First, Second}
use Rattle.squares.specs.Sides.{same_side}
use Rattle.squares.specs.DraughtsBoard.{Board, Position}
use Rattle.pdn.specs.FenText.{side_letter, piece_text, piece_of, pieces_on, all_squares, fen_text}
use Rattle.pdn.specs.Forms.{Form, FormReading, quiet, capture, read_form}
use Rattle.pdn.specs.internal.Grammar.{IsSquareText, AreLandings, HasForm}
use Rattle.pdn.specs.MoveValue.{move_text}
use Rattle.pdn.specs.internal.MoveValue.{move_reading, with_form}
use Rattle.pdn.specs.SquareText.{square_text}
use Rattle.pdn.proofs.Proved.{read_form-text}
use Rattle.club_games.specs.Draughts.{draughts, move_read}
use Rattle.club_games.specs.internal.DraughtsLaws.{draughts-reads_back}
use Rattle.club_rows.proofs.PlainTexts.{Plain, plain-append, ArePlain}

square-plain : (n : ℕ) → n ≤ 50 → Plain (square_text n)
square-plain n low = cond_both (nat_lt n 10) _ _ Plain (λ e. omega (arith, low)) (λ e. omega (arith, low))

piece-plain : (n : ℕ) (piece : DPiece) → n ≤ 50 → Plain (piece_text n piece)
piece-plain n piece low = cond_both piece.king _ _ Plain (λ e. (omega arith, square-plain n low))
    (λ e. square-plain n low)

abbrev PlainIfAny : Option (List ℕ) → Type 0
PlainIfAny o = IfSome o Plain

piece_of-plain : (side : Side) (n : ℕ) (o : Option DPiece) → n ≤ 50 → PlainIfAny (piece_of side n o)
piece_of-plain side n None low = tt
piece_of-plain side n (Some piece) low =
    cond_both (same_side piece.side side) _ _ PlainIfAny (λ e. piece-plain n piece low) (λ e. tt)

items-plain : (f : ℕ → Option (List ℕ)) → ((n : ℕ) → n ≤ 50 → PlainIfAny (f n)) → (ns : List ℕ)
    → AllByRecursion (λ n. n ≤ 50) ns → AllByRecursion Plain (filter_map f ns)
items-plain f each [] low = tt
items-plain f each (n ∷ ns) low =
    let rest = items-plain f each ns low.1 in
    elim (f n) as (λ o. PlainIfAny o → AllByRecursion Plain (cons_option o (filter_map f ns))) [
      | None ↦ λ plain. rest
      | Some x ↦ λ plain. (plain, rest)
    ] (each n low.0)

join-plain : (items : List (List ℕ)) → AllByRecursion Plain items → Plain (join_with_byte 44 items)
join-plain [] plain = tt
join-plain (x ∷ []) plain = plain.0
join-plain (x ∷ y ∷ items) plain = plain-append x (44 ∷ join_with_byte 44 (y ∷ items)) plain.0
    (omega arith, join-plain (y ∷ items) plain.1)

range-low : (from count : ℕ) → from + count ≤ 51 → AllByRecursion (λ n. n ≤ 50) (range_with_len from count)
range-low from zero most = tt
range-low from (suc count) most = (omega (arith, most), range-low (from + 1) count (omega (arith, most)))

squares-low : AllByRecursion (λ n. n ≤ 50) all_squares
unfolding all_squares
squares-low = range-low 1 50 (omega arith)

pieces-plain : (side : Side) (board : Board) (squares : List ℕ) → AllByRecursion (λ n. n ≤ 50) squares
    → Plain (pieces_on side board squares)
unfolding pieces_on
pieces-plain side board squares low =
    join-plain _
    (items-plain (λ square. piece_of side square (finite_map.get board square))
    (λ n within. piece_of-plain side n (finite_map.get board n) within) squares low)

letter-plain : (side : Side) → Plain (side_letter side)
letter-plain side = grind arith

fen-plain : (p : Position) → Plain (fen_text p)
unfolding fen_text
fen-plain p =
    plain-append _ _
    (plain-append _ _
    (plain-append _ _
    (plain-append _ _ (letter-plain p.turn) (omega arith, (omega arith, tt)))
    (pieces-plain First p.board all_squares squares-low))
    (omega arith, (omega arith, tt)))
    (pieces-plain Second p.board all_squares squares-low)

-- ---- moves: what is read has the form of a move's text

square_text-plain : (n : ℕ) (text : List ℕ) → IsSquareText n text → Plain text
square_text-plain n text is = grind (arith, square-plain n is.0.1)

landings-plain : (ns : List ℕ) (text : List ℕ) → AreLandings ns text → Plain text
landings-plain [] text is = rw is tt
landings-plain (n ∷ ns) text (landing, rest, (cross, square, which, on, first), more, is) =
    let low : cross < 128 = omega (arith, which) in
    rw is (plain-append landing rest (rw first (low, square_text-plain n square on)) (landings-plain ns rest more))

form-plain : (text : List ℕ) (form : Form) → HasForm text form → Plain text
form-plain text (quiet from to) (first, second, from_is, to_is, is) =
    rw is (plain-append first (45 ∷ second) (square_text-plain from first from_is)
    (omega arith, square_text-plain to second to_is))
form-plain text (capture from middle to) (first, landings, from_is, are, is) =
    rw is (plain-append first landings (square_text-plain from first from_is)
    (landings-plain (middle ++ to ∷ []) landings are))

reading-plain : (p : Position) (text : List ℕ) (m : DMove) (r : FormReading) → read_form text ≡ r
    → move_read (with_form p r) ≡ Ok m → Plain text
reading-plain p text m (Ok form) is read = form-plain text form (read_form-text text form is)
reading-plain p text m (Err offset) is read = cc

move-plain : (p : Position) (m : DMove) → draughts.check p m ≡ Ok tt → Plain (move_text p m)
unfolding move_reading
move-plain p m ok = reading-plain p (move_text p m) m (read_form (move_text p m)) refl (draughts-reads_back p m ok)

pub draughts-plain : ArePlain draughts
draughts-plain = record { move = move-plain; position = fen-plain }
