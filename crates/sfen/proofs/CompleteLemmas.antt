-- A text of a form is read to its end, as that form, and from every place a text can go on to its end.
use Rattle.std.proofs.Common.{◌≡◌, inl, inr, ℕ, zero, suc, ◌+◌, ◌-◌, ◌*◌, ◌<◌, ◌≤◌, true, cond, nat_le, nat_lt, List}
use Rattle.std.proofs.Common.{[], ◌∷◌, ◌++◌, Option, Some, None, refl, sym, ap, ◌∙◌, subst, append_assoc, append-nil}
use Rattle.std.proofs.Common.{arith}
use Rattle.std.proofs.lemmas.Bool.Decides.{nat_tests}
use Rattle.std.specs.FinMap as map
use Rattle.squares.specs.declared.sides.Side.{Side}
use Rattle.squares.specs.declared.sides.Side.TheVariants.{First, Second}
use Rattle.squares.specs.declared.shogi.piece.Kind.{Kind}
use Rattle.squares.specs.declared.shogi.piece.Kind.TheVariants as kind
use Rattle.squares.specs.declared.shogi.piece.HandKind.{HandKind}
use Rattle.squares.specs.declared.shogi.piece.HandKind.TheVariants as in_hand
use Rattle.squares.specs.declared.shogi.piece.Role.{Role}
use Rattle.squares.specs.declared.shogi.piece.Role.TheVariants as role
use Rattle.squares.specs.declared.shogi.piece.SPiece.{SPiece}
use Rattle.squares.specs.ShogiBoard.{ShogiBoard}
use Rattle.squares.specs.ShogiGeometry.{shogi_number}
use Rattle.squares.specs.internal.ShogiGeometry.{OnShogiBoard}
use Rattle.squares.specs.ShogiPieces.{kind_of, demoted, hand_kind, promotes_to, on_board as kind_on_board}
use Rattle.sfen.specs.declared.signs.Sign.{Sign}
use Rattle.sfen.specs.declared.signs.Sign.TheVariants.{Zero, Digit, Piece, Plus, Slash, Blank}
use Rattle.sfen.specs.declared.places.SfenState.{SfenState}
use Rattle.sfen.specs.declared.places.SfenState.TheVariants.{Rank, Promoted, Hands, Held, AfterZero, OneDigit, TwoDigits}
use Rattle.sfen.specs.declared.places.SfenState.TheVariants.{NoHands, Number, Digits, Turn, AfterTurn}
use Rattle.sfen.specs.declared.places.Action.{Action}
use Rattle.sfen.specs.declared.places.Action.TheVariants.{Pass, Put, Hold}
use Rattle.sfen.specs.Letters.{letter, piece_text, turn_letter}
use Rattle.sfen.specs.internal.Signs.{sign_of}
use Rattle.sfen.specs.internal.Places.{on_board, put_at, placed, promoted, hold, at_item, one_more, next}
use Rattle.sfen.specs.internal.Places.{number_at_end, IsSane}
use Rattle.sfen.specs.internal.Reading.{if_some, run}
use Rattle.sfen.specs.SfenGrammar.{cells_from}
use Rattle.sfen.specs.internal.SfenGrammar.{RankItem, Gap, Stands, AreRankItems, AreRanks, HeldItem, IsCountText}
use Rattle.sfen.specs.internal.SfenGrammar.{unwritten, one_digit, two_digits, IsHeldText, AreHeldTexts, IsHandText}
use Rattle.sfen.specs.internal.SfenGrammar.{IsNumberText}
use Rattle.sfen.specs.internal.SfenGrammar.{AreDigits, digit_texts, value_after, SfenForm, HasSfenForm}
use Rattle.sfen.proofs.BoardLemmas.{Keeps, Fresh, at, fresh-on, fresh-put, fresh-nothing, keeps-on, keeps-put}
use Rattle.sfen.proofs.BoardLemmas.{keeps-gap, keeps-empty, keeps-whole, gap-cells, piece-cells}
use Rattle.sfen.proofs.Stages.{run-after, Stage, on, moved, moved_by, grow, start, form_of}
use Rattle.sfen.proofs.SignLemmas.{sign-digit, sign-letter}
use Rattle.std.specs.FinMap as map
use Rattle.squares.specs.declared.shogi.piece.Kind.TheVariants as kind
use Rattle.squares.specs.declared.shogi.piece.Role.TheVariants as role

-- a byte before others, by its sign and where that leads
pub by-byte : (s : Stage) (c : ℕ) (sign : Sign) (to : SfenState) (action : Action) (text : List ℕ) → sign_of c ≡ sign
    → next s.place sign ≡ Some (to, action) → run grow s (c ∷ text) ≡ run grow (moved to action s) text
by-byte s c sign to action text is leads =
    ap (λ g. if_some (λ u. run grow u text) (moved_by (next s.place g) s)) is
    ∙ ap (λ o. if_some (λ u. run grow u text) (moved_by o s)) leads

pub placed-is : (rank left : ℕ) (piece : SPiece) → (1 ≤ left) × (left ≤ 9) → (1 ≤ rank) × (rank ≤ 9)
    → placed rank left piece ≡ Some (Rank rank (left - 1), Put (shogi_number left rank) piece)
placed-is rank left piece l r =
    let test : on_board left rank ≡ true = grind (arith, nat_tests, l.0, l.1, r.0, r.1) in
    ap (λ b. put_at rank left piece (cond b (Some (shogi_number left rank)) None)) test

-- a piece's text puts the piece
module _ (rank left : ℕ) (board : ShogiBoard) (turn : Side) (held : List HeldItem) (l : (1 ≤ left) × (left ≤ 9))
    (r : (1 ≤ rank) × (rank ≤ 9)) where
  abbrev Puts : SPiece → List ℕ → Type 0
  Puts piece text = run grow (on (Rank rank left) board turn held) text
      ≡ Some (on (Rank rank (left - 1)) (map.insert board (shogi_number left rank) piece) turn held)

  plain : (side : Side) (own : Kind) → Puts (record { side = side; role = demoted own }) (letter side own ∷ [])
  plain side own =
      let piece : SPiece = record { side = side; role = demoted own } in
      by-byte (on (Rank rank left) board turn held) (letter side own) (Piece side own) (Rank rank (left - 1))
      (Put (shogi_number left rank) piece) [] (sign-letter side own) (placed-is rank left piece l r)

  after_plus : (side : Side) (own : Kind) (new : Role) → promotes_to own ≡ Some new
      → Puts (record { side = side; role = new }) (43 ∷ letter side own ∷ [])
  after_plus side own new e =
      let piece : SPiece = record { side = side; role = new } in
      let test : nat_lt 0 left ≡ true = grind (arith, nat_tests, l.0) in
      by-byte (on (Rank rank left) board turn held) 43 Plus (Promoted rank left) Pass (letter side own ∷ []) refl
      (ap (λ b. cond b (Some (Promoted rank left, Pass)) None) test)
      ∙ by-byte (on (Promoted rank left) board turn held) (letter side own) (Piece side own) (Rank rank (left - 1))
      (Put (shogi_number left rank) piece) [] (sign-letter side own)
      (ap (promoted rank left side) e ∙ placed-is rank left piece l r)

  puts : (side : Side) (own : Role)
      → Puts (record { side = side; role = own }) (piece_text (record { side = side; role = own }))
  puts side role.PromotedRook = after_plus side kind.Rook role.PromotedRook refl
  puts side role.PromotedBishop = after_plus side kind.Bishop role.PromotedBishop refl
  puts side role.PromotedSilver = after_plus side kind.Silver role.PromotedSilver refl
  puts side role.PromotedKnight = after_plus side kind.Knight role.PromotedKnight refl
  puts side role.PromotedLance = after_plus side kind.Lance role.PromotedLance refl
  puts side role.PromotedPawn = after_plus side kind.Pawn role.PromotedPawn refl
  puts side own = plain side (kind_of own)

pub gap-step : (rank left n : ℕ) (board : ShogiBoard) (turn : Side) (held : List HeldItem) (text : List ℕ) → 1 ≤ n
    → n ≤ 9
    → n ≤ left → run grow (on (Rank rank left) board turn held) ((48 + n) ∷ text)
    ≡ run grow (on (Rank rank (left - n)) board turn held) text
gap-step rank left n board turn held text some most within =
    let test : nat_le n left ≡ true = grind (arith, nat_tests) in
    by-byte (on (Rank rank left) board turn held) (48 + n) (Digit n) (Rank rank (left - n)) Pass text
    (sign-digit n some most) (ap (λ b. cond b (Some (Rank rank (left - n), Pass)) None) test)

-- a board that the rest of a rank leads to
pub record Filled (whole : ShogiBoard) (rank left : ℕ) (board : ShogiBoard) (turn : Side) (held : List HeldItem)
    (text : List ℕ) (rank_after : ℕ) : Type 0 where
  pub board_after : ShogiBoard
  pub keeps : Keeps rank_after 0 whole board_after
  pub fresh : Fresh rank_after 0 board_after
  pub read : run grow (on (Rank rank left) board turn held) text ≡ Some (on (Rank rank_after 0) board_after turn held)

-- what is read first leads to where the rest is filled
filled-after : {whole : ShogiBoard} {rank left next_rank next_left last : ℕ} {board next_board : ShogiBoard}
    {turn : Side} {held : List HeldItem} {text rest : List ℕ} → run grow (on (Rank rank left) board turn held) text
    ≡ run grow (on (Rank next_rank next_left) next_board turn held) rest
    → Filled whole next_rank next_left next_board turn held rest last → Filled whole rank left board turn held text last
filled-after e f = record { board_after = f.board_after; keeps = f.keeps; fresh = f.fresh; read = e ∙ f.read }

items-fill : (whole : ShogiBoard) (rank : ℕ) (turn : Side) (held : List HeldItem) → (1 ≤ rank) × (rank ≤ 9)
    → (items : List RankItem) (left : ℕ) (board : ShogiBoard) (text : List ℕ) → left ≤ 9
    → AreRankItems items (cells_from whole rank left) text → Keeps rank left whole board → Fresh rank left board
    → Filled whole rank left board turn held text rank
items-fill whole rank turn held r [] zero board text most are keeps fresh =
    let read = ap (run grow (on (Rank rank 0) board turn held)) are.1 in
    record { board_after = board; keeps = keeps; fresh = fresh; read = read }
items-fill whole rank turn held r [] (suc left) board text most are keeps fresh =
    absurd (not-nil (at whole (suc left) rank) (cells_from whole rank left) are.0)
  where
    not-nil : (o : Option SPiece) (cells : List (Option SPiece)) → ◌≡◌ {A = List (Option SPiece)} (o ∷ cells) [] → ⊥
    not-nil o cells e = cc
items-fill whole rank turn held r (Gap n ∷ items) left board text most are keeps fresh =
    let g = gap-cells whole rank n left are.0 are.3 in
    filled-after
    (ap (run grow (on (Rank rank left) board turn held)) are.4
    ∙ gap-step rank left n board turn held are.1 are.2.0 are.2.1 g.within)
    (items-fill whole rank turn held r items (left - n) board are.1 (omega (arith, most))
    (subst (λ cells. AreRankItems items cells are.1) g.more_is are.5)
    (keeps-gap rank left n board g.within whole most keeps fresh g.none)
    (fresh-on rank left rank (left - n) board fresh (omega arith)))
items-fill whole rank turn held r (Stands piece ∷ items) left board text most are keeps fresh =
    let g = piece-cells whole rank left piece are.0 are.3 in
    let here : OnShogiBoard left rank = ((g.0, most), r) in
    let next_board = map.insert board (shogi_number left rank) piece in
    filled-after
    (ap (run grow (on (Rank rank left) board turn held)) are.4
    ∙ run-after grow (piece_text piece) (on (Rank rank left) board turn held)
    (on (Rank rank (left - 1)) next_board turn held) are.1
    (puts rank left board turn held (g.0, most) r piece.side piece.role))
    (items-fill whole rank turn held r items (left - 1) next_board are.1 (omega (arith, most))
    (subst (λ cells. AreRankItems items cells are.1) g.1.1 are.5)
    (keeps-put rank left piece board here whole keeps g.1.0) (fresh-put rank left piece board here fresh))

pub slash-read : (rank : ℕ) (board : ShogiBoard) (turn : Side) (held : List HeldItem) (text : List ℕ) → rank < 9
    → run grow (on (Rank rank 0) board turn held) (47 ∷ text) ≡ run grow (on (Rank (suc rank) 9) board turn held) text
slash-read rank board turn held text below =
    let after : rank + 1 ≡ suc rank = omega arith in
    let test : nat_lt rank 9 ≡ true = grind (arith, nat_tests) in
    by-byte (on (Rank rank 0) board turn held) 47 Slash (Rank (rank + 1) 9) Pass text refl
    (ap (λ b. cond b (Some (Rank (rank + 1) 9, Pass)) None) test)
    ∙ ap (λ k. run grow (on (Rank k 9) board turn held) text) after

ranks-fill : (whole : ShogiBoard) (turn : Side) (held : List HeldItem) (more rank : ℕ) (board : ShogiBoard)
    (text : List ℕ) → 1 ≤ rank → rank + more ≡ 9 → AreRanks whole rank more text → Keeps rank 9 whole board
    → Fresh rank 9 board → Filled whole rank 9 board turn held text 9
ranks-fill whole turn held zero rank board text low count is keeps fresh =
    let last : rank ≡ 9 = omega (arith, count) in
    subst (λ k. Filled whole rank 9 board turn held text k) last
    (items-fill whole rank turn held (low, omega (arith, count)) is.0 9 board text (omega arith) is.1 keeps fresh)
ranks-fill whole turn held (suc more) rank board text low count is keeps fresh =
    let first = items-fill whole rank turn held (low, omega (arith, count)) is.3.0 9 board is.0 (omega arith) is.3.1
    keeps fresh in
    let s = on (Rank rank 9) board turn held in
    let t = on (Rank rank 0) first.board_after turn held in
    filled-after
    (ap (run grow s) is.2 ∙ run-after grow is.0 s t (47 ∷ is.1) first.read
    ∙ slash-read rank first.board_after turn held is.1 (omega (arith, count)))
    (ranks-fill whole turn held more (suc rank) first.board_after is.1 (omega arith) (omega (arith, count)) is.4
    (keeps-on rank 0 (suc rank) 9 first.board_after whole first.keeps (omega arith))
    (fresh-on rank 0 (suc rank) 9 first.board_after first.fresh (omega arith)))

-- from the ninth rank to the hands
turn-read : (board : ShogiBoard) (turn side : Side) (held : List HeldItem) (text : List ℕ)
    → run grow (on (Rank 9 0) board turn held) (32 ∷ turn_letter side ∷ 32 ∷ text)
    ≡ run grow (on Hands board side held) text
turn-read board turn First held text = refl
turn-read board turn Second held text = refl

-- a place where pieces in the hands may begin
abbrev IsHeldPlace : SfenState → Type 0
IsHeldPlace place = (next place Zero ≡ at_item Zero) × ((n : ℕ) → next place (Digit n) ≡ at_item (Digit n))
    × ((side : Side) (own : Kind) → next place (Piece side own) ≡ at_item (Piece side own))

in-hands : IsHeldPlace Hands
in-hands = (refl, (λ n. refl), (λ side own. refl))

in-held : IsHeldPlace Held
in-held = (refl, (λ n. refl), (λ side own. refl))

hand_kind-back : (kind : HandKind) → hand_kind (kind_on_board kind) ≡ Some kind
hand_kind-back in_hand.Rook = refl
hand_kind-back _ = refl

module _ (board : ShogiBoard) (turn : Side) (held : List HeldItem) where
  abbrev here : SfenState → Stage
  here place = on place board turn held

  abbrev with_item : HeldItem → Stage
  with_item item = on Held board turn (held ++ item ∷ [])

  letter-read : (place : SfenState) (item : HeldItem) (count : ℕ) → count ≡ item.count
      → next place (Piece item.side (kind_on_board item.kind))
      ≡ hold count item.side (hand_kind (kind_on_board item.kind))
      → run grow (here place) (letter item.side (kind_on_board item.kind) ∷ []) ≡ Some (with_item item)
  letter-read place item count same e =
      let own = kind_on_board item.kind in
      by-byte (here place) (letter item.side own) (Piece item.side own) Held (Hold item.side item.kind count) []
      (sign-letter item.side own) (e ∙ ap (hold count item.side) (hand_kind-back item.kind))
      ∙ ap (λ n. Some (with_item (record { side = item.side; kind = item.kind; count = n }))) same

  -- a digit that is not zero, and two digits
  digit-read : (place : SfenState) → IsHeldPlace place → (n : ℕ) → 1 ≤ n → n ≤ 9 → (text : List ℕ)
      → run grow (here place) ((48 + n) ∷ text) ≡ run grow (here (OneDigit n)) text
  digit-read place h n low high text =
      by-byte (here place) (48 + n) (Digit n) (OneDigit n) Pass text (sign-digit n low high) (h.1 n)

  two-read : (place : SfenState) → IsHeldPlace place → (tens ones : ℕ) → tens ≤ 9 → ones ≤ 9 → 1 ≤ 10 * tens + ones
      → (text : List ℕ) → run grow (here place) ((48 + tens) ∷ (48 + ones) ∷ text)
      ≡ run grow (here (TwoDigits (10 * tens + ones))) text
  two-read place h zero zero t o some text = absurd (omega (arith, some))
  two-read place h zero (suc ones) t o some text =
      by-byte (here place) 48 Zero AfterZero Pass ((48 + suc ones) ∷ text) refl h.0
      ∙ by-byte (here AfterZero) (48 + suc ones) (Digit (suc ones)) (TwoDigits (suc ones)) Pass text
      (sign-digit (suc ones) (omega arith) o) refl ∙ ap (λ n. run grow (here (TwoDigits n)) text) (omega arith)
  two-read place h (suc tens) zero t o some text =
      digit-read place h (suc tens) (omega arith) t (48 ∷ text)
      ∙ by-byte (here (OneDigit (suc tens))) 48 Zero (TwoDigits (10 * suc tens)) Pass text refl refl
      ∙ ap (λ n. run grow (here (TwoDigits n)) text) (omega arith)
  two-read place h (suc tens) (suc ones) t o some text =
      digit-read place h (suc tens) (omega arith) t ((48 + suc ones) ∷ text)
      ∙ by-byte (here (OneDigit (suc tens))) (48 + suc ones) (Digit (suc ones)) (TwoDigits (10 * suc tens + suc ones))
      Pass text (sign-digit (suc ones) (omega arith) o) refl

  item-read : (place : SfenState) → IsHeldPlace place → (item : HeldItem) (digits : List ℕ) → IsCountText item.count digits
      → run grow (here place) (digits ++ letter item.side (kind_on_board item.kind) ∷ []) ≡ Some (with_item item)
  item-read place h item digits (unwritten one none) =
      ap (λ t. run grow (here place) (t ++ letter item.side (kind_on_board item.kind) ∷ [])) none
      ∙ letter-read place item 1 (sym one) (h.2 item.side (kind_on_board item.kind))
  item-read place h item digits (one_digit low high is) =
      let c = letter item.side (kind_on_board item.kind) in
      ap (λ t. run grow (here place) (t ++ c ∷ [])) is ∙ digit-read place h item.count low high (c ∷ [])
      ∙ letter-read (OneDigit item.count) item item.count refl refl
  item-read place h item digits (two_digits tens ones t o count low is) =
      let c = letter item.side (kind_on_board item.kind) in
      ap (λ t. run grow (here place) (t ++ c ∷ [])) is
      ∙ two-read place h tens ones t o (omega (arith, low, count)) (c ∷ [])
      ∙ letter-read (TwoDigits (10 * tens + ones)) item (10 * tens + ones) (sym count) refl

  held-read : (place : SfenState) → IsHeldPlace place → (item : HeldItem) (text : List ℕ) → IsHeldText item text
      → run grow (here place) text ≡ Some (with_item item)
  held-read place h item text is = ap (run grow (here place)) is.2 ∙ item-read place h item is.0 is.1

items-read : (board : ShogiBoard) (turn : Side) (items : List HeldItem) (held : List HeldItem) (text : List ℕ)
    → AreHeldTexts items text → run grow (on Held board turn held) text ≡ Some (on Held board turn (held ++ items))
items-read board turn [] held text are = ap (run grow (on Held board turn held)) are
    ∙ ap (λ h. Some (on Held board turn h)) (sym (append-nil held))
items-read board turn (item ∷ items) held text are =
    ap (run grow (on Held board turn held)) are.2
    ∙ run-after grow are.0 (on Held board turn held) (on Held board turn (held ++ item ∷ [])) are.1
    (held-read board turn held Held in-held item are.0 are.3)
    ∙ items-read board turn items (held ++ item ∷ []) are.1 are.4
    ∙ ap (λ h. Some (on Held board turn h)) (append_assoc held (item ∷ []) items)

-- a text of the hands ends where a number or nothing may follow
abbrev IsHandEnd : SfenState → Type 0
IsHandEnd place = (number_at_end place ≡ Some 1) × (next place Blank ≡ Some (Number, Pass))

pub record HandRead (board : ShogiBoard) (turn : Side) (items : List HeldItem) (text : List ℕ) : Type 0 where
  pub place : SfenState
  pub read : run grow (on Hands board turn []) text ≡ Some (on place board turn items)
  pub ends : IsHandEnd place

hand-read : (board : ShogiBoard) (turn : Side) (items : List HeldItem) (text : List ℕ) → IsHandText items text
    → HandRead board turn items text
hand-read board turn [] text is =
    record { place = NoHands; read = ap (run grow (on Hands board turn [])) is; ends = (refl, refl) }
hand-read board turn (item ∷ items) text are =
    record {
      place = Held;
      read =
          ap (run grow (on Hands board turn [])) are.2
          ∙ run-after grow are.0 (on Hands board turn []) (on Held board turn (item ∷ [])) are.1
          (held-read board turn [] Hands in-hands item are.0 are.3)
          ∙ items-read board turn items (item ∷ []) are.1 are.4;
      ends = (refl, refl);
    }

-- a number is at least what its first digits give
value-grows : (digits : List ℕ) (number : ℕ) → number ≤ value_after number digits
value-grows [] number = omega arith
value-grows (digit ∷ digits) number = omega (arith, value-grows digits (10 * number + digit))

digits-read : (board : ShogiBoard) (turn : Side) (held : List HeldItem) (digits : List ℕ) (number : ℕ)
    → AreDigits digits → value_after number digits ≤ 9999
    → run grow (on (Digits number) board turn held) (digit_texts digits)
    ≡ Some (on (Digits (value_after number digits)) board turn held)
digits-read board turn held [] number are within = refl
digits-read board turn held (digit ∷ digits) number are within =
    by digit are.0 (omega (arith, value-grows digits (10 * number + digit), within))
    ∙ digits-read board turn held digits (10 * number + digit) are.1 within
  where
    more : (digit : ℕ) → number < 1000 → one_more number digit ≡ Some (Digits (10 * number + digit), Pass)
    more digit small = let test : nat_lt number 1000 ≡ true = grind (arith, nat_tests) in
        ap (λ b. cond b (Some (Digits (10 * number + digit), Pass)) None) test

    by : (digit : ℕ) → digit ≤ 9 → number < 1000
        → run grow (on (Digits number) board turn held) ((48 + digit) ∷ digit_texts digits)
        ≡ run grow (on (Digits (10 * number + digit)) board turn held) (digit_texts digits)
    by zero d small = by-byte (on (Digits number) board turn held) 48 Zero (Digits (10 * number + 0)) Pass
        (digit_texts digits) refl (more 0 small)
    by (suc digit) d small =
        by-byte (on (Digits number) board turn held) (48 + suc digit) (Digit (suc digit))
        (Digits (10 * number + suc digit)) Pass (digit_texts digits) (sign-digit (suc digit) (omega arith) d)
        (more (suc digit) small)

-- the last place, and what is read there
pub record NumberRead (place : SfenState) (board : ShogiBoard) (turn : Side) (held : List HeldItem) (number : ℕ)
    (text : List ℕ) : Type 0 where
  pub last : SfenState
  pub read : run grow (on place board turn held) text ≡ Some (on last board turn held)
  pub ends : number_at_end last ≡ Some number

number-read : (place : SfenState) (board : ShogiBoard) (turn : Side) (held : List HeldItem) (number : ℕ) (text : List ℕ)
    → IsHandEnd place → IsNumberText number text → NumberRead place board turn held number text
number-read place board turn held number text end (inl none) =
    record { last = place; read = ap (run grow (on place board turn held)) none.0; ends = end.0 ∙ ap Some (sym none.1) }
number-read place board turn held number text end (inr w) =
    let d = w.1 in
    record {
      last = Digits (value_after d.first d.more);
      read =
          ap (run grow (on place board turn held)) w.2
          ∙ by-byte (on place board turn held) 32 Blank Number Pass w.0 refl end.1
          ∙ ap (run grow (on Number board turn held)) d.text_is
          ∙ by-byte (on Number board turn held) (48 + d.first) (Digit d.first) (Digits d.first) Pass
          (digit_texts d.more) (sign-digit d.first d.not_zero d.is_digit) refl
          ∙ digits-read board turn held d.more d.first d.are_digits (subst (λ n. n ≤ 9999) d.value d.within);
      ends = ap Some (sym d.value);
    }

pub record Complete (text : List ℕ) (form : SfenForm) : Type 0 where
  pub last : Stage
  pub read : run grow start text ≡ Some last
  pub ends : number_at_end last.place ≡ Some form.number
  pub form_is : form_of last form.number ≡ form

pub complete : (text : List ℕ) (form : SfenForm) → HasSfenForm text form → Complete text form
complete text form h =
    let ranks = ranks-fill form.board First [] 8 1 map.empty h.board_text (omega arith) (omega arith) h.board_is.0
    (keeps-empty form.board) (fresh-nothing 1 9) in
    let same : form.board ≡ ranks.board_after =
    keeps-whole form.board ranks.board_after ranks.keeps h.board_is.1 ranks.fresh.on_squares in
    let hand = hand-read ranks.board_after form.turn form.held h.hand_text h.hand_is in
    let number = number-read hand.place ranks.board_after form.turn form.held form.number h.number_text hand.ends
    h.number_is in
    record {
      last = on number.last ranks.board_after form.turn form.held;
      read =
          ap (run grow start) h.text_is
          ∙ run-after grow h.board_text start (on (Rank 9 0) ranks.board_after First [])
          (32 ∷ turn_letter form.turn ∷ 32 ∷ (h.hand_text ++ h.number_text)) ranks.read
          ∙ turn-read ranks.board_after First form.turn [] (h.hand_text ++ h.number_text)
          ∙ run-after grow h.hand_text (on Hands ranks.board_after form.turn [])
          (on hand.place ranks.board_after form.turn form.held) h.number_text hand.read
          ∙ number.read;
      ends = number.ends;
      form_is = λ i. record { board = sym same i; turn = form.turn; held = form.held; number = form.number };
    }

-- ---- From every place a text can go on to its end

pub record Closes (s : Stage) : Type 0 where
  pub rest : List ℕ
  pub last : Stage
  pub number : ℕ
  pub read : run grow s rest ≡ Some last
  pub ends : number_at_end last.place ≡ Some number

ends-here : (s : Stage) (number : ℕ) → number_at_end s.place ≡ Some number → Closes s
ends-here s number e = record { rest = []; last = s; number = number; read = refl; ends = e }

-- a byte leads to where it can go on
over : (s t : Stage) (c : ℕ) → ((text : List ℕ) → run grow s (c ∷ text) ≡ run grow t text) → Closes t → Closes s
over s t c e h =
    record { rest = c ∷ h.rest; last = h.last; number = h.number; read = e h.rest ∙ h.read; ends = h.ends }

hands-close : (board : ShogiBoard) (turn : Side) (held : List HeldItem) → Closes (on Hands board turn held)
hands-close board turn held = over _ (on NoHands board turn held) 45 (λ _. refl) (ends-here _ 1 refl)

after_turn-close : (board : ShogiBoard) (turn : Side) (held : List HeldItem) → Closes (on AfterTurn board turn held)
after_turn-close board turn held = over _ _ 32 (λ _. refl) (hands-close board turn held)

turn-close : (board : ShogiBoard) (turn : Side) (held : List HeldItem) → Closes (on Turn board turn held)
turn-close board turn held = over _ _ 98 (λ _. refl) (after_turn-close board First held)

module _ (turn : Side) (held : List HeldItem) where
  ranks-close : (board : ShogiBoard) (more rank : ℕ) → rank + more ≡ 9 → Closes (on (Rank rank 0) board turn held)
  ranks-close board zero rank e =
      let last : rank ≡ 9 = omega (arith, e) in
      subst (λ r. Closes (on (Rank r 0) board turn held)) (sym last)
      (over _ _ 32 (λ _. refl) (turn-close board turn held))
  ranks-close board (suc more) rank e =
      over _ (on (Rank (suc rank) 9) board turn held) 47
      (λ text. slash-read rank board turn held text (omega (arith, e)))
      (over _ _ 57 (λ _. refl) (ranks-close board more (suc rank) (omega (arith, e))))

  rank-close : (board : ShogiBoard) (rank left : ℕ) → rank ≤ 9 → left ≤ 9 → Closes (on (Rank rank left) board turn held)
  rank-close board rank zero high most = ranks-close board (9 - rank) rank (omega arith)
  rank-close board rank (suc left) high most =
      let none : suc left - suc left ≡ 0 = omega arith in
      over _ (on (Rank rank 0) board turn held) (48 + suc left)
      (λ text.
      gap-step rank (suc left) (suc left) board turn held text (omega arith) most (omega arith)
      ∙ ap (λ l. run grow (on (Rank rank l) board turn held) text) none)
      (ranks-close board (9 - rank) rank (omega arith))

  promoted-close : (board : ShogiBoard) (rank left : ℕ) → (1 ≤ rank) × (rank ≤ 9) → (1 ≤ left) × (left ≤ 9)
      → Closes (on (Promoted rank left) board turn held)
  promoted-close board rank left r l =
      let piece : SPiece = record { side = First; role = role.PromotedPawn } in
      over _ _ 80
      (λ text. by-byte (on (Promoted rank left) board turn held) 80 (Piece First kind.Pawn) (Rank rank (left - 1))
      (Put (shogi_number left rank) piece) text refl (placed-is rank left piece l r))
      (rank-close (map.insert board (shogi_number left rank) piece) rank (left - 1) r.1 (omega (arith, l.1)))

-- a place of a text can go on to its end
pub closes : (s : Stage) → IsSane s.place → Closes s
closes s sane = by s.place s.board s.turn s.held sane
  where
    by : (place : SfenState) (board : ShogiBoard) (turn : Side) (held : List HeldItem) → IsSane place
        → Closes (on place board turn held)
    by (Rank rank left) board turn held h = rank-close turn held board rank left h.0.1 h.1
    by (Promoted rank left) board turn held h = promoted-close turn held board rank left h.0 h.1
    by Turn board turn held h = turn-close board turn held
    by AfterTurn board turn held h = after_turn-close board turn held
    by Hands board turn held h = hands-close board turn held
    by Held board turn held h = ends-here _ 1 refl
    by AfterZero board turn held h = over _ (on (TwoDigits 1) board turn held) 49 (λ _. refl)
        (over _ _ 80 (λ _. refl) (ends-here _ 1 refl))
    by (OneDigit digit) board turn held h = over _ _ 80 (λ _. refl) (ends-here _ 1 refl)
    by (TwoDigits count) board turn held h = over _ _ 80 (λ _. refl) (ends-here _ 1 refl)
    by NoHands board turn held h = ends-here _ 1 refl
    by Number board turn held h = over _ (on (Digits 1) board turn held) 49 (λ _. refl) (ends-here _ 1 refl)
    by (Digits number) board turn held h = ends-here _ number refl
