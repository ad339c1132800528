-- What is read to its end has a form: each byte adds to what is left of the text.
use Rattle.std.proofs.Common.{◌≡◌, ℕ, ◌-◌, ◌≤◌, Bool, true, false, cond, Some, None, refl, arith, ◌⊎◌, inl, inr, zero}
use Rattle.std.proofs.Common.{suc, ◌+◌, ◌*◌, List, [], ◌∷◌, ◌++◌, sym, ap, ◌∙◌, subst, append_assoc, append-nil, nat_eq}
use Rattle.std.proofs.Common.{nat_le}
use Rattle.std.proofs.Common.{nat_lt, ◌&&◌, Option}
use Rattle.std.proofs.lemmas.Bool.Decides.{nat_tests}
use Rattle.squares.specs.declared.shogi.piece.SPiece.{SPiece}
use Rattle.squares.specs.ShogiGeometry.{shogi_number}
use Rattle.squares.specs.internal.ShogiGeometry.{OnShogiBoard}
use Rattle.sfen.specs.declared.places.SfenState.{SfenState}
use Rattle.sfen.specs.declared.places.SfenState.TheVariants.{Rank, Promoted, Turn, AfterTurn, Hands, Held, AfterZero}
use Rattle.sfen.specs.declared.places.SfenState.TheVariants.{OneDigit, TwoDigits, NoHands, Number, Digits}
use Rattle.sfen.specs.declared.places.Action.{Action}
use Rattle.sfen.specs.declared.places.Action.TheVariants.{Put, Pass, Move, Hold}
use Rattle.sfen.specs.internal.Places.{Step, on_board, put_at, placed, IsSane, in_rank, promoted, hold, at_item}
use Rattle.sfen.specs.internal.Places.{one_more, next}
use Rattle.sfen.specs.internal.Places.{number_at_end}
use Rattle.squares.specs.declared.sides.Side.{Side}
use Rattle.squares.specs.ShogiBoard.{ShogiBoard}
use Rattle.sfen.specs.Letters.{turn_letter, letter, piece_text}
use Rattle.sfen.specs.SfenGrammar.{cells_from}
use Rattle.sfen.specs.internal.SfenGrammar.{RankItem, AreRankItems, IsRankText, AreRanks, IsOnSquares, HeldItem}
use Rattle.sfen.specs.internal.SfenGrammar.{AreHeldTexts, IsHandText, IsNumberText, IsDecimalText, AreDigits}
use Rattle.sfen.specs.internal.SfenGrammar.{digit_texts}
use Rattle.sfen.specs.internal.SfenGrammar.{value_after, SfenForm, HasSfenForm, Gap, Stands, IsCountText, unwritten}
use Rattle.sfen.specs.internal.SfenGrammar.{one_digit}
use Rattle.sfen.specs.internal.SfenGrammar.{two_digits}
use Rattle.sfen.proofs.BoardLemmas.{Keeps, Fresh, fresh-on, fresh-nothing, fresh-put, keeps-on, keeps-unput, stands-put}
use Rattle.sfen.proofs.BoardLemmas.{none-gap, keeps-itself, cells-gap, cells-piece}
use Rattle.sfen.proofs.Stages.{Stage, start, on, moved, moved_by, grow, form_of}
use Rattle.std.specs.Ordering.{nat_cmp}
use Rattle.std.specs.FinMap as map
use Rattle.squares.specs.declared.sides.Side.TheVariants.{First, Second}
use Rattle.squares.specs.declared.shogi.piece.Kind.{Kind}
use Rattle.squares.specs.declared.shogi.piece.Kind.TheVariants as kind
use Rattle.squares.specs.declared.shogi.piece.HandKind.{HandKind}
use Rattle.squares.specs.declared.shogi.piece.Role.{Role}
use Rattle.squares.specs.ShogiPieces.{demoted, hand_kind, promotes_to, on_board as kind_on_board}
use Rattle.sfen.specs.declared.signs.Sign.{Sign}
use Rattle.sfen.specs.declared.signs.Sign.TheVariants.{Zero, Digit, Piece, White, Plus, Minus, Slash, Blank}
use Rattle.sfen.specs.internal.Signs.{sign_of}
use Rattle.sfen.specs.internal.Reading.{if_some, run}
use Rattle.sfen.proofs.SignLemmas.{IsSign, sign-is}

-- what holds of a step, if there is one
abbrev pub IfStep : (SfenState → Action → Type 0) → Step → Type 0
IfStep P None = Unit {0}
IfStep P (Some step) = P step.0 step.1

pub if-step : (P : SfenState → Action → Type 0) (b : Bool) (place : SfenState) (action : Action) → (b ≡ true → P place action)
    → IfStep P (cond b (Some (place, action)) None)
if-step P true place action h = h refl
if-step P false place action h = tt

-- a piece is put on a square of the board
pub if-placed : (P : SfenState → Action → Type 0) (rank left : ℕ) (piece : SPiece)
    → (1 ≤ left → left ≤ 9 → P (Rank rank (left - 1)) (Put (shogi_number left rank) piece))
    → IfStep P (placed rank left piece)
if-placed P rank left piece h = by (on_board left rank) (λ e. h (grind (arith, nat_tests)) (grind (arith, nat_tests)))
  where
    by : (b : Bool) → (b ≡ true → P (Rank rank (left - 1)) (Put (shogi_number left rank) piece))
        → IfStep P (put_at rank left piece (cond b (Some (shogi_number left rank)) None))
    by true h = h refl
    by false h = tt

abbrev pub Leads : SfenState → Action → Type 0
Leads place action = IsSane place

-- ---- What is left of a text from each place on, where the whole text has a form

-- the rest of a rank, with so many of its files left, and so many ranks more
abbrev pub RanksFrom : ShogiBoard → ℕ → ℕ → ℕ → List ℕ → Type 0
RanksFrom board rank left zero text = IsRankText (cells_from board rank left) text
RanksFrom board rank left (suc more) text = (first : List ℕ) × (rest : List ℕ) × (text ≡ first ++ 47 ∷ rest)
    × IsRankText (cells_from board rank left) first × AreRanks board (suc rank) more rest

-- no pieces more in the hands, and the number
abbrev pub NumberRest : List HeldItem → List ℕ → SfenForm → Type 0
NumberRest held text form = (form.held ≡ held) × IsNumberText form.number text

-- pieces in the hands, after those that are listed
pub record ItemRest (held : List HeldItem) (text : List ℕ) (form : SfenForm) : Type 0 where
  pub item : HeldItem
  pub items : List HeldItem
  pub first : List ℕ
  pub rest : List ℕ
  pub text_is : text ≡ first ++ rest
  pub are : AreHeldTexts (item ∷ items) first
  pub held_is : form.held ≡ held ++ item ∷ items
  pub number : IsNumberText form.number rest

abbrev pub HeldRest : List HeldItem → List ℕ → SfenForm → Type 0
HeldRest held text form = NumberRest held text form ⊎ ItemRest held text form

abbrev pub HandsRest : List HeldItem → List ℕ → SfenForm → Type 0
HandsRest held text form = ((rest : List ℕ) × (text ≡ 45 ∷ rest) × NumberRest held rest form) ⊎ ItemRest held text form

abbrev pub TurnRest : List HeldItem → List ℕ → SfenForm → Type 0
TurnRest held text form = (tail : List ℕ) × (text ≡ turn_letter form.turn ∷ 32 ∷ tail) × HandsRest held tail form

-- the rest of a board from there, and what follows it
pub record RankRest (rank left : ℕ) (board : ShogiBoard) (held : List HeldItem) (text : List ℕ) (form : SfenForm) : Type
    0 where
  pub more : ℕ
  pub board_text : List ℕ
  pub tail : List ℕ
  pub count : rank + more ≡ 9
  pub text_is : text ≡ board_text ++ 32 ∷ tail
  pub are : RanksFrom form.board rank left more board_text
  pub turn : TurnRest held tail form
  pub keeps : Keeps rank left form.board board

-- what is left after the turn
abbrev pub LateRest : SfenState → List HeldItem → List ℕ → SfenForm → Type 0
LateRest AfterTurn held text form = (tail : List ℕ) × (text ≡ 32 ∷ tail) × HandsRest held tail form
LateRest Hands held text form = HandsRest held text form
LateRest Held held text form = HeldRest held text form
LateRest AfterZero held text form = ItemRest held (48 ∷ text) form
LateRest (OneDigit digit) held text form = ItemRest held ((48 + digit) ∷ text) form
LateRest (TwoDigits count) held text form = (tens ones : ℕ) → tens ≤ 9 → ones ≤ 9 → count ≡ 10 * tens + ones
    → ItemRest held ((48 + tens) ∷ (48 + ones) ∷ text) form
LateRest NoHands held text form = NumberRest held text form
LateRest Number held text form = (form.held ≡ held) × IsDecimalText form.number text
LateRest (Digits number) held text form = (form.held ≡ held)
    × ((digits : List ℕ) × AreDigits digits × (form.number ≡ value_after number digits) × (form.number ≤ 9999)
    × (text ≡ digit_texts digits))
LateRest _ held text form = ⊥

abbrev pub RestAt : SfenState → ShogiBoard → Side → List HeldItem → List ℕ → SfenForm → Type 0
RestAt (Rank rank left) board turn held text form = RankRest rank left board held text form
RestAt (Promoted rank left) board turn held text form = RankRest rank left board held (43 ∷ text) form
RestAt Turn board turn held text form = (form.board ≡ board) × TurnRest held text form
RestAt place board turn held text form = (form.board ≡ board) × (form.turn ≡ turn) × LateRest place held text form

abbrev pub Rest : Stage → List ℕ → SfenForm → Type 0
Rest s text form = RestAt s.place s.board s.turn s.held text form

-- the text of the hands, and that of the number
abbrev HandsParts : List ℕ → SfenForm → Type 0
HandsParts text form = (hand : List ℕ) × (number : List ℕ) × (text ≡ hand ++ number) × IsHandText form.held hand
    × IsNumberText form.number number

hands-of : (text : List ℕ) (form : SfenForm) → HandsRest [] text form → HandsParts text form
hands-of text form (inl w) = (45 ∷ [], w.0, w.1, subst (λ h. IsHandText h (45 ∷ [])) (sym w.2.0) refl, w.2.1)
hands-of text form (inr w) = (
  w.first,
  w.rest,
  w.text_is,
  subst (λ h. IsHandText h w.first) (sym w.held_is) w.are,
  w.number,
)

-- the whole text
pub form-of : (text : List ℕ) (form : SfenForm) → Rest start text form → IsOnSquares form.board → HasSfenForm text form
form-of text form h on =
    let eight : h.more ≡ 8 = omega (arith, h.count) in
    let parts = hands-of h.turn.0 form h.turn.2 in
    record {
      board_text = h.board_text;
      hand_text = parts.0;
      number_text = parts.1;
      board_is = (subst (λ m. RanksFrom form.board 1 9 m h.board_text) eight h.are, on);
      hand_is = parts.3;
      number_is = parts.4;
      text_is = h.text_is ∙ ap (λ t. h.board_text ++ 32 ∷ t)
          (h.turn.1 ∙ ap (λ t. turn_letter form.turn ∷ 32 ∷ t) parts.2);
    }

-- ---- What is read to its end has a form: each byte adds to what is left of the text

-- the squares that are not reached are empty
abbrev pub FreshAt : SfenState → ShogiBoard → Type 0
FreshAt (Rank rank left) board = Fresh rank left board
FreshAt (Promoted rank left) board = Fresh rank left board
FreshAt _ board = IsOnSquares board

-- pieces as they are written
demoted-text : (side : Side) (kind : Kind)
    → piece_text (record { side = side; role = demoted kind }) ≡ letter side kind ∷ []
demoted-text side kind.King = refl
demoted-text side _ = refl

-- a promoted piece is written by a `+` and the letter of its kind
abbrev PromotedText : Side → Kind → Option Role → Type 0
PromotedText side own None = Unit {0}
PromotedText side own (Some new) = piece_text (record { side = side; role = new }) ≡ 43 ∷ letter side own ∷ []

promoted-text : (side : Side) (own : Kind) → PromotedText side own (promotes_to own)
promoted-text side kind.King = tt
promoted-text side kind.Gold = tt
promoted-text side _ = refl

-- what a hand takes of a kind is of that kind on the board
abbrev IsOfKind : Kind → Option HandKind → Type 0
IsOfKind own None = Unit {0}
IsOfKind own (Some held) = kind_on_board held ≡ own

on-board-kind : (own : Kind) → IsOfKind own (hand_kind own)
on-board-kind kind.King = tt
on-board-kind kind.Rook = refl
on-board-kind _ = refl

-- an item more of a rank
rank_item-back : (rank left after : ℕ) (board next_board : ShogiBoard) (held : List HeldItem) (text : List ℕ)
    (form : SfenForm) (item : RankItem) (written : List ℕ) → ((items : List RankItem) (first : List ℕ)
    → AreRankItems items (cells_from form.board rank after) first
    → AreRankItems (item ∷ items) (cells_from form.board rank left) (written ++ first))
    → Keeps rank left form.board board → RankRest rank after next_board held text form
    → RankRest rank left board held (written ++ text) form
rank_item-back rank left after board next_board held text form item written are keeps h =
    record {
      more = h.more;
      board_text = written ++ h.board_text;
      tail = h.tail;
      count = h.count;
      text_is = ap (λ t. written ++ t) h.text_is ∙ sym (append_assoc written h.board_text (32 ∷ h.tail));
      are = longer h.more h.board_text h.are;
      turn = h.turn;
      keeps = keeps;
    }
  where
    longer : (more : ℕ) (ranks : List ℕ) → RanksFrom form.board rank after more ranks
        → RanksFrom form.board rank left more (written ++ ranks)
    longer zero ranks w = (item ∷ w.0, are w.0 ranks w.1)
    longer (suc more) ranks w = (
      written ++ w.0,
      w.1,
      ap (λ t. written ++ t) w.2 ∙ sym (append_assoc written w.0 (47 ∷ w.1)),
      (item ∷ w.3.0, are w.3.0 w.0 w.3.1),
      w.4,
    )

module _ (rank left : ℕ) (board : ShogiBoard) (held : List HeldItem) (text : List ℕ) (form : SfenForm)
    (r : (1 ≤ rank) × (rank ≤ 9)) (most : left ≤ 9) where
  gap-back : (n : ℕ) → 1 ≤ n → n ≤ left → Fresh rank left board → RankRest rank (left - n) board held text form
      → RankRest rank left board held ((48 + n) ∷ text) form
  gap-back n some within fresh h =
      rank_item-back rank left (left - n) board board held text form (Gap n) ((48 + n) ∷ [])
      (λ items first are. (
        cells_from form.board rank (left - n),
        first,
        (some, omega (arith, within, most)),
        cells-gap form.board rank n left (left - n) (omega (arith, within))
            (none-gap rank left n board within form.board h.keeps fresh r.0 r.1 most),
        refl,
        are,
      ))
      (keeps-on rank (left - n) rank left board form.board h.keeps (omega arith)) h

  piece-back : (piece : SPiece) (written : List ℕ) → piece_text piece ≡ written → 1 ≤ left
      → RankRest rank (left - 1) (map.insert board (shogi_number left rank) piece) held text form
      → RankRest rank left board held (written ++ text) form
  piece-back piece written is some h =
      let on : OnShogiBoard left rank = ((some, most), r) in
      rank_item-back rank left (left - 1) board (map.insert board (shogi_number left rank) piece) held text form
      (Stands piece) written
      (λ items first are. (
        cells_from form.board rank (left - 1),
        first,
        tt,
        cells-piece form.board rank left piece some (stands-put rank left piece board on form.board h.keeps),
        ap (λ t. t ++ first) (sym is),
        are,
      ))
      (keeps-unput rank left piece board on form.board h.keeps) h

whole-ranks : (board : ShogiBoard) (rank more : ℕ) (text : List ℕ) → RanksFrom board rank 9 more text
    → AreRanks board rank more text
whole-ranks board rank zero text h = h
whole-ranks board rank (suc more) text h = h

slash-back : (rank : ℕ) (board : ShogiBoard) (held : List HeldItem) (text : List ℕ) (form : SfenForm)
    → RankRest (rank + 1) 9 board held text form → RankRest rank 0 board held (47 ∷ text) form
slash-back rank board held text form h =
    let next : rank + 1 ≡ suc rank = omega arith in
    let others = whole-ranks form.board (rank + 1) h.more h.board_text h.are in
    record {
      more = suc h.more;
      board_text = 47 ∷ h.board_text;
      tail = h.tail;
      count = omega (arith, h.count);
      text_is = ap (λ t. 47 ∷ t) h.text_is;
      are = (
        [],
        h.board_text,
        refl,
        ([], (refl, refl)),
        subst (λ r. AreRanks form.board r h.more h.board_text) next
            others,
      );
      turn = h.turn;
      keeps = keeps-on (rank + 1) 9 rank 0 board form.board h.keeps (omega arith);
    }

board-back : (board : ShogiBoard) (held : List HeldItem) (text : List ℕ) (form : SfenForm) → form.board ≡ board
    → TurnRest held text form → RankRest 9 0 board held (32 ∷ text) form
board-back board held text form same turn =
    record {
      more = 0;
      board_text = [];
      tail = text;
      count = refl;
      text_is = refl;
      are = ([], (refl, refl));
      turn = turn;
      keeps = keeps-itself 9 0 form.board board same;
    }

-- From each place.
module _ (board : ShogiBoard) (turn : Side) (held : List HeldItem) (text : List ℕ) (form : SfenForm) where
  -- A step is good: what is left after it, and its byte, are what was left before it, the squares ahead stay empty, and
  -- the numbers of its place keep to their bounds.
  abbrev Good : SfenState → ℕ → SfenState → Action → Type 0
  Good place c to action =
      (Rest (moved to action (on place board turn held)) text form → Rest (on place board turn held) (c ∷ text) form)
      × (FreshAt to (moved to action (on place board turn held)).board × IsSane to)

  rank-back : (rank left : ℕ) (sign : Sign) (c : ℕ) → (1 ≤ rank) × (rank ≤ 9) → left ≤ 9 → Fresh rank left board
      → IsSign sign c → IfStep (Good (Rank rank left) c) (in_rank rank left sign)
  rank-back rank left (Digit n) c r most fresh is =
      if-step (Good (Rank rank left) c) (nat_le n left) (Rank rank (left - n)) Pass
      (λ e. let within : n ≤ left = grind (arith, nat_tests) in (
        (λ h. subst (λ b. RankRest rank left board held (b ∷ text) form) (sym is.0)
            (gap-back rank left board held text form r most n is.1.0 within fresh h)),
        (fresh-on rank left rank (left - n) board fresh (omega arith), (r, omega arith)),
      ))
  rank-back rank left (Piece side own) c r most fresh is =
      let piece : SPiece = record { side = side; role = demoted own } in
      if-placed (Good (Rank rank left) c) rank left piece
      (λ some _. (
        (λ h. subst (λ b. RankRest rank left board held (b ∷ text) form) (sym is)
            (piece-back rank left board held text form r most piece (letter side own ∷ []) (demoted-text side own) some
            h)),
        (fresh-put rank left piece board ((some, most), r) fresh, (r, omega arith)),
      ))
  rank-back rank left Plus c r most fresh is =
      if-step (Good (Rank rank left) c) (nat_lt 0 left) (Promoted rank left) Pass
      (λ e. (
        (λ h. subst (λ b. RankRest rank left board held (b ∷ text) form) (sym is) h),
        (fresh, (r, (grind (arith, nat_tests), most))),
      ))
  rank-back rank left Slash c r most fresh is =
      if-step (Good (Rank rank left) c) (nat_eq left 0 && nat_lt rank 9) (Rank (rank + 1) 9) Pass
      (λ e. let none : left ≡ 0 = grind (arith, nat_tests) in (
        (λ h. subst (λ b. RankRest rank left board held (b ∷ text) form) (sym is)
            (subst (λ l. RankRest rank l board held (47 ∷ text) form) (sym none)
            (slash-back rank board held text form h))),
        (
          fresh-on rank left (rank + 1) 9 board fresh (omega arith),
          ((omega arith, grind (arith, nat_tests)), omega arith),
        ),
      ))
  rank-back rank left Blank c r most fresh is =
      if-step (Good (Rank rank left) c) (nat_eq left 0 && nat_eq rank 9) Turn Pass
      (λ e.
      let none : left ≡ 0 = grind (arith, nat_tests) in
      let last : rank ≡ 9 = grind (arith, nat_tests) in (
        (λ h. subst (λ b. RankRest rank left board held (b ∷ text) form) (sym is)
            (subst (λ l. RankRest rank l board held (32 ∷ text) form) (sym none)
            (subst (λ k. RankRest k 0 board held (32 ∷ text) form) (sym last)
            (board-back board held text form h.0 h.1)))),
        (fresh.on_squares, tt),
      ))
  rank-back rank left _ c r most fresh is = tt

  promoted-back : (rank left : ℕ) (side : Side) (own : Kind) (c : ℕ) → (1 ≤ rank) × (rank ≤ 9) → left ≤ 9
      → Fresh rank left board → c ≡ letter side own → (o : Option Role) → PromotedText side own o
      → IfStep (Good (Promoted rank left) c) (promoted rank left side o)
  promoted-back rank left side own c r most fresh is None written = tt
  promoted-back rank left side own c r most fresh is (Some new) written =
      let piece : SPiece = record { side = side; role = new } in
      if-placed (Good (Promoted rank left) c) rank left piece
      (λ some _. (
        (λ h. subst (λ b. RankRest rank left board held (43 ∷ b ∷ text) form) (sym is)
            (piece-back rank left board held text form r most piece (43 ∷ letter side own ∷ []) written some h)),
        (fresh-put rank left piece board ((some, most), r) fresh, (r, omega arith)),
      ))

  turn-back : (side : Side) (c : ℕ) → c ≡ turn_letter side → Rest (on AfterTurn board side held) text form
      → Rest (on Turn board turn held) (c ∷ text) form
  turn-back side c is h = let letter_is : c ≡ turn_letter form.turn = is ∙ ap turn_letter (sym h.1) in
      (h.0, (h.2.0, λ i. letter_is i ∷ h.2.1 i, h.2.2))

  -- a piece after its count, before others
  put-first : (side : Side) (own : Kind) (kind : HandKind) (count : ℕ) (digits : List ℕ) → IsCountText count digits
      → kind_on_board kind ≡ own → (items : List HeldItem) (first rest : List ℕ) → text ≡ first ++ rest
      → AreHeldTexts items first
      → form.held ≡ (held ++ record { side = side; kind = kind; count = count } ∷ []) ++ items
      → IsNumberText form.number rest → ItemRest held (digits ++ letter side own ∷ text) form
  put-first side own kind count digits is same items first rest text_is are held_is number =
      let here = digits ++ letter side own ∷ [] in
      record {
        item = record { side = side; kind = kind; count = count };
        items = items;
        first = here ++ first;
        rest = rest;
        text_is = ap (λ t. digits ++ letter side own ∷ t) text_is
            ∙ sym (append_assoc digits (letter side own ∷ []) (first ++ rest)) ∙ sym (append_assoc here first rest);
        are = (here, first, refl, (digits, is, ap (λ k. digits ++ letter side k ∷ []) (sym same)), are);
        held_is = held_is ∙ append_assoc held (record { side = side; kind = kind; count = count } ∷ []) items;
        number = number;
      }

  item-back : (side : Side) (own : Kind) (kind : HandKind) (count : ℕ) (digits : List ℕ) → IsCountText count digits
      → kind_on_board kind ≡ own → HeldRest (held ++ record { side = side; kind = kind; count = count } ∷ []) text form
      → ItemRest held (digits ++ letter side own ∷ text) form
  item-back side own kind count digits is same (inl number) =
      put-first side own kind count digits is same [] [] text refl refl (number.0 ∙ sym (append-nil _)) number.1
  item-back side own kind count digits is same (inr h) =
      put-first side own kind count digits is same (h.item ∷ h.items) h.first h.rest h.text_is h.are h.held_is h.number

  -- a step after the turn
  late : {A B : Type 0} → (A → B)
      → (form.board ≡ board) × (form.turn ≡ turn) × A → (form.board ≡ board) × (form.turn ≡ turn) × B
  late f h = (h.0, h.1, f h.2)

  hold-back : (P : SfenState → Action → Type 0) (side : Side) (own : Kind) (count : ℕ)
      → ((kind : HandKind) → kind_on_board kind ≡ own → P Held (Hold side kind count)) → (o : Option HandKind)
      → IsOfKind own o → IfStep P (hold count side o)
  hold-back P side own count h None same = tt
  hold-back P side own count h (Some kind) same = h kind same

  -- the first byte of pieces
  first-back : (place : SfenState) (c : ℕ) → IsOnSquares board
      → ((form.board ≡ board) × (form.turn ≡ turn) × ItemRest held (c ∷ text) form
      → Rest (on place board turn held) (c ∷ text) form) → (sign : Sign) → IsSign sign c
      → IfStep (Good place c) (at_item sign)
  first-back place c fresh into Zero is =
      ((λ h. into (late (subst (λ b. ItemRest held (b ∷ text) form) (sym is)) h)), (fresh, tt))
  first-back place c fresh into (Digit n) is =
      ((λ h. into (late (subst (λ b. ItemRest held (b ∷ text) form) (sym is.0)) h)), (fresh, is.1))
  first-back place c fresh into (Piece side own) is =
      hold-back (Good place c) side own 1
      (λ kind same. (
        (λ h. into (late
            (λ w. subst (λ b. ItemRest held (b ∷ text) form) (sym is)
            (item-back side own kind 1 [] (unwritten refl refl) same w)) h)),
        (fresh, tt),
      ))
      (hand_kind own) (on-board-kind own)
  first-back place c fresh into _ is = tt

  more-back : (number digit c : ℕ) → c ≡ 48 + digit → digit ≤ 9 → 1 ≤ number → IsOnSquares board
      → IfStep (Good (Digits number) c) (one_more number digit)
  more-back number digit c is below some fresh =
      if-step (Good (Digits number) c) (nat_lt number 1000) (Digits (10 * number + digit)) Pass
      (λ e. (
        late (λ h. (h.0, (digit ∷ h.1.0, (below, h.1.1), h.1.2, h.1.3, λ i. is i ∷ h.1.4 i))),
        (fresh, (omega arith, grind (arith, nat_tests))),
      ))

  back : (place : SfenState) (sign : Sign) (c : ℕ) → IsSane place → FreshAt place board → IsSign sign c
      → IfStep (Good place c) (next place sign)
  back (Rank rank left) sign c sane fresh is = rank-back rank left sign c sane.0 sane.1 fresh is
  back (Promoted rank left) (Piece side own) c sane fresh is =
      promoted-back rank left side own c sane.0 sane.1.1 fresh is (promotes_to own) (promoted-text side own)
  back (Promoted rank left) _ c sane fresh is = tt
  back Turn (Piece Second kind.Bishop) c sane fresh is = (turn-back First c is, (fresh, tt))
  back Turn White c sane fresh is = (turn-back Second c is, (fresh, tt))
  back Turn _ c sane fresh is = tt
  back AfterTurn Blank c sane fresh is = (late (λ h. (text, λ i. is i ∷ text, h)), (fresh, tt))
  back AfterTurn _ c sane fresh is = tt
  back Hands Minus c sane fresh is = (late (λ h. inl (text, λ i. is i ∷ text, h)), (fresh, tt))
  back Hands sign c sane fresh is = first-back Hands c fresh (late (λ w. inr w)) sign is
  back Held Blank c sane fresh is = (late (λ h. inl (h.0, inr (text, h.1, λ i. is i ∷ text))), (fresh, tt))
  back Held sign c sane fresh is = first-back Held c fresh (late (λ w. inr w)) sign is
  back AfterZero (Digit n) c sane fresh is = (
    late (λ h. subst (λ b. ItemRest held (48 ∷ b ∷ text) form) (sym is.0) (h 0 n (omega arith) is.1.1 (omega arith))),
    (fresh, (is.1.0, omega (arith, is.1.1))),
  )
  back AfterZero _ c sane fresh is = tt
  back (OneDigit digit) Zero c sane fresh is = (
    late (λ h. subst (λ b. ItemRest held ((48 + digit) ∷ b ∷ text) form) (sym is)
        (h digit 0 sane.1 (omega arith) (omega arith))),
    (fresh, (omega (arith, sane.0), omega (arith, sane.1))),
  )
  back (OneDigit digit) (Digit n) c sane fresh is = (
    late (λ h. subst (λ b. ItemRest held ((48 + digit) ∷ b ∷ text) form) (sym is.0) (h digit n sane.1 is.1.1 refl)),
    (fresh, (omega (arith, sane.0), omega (arith, sane.1, is.1.1))),
  )
  back (OneDigit digit) (Piece side own) c sane fresh is =
      hold-back (Good (OneDigit digit) c) side own digit
      (λ kind same. (
        late (λ h. subst (λ b. ItemRest held ((48 + digit) ∷ b ∷ text) form) (sym is)
            (item-back side own kind digit ((48 + digit) ∷ []) (one_digit sane.0 sane.1 refl) same h)),
        (fresh, tt),
      ))
      (hand_kind own) (on-board-kind own)
  back (OneDigit digit) _ c sane fresh is = tt
  back (TwoDigits count) (Piece side own) c sane fresh is =
      hold-back (Good (TwoDigits count) c) side own count
      (λ kind same. (
        late (λ h tens ones t o e. subst (λ b. ItemRest held ((48 + tens) ∷ (48 + ones) ∷ b ∷ text) form) (sym is)
            (item-back side own kind count ((48 + tens) ∷ (48 + ones) ∷ []) (two_digits tens ones t o e sane.0 refl)
            same h)),
        (fresh, tt),
      ))
      (hand_kind own) (on-board-kind own)
  back (TwoDigits count) _ c sane fresh is = tt
  back NoHands Blank c sane fresh is = (late (λ h. (h.0, inr (text, h.1, λ i. is i ∷ text))), (fresh, tt))
  back NoHands _ c sane fresh is = tt
  back Number (Digit n) c sane fresh is = (
    late (λ h. (
      h.0,
      record {
        first = n;
        more = h.1.0;
        not_zero = is.1.0;
        is_digit = is.1.1;
        are_digits = h.1.1;
        value = h.1.2;
        within = h.1.3;
        text_is = λ i. is.0 i ∷ h.1.4 i;
      },
    )),
    (fresh, (is.1.0, omega (arith, is.1.1))),
  )
  back Number _ c sane fresh is = tt
  back (Digits number) Zero c sane fresh is = more-back number 0 c is (omega arith) sane.0 fresh
  back (Digits number) (Digit n) c sane fresh is = more-back number n c is.0 is.1.1 sane.0 fresh
  back (Digits number) _ c sane fresh is = tt

-- a step leads to a place whose numbers keep to their bounds
empty-fresh : (place : SfenState) → FreshAt place map.empty
empty-fresh (Rank rank left) = fresh-nothing rank left
empty-fresh (Promoted rank left) = fresh-nothing rank left
empty-fresh _ = λ n off. map.get-empty nat_cmp n

pub sane-next : (place : SfenState) (c : ℕ) → IsSane place → IfStep Leads (next place (sign_of c))
sane-next place c sane =
    let form : SfenForm = record { board = map.empty; turn = First; held = []; number = 1 } in
    leads (next place (sign_of c))
    (back map.empty First [] [] form place (sign_of c) c sane (empty-fresh place) (sign-is c))
  where
    leads : (step : Step)
        → IfStep (Good map.empty First [] [] (record { board = map.empty; turn = First; held = []; number = 1 })
        place c)
        step → IfStep Leads step
    leads None h = tt
    leads (Some step) h = h.1.1

-- at the end nothing is left
ends : (place : SfenState) (board : ShogiBoard) (turn : Side) (held : List HeldItem) (number : ℕ) → IsSane place
    → FreshAt place board → number_at_end place ≡ Some number
    → Rest (on place board turn held) [] (record { board = board; turn = turn; held = held; number = number })
    × IsOnSquares board
ends Held board turn held number sane h e = let one : 1 ≡ number = cc in
    ((refl, refl, inl (refl, inl (refl, sym one))), h)
ends NoHands board turn held number sane h e = let one : 1 ≡ number = cc in
    ((refl, refl, (refl, inl (refl, sym one))), h)
ends (Digits n) board turn held number sane h e =
    let same : n ≡ number = cc in
    ((refl, refl, (refl, ([], tt, sym same, subst (λ m. m ≤ 9999) same sane.1, refl))), h)
ends _ board turn held number sane h e = cc

pub moved-place : (to : SfenState) (action : Action) (s : Stage) → (moved to action s).place ≡ to
moved-place to Pass s = refl
moved-place to (Put square piece) s = refl
moved-place to (Move side) s = refl
moved-place to (Hold side kind count) s = refl

-- what is read of a text to a place where it may end is the rest of a form
pub sound : (text : List ℕ) (s e : Stage) (number : ℕ) → IsSane s.place → FreshAt s.place s.board
    → run grow s text ≡ Some e → number_at_end e.place ≡ Some number → Rest s text (form_of e number)
    × IsOnSquares e.board
sound [] s e number sane fresh read end =
    let same : s ≡ e = cc in
    subst (λ x. number_at_end x.place ≡ Some number → Rest s [] (form_of x number) × IsOnSquares x.board) same
    (ends s.place s.board s.turn s.held number sane fresh) end
sound (c ∷ text) s e number sane fresh read end =
    let form = form_of e number in
    elim (next s.place (sign_of c)) as (λ o. IfStep (Good s.board s.turn s.held text form s.place c) o
    → if_some (λ t. run grow t text) (moved_by o s) ≡ Some e → Rest s (c ∷ text) form × IsOnSquares e.board) [
      | None ↦ λ b k. cc
      | Some step ↦ λ b k.
          let t = moved step.0 step.1 s in
          let place = sym (moved-place step.0 step.1 s) in
          let w = sound text t e number (subst IsSane place b.1.1) (subst (λ p. FreshAt p t.board) place b.1.0) k end in
          (b.0 w.0, w.1)
    ] (back s.board s.turn s.held text form s.place (sign_of c) c sane fresh (sign-is c)) read
