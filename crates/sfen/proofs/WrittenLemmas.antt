-- A text that grows by a square, a rank or a kind in the hand, and the written text of a position.
use Rattle.std.proofs.Common.{◌≡◌, ◌≢◌, ℕ, suc, ◌+◌, ◌-◌, ◌<◌, ◌≤◌, List, [], ◌∷◌, ◌++◌, length, get_or, drop, Option}
use Rattle.std.proofs.Common.{Some, None, refl, sym, ap, ◌∙◌, append_assoc, append-nil, add-one, length-append, arith}
use Rattle.std.proofs.Common.{◌*◌, ◌/◌, ◌%◌, inl, inr, zero, Bool, true, false, cond, ◌&&◌, subst, add_assoc, lit≤}
use Rattle.std.specs.FinMap as map
use Rattle.std.proofs.lemmas.List.{at_drop_more}
use Rattle.squares.specs.declared.sides.Side.{Side}
use Rattle.squares.specs.declared.shogi.piece.HandKind.{HandKind}
use Rattle.squares.specs.declared.shogi.piece.SPiece.{SPiece}
use Rattle.squares.specs.declared.shogi.hand.Hand.{Hand}
use Rattle.squares.specs.ShogiBoard.{ShogiBoard}
use Rattle.squares.specs.ShogiGeometry.{shogi_number}
use Rattle.squares.specs.ShogiHands.{count_of, hand_of}
use Rattle.sfen.specs.Letters.{piece_text, letter, turn_letter}
use Rattle.sfen.specs.SfenGrammar.{cells_from}
use Rattle.sfen.specs.internal.SfenGrammar.{AreDigits, digit_texts, value_after, IsDecimalText, IsNumberText}
use Rattle.sfen.specs.internal.SfenGrammar.{IsCountText, one_digit, two_digits, HeldItem, unwritten, AreHeldTexts}
use Rattle.sfen.specs.internal.SfenGrammar.{IsHandText}
use Rattle.sfen.specs.internal.SfenGrammar.{same_hand_kind, held_total, AreHands, RankItem, Gap, Stands, empty_cells}
use Rattle.sfen.specs.SfenGrammar.{rank_cells}
use Rattle.sfen.specs.internal.SfenGrammar.{AreRankItems, IsRankText, AreRanks, IsOnSquares, IsBoardText, IsSfenText}
use Rattle.sfen.specs.SfenText.{gap_text, cells_text, rank_text, more_ranks, held_text, kinds_text, or_hyphen}
use Rattle.sfen.specs.SfenText.{hand_kinds, hands_text, board_text, position_text}
use Rattle.sfen.specs.internal.SfenText.{sfen_text}
use Rattle.std.specs.Fmt.{decimal}
use Rattle.std.proofs.lemmas.Bool.{cases_lt}
use Rattle.std.proofs.lemmas.Fmt.{decimal_digit, decimal_step, decimal_by_steps}
use Rattle.squares.specs.declared.sides.Side.TheVariants.{First, Second}
use Rattle.squares.specs.declared.shogi.piece.HandKind.TheVariants as in_hand
use Rattle.squares.specs.declared.shogi.hand.Hands.{Hands}
use Rattle.squares.specs.Sides.{same_side}
use Rattle.squares.specs.ShogiPieces.{on_board}
use Rattle.sfen.specs.internal.WritingLaws.{HasGreatestRuns}
use Rattle.squares.specs.ShogiSets.{ShogiPosition}
use Rattle.squares.specs.internal.ShogiSets.{IsShogiPosition, KeepsSets}
use Rattle.sfen.proofs.Stages.{small-set}

-- the squares of a rank that are still to be written
pub cells-more : (board : ShogiBoard) (rank k : ℕ) → k < 9
    → cells_from board rank (9 - k) ≡ map.get board (shogi_number (9 - k) rank) ∷ cells_from board rank (9 - (k + 1))
cells-more board rank k h =
    let e : 9 - k ≡ suc (9 - (k + 1)) = omega arith in
    ap (cells_from board rank) e ∙ ap (λ n. map.get board (shogi_number n rank) ∷ cells_from board rank (9 - (k + 1)))
    (sym e)

module _ (whole text : List ℕ) (gap : ℕ) (cells : List (Option SPiece)) (o : Option SPiece)
    (before : text ++ cells_text gap (o ∷ cells) ≡ whole) where
  -- a square with a piece
  pub rank-piece : (p : SPiece) (middle new : List ℕ) → o ≡ Some p → middle ≡ text ++ gap_text gap
      → new ≡ middle ++ piece_text p → new ++ cells_text 0 cells ≡ whole
  rank-piece p middle new is first second =
      ap (λ t. t ++ cells_text 0 cells) second
      ∙ ap (λ t. (t ++ piece_text p) ++ cells_text 0 cells) first
      ∙ append_assoc (text ++ gap_text gap) (piece_text p) (cells_text 0 cells)
      ∙ append_assoc text (gap_text gap) (piece_text p ++ cells_text 0 cells)
      ∙ sym (ap (λ q. text ++ cells_text gap (q ∷ cells)) is)
      ∙ before

  -- an empty square
  pub rank-gap : o ≡ None → text ++ cells_text (gap + 1) cells ≡ whole
  rank-gap is = ap (λ k. text ++ cells_text k cells) (add-one gap)
      ∙ sym (ap (λ q. text ++ cells_text gap (q ∷ cells)) is) ∙ before

-- a rank more, after a `/`
pub ranks-more : (board : ShogiBoard) (rank : ℕ) (whole text middle new : List ℕ) → rank < 10
    → text ++ more_ranks board rank (10 - rank) ≡ whole → middle ≡ text ++ 47 ∷ []
    → new ≡ middle ++ rank_text board rank → new ++ more_ranks board (rank + 1) (10 - (rank + 1)) ≡ whole
ranks-more board rank whole text middle new h before first second =
    let e : 10 - rank ≡ suc (10 - (rank + 1)) = omega arith in
    let left = more_ranks board (rank + 1) (10 - (rank + 1)) in
    ap (λ t. t ++ left) second
    ∙ ap (λ t. (t ++ rank_text board rank) ++ left) first
    ∙ append_assoc (text ++ 47 ∷ []) (rank_text board rank) left
    ∙ append_assoc text (47 ∷ []) (rank_text board rank ++ left)
    ∙ ap (λ r. text ++ 47 ∷ (rank_text board rank ++ more_ranks board r (10 - (rank + 1)))) (add-one rank)
    ∙ sym (ap (λ n. text ++ more_ranks board rank n) e)
    ∙ before

-- a kind more of a hand
pub kinds-more : (side : Side) (hand : Hand) (kinds : List HandKind) (k : ℕ) (d : HandKind) (whole text new : List ℕ)
    → k < length kinds → text ++ kinds_text side hand (drop k kinds) ≡ whole
    → new ≡ text ++ held_text side (get_or kinds k d) (count_of (get_or kinds k d) hand)
    → new ++ kinds_text side hand (drop (k + 1) kinds) ≡ whole
kinds-more side hand kinds k d whole text new h before step =
    let held = held_text side (get_or kinds k d) (count_of (get_or kinds k d) hand) in
    let left = kinds_text side hand (drop (k + 1) kinds) in
    ap (λ t. t ++ left) step ∙ append_assoc text held left
    ∙ sym (ap (λ t. text ++ t) (at_drop_more (kinds_text side hand) kinds k d h)) ∙ before

-- no rank is left
pub ranks-end : (board : ShogiBoard) (rank : ℕ) (whole text : List ℕ) → 10 ≤ rank
    → text ++ more_ranks board rank (10 - rank) ≡ whole → text ≡ whole
ranks-end board rank whole text h before =
    let e : 10 - rank ≡ 0 = omega arith in
    sym (append-nil text) ∙ sym (ap (λ n. text ++ more_ranks board rank n) e) ∙ before

some-text : (held : List ℕ) → 0 < length held → or_hyphen held ≡ held
some-text [] h = absurd (omega (arith, h))
some-text (c ∷ held) h = refl

no-text : (held : List ℕ) → length held ≡ 0 → held ≡ []
no-text [] h = refl
no-text (c ∷ held) h = absurd (omega (arith, h))

module _ (text a b first second : List ℕ) (first_is : first ≡ text ++ a) (second_is : second ≡ first ++ b) where
  all-held : second ≡ text ++ (a ++ b)
  all-held = second_is ∙ ap (λ t. t ++ b) first_is ∙ append_assoc text a b

  held-length : length second ≡ length text + length (a ++ b)
  held-length = ap length all-held ∙ length-append text (a ++ b)

  -- a hand that is not empty
  pub some-hands : length second ≢ length text → second ≡ text ++ or_hyphen (a ++ b)
  some-hands more = all-held ∙ ap (λ t. text ++ t) (sym (some-text (a ++ b) (omega (arith, held-length, more))))

  -- two empty hands
  pub no-hands : (new : List ℕ) → length second ≡ length text → new ≡ second ++ 45 ∷ []
      → new ≡ text ++ or_hyphen (a ++ b)
  no-hands new same is =
      let none : a ++ b ≡ [] = no-text (a ++ b) (omega (arith, held-length, same)) in
      is ∙ ap (λ t. t ++ 45 ∷ []) (all-held ∙ ap (λ t. text ++ t) none ∙ append-nil text)
      ∙ ap (λ t. text ++ or_hyphen t) (sym none)

-- the parts of a position's text, one after another
module _ (board hands : List ℕ) (c : ℕ) where
  pub parts-alone : (t1 t2 t3 t4 t5 : List ℕ) → t1 ≡ board → t2 ≡ t1 ++ 32 ∷ [] → t3 ≡ t2 ++ c ∷ [] → t4 ≡ t3 ++ 32 ∷ []
      → t5 ≡ t4 ++ hands → t5 ≡ board ++ (32 ∷ c ∷ 32 ∷ hands)
  parts-alone t1 t2 t3 t4 t5 e1 e2 e3 e4 e5 = rw (e5, e4, e3, e2, e1) (simp append_assoc)

-- ---- The written number is the text of the number

digits-more : (digits : List ℕ) (d : ℕ) → d ≤ 9 → AreDigits digits → AreDigits (digits ++ d ∷ [])
digits-more [] d h all = (h, tt)
digits-more (x ∷ digits) d h all = (all.0, digits-more digits d h all.1)

value-more : (first : ℕ) (digits : List ℕ) (d : ℕ)
    → value_after first (digits ++ d ∷ []) ≡ 10 * value_after first digits + d
value-more first [] d = refl
value-more first (x ∷ digits) d = value-more (10 * first + x) digits d

texts-more : (digits : List ℕ) (d : ℕ) → digit_texts (digits ++ d ∷ []) ≡ digit_texts digits ++ (48 + d) ∷ []
texts-more [] d = refl
texts-more (x ∷ digits) d = ap (λ t. (48 + x) ∷ t) (texts-more digits d)

-- a number in decimal that is in the range of the numbers of moves
abbrev pub IsInDecimal : ℕ → List ℕ → Type 0
IsInDecimal n text = 1 ≤ n → n ≤ 9999 → IsDecimalText n text

decimal-one : (n : ℕ) → n < 10 → IsInDecimal n ((48 + n) ∷ [])
decimal-one n h =
    λ low high. record {
      first = n;
      more = [];
      not_zero = low;
      is_digit = omega (arith, h);
      are_digits = tt;
      value =
          refl;
      within = high;
      text_is = refl;
    }

decimal-more : (n : ℕ) (digits : List ℕ) → 10 ≤ n → IsInDecimal (n / 10) digits
    → IsInDecimal n (digits ++ (48 + n % 10) ∷ [])
decimal-more n digits h front = λ low high.
    let t = front (omega (arith, h)) (omega (arith, high)) in
    record {
      first = t.first;
      more = t.more ++ (n % 10) ∷ [];
      not_zero = t.not_zero;
      is_digit = t.is_digit;
      are_digits = digits-more t.more (n % 10) (omega arith) t.are_digits;
      value =
          let parts : n ≡ 10 * (n / 10) + n % 10 = omega arith in
          parts ∙ ap (λ v. 10 * v + n % 10) t.value ∙ sym (value-more t.first t.more (n % 10));
      within = high;
      text_is = ap (λ s. s ++ (48 + n % 10) ∷ []) t.text_is ∙ sym (texts-more (t.first ∷ t.more) (n % 10));
    }

pub number-written : (n : ℕ) → 1 ≤ n → n ≤ 9999 → IsNumberText n (32 ∷ decimal n)
number-written n low high =
    inr (decimal n, decimal_by_steps IsInDecimal decimal-one decimal-more n (omega (arith, high)) low high, refl)

-- a count of one digit or two
two-digits : (n : ℕ) → 10 ≤ n → n ≤ 99 → decimal n ≡ (48 + n / 10) ∷ (48 + n % 10) ∷ []
two-digits n low high = decimal_step n low (omega (arith, high))
    ∙ ap (λ t. t ++ (48 + n % 10) ∷ []) (decimal_digit (n / 10) (omega (arith, high)))

pub count-written : (n : ℕ) → 1 ≤ n → n ≤ 99 → IsCountText n (decimal n)
count-written n low high =
    elim (cases_lt n 10) [
      | inl h ↦ one_digit low (omega (arith, h)) (decimal_digit n h)
      | inr h ↦ two_digits (n / 10) (n % 10) (omega (arith, high)) (omega arith) (omega arith) low (two-digits n h high)
    ]

-- ---- The written hands are the text of the hands

-- the item of so many pieces before others, if there are any
abbrev pub add_item : Side → HandKind → ℕ → List HeldItem → List HeldItem
add_item side kind zero items = items
add_item side kind (suc n) items = record { side = side; kind = kind; count = suc n } ∷ items

-- the items of a hand
abbrev pub hand_items : Side → Hand → List HandKind → List HeldItem
hand_items side hand [] = []
hand_items side hand (kind ∷ kinds) = add_item side kind (count_of kind hand) (hand_items side hand kinds)

unfoldable pub items_of : Hands → List HeldItem
items_of hands = hand_items First hands.first hand_kinds ++ hand_items Second hands.second hand_kinds

add-written : (side : Side) (kind : HandKind) (n : ℕ) (items : List HeldItem) (text : List ℕ) → n ≤ 99
    → AreHeldTexts items text → AreHeldTexts (add_item side kind n items) (held_text side kind n ++ text)
add-written side kind zero items text h rest = rest
add-written side kind (suc zero) items text h rest =
    (letter side (on_board kind) ∷ [], text, refl, ([], unwritten refl refl, refl), rest)
add-written side kind (suc (suc n)) items text h rest = (
  held_text side kind (suc (suc n)),
  text,
  refl,
  (decimal (suc (suc n)), count-written (suc (suc n)) (omega arith) h, refl),
  rest,
)

hand-written : (side : Side) (hand : Hand) (kinds : List HandKind) → ((kind : HandKind) → count_of kind hand ≤ 99)
    → AreHeldTexts (hand_items side hand kinds) (kinds_text side hand kinds)
hand-written side hand [] few = refl
hand-written side hand (kind ∷ kinds) few =
    add-written side kind (count_of kind hand) (hand_items side hand kinds) (kinds_text side hand kinds) (few kind)
    (hand-written side hand kinds few)

held-append : (items others : List HeldItem) (text more : List ℕ) → AreHeldTexts items text → AreHeldTexts others more
    → AreHeldTexts (items ++ others) (text ++ more)
held-append [] others text more t u = subst (λ (s : List ℕ). AreHeldTexts others (s ++ more)) (sym t) u
held-append (item ∷ items) others text more t u = (
  t.0,
  t.1 ++ more,
  ap (λ s. s ++ more) t.2 ∙ append_assoc t.0 t.1 more,
  t.3,
  held-append items others t.1 more t.4 u,
)

-- what is not empty is written without a hyphen, and a hyphen stands for nothing
or-hyphen : (items : List HeldItem) (text : List ℕ) → AreHeldTexts items text → IsHandText items (or_hyphen text)
or-hyphen [] text t = ap or_hyphen t
or-hyphen (item ∷ items) text t =
    let is : text ≡ (t.3.0 ++ letter item.side (on_board item.kind) ∷ []) ++ t.1 = t.2 ∙ ap (λ s. s ++ t.1) t.3.2 in
    let same = some-text text (omega (arith, simp length-append at (ap length is))) in
    subst (λ (s : List ℕ). AreHeldTexts (item ∷ items) s) (sym same) t

pub hands-written : (hands : Hands) → ((side : Side) (kind : HandKind) → count_of kind (hand_of side hands) ≤ 99)
    → IsHandText (items_of hands) (hands_text hands)
unfolding items_of hands_text
hands-written hands few =
    or-hyphen _ _
    (held-append (hand_items First hands.first hand_kinds) (hand_items Second hands.second hand_kinds) _ _
    (hand-written First hands.first hand_kinds (few First)) (hand-written Second hands.second hand_kinds (few Second)))

-- what the items of one kind give
abbrev pub given : Side → HandKind → Side → HandKind → ℕ → ℕ
given side kind other_side other_kind n = cond (same_side other_side side && same_hand_kind other_kind kind) n 0

none-given : (b : Bool) → ◌≡◌ {A = ℕ} 0 (cond b 0 0)
none-given true = refl
none-given false = refl

add-total : (side : Side) (kind : HandKind) (s : Side) (k : HandKind) (n : ℕ) (items : List HeldItem)
    → held_total side kind (add_item s k n items) ≡ given side kind s k n + held_total side kind items
add-total side kind s k zero items =
    let none = none-given (same_side s side && same_hand_kind k kind) in
    omega (arith, none)
add-total side kind s k (suc n) items = refl

-- what the kinds of a hand give
abbrev pub hand_total : Side → HandKind → Side → Hand → List HandKind → ℕ
hand_total side kind s hand [] = 0
hand_total side kind s hand (k ∷ kinds) = given side kind s k (count_of k hand) + hand_total side kind s hand kinds

hand-total : (side : Side) (kind : HandKind) (s : Side) (hand : Hand) (kinds : List HandKind)
    → held_total side kind (hand_items s hand kinds) ≡ hand_total side kind s hand kinds
hand-total side kind s hand [] = refl
hand-total side kind s hand (k ∷ kinds) =
    add-total side kind s k (count_of k hand) (hand_items s hand kinds)
    ∙ ap (λ n. given side kind s k (count_of k hand) + n) (hand-total side kind s hand kinds)

total-append : (side : Side) (kind : HandKind) (items others : List HeldItem)
    → held_total side kind (items ++ others) ≡ held_total side kind items + held_total side kind others
total-append side kind [] others = omega arith
total-append side kind (item ∷ items) others =
    let g = given side kind item.side item.kind item.count in
    ap (λ n. g + n) (total-append side kind items others)
    ∙ sym (add_assoc g (held_total side kind items) (held_total side kind others))

-- each kind is given once by the hand of its side, and by no other hand
total-is : (side s : Side) (kind : HandKind) (hand : Hand)
    → hand_total side kind s hand hand_kinds ≡ cond (same_side s side) (count_of kind hand) 0
unfolding hand_kinds
total-is First First in_hand.Rook hand = omega arith
total-is Second Second in_hand.Rook hand = omega arith
total-is _ _ kind hand = omega arith

pub hands-given : (hands : Hands) → AreHands hands (items_of hands)
unfolding items_of
hands-given hands side kind =
    let first = hand_items First hands.first hand_kinds in
    let second = hand_items Second hands.second hand_kinds in
    let both = total-append side kind first second in
    let a = hand-total side kind First hands.first hand_kinds ∙ total-is side First kind hands.first in
    let b = hand-total side kind Second hands.second hand_kinds ∙ total-is side Second kind hands.second in
    by side kind (both ∙ (λ i. a i + b i))
  where
    by : (side : Side) (kind : HandKind)
        → held_total side kind (items_of hands)
        ≡ cond (same_side First side) (count_of kind hands.first) 0
        + cond (same_side Second side) (count_of kind hands.second) 0
        → count_of kind (hand_of side hands) ≡ held_total side kind (items_of hands)
    by First kind e = omega (arith, e)
    by Second kind e = omega (arith, e)

-- ---- The written board is the text of the board

-- an empty square more
gap-more : (gap : ℕ) (cells : List (Option SPiece)) → empty_cells (suc gap) ++ cells ≡ empty_cells gap ++ None ∷ cells
gap-more zero cells = refl
gap-more (suc gap) cells = ap (λ cs. None ∷ cs) (gap-more gap cells)

-- cells that are written by runs that are as long as they can be
abbrev pub IsWritten : List (Option SPiece) → List ℕ → Type 0
IsWritten cells text = (items : List RankItem) × AreRankItems items cells text × HasGreatestRuns items

-- a run of empty squares at the end of a rank
before-end : (gap : ℕ) → gap ≤ 9 → IsWritten (empty_cells gap ++ []) (gap_text gap)
before-end zero h = ([], (refl, refl), tt)
before-end (suc gap) h = (Gap (suc gap) ∷ [], ([], [], (omega arith, h), refl, refl, (refl, refl)), tt)

-- a run of empty squares before a piece
before-piece : (gap : ℕ) (piece : SPiece) (cells : List (Option SPiece)) (text : List ℕ) → gap ≤ 9
    → IsWritten cells text → IsWritten (empty_cells gap ++ Some piece ∷ cells)
    (gap_text gap ++ (piece_text piece ++ text))
before-piece zero piece cells text h t = (Stands piece ∷ t.0, (cells, text, tt, refl, refl, t.1), t.2)
before-piece (suc gap) piece cells text h t = (
  Gap (suc gap) ∷ Stands piece ∷ t.0,
  (Some piece ∷ cells, piece_text piece ++ text, (omega arith, h), refl, refl, (cells, text, tt, refl, refl, t.1)),
  t.2,
)

cells-written : (gap : ℕ) (cells : List (Option SPiece)) → gap + length cells ≤ 9
    → IsWritten (empty_cells gap ++ cells) (cells_text gap cells)
cells-written gap [] h = before-end gap (omega (arith, h))
cells-written gap (None ∷ cells) h =
    subst (λ (cs : List (Option SPiece)). IsWritten cs (cells_text (suc gap) cells)) (gap-more gap cells)
    (cells-written (suc gap) cells (omega (arith, h)))
cells-written gap (Some piece ∷ cells) h =
    before-piece gap piece cells (cells_text 0 cells) (omega (arith, h)) (cells-written 0 cells (omega (arith, h)))

pub greatest-runs : (board : ShogiBoard) (rank : ℕ) → IsWritten (rank_cells board rank) (rank_text board rank)
unfolding rank_text
greatest-runs board rank = cells-written 0 (rank_cells board rank) (lit≤ tt)

rank-written : (board : ShogiBoard) (rank : ℕ) → IsRankText (rank_cells board rank) (rank_text board rank)
rank-written board rank = let w = greatest-runs board rank in (w.0, w.1)

ranks-written : (board : ShogiBoard) (rank more : ℕ)
    → AreRanks board rank more (rank_text board rank ++ more_ranks board (suc rank) more)
ranks-written board rank zero = subst (IsRankText (rank_cells board rank)) (sym (append-nil (rank_text board rank)))
    (rank-written board rank)
ranks-written board rank (suc more) = (
  rank_text board rank,
  rank_text board (suc rank) ++ more_ranks board (suc (suc rank)) more,
  refl,
  rank-written board rank,
  ranks-written board (suc rank) more,
)

pub board-written : (board : ShogiBoard) → IsOnSquares board → IsBoardText board (board_text board)
unfolding board_text
board-written board on = (ranks-written board 1 8, on)

-- ---- The written text of a position stands for that position

-- a hand holds no more than the set of a game has
held-few : (board : ShogiBoard) (hands : Hands) → KeepsSets board hands → (side : Side) (kind : HandKind)
    → count_of kind (hand_of side hands) ≤ 99
held-few board hands keeps First kind = omega (arith, keeps kind, small-set kind)
held-few board hands keeps Second kind = omega (arith, keeps kind, small-set kind)

-- the text of a position, and after it that of a number
text-with : (p : ShogiPosition) (number : ℕ) (number_text : List ℕ) → IsShogiPosition p.board p.hands
    → IsOnSquares p.board → IsNumberText number number_text → IsSfenText (position_text p ++ number_text) p number
unfolding position_text
text-with p number number_text sound on number_is = (
  items_of p.hands,
  record {
    board_text = board_text p.board;
    hand_text = hands_text p.hands;
    number_text = number_text;
    board_is = board-written p.board on;
    hand_is = hands-written p.hands (held-few p.board p.hands sound.sets);
    number_is = number_is;
    text_is = append_assoc (board_text p.board) (32 ∷ turn_letter p.turn ∷ 32 ∷ hands_text p.hands) number_text;
  },
  hands-given p.hands,
  sound,
)

pub position-written : (p : ShogiPosition) (number : ℕ) → IsShogiPosition p.board p.hands → IsOnSquares p.board
    → 1 ≤ number → number ≤ 9999 → IsSfenText (sfen_text p number) p number
unfolding sfen_text
position-written p number sound on low high =
    text-with p number (32 ∷ decimal number) sound on (number-written number low high)

-- the text without a number leaves out the number 1
pub position-alone : (p : ShogiPosition) → IsShogiPosition p.board p.hands → IsOnSquares p.board
    → IsSfenText (position_text p) p 1
position-alone p sound on = subst (λ t. IsSfenText t p 1) (append-nil (position_text p))
    (text-with p 1 [] sound on (inl (refl, refl)))

-- a position with a text is sound, and keeps to the squares
pub text-sound : (text : List ℕ) (p : ShogiPosition) (number : ℕ) → IsSfenText text p number
    → IsShogiPosition p.board p.hands × IsOnSquares p.board
text-sound text p number h = (h.3, h.1.board_is.1)
