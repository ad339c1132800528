-- The grammar of SFEN texts. No promise of the program rests on these definitions.
use Rattle.std.specs.Prelude.{◌≡◌, ◌⊎◌, ◌+◌, ◌*◌, ◌<◌, ◌≤◌, ℕ, zero, suc, ◌&&◌, Bool, true, false, List, [], ◌∷◌, ◌++◌}
use Rattle.std.specs.Prelude.{length, take, Option, Some, None, if◌then◌else◌}
use Rattle.std.specs.FinMap as map
use Rattle.squares.specs.declared.sides.Side.{Side}
use Rattle.squares.specs.declared.sides.Side.TheVariants.{First, Second}
use Rattle.squares.specs.declared.shogi.piece.HandKind.{HandKind}
use Rattle.squares.specs.declared.shogi.piece.HandKind.TheVariants as in_hand
use Rattle.squares.specs.declared.shogi.piece.SPiece.{SPiece}
use Rattle.squares.specs.declared.shogi.hand.Hands.{Hands}
use Rattle.squares.specs.Sides.{same_side}
use Rattle.squares.specs.ShogiBoard.{ShogiBoard}
use Rattle.squares.specs.ShogiHands.{count_of, hand_of}
use Rattle.squares.specs.ShogiPieces.{on_board}
use Rattle.squares.specs.ShogiSets.{ShogiPosition}
use Rattle.squares.specs.internal.ShogiSets.{IsShogiPosition, HasKings, count_on, holds_kind, set_size}
use Rattle.sfen.specs.declared.faults.SfenFault.{SfenFault}
use Rattle.sfen.specs.declared.faults.SfenFault.TheVariants.{BadText, TooManyPieces, Kings}
use Rattle.sfen.specs.Letters.{letter, piece_text, turn_letter}
use Rattle.sfen.specs.SfenGrammar.{rank_cells}

-- A rank is a sequence of items: a digit for a run of empty squares, or a piece.
pub data RankItem : Type 0 where
  Gap : ℕ → RankItem
  Stands : SPiece → RankItem

abbrev pub item_text : RankItem → List ℕ
item_text (Gap n) = (48 + n) ∷ []
item_text (Stands piece) = piece_text piece

-- n empty squares
abbrev pub empty_cells : ℕ → List (Option SPiece)
empty_cells zero = []
empty_cells (suc n) = None ∷ empty_cells n

abbrev pub item_cells : RankItem → List (Option SPiece)
item_cells (Gap n) = empty_cells n
item_cells (Stands piece) = Some piece ∷ []

abbrev pub IsRankItem : RankItem → Type 0
IsRankItem (Gap n) = (1 ≤ n) × (n ≤ 9)
IsRankItem (Stands piece) = Unit {0}

-- items whose squares and texts concatenate to these squares and this text
abbrev pub AreRankItems : List RankItem → List (Option SPiece) → List ℕ → Type 0
AreRankItems [] cells text = (cells ≡ []) × (text ≡ [])
AreRankItems (item ∷ items) cells text =
    (more : List (Option SPiece)) × (rest : List ℕ) × IsRankItem item × (cells ≡ item_cells item ++ more)
    × (text ≡ item_text item ++ rest) × AreRankItems items more rest

abbrev pub IsRankText : List (Option SPiece) → List ℕ → Type 0
IsRankText cells text = (items : List RankItem) × AreRankItems items cells text

-- a rank and `more` ranks below it, separated by `/`
abbrev pub AreRanks : ShogiBoard → ℕ → ℕ → List ℕ → Type 0
AreRanks board rank zero text = IsRankText (rank_cells board rank) text
AreRanks board rank (suc more) text = (first : List ℕ) × (rest : List ℕ) × (text ≡ first ++ 47 ∷ rest)
    × IsRankText (rank_cells board rank) first × AreRanks board (suc rank) more rest

-- the board has pieces only on its 81 squares
abbrev pub IsOnSquares : ShogiBoard → Type 0
IsOnSquares board = (n : ℕ) → 81 ≤ n → map.get board n ≡ None

-- the nine ranks, from the first to the ninth
abbrev pub IsBoardText : ShogiBoard → List ℕ → Type 0
IsBoardText board text = AreRanks board 1 8 text × IsOnSquares board

-- pieces of a kind in a side's hand
pub record HeldItem : Type 0 where
  pub side : Side
  pub kind : HandKind
  pub count : ℕ

-- A count before a letter: none for one piece, or one or two digits with a positive value.
pub data IsCountText (count : ℕ) (text : List ℕ) : Type 0 where
  unwritten : count ≡ 1 → text ≡ [] → IsCountText count text
  one_digit : 1 ≤ count → count ≤ 9 → text ≡ (48 + count) ∷ [] → IsCountText count text
  two_digits : (tens ones : ℕ) → tens ≤ 9 → ones ≤ 9 → count ≡ 10 * tens + ones → 1 ≤ count
      → text ≡ (48 + tens) ∷ (48 + ones) ∷ [] → IsCountText count text

abbrev pub IsHeldText : HeldItem → List ℕ → Type 0
IsHeldText item text = (digits : List ℕ) × IsCountText item.count digits
    × (text ≡ digits ++ letter item.side (on_board item.kind) ∷ [])

abbrev pub AreHeldTexts : List HeldItem → List ℕ → Type 0
AreHeldTexts [] text = text ≡ []
AreHeldTexts (item ∷ items) text = (first : List ℕ) × (rest : List ℕ) × (text ≡ first ++ rest) × IsHeldText item first
    × AreHeldTexts items rest

-- the pieces in the hands, or `-` if both are empty
abbrev pub IsHandText : List HeldItem → List ℕ → Type 0
IsHandText [] text = text ≡ 45 ∷ []
IsHandText (item ∷ items) text = AreHeldTexts (item ∷ items) text

abbrev pub same_hand_kind : HandKind → HandKind → Bool
same_hand_kind in_hand.Rook in_hand.Rook = true
same_hand_kind in_hand.Bishop in_hand.Bishop = true
same_hand_kind in_hand.Gold in_hand.Gold = true
same_hand_kind in_hand.Silver in_hand.Silver = true
same_hand_kind in_hand.Knight in_hand.Knight = true
same_hand_kind in_hand.Lance in_hand.Lance = true
same_hand_kind in_hand.Pawn in_hand.Pawn = true
same_hand_kind _ _ = false

-- the total count of pieces of a side and a kind in the items
abbrev pub held_total : Side → HandKind → List HeldItem → ℕ
held_total side kind [] = 0
held_total side kind (item ∷ items) =
    (if same_side item.side side && same_hand_kind item.kind kind then item.count else 0) + held_total side kind items

-- the items denote the hands
abbrev pub AreHands : Hands → List HeldItem → Type 0
AreHands hands items = (side : Side) (kind : HandKind) → count_of kind (hand_of side hands) ≡ held_total side kind items

-- decimal digits
abbrev pub AreDigits : List ℕ → Type 0
AreDigits [] = Unit {0}
AreDigits (digit ∷ digits) = (digit ≤ 9) × AreDigits digits

abbrev pub digit_texts : List ℕ → List ℕ
digit_texts [] = []
digit_texts (digit ∷ digits) = (48 + digit) ∷ digit_texts digits

-- the value of digits that follow a number
abbrev pub value_after : ℕ → List ℕ → ℕ
value_after number [] = number
value_after number (digit ∷ digits) = value_after (10 * number + digit) digits

-- a number from 1 to 9999 in decimal, without leading zeros
pub record IsDecimalText (number : ℕ) (text : List ℕ) : Type 0 where
  pub first : ℕ
  pub more : List ℕ
  pub not_zero : 1 ≤ first
  pub is_digit : first ≤ 9
  pub are_digits : AreDigits more
  pub value : number ≡ value_after first more
  pub within : number ≤ 9999
  pub text_is : text ≡ digit_texts (first ∷ more)

-- a space and the move number; a missing move number is 1
abbrev pub IsNumberText : ℕ → List ℕ → Type 0
IsNumberText number text = ((text ≡ []) × (number ≡ 1))
    ⊎ ((decimal : List ℕ) × IsDecimalText number decimal × (text ≡ 32 ∷ decimal))

-- the content of a text: the board, the side to move, the pieces in hand as listed, and the move number
pub record SfenForm : Type 0 where
  pub board : ShogiBoard
  pub turn : Side
  pub held : List HeldItem
  pub number : ℕ

-- the board, the side to move and the hands, separated by spaces, and the move number
pub record HasSfenForm (text : List ℕ) (form : SfenForm) : Type 0 where
  pub board_text : List ℕ
  pub hand_text : List ℕ
  pub number_text : List ℕ
  pub board_is : IsBoardText form.board board_text
  pub hand_is : IsHandText form.held hand_text
  pub number_is : IsNumberText form.number number_text
  pub text_is : text ≡ board_text ++ 32 ∷ turn_letter form.turn ∷ 32 ∷ (hand_text ++ number_text)

abbrev pub HasNoForm : List ℕ → Type 0
HasNoForm text = (form : SfenForm) → HasSfenForm text form → ⊥

-- a prefix of some SFEN text
abbrev pub BeginsSfen : List ℕ → Type 0
BeginsSfen text = (rest : List ℕ) × (form : SfenForm) × HasSfenForm (text ++ rest) form

-- the length in bytes of the longest prefix that can begin an SFEN text
pub record IsLongestBeginning (text : List ℕ) (bytes : ℕ) : Type 0 where
  pub within : bytes ≤ length text
  pub begins : BeginsSfen (take bytes text)
  pub longest : (n : ℕ) → bytes < n → n ≤ length text → BeginsSfen (take n text) → ⊥

-- the text denotes the position and the move number
abbrev pub IsSfenText : List ℕ → ShogiPosition → ℕ → Type 0
IsSfenText text position number =
    (items : List HeldItem) × HasSfenForm text
    (record { board = position.board; turn = position.turn; held = items; number = number })
    × AreHands position.hands items × IsShogiPosition position.board position.hands

-- the total count of pieces of a kind on the board and in the hands
abbrev pub form_total : SfenForm → HandKind → ℕ
form_total form kind = count_on (holds_kind kind) form.board + held_total First kind form.held + held_total Second kind
    form.held

-- more pieces of a kind than a shogi set
abbrev pub HasTooMany : SfenForm → Type 0
HasTooMany form = (kind : HandKind) × (set_size kind < form_total form kind)

-- The faults of a text: it has no form, with the length of its longest valid prefix; or its pieces exceed a shogi set.
-- If they do not, a side may have no king or more than one.
abbrev pub IsRefused : List ℕ → SfenFault → Type 0
IsRefused text (BadText bytes) = HasNoForm text × IsLongestBeginning text bytes
IsRefused text TooManyPieces = (form : SfenForm) × HasSfenForm text form × HasTooMany form
IsRefused text Kings = (form : SfenForm) × HasSfenForm text form × (HasTooMany form → ⊥) × (HasKings form.board → ⊥)

-- The grammar is unambiguous: a text has at most one form.
abbrev pub HasOneForm : Type 0
HasOneForm = (text : List ℕ) (a b : SfenForm) → HasSfenForm text a → HasSfenForm text b → a ≡ b
