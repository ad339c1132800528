-- The orders of a batch: what each line of its text states, and the causes of errors. No promise of the program rests
-- on these definitions.
use Rattle.std.specs.Prelude.{◌≡◌, ◌≢◌, ◌⊎◌, ◌<◌, ◌≤◌, ⊤, ℕ, ◌+◌, ◌==◌, Bool, true, false, ◌||◌, if◌then◌else◌}
use Rattle.std.specs.Prelude.{List, [], ◌∷◌, ◌++◌, length, take, slice_index, Option, Some, None}
use Rattle.std.specs.Prelude.{codes, decimal, string_bytes}
use Rattle.std.specs.Char.{is_ascii_whitespace}
use Rattle.std.specs.List.{count_by, filter, slice_split}
use Rattle.std.specs.Str.{IsUtf8, bytes_eq, trim}
use Rattle.std.specs.Str.Lines.{lines}
use Rattle.std.specs.Str.Lossy.{utf8_valid_len}
use Rattle.std.specs.declared.alloc.Global.{Global}
use Rattle.std.specs.declared.string.String.{String}
use Rattle.club_requests.specs.declared.requests.Command.{Command}
use Rattle.club_requests.specs.declared.requests.Request.{Request}
use Rattle.club_requests.specs.declared.requests.Who.TheVariants.{Officer}
use Rattle.cli.specs.declared.batches.BatchOrder.{BatchOrder}
use Rattle.cli.specs.declared.words.BadWords.{BadWords}
use Rattle.cli.specs.declared.words.BadWords.TheVariants as bad
use Rattle.cli.specs.internal.Said.{AreRefusedInLine, AreSaidInLine}
use Rattle.club_batches.specs.declared.orders.BatchLine.{BatchLine}

-- a command of the officer at this timestamp
abbrev pub order_at : Command → ℕ → Request
order_at command moment = record { who = Officer; command = command; moment = moment }

-- ---- lines

-- a line and its number, counted from 1
pub record Line : Type 0 where
  pub number : ℕ
  pub text : List ℕ

-- a comment, which begins with `#`, or a line of white space
abbrev pub is_passed_over : List ℕ → Bool
is_passed_over text = slice_index text 0 == 35 || length (trim text) == 0

-- the lines that are neither comments nor blank; the first of all has this number
abbrev pub order_lines_from : ℕ → List (List ℕ) → List Line
order_lines_from number [] = []
order_lines_from number (text ∷ more) =
    if is_passed_over text then order_lines_from (number + 1) more
    else record { number = number; text = text } ∷ order_lines_from (number + 1) more

-- the lines of a text that state its orders
abbrev pub order_lines : List ℕ → List Line
order_lines bytes = order_lines_from 1 (lines bytes)

-- ---- words

abbrev pub is_word : List ℕ → Bool
is_word [] = false
is_word (c ∷ cs) = true

-- the words of a line, which are separated by white space
abbrev pub words_in : List ℕ → List (List ℕ)
words_in text = filter is_word (slice_split is_ascii_whitespace text)

-- the words of a line after the program's name
abbrev pub arguments_in : List ℕ → List (List ℕ)
arguments_in text = codes "club" ∷ words_in text

-- ---- orders

abbrev pub is_input : Option (String Global) → Bool
is_input None = false
is_input (Some path) = bytes_eq (string_bytes path) (codes "-")

-- the order reads its record or its key from standard input
abbrev pub reads_input : BatchOrder → Bool
reads_input order = is_input order.«record»

-- the order that a line states
pub record IsOrder (line : Line) (order : BatchLine) : Type 0 where
  pub number : order.number ≡ line.number
  pub states : AreSaidInLine (arguments_in line.text) order.line
  pub is_file : reads_input order.line ≡ false

-- one order for each line, in order
abbrev pub AreOrders : List Line → List BatchLine → Type 0
AreOrders [] [] = ⊤
AreOrders (line ∷ lines) (order ∷ orders) = IsOrder line order × AreOrders lines orders
AreOrders _ _ = ⊥

-- the orders are these and one more, which the line states
abbrev pub IsAdded : Line → (before after : List BatchLine) → Type 0
IsAdded line before after = (order : BatchLine) × IsOrder line order × (after ≡ before ++ order ∷ [])

-- ---- limits

-- maximum length of a text, in bytes, and maximum number of orders
abbrev pub most_bytes : ℕ
most_bytes = 1048576

abbrev pub most_orders : ℕ
most_orders = 10000

-- ---- errors

-- an error with such a message, or out of memory
abbrev pub IsErrorWith : (List ℕ → Type 0) → BadWords → Type 0
IsErrorWith says (bad.Text message) = says (string_bytes message)
IsErrorWith says bad.Memory = ⊤
IsErrorWith says (bad.Version message) = ⊥

-- the message has the number of a line, and then the reason
abbrev pub line_error : ℕ → List ℕ → List ℕ
line_error number why = codes "error: line " ++ (decimal number ++ (codes ": " ++ why))

-- the message has the number of a line, and then a reason of this kind
abbrev pub SaysOfLine : ℕ → (List ℕ → Type 0) → List ℕ → Type 0
SaysOfLine number is_reason message = (why : List ℕ) × (message ≡ line_error number why) × is_reason why

-- the text without `error: ` in front of it, if that is there
abbrev pub IsWithoutError : (text why : List ℕ) → Type 0
IsWithoutError text why = (text ≡ codes "error: " ++ why)
    ⊎ ((text ≡ why) × ((rest : List ℕ) → text ≢ codes "error: " ++ rest))

-- the parser's message, without `error: ` in front of it
abbrev pub IsParserMessage : BadWords → List ℕ → Type 0
IsParserMessage (bad.Text message) why = IsWithoutError (string_bytes message) why
IsParserMessage (bad.Version message) why = string_bytes message ≡ why
IsParserMessage bad.Memory why = ⊥

-- the parser refuses the words of the line
pub record IsRefused (line : Line) (why : List ℕ) : Type 0 where
  pub said : BadWords
  pub refused : AreRefusedInLine (arguments_in line.text) said
  pub message : IsParserMessage said why

-- the order of the line reads standard input
pub record IsFromInput (line : Line) (why : List ℕ) : Type 0 where
  pub order : BatchOrder
  pub states : AreSaidInLine (arguments_in line.text) order
  pub is_input : reads_input order ≡ true
  pub message : why ≡ codes "a line of a batch reads no standard input\n"

-- the line states no order
abbrev pub IsNoOrder : Line → List ℕ → Type 0
IsNoOrder line why = IsRefused line why ⊎ IsFromInput line why

-- the line is one too many
abbrev pub IsOneTooMany : ℕ → List ℕ → Type 0
IsOneTooMany count why = (count ≡ most_orders) × (why ≡ codes "a batch has at most 10000 orders\n")

-- the line is invalid after so many orders: it is one too many, or it states no order
abbrev pub IsBadLine : ℕ → Line → List ℕ → Type 0
IsBadLine count line why = IsOneTooMany count why ⊎ ((count < most_orders) × IsNoOrder line why)

-- the message names the first line that is invalid: each line before it states an order
pub record HasBadLine (text message : List ℕ) : Type 0 where
  pub before : List Line
  pub line : Line
  pub after : List Line
  pub are_lines : order_lines text ≡ before ++ line ∷ after
  pub orders : List BatchLine
  pub are_orders : AreOrders before orders
  pub says : SaysOfLine line.number (IsBadLine (length orders) line) message

-- the text is too long
abbrev pub IsTooLong : (bytes message : List ℕ) → Type 0
IsTooLong bytes message = (most_bytes < length bytes) × (message ≡ codes "error: a batch has at most 1048576 bytes\n")

-- the number of the line with the first bytes that are not UTF-8
abbrev pub no_text_line : List ℕ → ℕ
no_text_line bytes = count_by (λ byte. byte == 10) (take (utf8_valid_len bytes) bytes) + 1

-- the text is not UTF-8
abbrev pub IsNoText : (bytes message : List ℕ) → Type 0
IsNoText bytes message = (¬ (IsUtf8 bytes))
    × (message ≡ line_error (no_text_line bytes) (codes "a word is not UTF-8\n"))

-- why a text is no batch: its length, then its encoding, then its first invalid line
abbrev pub IsBadBatch : (bytes message : List ℕ) → Type 0
IsBadBatch bytes message =
    IsTooLong bytes message
    ⊎ ((length bytes ≤ most_bytes) × IsNoText bytes message)
    ⊎ ((length bytes ≤ most_bytes) × IsUtf8 bytes × HasBadLine bytes message)
