-- Orders that are read line by line.
use Rattle.std.proofs.Common.{◌≡◌, ℕ, ◌+◌, ◌<◌, ◌≤◌, Bool, true, false, cond, List, [], ◌∷◌, ◌++◌, length, drop}
use Rattle.std.proofs.Common.{get_or, refl, sym, ap, subst, ◌∙◌, append_assoc, append-nil, arith, ◌==◌}
use Rattle.std.specs.List.{slice_split}
use Rattle.std.specs.Str.Lines.{lines, lines_of_parts}
use Rattle.std.proofs.lemmas.List.{drop_more, drop_all}
use Rattle.std.proofs.lemmas.List.Splits.{length-slice_split}
use Rattle.std.proofs.lemmas.List.Sums.{count_by-le-length}
use Rattle.cli.specs.declared.words.BadWords.{BadWords}
use Rattle.cli.specs.declared.words.BadWords.TheVariants as bad
use Rattle.club_batches.specs.declared.orders.BatchLine.{BatchLine}
use Rattle.club_batches.specs.internal.Orders.{AreOrders, HasBadLine, IsAdded, IsBadLine, IsErrorWith, IsOrder, Line}
use Rattle.club_batches.specs.internal.Orders.{SaysOfLine}
use Rattle.club_batches.specs.internal.Orders.{is_passed_over, order_lines_from}

-- the orders of the first lines
pub record AreRead (all : List (List ℕ)) (count : ℕ) (orders : List BatchLine) : Type 0 where
  pub done : List Line
  pub are : AreOrders done orders
  pub rest : order_lines_from 1 all ≡ done ++ order_lines_from (count + 1) (drop count all)

orders_more : (lines : List Line) (orders : List BatchLine) (line : Line) (order : BatchLine) → AreOrders lines orders
    → IsOrder line order → AreOrders (lines ++ line ∷ []) (orders ++ order ∷ [])
orders_more [] [] line order are is = (is, tt)
orders_more [] (o ∷ os) line order are is = absurd are
orders_more (l ∷ ls) [] line order are is = absurd are
orders_more (l ∷ ls) (o ∷ os) line order are is = (are.0, orders_more ls os line order are.1 is)

abbrev numbered : ℕ → List ℕ → Line
numbered number text = record { number = number; text = text }

-- what is left of the orders, by its first line
first_left : (number : ℕ) (text : List ℕ) (more : List (List ℕ)) (is_passed : Bool) → is_passed_over text ≡ is_passed
    → order_lines_from number (text ∷ more)
    ≡ cond is_passed (order_lines_from (number + 1) more) (numbered number text ∷ order_lines_from (number + 1) more)
first_left number text more is_passed is =
    ap (λ b. cond b (order_lines_from (number + 1) more) (numbered number text ∷ order_lines_from (number + 1) more)) is

-- the line at a place
abbrev pub IsAt : List (List ℕ) → ℕ → List ℕ → Type 0
IsAt all count text = (count < length all) × (text ≡ get_or all count text)

next : (all : List (List ℕ)) (count : ℕ) (orders : List BatchLine) (text : List ℕ) (is_passed : Bool)
    → (before : AreRead all count orders) → IsAt all count text → is_passed_over text ≡ is_passed
    → order_lines_from 1 all
    ≡ before.done ++ cond is_passed (order_lines_from (count + 1 + 1) (drop (count + 1) all))
    (numbered (count + 1) text ∷ order_lines_from (count + 1 + 1) (drop (count + 1) all))
next all count orders text is_passed before at is =
    before.rest
    ∙ ap (λ l. before.done ++ order_lines_from (count + 1) l)
    (drop_more all count text at.0 ∙ ap (λ x. x ∷ drop (count + 1) all) (sym at.1))
    ∙ ap (λ l. before.done ++ l) (first_left (count + 1) text (drop (count + 1) all) is_passed is)

pub none_read : (all : List (List ℕ)) → AreRead all 0 []
none_read all = record { done = []; are = tt; rest = refl }

line_passed : (all : List (List ℕ)) (count : ℕ) (orders : List BatchLine) (text : List ℕ) → AreRead all count orders
    → IsAt all count text → is_passed_over text ≡ true → AreRead all (count + 1) orders
line_passed all count orders text before at is =
    record { done = before.done; are = before.are; rest = next all count orders text true before at is }

line_added : (all : List (List ℕ)) (count : ℕ) (orders after : List BatchLine) (text : List ℕ)
    → AreRead all count orders → IsAt all count text → is_passed_over text ≡ false
    → IsAdded (record { number = count + 1; text = text }) orders after → AreRead all (count + 1) after
line_added all count orders after text before at is added =
    record {
      done = before.done ++ numbered (count + 1) text ∷ [];
      are = subst (AreOrders (before.done ++ numbered (count + 1) text ∷ [])) (sym added.2)
          (orders_more before.done orders (numbered (count + 1) text) added.0 before.are added.1);
      rest = next all count orders text false before at is
          ∙ sym (append_assoc before.done (numbered (count + 1) text ∷ [])
          (order_lines_from (count + 1 + 1) (drop (count + 1) all)));
    }

-- the next line, which is passed over or states an order
pub line_read : (all : List (List ℕ)) (count : ℕ) (orders after : List BatchLine) (text : List ℕ) (is_passed : Bool)
    → is_passed_over text ≡ is_passed → AreRead all count orders → IsAt all count text
    → (is_passed_over text ≡ true → after ≡ orders)
    → (is_passed_over text ≡ false → IsAdded (record { number = count + 1; text = text }) orders after)
    → AreRead all (count + 1) after
line_read all count orders after text true is before at passed added =
    subst (AreRead all (count + 1)) (sym (passed is)) (line_passed all count orders text before at is)
line_read all count orders after text false is before at passed added =
    line_added all count orders after text before at is (added is)

pub all_read : (all : List (List ℕ)) (count : ℕ) (orders : List BatchLine) → AreRead all count orders → length all ≤ count
    → AreOrders (order_lines_from 1 all) orders
all_read all count orders read end =
    subst (λ l. AreOrders l orders)
    (sym (read.rest
    ∙ ap (λ l. read.done ++ order_lines_from (count + 1) l) (drop_all count all end)
    ∙ append-nil read.done))
    read.are

pub bad_line_found : (bytes message : List ℕ) (count : ℕ) (orders : List BatchLine) (text : List ℕ)
    → AreRead (lines bytes) count orders → IsAt (lines bytes) count text → is_passed_over text ≡ false
    → SaysOfLine (count + 1) (IsBadLine (length orders) (record { number = count + 1; text = text })) message
    → HasBadLine bytes message
bad_line_found bytes message count orders text before at is says =
    record {
      before = before.done;
      line = numbered (count + 1) text;
      after = order_lines_from (count + 1 + 1) (drop (count + 1) (lines bytes));
      are_lines = next (lines bytes) count orders text false before at is;
      orders = orders;
      are_orders = before.are;
      says = says;
    }

-- an error that says one thing says another
pub error_with : (P Q : List ℕ → Type 0) (fault : BadWords) → ((message : List ℕ) → P message → Q message)
    → IsErrorWith P fault → IsErrorWith Q fault
error_with P Q (bad.Text text) means says = means _ says
error_with P Q bad.Memory means says = tt
error_with P Q (bad.Version text) means says = absurd says

few_parts : (parts : List (List ℕ)) → length (lines_of_parts parts) ≤ length parts
few_parts [] = omega arith
few_parts (x ∷ []) = last (length x == 0)
  where
    last : (b : Bool) → length (cond b [] (x ∷ [])) ≤ 1
    last true = omega arith
    last false = omega arith
few_parts (x ∷ y ∷ more) = omega (arith, few_parts (y ∷ more))

pub few_lines : (text : List ℕ) → length (lines text) ≤ length text + 1
few_lines text =
    omega (
      arith,
      few_parts (slice_split (λ b. b == 10) text),
      length-slice_split (λ b. b == 10) text,
      count_by-le-length (λ b. b == 10) text,
    )
