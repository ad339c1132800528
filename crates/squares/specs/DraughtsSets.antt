-- Sets of squares, as 50 marks in the order of the squares or as an ascending list.
use Rattle.std.specs.List.{range_with_len}
use Rattle.std.specs.Prelude.{filter, ℕ, Bool, ◌&&◌, List}
use Rattle.std.specs.Ordering.{nat_cmp}
use Rattle.std.specs.FinSet as set

-- A set of squares, by their numbers.
abbrev pub Squares : Type 0
Squares = set.FinSet nat_cmp

-- The squares of a set in ascending order.
unfoldable pub ascending : Squares → List ℕ
ascending s = filter (set.contains s) (range_with_len 1 50)

-- Whether two sets are equal.
unfoldable pub same_squares : Squares → Squares → Bool
same_squares s t = set.is_subset s t && set.is_subset t s
