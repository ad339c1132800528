-- Sets of squares, as 50 marks in the order of the squares or as an ascending list. No promise of the program rests on
-- these definitions.
use Rattle.std.specs.Prelude.{◌≡◌, ℕ, Bool, true, cond, Option, Some, None, List, [], ◌∷◌}
use Rattle.std.specs.FinSet as set
use Rattle.std.proofs.Common.{suc}
use Rattle.squares.specs.DraughtsSets.{Squares, ascending}

-- The marked squares, if the first mark belongs to square n.
abbrev pub marked : ℕ → List Bool → List ℕ
marked n [] = []
marked n (b ∷ bs) = cond b (n ∷ marked (suc n) bs) (marked (suc n) bs)

-- The set of a list of 50 marks.
unfoldable pub squares_of : List Bool → Squares
squares_of marks = set.from_list (marked 1 marks)

-- The result and the remaining set when the least square is popped.
abbrev pub PopsSquare : Squares → Option ℕ → Squares → Type 0
PopsSquare before None after = (before ≡ set.empty) × (ascending before ≡ []) × (after ≡ before)
PopsSquare before (Some n) after = (ascending before ≡ n ∷ ascending after) × (after ≡ set.remove before n)
    × (set.contains before n ≡ true)
