-- Leaf counts of a position's move tree, for any game with legal moves, a move order and a successor position. No
-- promise of the program rests on these definitions.
use Rattle.std.specs.Prelude.{◌≡◌, ◌↔◌, ℕ, ◌+◌, ◌-◌, ◌++◌, zero, suc, List, [], ◌∷◌, Option, Contains, codes}
use Rattle.std.specs.Prelude.{decimal, length}
use Rattle.std.specs.Io.KnownBytes.{Appends}
use Rattle.std.specs.List.Sorted.{IsStrictlySortedBy}
use Rattle.std.specs.declared.cmp.Ordering.{Ordering}

-- the legal moves of a position, each once
pub record AreTheMoves {P M : Type 0} (legal : P → M → Type 0) (order : M → M → Ordering) (p : P)
    (moves : List M) : Type 0 where
  pub once : IsStrictlySortedBy order moves
  pub members : (m : M) → Contains moves m ↔ legal p m

-- the number of legal moves of a position
pub record IsTheCount {P M : Type 0} (legal : P → M → Type 0) (order : M → M → Ordering) (p : P)
    (count : ℕ) : Type 0 where
  pub moves : List M
  pub are_moves : AreTheMoves legal order p moves
  pub counted : count ≡ length moves

-- each move has a count, and the counts add up to the total
abbrev pub AddUp : {M : Type 0} → (M → ℕ → Type 0) → List M → ℕ → Type 0
AddUp counted [] total = total ≡ 0
AddUp counted (m ∷ moves) total = (count : ℕ) × (rest : ℕ) × counted m count × AddUp counted moves rest
    × (total ≡ count + rest)

-- The leaf count is 1 at depth 0; at a greater depth it is the sum of the leaf counts after each legal move.
abbrev pub HasLines : {P M : Type 0} → (P → M → Type 0) → (M → M → Ordering) → (P → M → P) → ℕ → P → ℕ → Type 0
HasLines legal order play zero p count = count ≡ 1
HasLines {M = M} legal order play (suc depth) p count = (moves : List M) × AreTheMoves legal order p moves
    × AddUp (λ m lines. HasLines legal order play depth (play p m) lines) moves count

-- ---- output

-- the line of a move and its leaf count
abbrev pub count_line : List ℕ → ℕ → List ℕ
count_line name count = name ++ (codes " " ++ (decimal count ++ codes "\n"))

abbrev pub total_line : ℕ → List ℕ
total_line total = codes "total " ++ (decimal total ++ codes "\n")

-- one line for each move with its count, and the counts add up to the total
abbrev pub AreLines : {M : Type 0} → (M → List ℕ → Type 0) → (M → ℕ → Type 0) → List M → List ℕ → ℕ → Type 0
AreLines writes counted [] text total = (text ≡ []) × (total ≡ 0)
AreLines writes counted (m ∷ moves) text total =
    (name : List ℕ) × (more : List ℕ) × (count : ℕ) × (rest : ℕ)
    × writes m name × counted m count × AreLines writes counted moves more rest
    × (text ≡ count_line name count ++ more) × (total ≡ count + rest)

-- the legal moves in order, one line each with its leaf count, and the total
pub record IsPrinted {P M : Type 0} (legal : P → M → Type 0) (order : M → M → Ordering) (play : P → M → P)
    (writes : P → M → List ℕ → Type 0) (depth : ℕ) (p : P) (before after : Option (List ℕ)) : Type 0 where
  pub moves : List M
  pub are_moves : AreTheMoves legal order p moves
  pub lines : List ℕ
  pub total : ℕ
  pub are_lines : AreLines (λ m. writes p m) (λ m count. HasLines legal order play (depth - 1) (play p m) count) moves
      lines total
  pub printed : Appends before after (lines ++ total_line total)
