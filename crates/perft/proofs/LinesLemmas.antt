-- Counts that add up.
use Rattle.std.proofs.Common.{◌≡◌, ℕ, ◌+◌, refl, sym, ap, ◌∙◌, List, [], ◌∷◌, ◌++◌, append_assoc, append-nil, length}
use Rattle.std.proofs.Common.{zero, suc, ◌-◌, ◌<◌, ◌≤◌, take, get_or, subst, arith, Result, Ok, Err}
use Rattle.std.proofs.lemmas.List.{take_more, take_all}
use Rattle.std.specs.Prelude.{IfOk}
use Rattle.std.specs.declared.cmp.Ordering.{Ordering}
use Rattle.perft.specs.internal.Lines.{AddUp, AreTheMoves, HasLines, IsTheCount, count_line, AreLines}

-- one more move with its count
pub AddUp-more : {M : Type 0} (counted : M → ℕ → Type 0) (moves : List M) (m : M) (total count : ℕ)
    → AddUp counted moves total → counted m count → AddUp counted (moves ++ m ∷ []) (total + count)
AddUp-more counted [] m total count none one = (count, 0, one, refl, omega (arith, none))
AddUp-more counted (x ∷ xs) m total count (first, rest, here, others, sums) one =
    (first, rest + count, here, AddUp-more counted xs m rest count others one, omega (arith, sums))

suc-is : (n : ℕ) → suc n ≡ 1 + n
suc-is n = omega arith

-- a count of one for each move
pub AddUp-ones : {M : Type 0} (counted : M → ℕ → Type 0) (moves : List M) → ((m : M) → counted m 1)
    → AddUp counted moves (length moves)
AddUp-ones counted [] one = refl
AddUp-ones counted (x ∷ xs) one = (1, length xs, one x, AddUp-ones counted xs one, suc-is (length xs))

-- what a line from a position is counted by, once its first move is played
abbrev pub after_first : {P M : Type 0} → (P → M → Type 0) → (M → M → Ordering) → (P → M → P) → ℕ → P → M → ℕ → Type 0
after_first legal order play depth p m lines = HasLines legal order play depth (play p m) lines

-- lines of one move are counted by the legal moves
HasLines-one : {P M : Type 0} (legal : P → M → Type 0) (order : M → M → Ordering) (play : P → M → P) (p : P) (count : ℕ)
    → IsTheCount legal order p count → HasLines legal order play 1 p count
HasLines-one legal order play p count so_many = (
  so_many.moves,
  so_many.are_moves,
  subst (AddUp (after_first legal order play 0 p) so_many.moves) (sym so_many.counted)
      (AddUp-ones (after_first legal order play 0 p) so_many.moves (λ m. refl)),
)

-- what counts the legal moves counts the lines of one move
pub counted-lines : {P M E : Type 0} (legal : P → M → Type 0) (order : M → M → Ordering) (play : P → M → P) (p : P)
    (depth : ℕ) (result : Result ℕ E) → depth ≡ 1 → IfOk result (λ count. IsTheCount legal order p count)
    → IfOk result (λ count. HasLines legal order play depth p count)
counted-lines legal order play p depth (Ok count) one so_many =
    subst (λ (d : ℕ). HasLines legal order play d p count) (sym one) (HasLines-one legal order play p count so_many)
counted-lines legal order play p depth (Err fault) one failed = tt

suc-less : (n : ℕ) → suc n - 1 ≡ n
suc-less n = omega arith

-- lines of more moves, by those under each legal move
pub HasLines-more : {P M : Type 0} (legal : P → M → Type 0) (order : M → M → Ordering) (play : P → M → P) (depth : ℕ)
    (p : P) (moves : List M) (total : ℕ) → 0 < depth → AreTheMoves legal order p moves
    → AddUp (after_first legal order play (depth - 1) p) moves total → HasLines legal order play depth p total
HasLines-more legal order play zero p moves total some the sums = absurd (omega (arith, some))
HasLines-more legal order play (suc depth) p moves total some the sums =
    (moves, the, subst (λ (d : ℕ). AddUp (after_first legal order play d p) moves total) (suc-less depth) sums)

-- the next of the moves, with its count
pub AddUp-next : {M : Type 0} (counted : M → ℕ → Type 0) (moves : List M) (i : ℕ) (m : M) (total count : ℕ)
    → i < length moves → m ≡ get_or moves i m → AddUp counted (take i moves) total → counted m count
    → AddUp counted (take (i + 1) moves) (total + count)
AddUp-next counted moves i m total count within is sums one =
    subst (λ ms. AddUp counted ms (total + count))
    (sym (take_more moves i m within ∙ ap (λ x. take i moves ++ x ∷ []) (sym is)))
    (AddUp-more counted (take i moves) m total count sums one)

-- all of them
pub AddUp-all : {M : Type 0} (counted : M → ℕ → Type 0) (moves : List M) (i total : ℕ) → length moves ≤ i
    → AddUp counted (take i moves) total → AddUp counted moves total
AddUp-all counted moves i total all sums = subst (λ ms. AddUp counted ms total) (take_all i moves all) sums

-- one more move with its line
pub AreLines-more : {M : Type 0} (writes : M → List ℕ → Type 0) (counted : M → ℕ → Type 0) (moves : List M) (m : M)
    (text name : List ℕ) (total count : ℕ) → AreLines writes counted moves text total → writes m name → counted m count
    → AreLines writes counted (moves ++ m ∷ []) (text ++ count_line name count) (total + count)
AreLines-more writes counted [] m text name total count (nothing, none) written one = (
  name,
  [],
  count,
  0,
  written,
  one,
  (refl, refl),
  ap (λ t. t ++ count_line name count) nothing
      ∙ sym (append-nil (count_line name count)),
  omega (arith, none),
)
AreLines-more writes counted (x ∷ xs) m text name total count
    (front, more, first, rest, is, here, others, text_is, sums) written one = (
      front,
      more ++ count_line name count,
      first,
      rest + count,
      is,
      here,
      AreLines-more writes counted xs m more name rest count others written one,
      ap (λ t. t ++ count_line name count) text_is ∙ append_assoc (count_line front first) more (count_line name count),
      omega (arith, sums),
    )

-- the next of the moves, with its line
pub AreLines-next : {M : Type 0} (writes : M → List ℕ → Type 0) (counted : M → ℕ → Type 0) (moves : List M) (i : ℕ)
    (m : M) (text name : List ℕ) (total count : ℕ) → i < length moves → m ≡ get_or moves i m
    → AreLines writes counted (take i moves) text total → writes m name → counted m count
    → AreLines writes counted (take (i + 1) moves) (text ++ count_line name count) (total + count)
AreLines-next writes counted moves i m text name total count within is lines written one =
    subst (λ ms. AreLines writes counted ms (text ++ count_line name count) (total + count))
    (sym (take_more moves i m within ∙ ap (λ x. take i moves ++ x ∷ []) (sym is)))
    (AreLines-more writes counted (take i moves) m text name total count lines written one)

-- all of them
pub AreLines-all : {M : Type 0} (writes : M → List ℕ → Type 0) (counted : M → ℕ → Type 0) (moves : List M) (i : ℕ)
    (text : List ℕ) (total : ℕ) → length moves ≤ i → AreLines writes counted (take i moves) text total
    → AreLines writes counted moves text total
AreLines-all writes counted moves i text total all lines =
    subst (λ ms. AreLines writes counted ms text total) (take_all i moves all) lines
