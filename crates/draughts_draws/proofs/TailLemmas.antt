-- The tail of a line is made ply by ply, and tells its end.
use Rattle.std.proofs.Common.{◌≡◌, ◌⊎◌, inl, inr, ℕ, zero, suc, ◌+◌, ◌-◌, ◌≤◌, Bool, true, false, ◌&&◌, ◌||◌, not}
use Rattle.std.proofs.Common.{cond, nat_eq, nat_le, List, [], ◌∷◌, ◌++◌, length, drop, Option, Some, None, refl, sym}
use Rattle.std.proofs.Common.{ap, ◌∙◌, arith, eqb-true}
use Rattle.std.specs.Prelude.{if◌then◌else◌}
use Rattle.std.specs.List.{list_all, suffix_len, zip}
use Rattle.std.proofs.lemmas.Bool.{and_parts}
use Rattle.std.proofs.lemmas.Grind.{common_steps}
use Rattle.game_history.proofs.Proved.{last_position-append, positions-append}
use Rattle.squares.specs.declared.sides.Side.TheVariants.{First, Second}
use Rattle.squares.specs.declared.draughts.moves.DMove.{DMove}
use Rattle.squares.specs.DraughtsBoard.{Position}
use Rattle.squares.specs.internal.RunLemmas.{end_so-run, suffix_len-more}
use Rattle.draughts_moves.specs.Legal.{play}
use Rattle.draughts_moves.specs.internal.Search.{has_move}
use Rattle.draughts_draws.specs.declared.ends.DEnd.TheVariants.{NoMove, Repetition, KingMoves, ThreeToOne, TwoToOne}
use Rattle.draughts_draws.specs.declared.ends.DEnd.TheVariants.{PlyLimit}
use Rattle.draughts_draws.specs.declared.tails.Class.{Class}
use Rattle.draughts_draws.specs.declared.tails.Class.TheVariants as class
use Rattle.draughts_draws.specs.Line.{last_position, positions}
use Rattle.draughts_draws.specs.Ends.{is_king_move, count_of_pieces}
use Rattle.draughts_draws.specs.Ends.{is_three_to_one, is_two_to_one, stands_thrice, are_king_moves, ends_with}
use Rattle.draughts_draws.specs.Ends.{first_end, end_of}
use Rattle.draughts_draws.specs.Tails.{in_class, class_of, first_count, first_tail, count_on}
use Rattle.draughts_draws.specs.internal.Tails.{run_in, tail_of}
use Rattle.draughts_draws.specs.Tails.{class_count, next_tail, end_or, end_by}
use Rattle.draughts_draws.specs.internal.Tails.{times_stood}

-- ---- the classes are apart

or-true : (a b : Bool) → (a || b) ≡ true → (a ≡ true) ⊎ (b ≡ true)
or-true true b e = inl refl
or-true false b e = inr e

number : (n m : ℕ) (b : Bool) → (nat_eq n m && b) ≡ true → n ≡ m
number n m b e = eqb-true n m (and_parts (nat_eq n m) b e).0

-- in a position of three to one four pieces stand, and in one of two to one at most three
four : (a b : ℕ) (w x y z : Bool)
    → (((nat_eq a 3 && w) && (nat_eq b 1 && x)) || ((nat_eq b 3 && y) && (nat_eq a 1 && z))) ≡ true → a + b ≡ 4
four a b w x y z e =
    elim (or-true ((nat_eq a 3 && w) && (nat_eq b 1 && x)) ((nat_eq b 3 && y) && (nat_eq a 1 && z)) e) [
      | inl h ↦ let one : a ≡ 3 = number a 3 w (and_parts _ _ h).0 in
          let two : b ≡ 1 = number b 1 x (and_parts _ _ h).1 in
          omega (arith, one, two)
      | inr h ↦ let one : b ≡ 3 = number b 3 y (and_parts _ _ h).0 in
          let two : a ≡ 1 = number a 1 z (and_parts _ _ h).1 in
          omega (arith, one, two)
    ]

at_most_two : (a : ℕ) (x y : Bool) → ((nat_eq a 1 && x) || (nat_eq a 2 && y)) ≡ true → a ≤ 2
at_most_two a x y e =
    elim (or-true (nat_eq a 1 && x) (nat_eq a 2 && y) e) [
      | inl h ↦ let is = number a 1 x h in omega (arith, is)
      | inr h ↦ let is = number a 2 y h in omega (arith, is)
    ]

at_most_three : (a b : ℕ) (v w x y z u : Bool)
    →
    ((((nat_eq a 1 && v) || (nat_eq a 2 && w)) && (nat_eq b 1 && x)) ||
    (((nat_eq b 1 && y) || (nat_eq b 2 && z)) && (nat_eq a 1 && u))) ≡ true → a + b ≤ 3
at_most_three a b v w x y z u e =
    elim (or-true (((nat_eq a 1 && v) || (nat_eq a 2 && w)) && (nat_eq b 1 && x))
    (((nat_eq b 1 && y) || (nat_eq b 2 && z)) && (nat_eq a 1 && u)) e) [
      | inl h ↦ let few = at_most_two a v w (and_parts _ _ h).0 in let one : b ≡ 1 = number b 1 x (and_parts _ _ h).1 in
          omega (arith, few, one)
      | inr h ↦ let few = at_most_two b y z (and_parts _ _ h).0 in let one : a ≡ 1 = number a 1 u (and_parts _ _ h).1 in
          omega (arith, few, one)
    ]

apart : (p : Position) → is_three_to_one p ≡ true → is_two_to_one p ≡ true → ⊥
apart p three two =
    let many = four (count_of_pieces First p) (count_of_pieces Second p) _ _ _ _ three in
    let few = at_most_three (count_of_pieces First p) (count_of_pieces Second p) _ _ _ _ _ _ two in
    omega (arith, many, few)

-- ---- the class of a position

chosen : (a b : Bool) (c : Class) → (if a then Some class.ThreeToOne else if b then Some class.TwoToOne else None)
    ≡ Some c → ((c ≡ class.ThreeToOne) × (a ≡ true)) ⊎ ((c ≡ class.TwoToOne) × (b ≡ true))
chosen true b c e = let same : c ≡ class.ThreeToOne = cc in inl (same, refl)
chosen false true c e = let same : c ≡ class.TwoToOne = cc in inr (same, refl)
chosen false false c e = cc

class-in : (p : Position) (c : Class) → class_of p ≡ Some c → in_class c p ≡ true
class-in p c e =
    elim (chosen (is_three_to_one p) (is_two_to_one p) c e) [
      | inl h ↦ ap (λ d. in_class d p) h.0 ∙ h.1
      | inr h ↦ ap (λ d. in_class d p) h.0 ∙ h.1
    ]

not-three : (a b : Bool) → b ≡ true → (a ≡ true → b ≡ true → ⊥)
    → (if a then Some class.ThreeToOne else if b then Some class.TwoToOne else None) ≡ Some class.TwoToOne
not-three true b two never = absurd (never refl two)
not-three false b two never = ap (λ t. if t then Some class.TwoToOne else None) two

in-class : (p : Position) (c : Class) → in_class c p ≡ true → class_of p ≡ Some c
in-class p class.ThreeToOne e =
    ap (λ b. if b then Some class.ThreeToOne else if is_two_to_one p then Some class.TwoToOne else None) e
in-class p class.TwoToOne e = not-three (is_three_to_one p) (is_two_to_one p) e (apart p)

-- ---- a line and its last position

front : Position → List DMove → List Position
front p [] = []
front p (m ∷ ms) = p ∷ front (play p m) ms

positions-front : (p : Position) (ms : List DMove) → positions p ms ≡ front p ms ++ last_position p ms ∷ []
unfolding front
positions-front p [] = refl
positions-front p (m ∷ ms) = ap (λ ps. p ∷ ps) (positions-front (play p m) ms)

-- a run ends at the last position, where that fails the test
no-run : (test : Position → Bool) (p : Position) (ms : List DMove) → test (last_position p ms) ≡ false
    → suffix_len test (positions p ms) ≡ 0
no-run test p ms e =
    ap (suffix_len test) (positions-front p ms) ∙ suffix_len-more test (front p ms) (last_position p ms)
    ∙ ap (λ b. cond b (1 + suffix_len test (front p ms)) 0) e

zip-more : (p : Position) (ms : List DMove) (m : DMove)
    → zip (positions p (ms ++ m ∷ [])) (ms ++ m ∷ []) ≡ zip (positions p ms) ms ++ (last_position p ms, m) ∷ []
zip-more p [] m = refl
zip-more p (n ∷ ms) m = ap (λ es. (p, n) ∷ es) (zip-more (play p n) ms m)

length-zip : (p : Position) (ms : List DMove) → length (zip (positions p ms) ms) ≡ length ms
length-zip p [] = refl
length-zip p (m ∷ ms) = let rest = length-zip (play p m) ms in omega (arith, rest)

zip-none : (ps : List Position) → ◌≡◌ {A = List (Position × DMove)} (zip ps []) []
zip-none [] = refl
zip-none (p ∷ ps) = refl

zip-drop : (k : ℕ) (ps : List Position) (ms : List DMove) → zip (drop k ps) (drop k ms) ≡ drop k (zip ps ms)
zip-drop zero ps ms = refl
zip-drop (suc k) [] ms = refl
zip-drop (suc k) (p ∷ ps) [] = zip-none (drop k ps)
zip-drop (suc k) (p ∷ ps) (m ∷ ms) = zip-drop k ps ms

-- ---- ply by ply

begun : (p : Position) (o : Option Class) → class_of p ≡ o → run_in o (p ∷ []) ≡ first_count o
begun p None e = refl
begun p (Some c) e = ap (λ b. cond b (1 + 0) 0) (class-in p c e)

pub tail-begins : (p : Position) → tail_of p [] ≡ first_tail p
unfolding tail_of
tail-begins p = λ i. record { king_plies = 0; class_positions = begun p (class_of p) refl i }

king-more : (b : Bool) (n : ℕ) → cond b (1 + n) 0 ≡ (if b then n + 1 else 0)
king-more true n = omega arith
king-more false n = refl

module _ (start : Position) (ms : List DMove) (m : DMove) where
  abbrev last : Position
  last = last_position start ms

  abbrev ps : List Position
  ps = positions start ms

  class-more : (c : Class) (b : Bool) → in_class c last ≡ b
      → 1 + suffix_len (in_class c) ps ≡ (if b then run_in (class_of last) ps + 1 else 1)
  class-more c true e = let same : run_in (class_of last) ps ≡ suffix_len (in_class c) ps =
      ap (λ o. run_in o ps) (in-class last c e) in omega (arith, same)
  class-more c false e = let none = no-run (in_class c) start ms e in omega (arith, none)

  counted : (after : Position) (o : Option Class) → class_of after ≡ o
      → run_in o (ps ++ after ∷ []) ≡ count_on last (run_in (class_of last) ps) o
  counted after None e = refl
  counted after (Some c) e =
      suffix_len-more (in_class c) ps after
      ∙ ap (λ b. cond b (1 + suffix_len (in_class c) ps) 0) (class-in after c e)
      ∙ class-more c (in_class c last) refl

  pub tail-goes-on : tail_of start (ms ++ m ∷ []) ≡ next_tail (tail_of start ms) last m (play last m)
  unfolding tail_of
  tail-goes-on =
      let after : last_position start (ms ++ m ∷ []) ≡ play last m = last_position-append play start ms m in
      let all : positions start (ms ++ m ∷ []) ≡ ps ++ play last m ∷ [] = positions-append play start ms m in
      let kings : suffix_len (λ e. is_king_move e.0 e.1) (zip (positions start (ms ++ m ∷ [])) (ms ++ m ∷ []))
      ≡ (if is_king_move last m then suffix_len (λ e. is_king_move e.0 e.1) (zip ps ms) + 1 else 0) =
      ap (suffix_len (λ e. is_king_move e.0 e.1)) (zip-more start ms m)
      ∙ suffix_len-more (λ e. is_king_move e.0 e.1) (zip ps ms) (last, m)
      ∙ king-more (is_king_move last m) (suffix_len (λ e. is_king_move e.0 e.1) (zip ps ms)) in
      let class : run_in (class_of (last_position start (ms ++ m ∷ []))) (positions start (ms ++ m ∷ []))
      ≡ class_count last (play last m) (run_in (class_of last) ps) =
      (λ i. run_in (class_of (after i)) (all i)) ∙ counted (play last m) (class_of (play last m)) refl in
      λ i. record { king_plies = kings i; class_positions = class i }

-- ---- the end

too-few : (n : ℕ) → nat_le (suc n) 0 ≡ false
too-few n = grind (arith, common_steps)

-- the class ends of a tail are those of a line, whatever follows them
classes-first : (three two at_limit : Bool)
    → end_or (if three then Some ThreeToOne else if two then Some TwoToOne else None)
    (if at_limit then Some PlyLimit else None)
    ≡ (if three then Some ThreeToOne else if two then Some TwoToOne else if at_limit then Some PlyLimit else None)
classes-first true two at_limit = refl
classes-first false true at_limit = refl
classes-first false false at_limit = refl

module _ (start : Position) (ms : List DMove) where
  abbrev final : Position
  final = last_position start ms

  abbrev all : List Position
  all = positions start ms

  run_of_kings : are_king_moves all ms ≡ nat_le 50 (suffix_len (λ e. is_king_move e.0 e.1) (zip all ms))
  unfolding are_king_moves
  run_of_kings =
      let many = length-zip start ms in
      ap (λ es. nat_le 50 (length ms) && list_all (λ e. is_king_move e.0 e.1) es) (zip-drop (length ms - 50) all ms)
      ∙ ap (λ n. nat_le 50 n && list_all (λ e. is_king_move e.0 e.1) (drop (n - 50) (zip all ms))) (sym many)
      ∙ end_so-run (λ e. is_king_move e.0 e.1) 50 (zip all ms)

  -- the last positions are in a class where the last one is, and so many in a row
  run_of_class : (c : Class) (n : ℕ) (b : Bool) → in_class c final ≡ b
      → nat_le (suc n) (suffix_len (in_class c) all) ≡ (b && nat_le (suc n) (run_in (class_of final) all))
  run_of_class c n true e = ap (λ o. nat_le (suc n) (run_in o all)) (sym (in-class final c e))
  run_of_class c n false e = ap (nat_le (suc n)) (no-run (in_class c) start ms e) ∙ too-few n

  ends-run : (c : Class) (n : ℕ) → ends_with (suc n) (in_class c) all
      ≡ (in_class c final && nat_le (suc n) (run_in (class_of final) all))
  unfolding ends_with
  ends-run c n = end_so-run (in_class c) (suc n) all ∙ run_of_class c n (in_class c final) refl

  pub ends-by-tail : end_by (tail_of start ms) final (length ms) (times_stood start ms) ≡ end_of start ms
  unfolding end_by end_of first_end stands_thrice tail_of
  ends-by-tail =
      let threes = sym (ends-run class.ThreeToOne 32) in
      let twos = sym (ends-run class.TwoToOne 10) in
      let by_class = classes-first (is_three_to_one final && nat_le 33 (run_in (class_of final) all))
      (is_two_to_one final && nat_le 11 (run_in (class_of final) all)) (nat_eq (length ms) 600)
      ∙
      (λ i. if threes i then Some ThreeToOne else if twos i then Some TwoToOne else if nat_eq (length ms)
      600 then Some PlyLimit else None) in
      λ i. if not (has_move final) then Some NoMove else if nat_le 3 (times_stood start ms) then Some
      Repetition else if sym run_of_kings i then Some KingMoves else by_class i
