-- The tail of a line is made ply by ply, and tells its end.
use Rattle.std.proofs.Common.{◌≡◌, ℕ, zero, suc, ◌+◌, ◌-◌, ◌*◌, ◌≤◌, Bool, true, false, ◌&&◌, ◌||◌, not, cond}
use Rattle.std.proofs.Common.{nat_eq, nat_le, List, [], ◌∷◌, ◌++◌, length, drop, take, Some, None, refl, sym}
use Rattle.std.proofs.Common.{ap, ◌∙◌, arith, length-append, append-nil, le-leb}
use Rattle.std.specs.Prelude.{filter, if◌then◌else◌}
use Rattle.std.specs.List.{list_all, suffix_len}
use Rattle.std.proofs.lemmas.Grind.{common_steps}
use Rattle.std.proofs.lemmas.List.{take-append-drop, length-drop}
use Rattle.std.proofs.lemmas.List.Elements.{filter-append}
use Rattle.std.proofs.Math.Seq.{drop-append_seam, drop-drop}
use Rattle.game_history.proofs.Proved.{positions-append}
use Rattle.squares.specs.declared.sides.Side.{Side}
use Rattle.squares.specs.declared.sides.Side.TheVariants.{First, Second}
use Rattle.squares.specs.declared.shogi.moves.SMove.{SMove}
use Rattle.squares.specs.Sides.{other, same_side}
use Rattle.squares.specs.ShogiSets.{ShogiPosition}
use Rattle.squares.specs.internal.RunLemmas.{end_so-run, suffix_len-more}
use Rattle.shogi_moves.specs.Rules.{play}
use Rattle.shogi_moves.specs.internal.Computed.{has_move}
use Rattle.shogi_repetition.specs.declared.ends.SEnd.TheVariants.{NoMove, PlyLimit}
use Rattle.shogi_repetition.specs.declared.tails.Tail.{Tail}
use Rattle.shogi_repetition.specs.Line.{last_position, position_after}
use Rattle.shogi_repetition.specs.internal.Line.{positions}
use Rattle.shogi_repetition.specs.Ends.{FirstOccurs, is_in_check, end_by_checks}
use Rattle.shogi_repetition.specs.internal.Computed.{checks_throughout, stands_four_times, since_first, repetition}
use Rattle.shogi_repetition.specs.internal.Computed.{first_end}
use Rattle.shogi_repetition.specs.internal.Computed.{end_of}
use Rattle.shogi_repetition.specs.Tails.{no_checks, count_on, tail_after, next_tail}
use Rattle.shogi_repetition.specs.internal.Tails.{led_to, checks_in_a_row, tail_of}
use Rattle.shogi_repetition.specs.Tails.{repetition_by, end_by}
use Rattle.shogi_repetition.specs.internal.Tails.{times_stood}
use Rattle.shogi_repetition.proofs.EndLemmas.{place, first-stands, since_first-is, one-first}

-- ---- ply by ply

pub tail-begins : (start : ShogiPosition) → tail_of start [] ≡ no_checks
unfolding tail_of
tail-begins start = refl

positions-head : (p : ShogiPosition) (ms : List SMove) → positions p ms ≡ p ∷ drop 1 (positions p ms)
positions-head p [] = refl
positions-head p (m ∷ ms) = refl

led_to-more : (side : Side) (p : ShogiPosition) (ms : List SMove) (x : ShogiPosition)
    → led_to side (positions p ms ++ x ∷ []) ≡ led_to side (positions p ms)
    ++ filter (λ q. same_side q.turn (other side)) (x ∷ [])
led_to-more side p [] x = refl
led_to-more side p (m ∷ ms) x =
    filter-append (λ q. same_side q.turn (other side)) (positions (play p m) ms) (x ∷ [])

one-more : (b : Bool) (n : ℕ) → cond b (1 + n) 0 ≡ count_on n b
one-more true n = omega arith
one-more false n = refl

-- the checks in a row of what led so far, and of one position that a move of the side led to
run-on : (b : Bool) (ps : List ShogiPosition) (x : ShogiPosition)
    → suffix_len is_in_check (ps ++ (if b then x ∷ [] else []))
    ≡ (if b then count_on (suffix_len is_in_check ps) (is_in_check x) else suffix_len is_in_check ps)
run-on true ps x = suffix_len-more is_in_check ps x ∙ one-more (is_in_check x) (suffix_len is_in_check ps)
run-on false ps x = ap (suffix_len is_in_check) (append-nil ps)

-- the checks of a side after one position more
run-more : (side : Side) (p : ShogiPosition) (ms : List SMove) (x : ShogiPosition)
    → checks_in_a_row side (positions p ms ++ x ∷ [])
    ≡ (if same_side x.turn (other side) then count_on (checks_in_a_row side (positions p ms))
    (is_in_check x) else checks_in_a_row side (positions p ms))
run-more side p ms x =
    ap (suffix_len is_in_check) (led_to-more side p ms x)
    ∙ run-on (same_side x.turn (other side)) (led_to side (positions p ms)) x

both-counted : (tail : Tail) (b : Bool) (turn : Side)
    →
    ◌≡◌ {A = Tail}
    (record {
      first_checks = if same_side turn (other First) then count_on tail.first_checks b else tail.first_checks;
      second_checks = if same_side turn (other Second) then count_on tail.second_checks b else tail.second_checks;
    }) (tail_after tail b turn)
both-counted tail b First = refl
both-counted tail b Second = refl

pub tail-goes-on : (start : ShogiPosition) (ms : List SMove) (m : SMove)
    → tail_of start (ms ++ m ∷ []) ≡ next_tail (tail_of start ms) (play (last_position start ms) m)
unfolding tail_of
tail-goes-on start ms m =
    let all = positions-append play start ms m in
    let x : ShogiPosition = play (last_position start ms) m in
    (λ i. record { first_checks = checks_in_a_row First (all i); second_checks = checks_in_a_row Second (all i) })
    ∙ (λ i. record { first_checks = run-more First start ms x i; second_checks = run-more Second start ms x i })
    ∙ both-counted (tail_of start ms) (is_in_check x) x.turn

-- ---- the checks of a side since a position

step-so : (side turn : Side) (q : ShogiPosition) (xs : List ShogiPosition)
    → ((same_side turn (other side) || is_in_check q) && list_all is_in_check xs)
    ≡ list_all is_in_check (if same_side (other turn) (other side) then q ∷ xs else xs)
step-so First First q xs = refl
step-so Second First q xs = refl
step-so _ _ q xs = refl

-- of two moves, one is of the side
swapped : (side turn : Side)
    → same_side (other turn) (other side) ≡ not (same_side (other (other turn)) (other side))
swapped First First = refl
swapped Second First = refl
swapped _ _ = refl

module _ (side : Side) where
  abbrev made : ShogiPosition → Bool
  made p = same_side p.turn (other side)

  throughout-led : (p : ShogiPosition) (ms : List SMove)
      → checks_throughout side (positions p ms) ≡ list_all is_in_check (led_to side (positions p ms))
  unfolding checks_throughout
  throughout-led p [] = refl
  throughout-led p (m ∷ ms) =
      let q : ShogiPosition = play p m in
      rw (positions-head q ms) (ap (λ b. (same_side p.turn (other side) || is_in_check q) && b) (throughout-led q ms)
      ∙ step-so side p.turn q (filter made (drop 1 (positions q ms))))

  one-of-two : (b : Bool) (q r : ShogiPosition) (xs : List ShogiPosition)
      → length (if not b then q ∷ (if b then r ∷ xs else xs) else (if b then r ∷ xs else xs)) ≡ 1 + length xs
  one-of-two true q r xs = omega arith
  one-of-two false q r xs = omega arith

  -- of the plies between two positions with the same turn each side made half
  half : (p : ShogiPosition) (ms : List SMove) → (last_position p ms).turn ≡ p.turn
      → 2 * length (led_to side (positions p ms)) ≡ length ms
  half p [] e = refl
  half p (m ∷ []) e = absurd (no-other p.turn e)
    where
      no-other : (turn : Side) → other turn ≡ turn → ⊥
      no-other First h = cc
      no-other Second h = cc
  half p (m ∷ n ∷ ms) e =
      let q : ShogiPosition = play p m in
      let r : ShogiPosition = play q n in
      let rest = drop 1 (positions r ms) in
      let back : r.turn ≡ p.turn = twice p.turn in
      let tests : made q ≡ not (made r) = swapped side p.turn in
      let count : length (filter made (q ∷ positions r ms)) ≡ 1 + length (filter made rest) =
      rw (positions-head r ms, tests) (one-of-two (made r) q r (filter made rest)) in
      omega (arith, count, half r ms (e ∙ sym back))
    where
      twice : (turn : Side) → other (other turn) ≡ turn
      twice First = refl
      twice Second = refl

  -- what led to the later positions is the end of what led to all
  led-drop : (f : ℕ) (xs : List ShogiPosition) → (length (filter made (drop f xs)) ≤ length (filter made xs))
      × (filter made (drop f xs) ≡ drop (length (filter made xs) - length (filter made (drop f xs))) (filter made xs))
  led-drop f xs =
      let early = filter made (take f xs) in
      let late = filter made (drop f xs) in
      let parts : filter made xs ≡ early ++ late =
      ap (filter made) (sym (take-append-drop f xs)) ∙ filter-append made (take f xs) (drop f xs) in
      let many : length (filter made xs) ≡ length early + length late = ap length parts ∙ length-append early late in
      let cut : length (filter made xs) - length late ≡ length early = omega (arith, many) in
      (omega (arith, many), sym ((λ i. drop (cut i) (parts i)) ∙ drop-append_seam early late))

  drop-one : (f : ℕ) (xs : List ShogiPosition) → drop 1 (drop f xs) ≡ drop f (drop 1 xs)
  drop-one f xs = let same : f + 1 ≡ 1 + f = omega arith in
      drop-drop 1 f xs ∙ ap (λ n. drop n xs) same ∙ sym (drop-drop f 1 xs)

  doubled : (n k : ℕ) → nat_le n k ≡ nat_le (2 * n) (2 * k)
  doubled n k = grind (arith, common_steps)

  positions-drop : (p : ShogiPosition) (ms : List SMove) (f : ℕ) → f ≤ length ms
      → drop f (positions p ms) ≡ positions (position_after p ms f) (drop f ms)
  positions-drop p ms zero h = refl
  positions-drop p [] (suc f) h = absurd (omega (arith, h))
  positions-drop p (m ∷ ms) (suc f) h = positions-drop (play p m) ms f (omega (arith, h))

  last-drop : (p : ShogiPosition) (ms : List SMove) (f : ℕ)
      → last_position (position_after p ms f) (drop f ms) ≡ last_position p ms
  last-drop p ms zero = refl
  last-drop p [] (suc f) = refl
  last-drop p (m ∷ ms) (suc f) = last-drop (play p m) ms f

  -- A side checked throughout since a position that is the last one too, where so many of its moves, in a row, gave
  -- check.
  throughout-run : (start : ShogiPosition) (ms : List SMove) (f : ℕ) → f ≤ length ms
      → position_after start ms f ≡ last_position start ms
      → checks_throughout side (drop f (positions start ms)) ≡ nat_le (length ms - f)
      (2 * checks_in_a_row side (positions start ms))
  throughout-run start ms f h stands =
      let p = position_after start ms f in
      let all = led_to side (positions start ms) in
      let later : List ShogiPosition = drop f (drop 1 (positions start ms)) in
      let count = length (filter made later) in
      let cut = positions-drop start ms f h in
      let led : led_to side (positions p (drop f ms)) ≡ filter made later =
      ap (led_to side) (sym cut) ∙ ap (filter made) (drop-one f (positions start ms)) in
      let enough : nat_le count (length all) ≡ true =
      le-leb count (length all) (led-drop f (drop 1 (positions start ms))).0 in
      let plies : 2 * count ≡ length ms - f =
      ap (λ l. 2 * length l) (sym led) ∙ half p (drop f ms) (ap (λ q. q.turn) (last-drop start ms f ∙ sym stands))
      ∙ length-drop f ms in
      ap (checks_throughout side) cut
      ∙ throughout-led p (drop f ms)
      ∙ ap (list_all is_in_check) (led ∙ (led-drop f (drop 1 (positions start ms))).1)
      ∙ ap (λ b. b && list_all is_in_check (drop (length all - count) all)) (sym enough)
      ∙ end_so-run is_in_check count all
      ∙ doubled count (suffix_len is_in_check all)
      ∙ ap (λ n. nat_le n (2 * suffix_len is_in_check all)) plies

-- ---- the end

module _ (start : ShogiPosition) (ms : List SMove) (f : ℕ) (stands : FirstOccurs start ms f) where
  abbrev last : ShogiPosition
  last = last_position start ms

  abbrev all : List ShogiPosition
  all = positions start ms

  since : since_first last all ≡ drop f all
  since = since_first-is start ms ∙ ap (λ n. drop n all)
      (one-first start ms (place start ms) f (first-stands start ms) stands)

  by_checks : repetition last all ≡ repetition_by
      (record { first_checks = checks_in_a_row First all; second_checks = checks_in_a_row Second all }) (length ms - f)
  unfolding repetition
  by_checks =
      let first = ap (checks_throughout First) since ∙ throughout-run First start ms f stands.within stands.stands in
      let second = ap (checks_throughout Second) since ∙ throughout-run Second start ms f stands.within stands.stands in
      λ i. end_by_checks (first i) (second i)

  pub ends-by-tail : end_by (tail_of start ms) last (length ms) (times_stood start ms) f ≡ end_of start ms
  unfolding end_by end_of first_end stands_four_times tail_of
  ends-by-tail =
      λ i. if not (has_move last) then Some NoMove else if nat_le 4 (times_stood start ms) then Some
      (sym by_checks i) else if nat_eq (length ms) 600 then Some PlyLimit else None
