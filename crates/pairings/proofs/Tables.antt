-- The laws of the table, from what was computed.
use Rattle.std.proofs.Common.{◌≡◌, ◌≢◌, ◌+◌, ◌-◌, ◌<◌, ◌≤◌, ℕ, List, [], ◌∷◌, map, filter, length, Bool, true, false}
use Rattle.std.proofs.Common.{cond}
use Rattle.std.proofs.Common.{◌&&◌, ◌||◌, nat_eq, refl, sym, ap, subst, ◌∙◌, arith, zero-add, true≢false}
use Rattle.std.proofs.lemmas.List.{length-map}
use Rattle.std.proofs.lemmas.Bool.{eqb-true, leb-true}
use Rattle.std.proofs.Math.Bool.{and-true, and-false}
use Rattle.std.specs.Prelude.{nat_le}
use Rattle.std.specs.List.{range_with_len, list_all, count_by}
use Rattle.std.proofs.lemmas.List.Sums.{AllPass-from_list_all, length-filter, sum_by-cons}
use Rattle.std.proofs.lemmas.List.FromFn.{get_or-range_with_len, length-range_with_len}
use Rattle.pairings.specs.declared.table.BoardPairing.{BoardPairing}
use Rattle.pairings.specs.Table.{games, all_games, rounds_of}
use Rattle.pairings.proofs.Computed.{against, before, times, meetings, is_balanced, is_right_for, is_right, play_once}
use Rattle.pairings.proofs.Computed.{all_right, all_once}
use Rattle.pairings.specs.internal.Laws.{times_first, games_as_first, games_as_second, games_with}

-- what holds of each number of a range
each_in : (p : ℕ → Bool) (from count x : ℕ) → list_all p (range_with_len from count) ≡ true → from ≤ x →
    x < from + count → p x ≡ true
each_in p from count x all low high =
    let within : x - from < count = omega arith in
    let short : x - from < length (range_with_len from count) =
    subst (λ n. x - from < n) (sym (length-range_with_len from count)) within in
    let back : from + (x - from) ≡ x = omega arith in
    subst (λ n. p n ≡ true) (get_or-range_with_len from count (x - from) 0 within ∙ back)
    (AllPass-from_list_all p (range_with_len from count) all (x - from) 0 short)

count_cons : {X : Type 0} (p : X → Bool) (x : X) (xs : List X) →
    count_by p (x ∷ xs) ≡ cond (p x) 1 0 + count_by p xs
count_cons p x xs = sum_by-cons (λ y. cond (p y) 1 0) x xs

against_counts : (one other : ℕ) (list : List BoardPairing) → times other (against one list) ≡ times_first one other list
against_counts one other [] = refl
against_counts one other (game ∷ rest) = by_first (nat_eq game.first one) refl (against_counts one other rest) where
  whole : (b : Bool) → nat_eq game.first one ≡ b →
      cond (b && nat_eq game.second other) 1 0 + times_first one other rest ≡ times_first one other (game ∷ rest)
  whole b is =
      ap (λ c. cond (c && nat_eq game.second other) 1 0 + times_first one other rest) (sym is)
      ∙ sym (count_cons (λ g. nat_eq g.first one && nat_eq g.second other) game rest)

  kept : (b : Bool) → nat_eq game.first one ≡ b → times other (against one (game ∷ rest))
      ≡ times other (map (λ g. g.second) (cond b (game ∷ filter (λ g. nat_eq g.first one) rest)
      (filter (λ g. nat_eq g.first one) rest)))
  kept b is = ap (λ c. times other (map (λ g. g.second) (cond c (game ∷ filter (λ g. nat_eq g.first one) rest)
      (filter (λ g. nat_eq g.first one) rest)))) is

  by_first : (b : Bool) → nat_eq game.first one ≡ b → times other (against one rest) ≡ times_first one other rest →
      times other (against one (game ∷ rest)) ≡ times_first one other (game ∷ rest)
  by_first true is later =
      kept true is
      ∙ count_cons (λ y. nat_eq y other) game.second (against one rest)
      ∙ ap (λ n. cond (nat_eq game.second other) 1 0 + n) later
      ∙ whole true is
  by_first false is later = kept false is ∙ later ∙ sym (zero-add (times_first one other rest)) ∙ whole false is

before_counts : (one other : ℕ) (list : List BoardPairing) → times other (before one list) ≡ times_first other one list
before_counts one other [] = refl
before_counts one other (game ∷ rest) = by_second (nat_eq game.second one) refl (before_counts one other rest) where
  whole : (b : Bool) → nat_eq game.second one ≡ b →
      cond (nat_eq game.first other && b) 1 0 + times_first other one rest ≡ times_first other one (game ∷ rest)
  whole b is =
      ap (λ c. cond (nat_eq game.first other && c) 1 0 + times_first other one rest) (sym is)
      ∙ sym (count_cons (λ g. nat_eq g.first other && nat_eq g.second one) game rest)

  kept : (b : Bool) → nat_eq game.second one ≡ b → times other (before one (game ∷ rest))
      ≡ times other (map (λ g. g.first) (cond b (game ∷ filter (λ g. nat_eq g.second one) rest)
      (filter (λ g. nat_eq g.second one) rest)))
  kept b is = ap (λ c. times other (map (λ g. g.first) (cond c (game ∷ filter (λ g. nat_eq g.second one) rest)
      (filter (λ g. nat_eq g.second one) rest)))) is

  by_second : (b : Bool) → nat_eq game.second one ≡ b → times other (before one rest) ≡ times_first other one rest →
      times other (before one (game ∷ rest)) ≡ times_first other one (game ∷ rest)
  by_second true is later =
      kept true is
      ∙ count_cons (λ y. nat_eq y other) game.first (before one rest)
      ∙ ap (λ n. cond (nat_eq game.first other) 1 0 + n) later
      ∙ ap (λ c. cond c 1 0 + times_first other one rest) (sym (and-true (nat_eq game.first other)))
      ∙ whole true is
  by_second false is later =
      kept false is
      ∙ later
      ∙ sym (zero-add (times_first other one rest))
      ∙ ap (λ c. cond c 1 0 + times_first other one rest) (sym (and-false (nat_eq game.first other)))
      ∙ whole false is

against_length : (one : ℕ) (list : List BoardPairing) → length (against one list) ≡ games_as_first one list
against_length one list =
    length-map (filter (λ g. nat_eq g.first one) list) (λ g. g.second) ∙ length-filter (λ g. nat_eq g.first one) list

before_length : (one : ℕ) (list : List BoardPairing) → length (before one list) ≡ games_as_second one list
before_length one list =
    length-map (filter (λ g. nat_eq g.second one) list) (λ g. g.first) ∙ length-filter (λ g. nat_eq g.second one) list

both_true : (a b : Bool) → (a && b) ≡ true → (a ≡ true) × (b ≡ true)
both_true true b is = (refl, is)
both_true false b is = absurd (true≢false (sym is))

second_true : (a b : Bool) → (a || b) ≡ true → ¬ (a ≡ true) → b ≡ true
second_true true b is never = absurd (never refl)
second_true false b is never = is

module _ (players : ℕ) (few : players ≤ 32) (two : 2 ≤ players) where
  right : (is_double : Bool) → is_right is_double players (all_games players is_double) ≡ true
  right is_double =
      each_in (λ n. is_right is_double n (all_games n is_double)) 2 31 players (all_right is_double) two (omega arith)

  right_for : (is_double : Bool) (one : ℕ) → 1 ≤ one → one ≤ players →
      let list : List BoardPairing = all_games players is_double in
      is_right_for players is_double one (against one list) (before one list) ≡ true
  unfolding is_right
  right_for is_double one low high =
      let list : List BoardPairing = all_games players is_double in
      each_in (λ n. is_right_for players is_double n (against n list) (before n list)) 1 players one (right is_double)
      low (omega arith)

  met : (is_double : Bool) (one other : ℕ) → 1 ≤ one → one ≤ players → 1 ≤ other → other ≤ players → one ≢ other →
      let list : List BoardPairing = all_games players is_double in
      meetings is_double (against one list) (before one list) other ≡ 1
  unfolding is_right_for
  met is_double one other low high low' high' apart =
      let list : List BoardPairing = all_games players is_double in
      let theirs = each_in (λ n. nat_eq one n || nat_eq (meetings is_double (against one list) (before one list) n) 1)
      1 players other ((both_true _ _ (right_for is_double one low high)).0) low' (omega arith) in
      eqb-true _ _ (second_true _ _ theirs (λ same. apart (eqb-true one other same)))

  pub meet_once : (one other : ℕ) → 1 ≤ one → one ≤ players → 1 ≤ other → other ≤ players → one ≢ other →
      times_first one other (all_games players false) + times_first other one (all_games players false) ≡ 1
  meet_once one other low high low' high' apart =
      let list : List BoardPairing = all_games players false in
      sym (ap (λ n. n + times_first other one list) (against_counts one other list))
      ∙ sym (ap (λ n. times other (against one list) + n) (before_counts one other list))
      ∙ met false one other low high low' high' apart

  pub meet_twice : (one other : ℕ) → 1 ≤ one → one ≤ players → 1 ≤ other → other ≤ players → one ≢ other →
      times_first one other (all_games players true) ≡ 1
  meet_twice one other low high low' high' apart =
      sym (against_counts one other (all_games players true)) ∙ met true one other low high low' high' apart

  balance : (is_double : Bool) (one : ℕ) → 1 ≤ one → one ≤ players →
      let list : List BoardPairing = all_games players is_double in
      is_balanced is_double (games_as_first one list) (games_as_second one list) ≡ true
  unfolding is_right_for
  balance is_double one low high =
      let list : List BoardPairing = all_games players is_double in
      let firsts : ℕ → Type 0 = λ n. is_balanced is_double n (length (before one list)) ≡ true in
      let seconds : ℕ → Type 0 = λ n. is_balanced is_double (games_as_first one list) n ≡ true in
      subst seconds (before_length one list)
      (subst firsts (against_length one list) ((both_true _ _ (right_for is_double one low high)).1))

  pub more_firsts : (one : ℕ) → 1 ≤ one → one ≤ players →
      games_as_first one (all_games players false) ≤ games_as_second one (all_games players false) + 1
  more_firsts one low high = leb-true _ _ (both_true _ _ (balance false one low high)).0

  pub more_seconds : (one : ℕ) → 1 ≤ one → one ≤ players →
      games_as_second one (all_games players false) ≤ games_as_first one (all_games players false) + 1
  more_seconds one low high = leb-true _ _ (both_true _ _ (balance false one low high)).1

  pub sides_equal : (one : ℕ) → 1 ≤ one → one ≤ players →
      games_as_first one (all_games players true) ≡ games_as_second one (all_games players true)
  sides_equal one low high = eqb-true _ _ (balance true one low high)

  pub once_a_round : (round one : ℕ) → 1 ≤ round → round ≤ rounds_of players true → 1 ≤ one → one ≤ players →
      games_with one (games players round) ≤ 1
  unfolding play_once
  once_a_round round one first last low high =
      let each = each_in (λ n. list_all (λ r. play_once n (games n r)) (range_with_len 1
      (rounds_of n true))) 2 31 players
      all_once two (omega arith) in
      let this = each_in (λ r. play_once players (games players r)) 1 (rounds_of players true) round each first
      (omega arith) in
      leb-true _ _ (each_in (λ n. nat_le (games_with n (games players round)) 1) 1 players one this low (omega arith))
