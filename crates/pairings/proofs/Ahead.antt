-- Games so far, and those of some pairs that follow.
use Rattle.std.proofs.Common.{◌≡◌, ◌+◌, ◌-◌, ◌<◌, ◌++◌, ◌∷◌, [], suc, length, filter, ℕ, List, Bool, true, false, cond}
use Rattle.std.proofs.Common.{refl, sym, ap, ◌∙◌, arith}
use Rattle.std.proofs.lemmas.Grind.{common_steps}
use Rattle.std.specs.List.{range_with_len, flat_map}
use Rattle.pairings.specs.declared.table.BoardPairing.{BoardPairing}
use Rattle.pairings.specs.Table.{Pair, meet, game_of, numbered, pairs_from, pair_of, row, games, all_games, rounds_of}

abbrev pub ahead : ℕ → ℕ → List BoardPairing → List Pair → List BoardPairing
ahead players round made pairs =
    made ++ numbered players round (suc (length made)) (filter (meet players round) pairs)

append_nil : {X : Type 0} (xs : List X) → xs ++ [] ≡ xs
append_nil xs = grind (arith, common_steps)

append_assoc : {X : Type 0} (xs ys zs : List X) → xs ++ (ys ++ zs) ≡ (xs ++ ys) ++ zs
append_assoc xs ys zs = grind (arith, common_steps)

length_more : {X : Type 0} (xs : List X) (x : X) → length (xs ++ x ∷ []) ≡ suc (length xs)
length_more xs x = grind (arith, common_steps)

one_less : (a b : ℕ) → a < b → b - a ≡ suc (b - (a + 1))
one_less a b below = omega arith

pub one_more : (n : ℕ) → n + 1 ≡ suc n
one_more n = omega arith

pub length_one : {X : Type 0} (xs : List X) (x : X) → length (xs ++ x ∷ []) ≡ length xs + 1
length_one xs x = grind (arith, common_steps)

one_back : (n : ℕ) → n + 1 - 1 ≡ n
one_back n = omega arith

module _ (players round : ℕ) where
  pub ahead-none : (made : List BoardPairing) → ahead players round made [] ≡ made
  ahead-none made = append_nil made

  pub ahead-no : (made : List BoardPairing) (p : Pair) (ps : List Pair) → meet players round p ≡ false →
      ahead players round made (p ∷ ps) ≡ ahead players round made ps
  ahead-no made p ps no-meeting =
      ap (λ b. made ++ numbered players round (suc (length made))
      (cond b (p ∷ filter (meet players round) ps) (filter (meet players round) ps))) no-meeting

  pub ahead-yes : (made : List BoardPairing) (p : Pair) (ps : List Pair) → meet players round p ≡ true →
      ahead players round made (p ∷ ps)
      ≡ ahead players round (made ++ game_of players round (suc (length made)) p ∷ []) ps
  ahead-yes made p ps meeting =
      let later : List Pair = filter (meet players round) ps in
      let game : BoardPairing = game_of players round (suc (length made)) p in
      ap (λ b. made ++ numbered players round (suc (length made)) (cond b (p ∷ later) later)) meeting
      ∙ append_assoc made (game ∷ []) (numbered players round (suc (suc (length made))) later)
      ∙ ap (λ n. (made ++ game ∷ []) ++ numbered players round (suc n) later) (sym (length_more made game))

  pub ahead-join : (ps qs : List Pair) (made : List BoardPairing) →
      ahead players round made (ps ++ qs) ≡ ahead players round (ahead players round made ps) qs
  ahead-join [] qs made = ap (λ xs. ahead players round xs qs) (sym (append_nil made))
  ahead-join (p ∷ ps) qs made = by_meeting (meet players round p) refl (ahead-join ps qs) where
    by_meeting : (b : Bool) → meet players round p ≡ b →
        ((xs : List BoardPairing) →
        ahead players round xs (ps ++ qs) ≡ ahead players round (ahead players round xs ps) qs) →
        ahead players round made (p ∷ (ps ++ qs)) ≡ ahead players round (ahead players round made (p ∷ ps)) qs
    by_meeting true meeting later =
        ahead-yes made p (ps ++ qs) meeting
        ∙ later (made ++ game_of players round (suc (length made)) p ∷ [])
        ∙ ap (λ xs. ahead players round xs qs) (sym (ahead-yes made p ps meeting))
    by_meeting false no-meeting later =
        ahead-no made p (ps ++ qs) no-meeting
        ∙ later made
        ∙ ap (λ xs. ahead players round xs qs) (sym (ahead-no made p ps no-meeting))

  pub one-pair : (lower higher end : ℕ) → higher < end →
      pairs_from lower higher (end - higher) ≡ pair_of lower higher ∷ pairs_from lower (higher + 1) (end - (higher + 1))
  one-pair lower higher end below = ap (pairs_from lower higher) (one_less higher end below)

  pub step-yes : (lower higher end : ℕ) (made whole : List BoardPairing) → higher < end →
      meet players round (pair_of lower higher) ≡ true →
      ahead players round made (pairs_from lower higher (end - higher)) ≡ whole →
      ahead players round (made ++ game_of players round (suc (length made)) (pair_of lower higher) ∷ [])
      (pairs_from lower (higher + 1) (end - (higher + 1))) ≡ whole
  step-yes lower higher end made whole below meeting so_far =
      sym (ahead-yes made (pair_of lower higher) (pairs_from lower (higher + 1) (end - (higher + 1))) meeting)
      ∙ sym (ap (ahead players round made) (one-pair lower higher end below))
      ∙ so_far

  pub step-no : (lower higher end : ℕ) (made whole : List BoardPairing) → higher < end →
      meet players round (pair_of lower higher) ≡ false →
      ahead players round made (pairs_from lower higher (end - higher)) ≡ whole →
      ahead players round made (pairs_from lower (higher + 1) (end - (higher + 1))) ≡ whole
  step-no lower higher end made whole below no-meeting so_far =
      sym (ahead-no made (pair_of lower higher) (pairs_from lower (higher + 1) (end - (higher + 1))) no-meeting)
      ∙ sym (ap (ahead players round made) (one-pair lower higher end below))
      ∙ so_far

  pub step-row : (lower end : ℕ) (made whole : List BoardPairing) → lower < end →
      ahead players round made (flat_map (row players) (range_with_len lower (end - lower))) ≡ whole →
      ahead players round (ahead players round made (row players lower))
      (flat_map (row players) (range_with_len (lower + 1) (end - (lower + 1)))) ≡ whole
  step-row lower end made whole below so_far =
      let later : List Pair = flat_map (row players) (range_with_len (lower + 1) (end - (lower + 1))) in
      let rows : ℕ → List Pair = λ n. flat_map (row players) (range_with_len lower n) in
      sym (ahead-join (row players lower) later made)
      ∙ sym (ap (λ n. ahead players round made (rows n)) (one_less lower end below))
      ∙ so_far

  pub begin-row :
      ahead players round [] (flat_map (row players) (range_with_len 1 (players + 1 - 1))) ≡ games players round
  unfolding games
  begin-row = ap (λ n. ahead players round [] (flat_map (row players) (range_with_len 1 n))) (one_back players)

pub begin-all : (players : ℕ) (is_double : Bool) →
    flat_map (games players) (range_with_len 1 (rounds_of players is_double + 1 - 1)) ≡ all_games players is_double
unfolding all_games
begin-all players is_double =
    ap (λ n. flat_map (games players) (range_with_len 1 n)) (one_back (rounds_of players is_double))

pub step-all : (players number end : ℕ) (made whole : List BoardPairing) → number < end →
    made ++ flat_map (games players) (range_with_len number (end - number)) ≡ whole →
    (made ++ games players number) ++ flat_map (games players) (range_with_len (number + 1) (end - (number + 1)))
    ≡ whole
step-all players number end made whole below so_far =
    let later : List BoardPairing = flat_map (games players) (range_with_len (number + 1) (end - (number + 1))) in
    sym (append_assoc made (games players number) later)
    ∙ sym (ap (λ n. made ++ flat_map (games players) (range_with_len number n)) (one_less number end below))
    ∙ so_far
