-- One walk finds the greatest number and lists the captures that have it.
use Rattle.std.proofs.Common.{◌≡◌, ℕ, zero, suc, ◌+◌, ◌-◌, ◌≤◌, ◌<◌, inl, inr, Bool, true, false, cond, nat_eq, Some}
use Rattle.std.proofs.Common.{None, List, [], ◌∷◌, length, get_or, drop, max, refl, sym, ap, ◌∙◌, arith}
use Rattle.std.specs.Prelude.{map, nat_lt}
use Rattle.std.specs.List.{flat_map, range_with_len}
use Rattle.std.specs.List.Sorted.{IsStrictlySortedBy}
use Rattle.std.specs.Ordering.{nat_cmp}
use Rattle.std.specs.Cmp.{nat_cmp_total, unsigned_tied}
use Rattle.std.specs.FinMap.{nat_cmp-IsAntisymmetric}
use Rattle.std.specs.FinSet as set
use Rattle.std.proofs.lemmas.Bool.{cases_eq, cases_lt, cases_Bool, lt-ltb}
use Rattle.std.proofs.lemmas.List.{drop_more}
use Rattle.squares.specs.declared.draughts.piece.DPiece.{DPiece}
use Rattle.squares.specs.declared.draughts.moves.DMove.{DMove}
use Rattle.squares.specs.DraughtsBoard.{Position}
use Rattle.squares.specs.internal.DraughtsMarks.{nat_eq_same, nat_eq_other, nat_eq-same, contains-insert_nat}
use Rattle.squares.specs.DraughtsSets.{Squares, ascending}
use Rattle.squares.specs.internal.In.{In}
use Rattle.squares.specs.OrderedLists.{put_all}
use Rattle.squares.specs.internal.PutLemmas.{put_all-append, put_all-sorted, map-flat_map}
use Rattle.draughts_moves.specs.declared.mover.Mover.{Mover}
use Rattle.draughts_moves.specs.Capture.{Cells, without}
use Rattle.draughts_moves.specs.Search.{jumps, routes_of, greatest, own_at, greatest_at, most}
use Rattle.draughts_moves.specs.Listing.{move_cmp, move_to, captures_at, moves_at, moves}
use Rattle.draughts_moves.specs.internal.Found.{kept, if_takes, ends_of, captured}
use Rattle.draughts_moves.proofs.Basics.{option_cases, In-item}
use Rattle.draughts_moves.proofs.JumpLemmas.{jumps-sound}
use Rattle.draughts_moves.proofs.MaxLemmas.{greatest_of, most-from, most-above, flat_map-filter}
use Rattle.draughts_moves.proofs.MostLemmas.{greatest_at-own}
use Rattle.draughts_moves.proofs.PlaceLemmas.{move_cmp-total}
use Rattle.draughts_moves.proofs.RouteLemmas.{routes_of-sound, greatest-bounds, greatest-jumps}

pub sorted-none : IsStrictlySortedBy move_cmp []
unfolding IsStrictlySortedBy
sorted-none = tt

pub kept-none : (size most : ℕ) → kept size most [] ≡ []
kept-none size most = elim (cases_Bool (nat_eq size most)) [ inl e ↦ rw e | inr e ↦ rw e ]

-- A loop that takes in captures: the greatest number of what is left and of what is found is the greatest number, and
-- what is left, put into what is found and kept of it, is all that is to be found.
pub record Gathers {A : Type 0} (f : A → ℕ) (ends : A → List DMove) (most : ℕ) (whole : List DMove) (rest : List A)
    (size : ℕ) (moves : List DMove) : Type 0 where
  pub most_is : greatest_of f size rest ≡ most
  pub listed : put_all move_cmp (flat_map ends rest) (kept size most moves) ≡ whole
  pub sorted : IsStrictlySortedBy move_cmp moves

module _ {A : Type 0} (f : A → ℕ) (ends : A → List DMove) (most : ℕ) (whole : List DMove) (size : ℕ)
    (moves : List DMove) where
  -- one element more
  pub gathers-more : (x : A) (rest : List A) (next : ℕ) (after here : List DMove)
      → Gathers f ends most whole (x ∷ rest) size moves → next ≡ max size (f x) → (f x < most → ends x ≡ [])
      → (next ≡ most → here ≡ ends x) → after ≡ put_all move_cmp here (kept size next moves)
      → Gathers f ends most whole rest next after
  gathers-more x rest next after here so_far step none same is =
      let more : greatest_of f next rest ≡ most = rw step so_far.most_is in
      let few : next ≤ most = rw more at (most-from f next rest) in
      let on : kept next most after ≡ put_all move_cmp (ends x) (kept size most moves) = elim (cases_eq next most) [
        | inl e ↦ rw (nat_eq_same next most e, is, e, same e)
        | inr d ↦ rw (nat_eq_other next most d, none (omega arith), nat_eq_other size most (λ e. omega arith))
      ] in
      record {
        most_is = more;
        listed = ap (put_all move_cmp (flat_map ends rest)) on
            ∙ sym (put_all-append move_cmp move_cmp-total (ends x) (flat_map ends rest) (kept size most moves))
            ∙ so_far.listed;
        sorted = rw is (put_all-sorted move_cmp move_cmp-total here _ (kept-sorted (nat_eq size next) so_far.sorted));
      }
    where
      kept-sorted : (c : Bool) → IsStrictlySortedBy move_cmp moves → IsStrictlySortedBy move_cmp (cond c moves [])
      kept-sorted true sorted = sorted
      kept-sorted false sorted = sorted-none

  -- nothing is left
  pub gathers-end : Gathers f ends most whole [] size moves → (size ≡ most) × (moves ≡ whole)
  gathers-end all = (all.most_is, rw (nat_eq_same size most all.most_is) at all.listed)

nothing_in : {A : Type 0} (xs : List A) → ((x : A) → In x xs → ⊥) → xs ≡ []
nothing_in [] none = refl
nothing_in (x ∷ xs) none = absurd (none x (inl refl))

-- no route has more jumps than the greatest number
routes_of-none : (b : Cells) (p : DPiece) (n : ℕ) (t : Squares) (s : ℕ) → greatest b p t s < n
    → routes_of b p n t s ≡ []
routes_of-none b p n t s more =
    nothing_in (routes_of b p n t s) (λ e h. let r = routes_of-sound b p n t s e.0 e.1 h in
    omega (arith, r.1, greatest-bounds b p r.0 t s e.0 e.1 r.2))

pub no_jumps : (xs : List (ℕ × ℕ)) → length xs ≡ 0 → xs ≡ []
no_jumps [] e = refl
no_jumps (x ∷ xs) e = absurd (omega arith)

-- the greatest of numbers that are each k more
raised : {A : Type 0} (f : A → ℕ) (k s a : ℕ) (xs : List A)
    → greatest_of (λ x. k + f x) (max s (k + a)) xs ≡ max s (k + greatest_of f a xs)
raised f k s a [] = refl
raised f k s a (x ∷ xs) =
    ap (λ n. greatest_of (λ y. k + f y) n xs)
    (let e : max (max s (k + a)) (k + f x) ≡ max s (k + max a (f x)) = omega arith in e)
    ∙ raised f k s (max a (f x)) xs

raised_some : {A : Type 0} (f : A → ℕ) (k s : ℕ) (xs : List A) → (length xs ≡ 0 → ⊥)
    → greatest_of (λ x. k + f x) s xs ≡ max s (k + greatest_of f 0 xs)
raised_some f k s [] some = absurd (some refl)
raised_some f k s (x ∷ xs) some = raised f k s (f x) xs
    ∙ ap (λ n. max s (k + greatest_of f n xs)) (let e : f x ≡ max 0 (f x) = omega arith in e)

-- what is put in where it was not, and taken out
taken_out : (s : Squares) (n : ℕ) → set.contains s n ≡ false → set.remove (set.insert s n) n ≡ s
taken_out s n fresh =
    set.same_set nat_cmp_total nat_cmp-IsAntisymmetric (set.remove (set.insert s n) n) s
    (λ q. rw (set.contains-remove nat_cmp_total (set.insert s n) n q, unsigned_tied q n, contains-insert_nat s n q)
    (elim (cases_Bool (nat_eq q n)) [ inl e ↦ rw (e, nat_eq-same q n e, fresh) | inr e ↦ rw e ]))

-- A piece on its way.
module _ (b : Cells) (m : Mover) where
  abbrev taken_now : ℕ
  taken_now = set.len m.taken

  -- the piece after a jump
  abbrev pub after : ℕ × ℕ → Mover
  after j = record m { at = j.1; taken = set.insert m.taken j.0 }

  abbrev greatest_by : ℕ × ℕ → ℕ
  greatest_by j = greatest b m.piece (set.insert m.taken j.0) j.1 + 1

  -- how many it takes at most if it begins with a jump
  abbrev pub by_jump : ℕ × ℕ → ℕ
  by_jump j = taken_now + greatest_by j

  -- the captures of n pieces in all that begin with a jump
  abbrev pub ends_by : ℕ → ℕ × ℕ → List DMove
  ends_by n j = map (move_to m.origin) (routes_of b m.piece (n - (taken_now + 1)) (set.insert m.taken j.0) j.1)

  -- n pieces in all, where more are taken than by now
  ends_of-jumps : (n : ℕ) → taken_now < n → ends_of b m n ≡ flat_map (ends_by n) (jumps b m.piece m.taken m.at)
  unfolding routes_of
  ends_of-jumps n more =
      let one_more : n - taken_now ≡ suc (n - (taken_now + 1)) = omega arith in
      rw (lt-ltb 0 n (omega arith), one_more)
      (map-flat_map (move_to m.origin)
      (λ j. routes_of b m.piece (n - (taken_now + 1)) (set.insert m.taken j.0) j.1) (jumps b m.piece m.taken m.at))

  -- where the piece has no jump, it has come to its end
  pub greatest-end : jumps b m.piece m.taken m.at ≡ [] → greatest b m.piece m.taken m.at ≡ 0
  greatest-end none = greatest-jumps b m.piece m.taken m.at ∙ ap (greatest_of greatest_by 0) none

  pub ends_of-end : (n : ℕ) → jumps b m.piece m.taken m.at ≡ [] → taken_now ≤ n
      → if_takes n (move_to m.origin (m.taken, m.at)) ≡ ends_of b m n
  unfolding routes_of
  ends_of-end n none least =
      elim (cases_lt 0 n) [
        | inr nil ↦ let z : n ≡ 0 = omega arith in rw z
        | inl positive ↦ elim (cases_eq n taken_now) [
          | inl e ↦
              let z : n - taken_now ≡ zero = omega arith in rw (lt-ltb 0 n positive, nat_eq_same n taken_now e, z)
          | inr d ↦
              let nothing : if_takes n (move_to m.origin (m.taken, m.at)) ≡ [] =
              rw (lt-ltb 0 n positive, nat_eq_other n taken_now d) in
              nothing ∙ sym (ends_of-jumps n (omega arith) ∙ ap (flat_map (ends_by n)) none)
        ]
      ]

  -- The loop over the jumps.
  module _ (js : List (ℕ × ℕ)) (are : js ≡ jumps b m.piece m.taken m.at) where
    pub most-begun : (s : ℕ) → (length js ≡ 0 → ⊥)
        → greatest_of by_jump s js ≡ max s (taken_now + greatest b m.piece m.taken m.at)
    most-begun s some = raised_some greatest_by taken_now s js some
        ∙ ap (λ k. max s (taken_now + k)) (ap (greatest_of greatest_by 0) are
        ∙ sym (greatest-jumps b m.piece m.taken m.at))

    some_taken : (xs : List (ℕ × ℕ)) → (length xs ≡ 0 → ⊥) → 0 < greatest_of greatest_by 0 xs
    some_taken [] some = absurd (some refl)
    some_taken (x ∷ xs) some = omega (arith, most-above greatest_by 0 x (x ∷ xs) (inl refl))

    pub all-gone : (size before : ℕ) (first : List DMove) → (length js ≡ 0 → ⊥)
        → size ≡ max before (taken_now + greatest b m.piece m.taken m.at)
        → put_all move_cmp (flat_map (ends_by size) js) (kept before size first)
        ≡ put_all move_cmp (ends_of b m size) (kept before size first)
    all-gone size before first some is =
        let positive : 0 < greatest b m.piece m.taken m.at =
        rw (are, ← greatest-jumps b m.piece m.taken m.at) at (some_taken js some) in
        ap (λ ms. put_all move_cmp ms (kept before size first))
        (ap (flat_map (ends_by size)) are ∙ sym (ends_of-jumps size (omega (arith, is, positive))))

    module _ (i : ℕ) (item : ℕ × ℕ) (h : i < length js) (is : item ≡ get_or js i item) where
      pub among : In item (jumps b m.piece m.taken m.at)
      among = In-item js _ i item h is are

      fresh : set.contains m.taken item.0 ≡ false
      fresh = (jumps-sound b m.piece m.taken m.at item.0 item.1 among).1.fresh

      pub gone-on : (most size next : ℕ) (whole moves afterwards : List DMove)
          → Gathers by_jump (ends_by most) most whole (drop i js) size moves
          → next ≡ max size (set.len (after item).taken + greatest b m.piece (after item).taken (after item).at)
          → afterwards ≡ put_all move_cmp (ends_of b (after item) next) (kept size next moves)
          → Gathers by_jump (ends_by most) most whole (drop (i + 1) js) next afterwards
      gone-on most size next whole moves afterwards so_far found listed =
          let here : drop i js ≡ item ∷ drop (i + 1) js = drop_more js i item h
          ∙ ap (λ x. x ∷ drop (i + 1) js) (sym is) in
          let one : set.len (set.insert m.taken item.0) ≡ taken_now + 1 =
          rw (set.len-insert nat_cmp_total m.taken item.0, fresh) refl in
          gathers-more by_jump (ends_by most) most whole size moves item (drop (i + 1) js) next afterwards
          (ends_of b (after item) next) (rw here at so_far) (omega (arith, found, one))
          (λ less. ap (map (move_to m.origin))
          (routes_of-none b m.piece (most - (taken_now + 1)) (set.insert m.taken item.0) item.1 (omega arith)))
          (λ e. rw (lt-ltb 0 next (omega (arith, found, one)), one, e)) listed

      pub come-back : (now then : Mover) → now ≡ after item
          → then ≡ record now { at = m.at; taken = set.remove now.taken item.0 } → then ≡ m
      come-back now then made back = back ∙ rw (made, taken_out m.taken item.0 fresh)

-- The loop over the pieces.
module _ (p : Position) where
  -- the captures that take the most, of all pieces of the side to move
  unfoldable pub all_captured : List DMove
  all_captured = flat_map (captured p (most p)) (range_with_len 1 50)

  pub ends_of-piece : (n x : ℕ) (q : DPiece) → own_at p x ≡ Some q
      → ends_of (without p.board x) (record { piece = q; origin = x; at = x; taken = set.empty }) n ≡ captured p n x
  unfolding captures_at
  ends_of-piece n x q own =
      let e : n - set.len {R = nat_cmp} set.empty ≡ n = omega (arith, set.len-empty nat_cmp) in rw (own, e)

  no_captures : (n x : ℕ) → captures_at p n x ≡ [] → captured p n x ≡ []
  no_captures n x none = elim (cases_Bool (nat_lt 0 n)) [ inl e ↦ rw (e, none) | inr e ↦ rw e ]

  pub captured-no_piece : (n x : ℕ) → own_at p x ≡ None → captured p n x ≡ []
  unfolding captures_at
  captured-no_piece n x none = no_captures n x (rw none)

  -- a piece that takes less has no capture of that many
  captured-none : (n x : ℕ) → greatest_at p x < n → captured p n x ≡ []
  unfolding captures_at
  captured-none n x less = elim (option_cases (own_at p x)) [
    | inl none ↦ captured-no_piece n x none
    | inr w ↦ no_captures n x (rw (
      w.1,
      routes_of-none (without p.board x) w.0 n set.empty x
          (omega (arith, greatest_at-own p x w.0 w.1, less)),
    ))
  ]

  pub captured-able : (able : Squares) → ((n : ℕ) → set.contains able n ≡ false → greatest_at p n ≡ 0)
      → flat_map (captured p (most p)) (ascending able) ≡ all_captured
  unfolding ascending all_captured
  captured-able able none =
      sym
      (flat_map-filter (captured p (most p)) (set.contains able) (range_with_len 1 50) (λ q e. nothing q (none q e)))
    where
      nothing : (q : ℕ) → greatest_at p q ≡ 0 → captured p (most p) q ≡ []
      nothing q e = elim (cases_lt 0 (most p)) [
        | inl h ↦ captured-none (most p) q (omega (arith, e))
        | inr h ↦ let z : most p ≡ 0 = omega arith in rw z
      ]

  pub captured-moves : 0 < most p → all_captured ≡ moves p (most p)
  unfolding moves moves_at all_captured
  captured-moves positive = (λ i. flat_map (λ x. each x i) (range_with_len 1 50))
    where
      each : (x : ℕ) → captured p (most p) x ≡ moves_at p (most p) x
      each x = rw (lt-ltb 0 (most p) positive, nat_eq_other (most p) 0 (λ e. omega arith))

  pub popped-on : (before after : Squares) (x size next : ℕ) (whole moves afterwards : List DMove)
      → ascending before ≡ x ∷ ascending after
      → Gathers (greatest_at p) (captured p (most p)) (most p) whole (ascending before) size moves
      → next ≡ max size (greatest_at p x) → afterwards ≡ put_all move_cmp (captured p next x) (kept size next moves)
      → Gathers (greatest_at p) (captured p (most p)) (most p) whole (ascending after) next afterwards
  popped-on before after x size next whole moves afterwards pop so_far step listed =
      gathers-more (greatest_at p) (captured p (most p)) (most p) whole size moves x (ascending after) next afterwards
      (captured p next x) (rw pop at so_far) step (captured-none (most p) x) (λ e. ap (λ n. captured p n x) e) listed
