-- Whether there is a legal move.
use Rattle.std.proofs.Common.{◌≡◌, ℕ, true, false, ◌||◌, ◌⊎◌, inl, inr, Some, List, [], ◌∷◌, length, nat_eq, refl, sym}
use Rattle.std.proofs.Common.{ap, ◌∙◌, arith}
use Rattle.std.specs.Prelude.{nat_lt}
use Rattle.std.specs.List.{range_with_len, list_any}
use Rattle.std.specs.Ordering.{nat_cmp}
use Rattle.std.specs.Cmp.{nat_cmp_total}
use Rattle.std.specs.FinMap.{nat_cmp-IsAntisymmetric}
use Rattle.std.specs.FinMap as map
use Rattle.std.specs.FinSet as set
use Rattle.std.proofs.lemmas.Bool.{cases_lt, or_cases, or_right, false≢true, lt-ltb}
use Rattle.squares.specs.declared.draughts.piece.DPiece.{DPiece}
use Rattle.squares.specs.declared.draughts.moves.DMove.{DMove}
use Rattle.squares.specs.DraughtsBoard.{Position}
use Rattle.squares.specs.internal.DraughtsGeometry.{OnBoard}
use Rattle.squares.specs.internal.DraughtsMarks.{nat_eq_same}
use Rattle.squares.specs.DraughtsSets.{Squares}
use Rattle.squares.specs.Sides.{other}
use Rattle.squares.specs.internal.In.{In, list_any-found, list_any-finds}
use Rattle.draughts_moves.specs.Capture.{without, LegalCapture, FirstJump, HasCapture}
use Rattle.draughts_moves.specs.Legal.{QuietMove, IsCapture, Legal, HasMove, play}
use Rattle.draughts_moves.specs.Search.{own_at, most, steps, jumps}
use Rattle.draughts_moves.specs.internal.Search.{can_move, has_move}
use Rattle.draughts_moves.proofs.Basics.{option_cases}
use Rattle.draughts_moves.proofs.Prey.{In-board}
use Rattle.draughts_moves.proofs.CheckLemmas.{LegalCapture-IsCapture}
use Rattle.draughts_moves.proofs.JumpLemmas.{jumps-sound, jumps-complete}
use Rattle.draughts_moves.proofs.MostLemmas.{own_at-own, own_at-is, Jump-from_on, IsMost-most, most-HasCapture}
use Rattle.draughts_moves.proofs.MostLemmas.{HasCapture-most, Capture-HasCapture, Capture-legal}
use Rattle.draughts_moves.proofs.StepLemmas.{quiet-from_steps, quiet-own, quiet-in_steps, quiet-from_on}

first : {A : Type 0} (xs : List A) → nat_lt 0 (length xs) ≡ true → (x : A) × In x xs
first [] h = absurd (false≢true h)
first (x ∷ xs) h = (x, inl refl)

In-some : {A : Type 0} (x : A) (xs : List A) → In x xs → nat_lt 0 (length xs) ≡ true
In-some x [] h = absurd h
In-some x (y ∷ xs) h = lt-ltb 0 (length (y ∷ xs)) (omega arith)

-- a set of the squares of a list
module _ (targets : Squares) where
  pub steps-none : (ns : List ℕ) → ((n : ℕ) → set.contains targets n ≡ list_any (λ m. nat_eq m n) ns)
      → targets ≡ set.empty → nat_lt 0 (length ns) ≡ false
  steps-none [] are e = refl
  steps-none (n ∷ ns) are e =
      let has : set.contains targets n ≡ true = rw (are n, nat_eq_same n n refl) refl in
      absurd (false≢true (sym (rw e (set.contains-empty nat_cmp n)) ∙ has))

  pub steps-some : (ns : List ℕ) → ((n : ℕ) → set.contains targets n ≡ list_any (λ m. nat_eq m n) ns)
      → (targets ≡ set.empty → ⊥) → nat_lt 0 (length ns) ≡ true
  steps-some [] are some =
      absurd
      (some
      (set.same_set nat_cmp_total nat_cmp-IsAntisymmetric targets set.empty
      (λ q. are q ∙ sym (set.contains-empty nat_cmp q))))
  steps-some (n ∷ ns) are some = lt-ltb 0 (length (n ∷ ns)) (omega arith)

module _ (p : Position) where
  -- a piece on x that can go or jump
  abbrev CanGo : ℕ → Type 0
  CanGo x = ((y : ℕ) × QuietMove p x y) ⊎ ((v : ℕ) × (l : ℕ) × FirstJump p x v l)

  abbrev goes : ℕ → DPiece → List ℕ
  goes x q = steps (map.get p.board) q x

  abbrev jumping : ℕ → DPiece → List (ℕ × ℕ)
  jumping x q = jumps (without p.board x) q set.empty x

  pub can_move-own : (x : ℕ) (q : DPiece) → own_at p x ≡ Some q
      → can_move p x ≡ (nat_lt 0 (length (goes x q)) || nat_lt 0 (length (jumping x q)))
  unfolding can_move
  can_move-own x q own = rw own

  can_move-sound : (x : ℕ) → can_move p x ≡ true → CanGo x
  unfolding can_move
  can_move-sound x e = elim (option_cases (own_at p x)) [
    | inl none ↦ absurd (false≢true (rw none at e))
    | inr v ↦
        let q = v.0 in
        elim (or_cases (nat_lt 0 (length (goes x q))) (nat_lt 0 (length (jumping x q))) (rw v.1 at e)) [
          | inl a ↦ let w = first (goes x q) a in inl (w.0, quiet-from_steps p x w.0 q v.1 w.1)
          | inr a ↦
              let w = first (jumping x q) a in
              let is = own_at-is p x q v.1 in
              let jump = jumps-sound (without p.board x) q set.empty x w.0.0 w.0.1 w.1 in
              inr (w.0.0, w.0.1, record { piece = q; stands = is.0; own = is.1; jump = jump })
        ]
  ]

  quiet-can_move : (x y : ℕ) → QuietMove p x y → can_move p x ≡ true
  quiet-can_move x y m =
      can_move-own x m.piece (quiet-own p x y m)
      ∙ ap (λ c. c || nat_lt 0 (length (jumping x m.piece))) (In-some y (goes x m.piece) (quiet-in_steps p x y m))

  jump-can_move : (x v l : ℕ) → FirstJump p x v l → can_move p x ≡ true
  jump-can_move x v l j =
      let q = j.piece in
      can_move-own x q (own_at-own p x q j.stands j.own)
      ∙ or_right (nat_lt 0 (length (goes x q))) _
      (In-some (v, l) (jumping x q) (jumps-complete (without p.board x) q set.empty x v l j.jump))

  found_at : (x : ℕ) → OnBoard x → can_move p x ≡ true → has_move p ≡ true
  unfolding has_move
  found_at x on e = list_any-finds (can_move p) (range_with_len 1 50) x (In-board x on) e

  -- where something can be taken, some capture takes the most
  some_capture : HasCapture p → (m : DMove) × LegalCapture p m.from m.to m.taken
  some_capture h =
      let w = (IsMost-most p).reached (most-HasCapture p (IsMost-most p) h) in
      let positive = most-HasCapture p (IsMost-most p) h in
      let m : DMove = record { from = w.0; to = w.1; taken = w.3 } in
      (m, Capture-legal p (IsMost-most p) w.4 (omega (arith, w.5)) (omega (arith, positive, w.5)))

  pub has_move-sound : has_move p ≡ true → HasMove p
  unfolding has_move
  has_move-sound e =
      let w = list_any-found (can_move p) (range_with_len 1 50) e in
      elim (can_move-sound w.0 w.2) [
        | inl q ↦ elim (cases_lt 0 (most p)) [
          | inl h ↦ let c = some_capture (HasCapture-most p (IsMost-most p) h) in (c.0, inl c.1)
          | inr h ↦
              let m : DMove = record { from = w.0; to = q.0; taken = set.empty } in
              (m, inr (λ k. omega (arith, h, most-HasCapture p (IsMost-most p) k), (q.1, refl)))
        ]
        | inr j ↦ let c = some_capture (w.0, j.0, j.1, j.2) in (c.0, inl c.1)
      ]

  pub IsCapture-HasCapture : (m : DMove) → IsCapture p m → HasCapture p
  IsCapture-HasCapture m c = Capture-HasCapture p (IsMost-most p) c.capture c.takes

  pub HasCapture-IsCapture : HasCapture p → (m : DMove) × IsCapture p m
  HasCapture-IsCapture h = let w = some_capture h in (w.0, LegalCapture-IsCapture p w.0 w.1)

  pub has_move-complete : HasMove p → has_move p ≡ true
  has_move-complete w =
      let m = w.0 in
      elim w.1 [
        | inl c ↦
            let h = IsCapture-HasCapture m (LegalCapture-IsCapture p m c) in
            found_at h.0 (Jump-from_on (without p.board h.0) h.3.piece set.empty h.0 h.1 h.2 h.3.jump)
            (jump-can_move h.0 h.1 h.2 h.3)
        | inr q ↦ found_at m.from (quiet-from_on p m.from m.to q.1.0) (quiet-can_move m.from m.to q.1.0)
      ]

-- the piece that moves stands there, and so the turn passes
pub play-turn : (p : Position) (m : DMove) → Legal p m → (play p m).turn ≡ other p.turn
play-turn p m (inl c) = rw c.capture.stands
play-turn p m (inr q) = rw q.1.0.stands
