-- The computed routes are the routes, and routes grow at their end.
use Rattle.std.proofs.Common.{◌≡◌, ℕ, zero, suc, ◌+◌, ◌≤◌, ◌<◌, inl, inr, cond, List, [], ◌∷◌, length, max, fold, refl}
use Rattle.std.proofs.Common.{sym, ap, ◌∙◌, subst, arith, add-one, ◌-◌, ◌++◌}
use Rattle.std.specs.FinSet as set
use Rattle.std.specs.Cmp.{nat_cmp_total}
use Rattle.squares.specs.declared.draughts.piece.DPiece.{DPiece}
use Rattle.squares.specs.DraughtsSets.{Squares}
use Rattle.draughts_moves.specs.Capture.{Cells, Route}
use Rattle.draughts_moves.specs.internal.Capture.{Reaches}
use Rattle.draughts_moves.specs.internal.Laws.{GrownRoute}
use Rattle.draughts_moves.specs.Search.{jumps, routes_of, longest, prey_left, greatest}
use Rattle.squares.specs.internal.In.{In, In-flat_map, In-from_flat_map}
use Rattle.draughts_moves.proofs.JumpLemmas.{jumps-sound, jumps-complete}
use Rattle.draughts_moves.proofs.MaxLemmas.{most-above, most-reached, most-same, most-below}
use Rattle.draughts_moves.proofs.Prey.{prey_left-falls, prey_left-fits}

module _ (b : Cells) (p : DPiece) where
  pub routes_of-sound : (n : ℕ) (t : Squares) (s : ℕ) (all : Squares) (to : ℕ)
      → In {A = Squares × ℕ} (all, to) (routes_of b p n t s) → (ls : List ℕ) × (length ls ≡ n) × Route b p t s ls all to
  unfolding routes_of
  routes_of-sound zero t s all to (inl e) =
      ([], refl, (ap (λ (q : Squares × ℕ). q.0) e, ap (λ (q : Squares × ℕ). q.1) e))
  routes_of-sound zero t s all to (inr never) = absurd never
  routes_of-sound (suc n) t s all to h =
      let w = In-from_flat_map (λ j. routes_of b p n (set.insert t j.0) j.1) (all, to) (jumps b p t s) h in
      let r = routes_of-sound n (set.insert t w.0.0) w.0.1 all to w.2 in
      (w.0.1 ∷ r.0, ap suc r.1, (w.0.0, jumps-sound b p t s w.0.0 w.0.1 w.1, r.2))

  pub routes_of-complete : (ls : List ℕ) (t : Squares) (s : ℕ) (all : Squares) (to : ℕ) → Route b p t s ls all to
      → In {A = Squares × ℕ} (all, to) (routes_of b p (length ls) t s)
  unfolding routes_of
  routes_of-complete [] t s all to r = inl (λ i. (r.0 i, r.1 i))
  routes_of-complete (l ∷ ls) t s all to r =
      In-flat_map (λ j. routes_of b p (length ls) (set.insert t j.0) j.1) (all, to) (r.0, l) (jumps b p t s)
      (jumps-complete b p t s r.0 l r.1)
      (routes_of-complete ls (set.insert t r.0) l all to r.2)

  -- each jump takes one more
  pub Route-len : (ls : List ℕ) (t : Squares) (s : ℕ) (all : Squares) (to : ℕ) → Route b p t s ls all to
      → set.len all ≡ set.len t + length ls
  Route-len [] t s all to r = omega (arith, ap set.len r.0)
  Route-len (l ∷ ls) t s all to r =
      let one = set.len-insert nat_cmp_total t r.0 ∙ ap (λ c. cond c (set.len t) (set.len t + 1)) r.1.1.fresh in
      omega (arith, one, Route-len ls (set.insert t r.0) l all to r.2)

  pub longest-reached : (k : ℕ) (t : Squares) (s : ℕ) → (e : Squares × ℕ) × In e (routes_of b p (longest b p k t s) t s)
  unfolding longest routes_of
  longest-reached zero t s = ((t, s), inl refl)
  longest-reached (suc k) t s =
      let f : ℕ × ℕ → ℕ = λ j. longest b p k (set.insert t j.0) j.1 + 1 in
      elim (most-reached f 0 (jumps b p t s)) [
        | inl e ↦ ((t, s), subst (λ n. In (t, s) (routes_of b p n t s)) (sym e) (inl refl))
        | inr w ↦
            let r = longest-reached k (set.insert t w.0.0) w.0.1 in (
              r.0,
              subst (λ n. In r.0 (routes_of b p n t s)) (sym (add-one (longest b p k (set.insert t w.0.0) w.0.1)) ∙ w.2)
                  (In-flat_map (λ j. routes_of b p (longest b p k (set.insert t w.0.0) w.0.1) (set.insert t j.0) j.1)
                  r.0 w.0 (jumps b p t s) w.1 r.1),
            )
      ]

  pub longest-bounds : (ls : List ℕ) (k : ℕ) (t : Squares) (s : ℕ) (all : Squares) (to : ℕ) → prey_left b p t ≤ k
      → Route b p t s ls all to → length ls ≤ longest b p k t s
  unfolding longest
  longest-bounds [] k t s all to enough r = omega arith
  longest-bounds (l ∷ ls) zero t s all to enough r = absurd (omega (arith, prey_left-falls b p t s r.0 l r.1))
  longest-bounds (l ∷ ls) (suc k) t s all to enough r =
      let f : ℕ × ℕ → ℕ = λ j. longest b p k (set.insert t j.0) j.1 + 1 in
      let rest = longest-bounds ls k (set.insert t r.0) l all to (omega (arith, prey_left-falls b p t s r.0 l r.1)) r.2
      in
      omega (arith, rest, most-above f 0 (r.0, l) (jumps b p t s) (jumps-complete b p t s r.0 l r.1))

  -- more steps than there is prey change nothing
  longest-le : (k m : ℕ) (t : Squares) (s : ℕ) → prey_left b p t ≤ m → longest b p k t s ≤ longest b p m t s
  longest-le k m t s enough =
      let w = longest-reached k t s in
      let r = routes_of-sound (longest b p k t s) t s w.0.0 w.0.1 w.1 in
      omega (arith, r.1, longest-bounds r.0 m t s w.0.0 w.0.1 enough r.2)

  longest-greatest : (k : ℕ) (t : Squares) (s : ℕ) → prey_left b p t ≤ k → longest b p k t s ≡ greatest b p t s
  unfolding greatest
  longest-greatest k t s enough =
      omega (arith, longest-le k (prey_left b p t) t s (omega arith), longest-le (prey_left b p t) k t s enough)

  longest-suc : (k : ℕ) (t : Squares) (s : ℕ)
      → longest b p (suc k) t s ≡ fold (λ m j. max m (longest b p k (set.insert t j.0) j.1 + 1)) 0 (jumps b p t s)
  unfolding longest
  longest-suc k t s = refl

  -- the greatest number of jumps is by the first jump and then the greatest from there
  pub greatest-jumps : (t : Squares) (s : ℕ)
      → greatest b p t s ≡ fold (λ m j. max m (greatest b p (set.insert t j.0) j.1 + 1)) 0 (jumps b p t s)
  greatest-jumps t s =
      let k = prey_left b p t in
      sym (longest-greatest (suc k) t s (omega arith)) ∙ longest-suc k t s
      ∙ most-same (λ j. longest b p k (set.insert t j.0) j.1 + 1) (λ j. greatest b p (set.insert t j.0) j.1 + 1) 0
      (jumps b p t s)
      (λ j h. let jump = jumps-sound b p t s j.0 j.1 h in
      ap (λ n. n + 1) (longest-greatest k (set.insert t j.0) j.1 (omega (arith, prey_left-falls b p t s j.0 j.1 jump))))

  -- some route has the greatest number of jumps, and none has more
  pub greatest-reached : (t : Squares) (s : ℕ) → (ls : List ℕ) × (all : Squares) × (to : ℕ)
      × (length ls ≡ greatest b p t s) × Route b p t s ls all to
  unfolding greatest
  greatest-reached t s =
      let w = longest-reached (prey_left b p t) t s in
      let r = routes_of-sound (longest b p (prey_left b p t) t s) t s w.0.0 w.0.1 w.1 in
      (r.0, w.0.0, w.0.1, r.1, r.2)

  pub greatest-bounds : (ls : List ℕ) (t : Squares) (s : ℕ) (all : Squares) (to : ℕ) → Route b p t s ls all to
      → length ls ≤ greatest b p t s
  unfolding greatest
  greatest-bounds ls t s all to r = longest-bounds ls (prey_left b p t) t s all to (omega arith) r

  longest-least : (k : ℕ) (t : Squares) (s : ℕ) → longest b p k t s ≤ k
  unfolding longest
  longest-least zero t s = omega arith
  longest-least (suc k) t s = most-below (λ j. longest b p k (set.insert t j.0) j.1 + 1) (suc k) 0 (jumps b p t s)
      (omega arith) (λ j. omega (arith, longest-least k (set.insert t j.0) j.1))

  pub greatest-fits : (t : Squares) (s : ℕ) → greatest b p t s ≤ 50
  unfolding greatest
  greatest-fits t s = omega (arith, longest-least (prey_left b p t) t s, prey_left-fits b p t)

  pub Reaches-by : (n : ℕ) (t : Squares) (s : ℕ) (j : ℕ × ℕ) (all : Squares) (to : ℕ) → 0 < n → In j (jumps b p t s)
      → Reaches b p (n - 1) (set.insert t j.0) j.1 all to → Reaches b p n t s all to
  Reaches-by n t s j all to positive h r = (j.1 ∷ r.0, omega (arith, r.1), (j.0, jumps-sound b p t s j.0 j.1 h, r.2))

  pub Reaches-first : (n : ℕ) (t : Squares) (s : ℕ) (all : Squares) (to : ℕ) → 0 < n → Reaches b p n t s all to
      → (j : ℕ × ℕ) × In j (jumps b p t s) × Reaches b p (n - 1) (set.insert t j.0) j.1 all to
  Reaches-first n t s all to positive ([], e, r) = absurd (omega arith)
  Reaches-first n t s all to positive (l ∷ ls, e, r) =
      ((r.0, l), jumps-complete b p t s r.0 l r.1, (ls, omega (arith, e), r.2))

-- a route of one more landing is a route that grows by one more jump at its end
module _ (b : Cells) (p : DPiece) (last : ℕ) (all : Squares) (to : ℕ) where
  pub Route-grown : (landings : List ℕ) (start : Squares) (from : ℕ)
      → Route b p start from (landings ++ last ∷ []) all to → GrownRoute b p start from landings last all to
  Route-grown [] start from r =
      record { at = from; taken = start; over = r.0; route = (refl, refl); jump = r.1; takes = r.2.0; ends = r.2.1 }
  Route-grown (l ∷ landings) start from r =
      let g = Route-grown landings (set.insert start r.0) l r.2 in
      let route : Route b p start from (l ∷ landings) g.taken g.at = (r.0, r.1, g.route) in
      record { at = g.at; taken = g.taken; over = g.over; route = route; jump = g.jump; takes = g.takes; ends = g.ends }

  pub grown-Route : (landings : List ℕ) (start : Squares) (from : ℕ) → GrownRoute b p start from landings last all to
      → Route b p start from (landings ++ last ∷ []) all to
  grown-Route [] start from g = (
    g.over,
    rw (g.route.0, g.route.1) g.jump,
    (rw g.route.0 g.takes, g.ends),
  )
  grown-Route (l ∷ landings) start from g = (
    g.route.0,
    g.route.1,
    grown-Route landings (set.insert start g.route.0) l
        (record {
          at = g.at;
          taken = g.taken;
          over = g.over;
          route = g.route.2;
          jump = g.jump;
          takes = g.takes;
          ends = g.ends;
        }),
  )
