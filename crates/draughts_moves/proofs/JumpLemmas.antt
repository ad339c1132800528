-- The computed jumps are the jumps.
use Rattle.std.proofs.Common.{◌≡◌, ℕ, inl, inr, true, false, not, ◌&&◌, Option, Some, None, is_none, List, [], ◌∷◌}
use Rattle.std.proofs.Common.{◌++◌, refl, sym, ap, ◌∙◌, subst, true≢false}
use Rattle.std.specs.FinSet as set
use Rattle.std.proofs.lemmas.Bool.{cases_Bool, and_parts, not-true}
use Rattle.squares.specs.declared.draughts.direction.Direction.{Direction}
use Rattle.squares.specs.declared.draughts.piece.DPiece.{DPiece}
use Rattle.squares.specs.DraughtsSets.{Squares}
use Rattle.squares.specs.DraughtsGeometry.{ray}
use Rattle.draughts_moves.specs.Capture.{Cells, is_enemy, AllClear, JumpAlong, Jump}
use Rattle.draughts_moves.specs.Search.{clear_front, is_prey, king_jumps, man_jumps, line_jumps, jumps}
use Rattle.squares.specs.internal.In.{In, In-map, In-from_map}
use Rattle.draughts_moves.proofs.Basics.{In-four, In-from_four}

is_none-none : (o : Option DPiece) → is_none o ≡ true → o ≡ None
is_none-none None e = refl
is_none-none (Some q) e = cc

enemy_stands : (p : DPiece) (o : Option DPiece) → is_enemy p o ≡ true → is_none o ≡ false
enemy_stands p None e = cc
enemy_stands p (Some q) e = refl

module _ (b : Cells) (p : DPiece) (t : Squares) where
  pub clear_front-sound : (l : ℕ) (ns : List ℕ) → In l (clear_front b ns) → (between after : List ℕ)
      × (ns ≡ between ++ l ∷ after) × AllClear b between × (b l ≡ None)
  clear_front-sound l [] h = absurd h
  clear_front-sound l (n ∷ ns) h =
      elim (cases_Bool (is_none (b n))) [
        | inl e ↦ elim (rw e at h) [
          | inl same ↦ ([], ns, ap (λ m. m ∷ ns) same, tt, ap b (sym same) ∙ is_none-none (b n) e)
          | inr rest ↦ let w = clear_front-sound l ns rest in
              (n ∷ w.0, w.1, ap (λ r. n ∷ r) w.2, (is_none-none (b n) e, w.3), w.4)
        ]
        | inr e ↦ absurd (rw e at h)
      ]

  clear_front-complete : (l : ℕ) (between after : List ℕ) → AllClear b between → b l ≡ None
      → In l (clear_front b (between ++ l ∷ after))
  clear_front-complete l [] after clear lands = rw lands (inl refl)
  clear_front-complete l (n ∷ between) after clear lands =
      rw clear.0 (inr (clear_front-complete l between after clear.1 lands))

  -- a jump over the first square of a line
  over_first : (v l : ℕ) (ns between after : List ℕ) → is_prey b p t v ≡ true → ns ≡ between ++ l ∷ after
      → AllClear b between → b l ≡ None → (p.king ≡ false → between ≡ []) → JumpAlong b p t (v ∷ ns) v l
  over_first v l ns between after prey along clear lands man =
      let w = and_parts (is_enemy p (b v)) (not (set.contains t v)) prey in
      record {
        before = [];
        between = between;
        after = after;
        along = ap (λ r. v ∷ r) along;
        enemy = w.0;
        fresh = not-true _ w.1;
        clear_before = tt;
        clear_between = clear;
        lands = lands;
        man = λ no_king. (refl, man no_king);
      }

  king-sound : (v l : ℕ) (ns : List ℕ) → In {A = ℕ × ℕ} (v, l) (king_jumps b p t ns) → (p.king ≡ true)
      → JumpAlong b p t ns v l
  king-sound v l [] h king = absurd h
  king-sound v l (n ∷ ns) h king =
      elim (cases_Bool (is_none (b n))) [
        | inl e ↦ let j = king-sound v l ns (rw e at h) king in
            record {
              before = n ∷ j.before;
              between = j.between;
              after = j.after;
              along = ap (λ r. n ∷ r) j.along;
              enemy = j.enemy;
              fresh = j.fresh;
              clear_before = (is_none-none (b n) e, j.clear_before);
              clear_between = j.clear_between;
              lands = j.lands;
              man = λ no_king. absurd (true≢false (sym king ∙ no_king));
            }
        | inr e ↦ elim (cases_Bool (is_prey b p t n)) [
          | inl prey ↦
              let w = In-from_map (λ m. (n, m)) (v, l) (clear_front b ns) (rw (e, prey) at h) in
              let f = clear_front-sound w.0 ns w.1 in
              subst (λ (j : ℕ × ℕ). JumpAlong b p t (n ∷ ns) j.0 j.1) w.2
              (over_first n w.0 ns f.0 f.1 prey f.2 f.3 f.4 (λ no_king. absurd (true≢false (sym king ∙ no_king))))
          | inr none ↦ absurd (rw (e, none) at h)
        ]
      ]

  king-complete : (v l : ℕ) (before between after : List ℕ) → AllClear b before → AllClear b between
      → is_enemy p (b v) ≡ true → set.contains t v ≡ false → b l ≡ None
      → In {A = ℕ × ℕ} (v, l) (king_jumps b p t (before ++ v ∷ (between ++ l ∷ after)))
  king-complete v l [] between after clear_before clear_between enemy fresh lands =
      rw (enemy_stands p (b v) enemy, enemy, fresh)
      (In-map (λ m. (v, m)) l (clear_front b (between ++ l ∷ after))
      (clear_front-complete l between after clear_between lands))
  king-complete v l (n ∷ before) between after clear_before clear_between enemy fresh lands =
      rw clear_before.0 (king-complete v l before between after clear_before.1 clear_between enemy fresh lands)

  man-sound : (v l : ℕ) (ns : List ℕ) → In {A = ℕ × ℕ} (v, l) (man_jumps b p t ns) → JumpAlong b p t ns v l
  man-sound v l [] h = absurd h
  man-sound v l (n ∷ []) h = absurd h
  man-sound v l (n ∷ m ∷ ns) h =
      elim (cases_Bool (is_prey b p t n && is_none (b m))) [
        | inl e ↦ elim (rw e at h) [
          | inl same ↦
              let w = and_parts (is_prey b p t n) (is_none (b m)) e in
              subst (λ (j : ℕ × ℕ). JumpAlong b p t (n ∷ m ∷ ns) j.0 j.1) same
              (over_first n m (m ∷ ns) [] ns w.0 refl tt (is_none-none (b m) w.1) (λ _. refl))
          | inr never ↦ absurd never
        ]
        | inr e ↦ absurd (rw e at h)
      ]

  line-sound : (v l : ℕ) (ns : List ℕ) → In {A = ℕ × ℕ} (v, l) (line_jumps b p t ns) → JumpAlong b p t ns v l
  line-sound v l ns h = elim (cases_Bool p.king)
      [ inl e ↦ king-sound v l ns (rw e at h) e | inr e ↦ man-sound v l ns (rw e at h) ]

  line-complete : (v l : ℕ) (ns : List ℕ) → JumpAlong b p t ns v l → In {A = ℕ × ℕ} (v, l) (line_jumps b p t ns)
  line-complete v l ns j = elim (cases_Bool p.king) [
    | inl e ↦ rw (e, j.along)
        (king-complete v l j.before j.between j.after j.clear_before j.clear_between j.enemy j.fresh j.lands)
    | inr e ↦ let w = j.man e in rw (e, j.along, w.0, w.1, j.enemy, j.fresh, j.lands) (inl refl)
  ]

  -- the jumps along the line of a direction
  abbrev along : ℕ → Direction → List (ℕ × ℕ)
  along s d = line_jumps b p t (ray d s)

  -- the computed jumps are the jumps
  pub jumps-sound : (s v l : ℕ) → In {A = ℕ × ℕ} (v, l) (jumps b p t s) → Jump b p t s v l
  unfolding jumps
  jumps-sound s v l h = let w = In-from_four (v, l) (along s) h in (w.0, line-sound v l _ w.1)

  pub jumps-complete : (s v l : ℕ) → Jump b p t s v l → In {A = ℕ × ℕ} (v, l) (jumps b p t s)
  unfolding jumps
  jumps-complete s v l j = In-four (v, l) (along s) j.0 (line-complete v l _ j.1)
