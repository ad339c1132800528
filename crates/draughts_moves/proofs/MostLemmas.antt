-- The computed greatest number is the greatest number that captures take, and which captures are legal by it.
use Rattle.std.proofs.Common.{◌≡◌, ℕ, ◌≤◌, ◌<◌, inl, inr, Some, None, List, [], ◌∷◌, ◌++◌, length, refl, sym, ap, ◌∙◌}
use Rattle.std.proofs.Common.{arith}
use Rattle.std.specs.List.{range_with_len}
use Rattle.std.specs.Ordering.{nat_cmp}
use Rattle.std.specs.FinSet as set
use Rattle.std.specs.FinMap as map
use Rattle.std.proofs.lemmas.Option.{cond_some, option_and_then_some}
use Rattle.squares.specs.declared.draughts.piece.DPiece.{DPiece}
use Rattle.squares.specs.DraughtsBoard.{Position}
use Rattle.squares.specs.DraughtsSets.{Squares}
use Rattle.squares.specs.internal.DraughtsGeometry.{OnBoard}
use Rattle.squares.specs.internal.DraughtsOnBoard.{ray-off}
use Rattle.draughts_moves.specs.Capture.{Cells, Jump, Route, Capture, LegalCapture, HasCapture}
use Rattle.draughts_moves.specs.internal.Capture.{Reaches, IsMost}
use Rattle.draughts_moves.specs.Capture.{without}
use Rattle.squares.specs.Sides.{same_side}
use Rattle.squares.specs.internal.Sides.{same_side-same, same_side-of}
use Rattle.draughts_moves.specs.Search.{greatest, own_at, greatest_at, most}
use Rattle.draughts_moves.proofs.Basics.{option_cases}
use Rattle.draughts_moves.proofs.MaxLemmas.{most-above, most-reached}
use Rattle.draughts_moves.proofs.Prey.{In-board}
use Rattle.draughts_moves.proofs.RouteLemmas.{Route-len, greatest-bounds, greatest-reached}

pub not_empty : (before rest : List ℕ) (v : ℕ) → before ++ v ∷ rest ≡ [] → ⊥
not_empty [] rest v e = cc
not_empty (n ∷ before) rest v e = cc

pub Jump-from_on : (b : Cells) (q : DPiece) (t : Squares) (s v l : ℕ) → Jump b q t s v l → OnBoard s
Jump-from_on b q t s v l j = elim (ray-off j.0 s)
    [ inl on ↦ on | inr none ↦ absurd (not_empty j.1.before _ v (sym j.1.along ∙ none)) ]

module _ (p : Position) (x : ℕ) (q : DPiece) where
  pub own_at-own : map.get p.board x ≡ Some q → q.side ≡ p.turn → own_at p x ≡ Some q
  own_at-own stands own = rw (stands, same_side-of q.side p.turn own)

  pub own_at-is : own_at p x ≡ Some q → (map.get p.board x ≡ Some q) × (q.side ≡ p.turn)
  own_at-is e =
      option_and_then_some _ (map.get p.board x) q e
      (λ r stands own. let w = cond_some (same_side r.side p.turn) r q own in
      (stands ∙ ap Some w.1, ap (λ (d : DPiece). d.side) (sym w.1) ∙ same_side-same r.side p.turn w.0))

  pub greatest_at-own : own_at p x ≡ Some q → greatest_at p x ≡ greatest (without p.board x) q set.empty x
  unfolding greatest_at
  greatest_at-own e = rw e

  -- the captures of a piece of the side to move are its routes
  module _ {ls : List ℕ} {t : Squares} {y : ℕ} (own : own_at p x ≡ Some q) where
    pub Capture-by : Route (without p.board x) q set.empty x ls t y → Capture p x ls t y
    Capture-by r = let is = own_at-is own in record { piece = q; stands = is.0; own = is.1; route = r }

    pub Capture-route : Capture p x ls t y → Route (without p.board x) q set.empty x ls t y
    Capture-route c = let stands = (own_at-is own).0 in let same : c.piece ≡ q = cc in rw same at c.route

pub greatest_at-none : (p : Position) (x : ℕ) → own_at p x ≡ None → greatest_at p x ≡ 0
unfolding greatest_at
greatest_at-none p x e = rw e

pub Capture-len : (p : Position) (x y : ℕ) (ls : List ℕ) (t : Squares) → Capture p x ls t y → set.len t ≡ length ls
Capture-len p x y ls t c =
    omega (arith, Route-len (without p.board x) c.piece ls set.empty x t y c.route, set.len-empty nat_cmp)

module _ (p : Position) where
  -- what captures is of the side to move
  pub Capture-own : {x y : ℕ} {ls : List ℕ} {t : Squares} → (c : Capture p x ls t y) → own_at p x ≡ Some c.piece
  Capture-own {x} c = own_at-own p x c.piece c.stands c.own

  -- a piece of the side to move reaches what it takes and where it ends
  pub Capture-Reaches : {x y : ℕ} {ls : List ℕ} {t : Squares} (q : DPiece) → own_at p x ≡ Some q → Capture p x ls t y
      → Reaches (without p.board x) q (set.len t) set.empty x t y
  Capture-Reaches {x} {y} {ls} {t} q own c = (ls, sym (Capture-len p x y ls t c), Capture-route p x q own c)

  bounds : (x y : ℕ) (ls : List ℕ) (t : Squares) → Capture p x ls t y → set.len t ≤ most p
  unfolding most
  bounds x y [] t c = omega (arith, Capture-len p x y [] t c)
  bounds x y (l ∷ ls) t c =
      omega (
        arith,
        Capture-len p x y (l ∷ ls) t c,
        greatest-bounds (without p.board x) c.piece (l ∷ ls) set.empty x t y c.route,
        greatest_at-own p x c.piece (Capture-own c),
        most-above (greatest_at p) 0 x (range_with_len 1 50)
            (In-board x (Jump-from_on (without p.board x) c.piece set.empty x c.route.0 l c.route.1)),
      )

  reached : 0 < most p → (x : ℕ) × (y : ℕ) × (ls : List ℕ) × (t : Squares) × Capture p x ls t y × (set.len t ≡ most p)
  unfolding most
  reached positive =
      elim (most-reached (greatest_at p) 0 (range_with_len 1 50)) [
        | inl e ↦ absurd (omega (arith, e))
        | inr w ↦ elim (option_cases (own_at p w.0)) [
          | inl none ↦ absurd (omega (arith, w.2, greatest_at-none p w.0 none))
          | inr v ↦
              let r = greatest-reached (without p.board w.0) v.0 set.empty w.0 in
              let c : Capture p w.0 r.0 r.1 r.2 = Capture-by p w.0 v.0 v.1 r.4 in (
                w.0,
                r.2,
                r.0,
                r.1,
                c,
                omega
                    (arith, Capture-len p w.0 r.2 r.0 r.1 c, r.3, greatest_at-own p w.0 v.0 v.1, w.2),
              )
        ]
      ]

pub IsMost-most : (p : Position) → IsMost p (most p)
IsMost-most p = record { bounds = bounds p; reached = reached p }

module _ (p : Position) {n : ℕ} (most : IsMost p n) where
  first_jump : {x y : ℕ} {t : Squares} (ls : List ℕ) → Capture p x ls t y → 0 < length ls → HasCapture p
  first_jump [] c h = absurd (omega arith)
  first_jump {x} (l ∷ ls) c h =
      (x, c.route.0, l, record { piece = c.piece; stands = c.stands; own = c.own; jump = c.route.1 })

  pub Capture-HasCapture : {x y : ℕ} {ls : List ℕ} {t : Squares} → Capture p x ls t y → 0 < set.len t → HasCapture p
  Capture-HasCapture {x} {y} {ls} {t} c h = first_jump ls c (omega (arith, h, Capture-len p x y ls t c))

  pub HasCapture-most : 0 < n → HasCapture p
  HasCapture-most positive = let w = most.reached positive in Capture-HasCapture w.4 (omega (arith, w.5))

  pub most-HasCapture : HasCapture p → 0 < n
  most-HasCapture h =
      let j = h.3 in
      let c : Capture p h.0 (h.2 ∷ []) (set.insert set.empty h.1) h.2 =
      record { piece = j.piece; stands = j.stands; own = j.own; route = (h.1, j.jump, (refl, refl)) } in
      omega (arith, Capture-len p _ _ _ _ c, most.bounds _ _ _ _ c)

  -- a legal capture takes the most
  pub LegalCapture-size : {from to : ℕ} {all : Squares} → LegalCapture p from to all → set.len all ≡ n
  LegalCapture-size legal =
      let least = most.bounds _ _ _ _ legal.capture in
      let positive : 0 < n = omega (arith, legal.takes, least) in
      let w = most.reached positive in
      omega (arith, least, w.5, legal.most w.0 w.1 w.2 w.3 w.4)

  -- a capture that takes as many is legal
  pub Capture-legal : {from to : ℕ} {ls : List ℕ} {all : Squares} → Capture p from ls all to → n ≤ set.len all
      → 0 < set.len all → LegalCapture p from to all
  Capture-legal {ls} c size positive =
      record {
        landings = ls;
        capture = c;
        takes = positive;
        most = λ x y ls t k. omega (arith, size, most.bounds x y ls t k);
      }
