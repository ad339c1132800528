-- How the sets of squares follow the board.
use Rattle.std.proofs.Common.{◌≡◌, ℕ, ◌<◌, ◌==◌, Bool, true, false, not, ◌&&◌, ◌||◌, cond, Option, Some, None, List, []}
use Rattle.std.proofs.Common.{◌∷◌, length, get_or, ◌≢◌, ◌⊎◌, inl, inr, refl, sym, ap, ◌∙◌}
use Rattle.std.specs.Ordering.{nat_cmp, eq_by_cmp}
use Rattle.std.specs.Cmp.{nat_cmp_total, unsigned_tied}
use Rattle.std.specs.FinMap as map
use Rattle.std.specs.FinMap.{nat_cmp-IsAntisymmetric}
use Rattle.std.specs.FinSet as set
use Rattle.std.proofs.Math.ListN.{set as list_set}
use Rattle.std.proofs.lemmas.Bool.{cases_eq}
use Rattle.std.proofs.lemmas.List.{get_or-set_same, get_or-set_other}
use Rattle.masks.specs.Words.{Numbers}
use Rattle.squares.specs.declared.sides.Side.{Side}
use Rattle.squares.specs.declared.sides.Side.TheVariants.{First, Second}
use Rattle.squares.specs.declared.shogi.piece.Role.{Role}
use Rattle.squares.specs.declared.shogi.piece.Role.TheVariants as role
use Rattle.squares.specs.declared.shogi.piece.SPiece.{SPiece}
use Rattle.squares.specs.Sides.{same_side}
use Rattle.squares.specs.internal.Sides.{same_side-same, same_side-itself}
use Rattle.squares.specs.internal.DraughtsMarks.{nat_eq-same}
use Rattle.squares.specs.ShogiBoard.{ShogiBoard}
use Rattle.squares.specs.ShogiSamePosition.{same_role}
use Rattle.squares.specs.internal.ShogiSamePosition.{same_role-same, same_role-itself}
use Rattle.squares.specs.internal.ShogiWords.{Tracks, squares_at, is_side, is_role, side_place, role_place}

not_true : (b : Bool) → (b ≡ true → ⊥) → b ≡ false
not_true true h = absurd (h refl)
not_true false h = refl

pub one_square : (q n : ℕ) → eq_by_cmp nat_cmp q n ≡ true → q ≡ n
one_square q n e = nat_eq-same q n (sym (unsigned_tied q n) ∙ e)

module _ {A : Type 0} (place : A → ℕ) (back : ℕ → A) (placed : (a : A) → back (place a) ≡ a) (same : A → A → Bool)
    (same-is : (a b : A) → same a b ≡ true → a ≡ b) (itself : (a : A) → same a a ≡ true) (key : SPiece → A)
    (of : A → Option SPiece → Bool) (of_none : (a : A) → of a None ≡ false)
    (of_some : (a : A) (p : SPiece) → of a (Some p) ≡ same (key p) a) where
  one_place : (a b : A) → place a ≡ place b → a ≡ b
  one_place a b e = sym (placed a) ∙ ap back e ∙ placed b

  of_own : (a : A) (p : SPiece) → place a ≡ place (key p) → of a (Some p) ≡ true
  of_own a p e = of_some a p ∙ ap (λ k. same k a) (sym (one_place a (key p) e)) ∙ itself a

  of_other : (a : A) (p : SPiece) → place a ≢ place (key p) → of a (Some p) ≡ false
  of_other a p h = of_some a p ∙ not_true (same (key p) a) (λ e. h (ap place (sym (same-is (key p) a e))))

  module _ (words : List Numbers) (board : ShogiBoard) (n : ℕ) (p : SPiece) (within : place (key p) < length words)
      (tracks : Tracks place of words board) where
    abbrev pub old : Numbers
    old = squares_at words (place (key p))

    taken_at : map.get board n ≡ Some p → (a : A) (q : ℕ) → ((place a ≡ place (key p)) ⊎ (place a ≢ place (key p)))
        → (b : Bool) → eq_by_cmp nat_cmp q n ≡ b
        → set.contains (squares_at (list_set words (place (key p)) (set.remove old n)) (place a)) q
        ≡ of a (cond b None (map.get board q))
    taken_at stands a q (inl e) b is =
        ap (λ k. set.contains (squares_at (list_set words (place (key p)) (set.remove old n)) k) q) e
        ∙ ap (λ s. set.contains s q) (get_or-set_same words (place (key p)) (set.remove old n) set.empty within)
        ∙ set.contains-remove nat_cmp_total old n q
        ∙ ap (λ c. not c && set.contains old q) is
        ∙ elim b as (λ b. (not b && set.contains old q) ≡ of a (cond b None (map.get board q))) [
          | true ↦ sym (of_none a)
          | false ↦ ap (λ k. set.contains (squares_at words k) q) (sym e) ∙ tracks a q
        ]
    taken_at stands a q (inr h) b is =
        ap (λ s. set.contains s q) (get_or-set_other words (place (key p)) (place a) (set.remove old n) set.empty h)
        ∙ tracks a q
        ∙ elim b as (λ b. eq_by_cmp nat_cmp q n ≡ b → of a (map.get board q) ≡ of a (cond b None (map.get board q))) [
          | true ↦ λ e. ap (of a) (ap (map.get board) (one_square q n e) ∙ stands) ∙ of_other a p h ∙ sym (of_none a)
          | false ↦ λ _. refl
        ] is

    pub taken : map.get board n ≡ Some p → Tracks place of (list_set words (place (key p)) (set.remove old n))
        (map.remove board n)
    taken stands a q =
        taken_at stands a q (cases_eq (place a) (place (key p))) (eq_by_cmp nat_cmp q n) refl
        ∙ ap (of a) (sym (map.get-remove nat_cmp_total board n q))

    added_at : map.get board n ≡ None → (a : A) (q : ℕ) → ((place a ≡ place (key p)) ⊎ (place a ≢ place (key p)))
        → (b : Bool) → eq_by_cmp nat_cmp q n ≡ b
        → set.contains (squares_at (list_set words (place (key p)) (set.insert old n)) (place a)) q
        ≡ of a (cond b (Some p) (map.get board q))
    added_at free a q (inl e) b is =
        ap (λ k. set.contains (squares_at (list_set words (place (key p)) (set.insert old n)) k) q) e
        ∙ ap (λ s. set.contains s q) (get_or-set_same words (place (key p)) (set.insert old n) set.empty within)
        ∙ set.contains-insert nat_cmp_total old n q
        ∙ ap (λ c. c || set.contains old q) is
        ∙ elim b as (λ b. (b || set.contains old q) ≡ of a (cond b (Some p) (map.get board q))) [
          | true ↦ sym (of_own a p e)
          | false ↦ ap (λ k. set.contains (squares_at words k) q) (sym e) ∙ tracks a q
        ]
    added_at free a q (inr h) b is =
        ap (λ s. set.contains s q) (get_or-set_other words (place (key p)) (place a) (set.insert old n) set.empty h)
        ∙ tracks a q
        ∙ elim b as (λ b. eq_by_cmp nat_cmp q n ≡ b
        → of a (map.get board q) ≡ of a (cond b (Some p) (map.get board q))) [
          | true ↦ λ e. ap (of a) (ap (map.get board) (one_square q n e) ∙ free) ∙ of_none a ∙ sym (of_other a p h)
          | false ↦ λ _. refl
        ] is

    pub added : map.get board n ≡ None → Tracks place of (list_set words (place (key p)) (set.insert old n))
        (map.insert board n p)
    added free a q =
        added_at free a q (cases_eq (place a) (place (key p))) (eq_by_cmp nat_cmp q n) refl
        ∙ ap (of a) (sym (map.get-insert nat_cmp_total board n p q))

abbrev side_at : ℕ → Side
side_at n = cond (n == 0) First Second

side_placed : (a : Side) → side_at (side_place a) ≡ a
side_placed First = refl
side_placed Second = refl

abbrev roles : List Role
roles = role.King ∷ role.Rook ∷ role.Bishop ∷ role.Gold ∷ role.Silver ∷ role.Knight ∷ role.Lance ∷ role.Pawn
    ∷ role.PromotedRook ∷ role.PromotedBishop ∷ role.PromotedSilver ∷ role.PromotedKnight ∷ role.PromotedLance
    ∷ role.PromotedPawn ∷ []

abbrev role_at : ℕ → Role
role_at n = get_or roles n role.King

role_placed : (a : Role) → role_at (role_place a) ≡ a
role_placed role.King = refl
role_placed role.Rook = refl
role_placed role.Bishop = refl
role_placed role.Gold = refl
role_placed role.Silver = refl
role_placed role.Knight = refl
role_placed role.Lance = refl
role_placed role.Pawn = refl
role_placed role.PromotedRook = refl
role_placed role.PromotedBishop = refl
role_placed role.PromotedSilver = refl
role_placed role.PromotedKnight = refl
role_placed role.PromotedLance = refl
role_placed role.PromotedPawn = refl

module _ (words : List Numbers) (board : ShogiBoard) (n : ℕ) (p : SPiece) where
  pub side_taken : side_place p.side < length words → Tracks side_place is_side words board → map.get board n ≡ Some p
      →
      Tracks side_place is_side
      (list_set words (side_place p.side) (set.remove (squares_at words (side_place p.side)) n)) (map.remove board n)
  side_taken = taken side_place side_at side_placed same_side same_side-same same_side-itself (λ p. p.side) is_side
      (λ _. refl) (λ _ _. refl) words board n p

  pub side_added : side_place p.side < length words → Tracks side_place is_side words board → map.get board n ≡ None
      →
      Tracks side_place is_side
      (list_set words (side_place p.side) (set.insert (squares_at words (side_place p.side)) n)) (map.insert board n p)
  side_added = added side_place side_at side_placed same_side same_side-same same_side-itself (λ p. p.side) is_side
      (λ _. refl) (λ _ _. refl) words board n p

  pub role_taken : role_place p.role < length words → Tracks role_place is_role words board → map.get board n ≡ Some p
      →
      Tracks role_place is_role
      (list_set words (role_place p.role) (set.remove (squares_at words (role_place p.role)) n)) (map.remove board n)
  role_taken = taken role_place role_at role_placed same_role same_role-same same_role-itself (λ p. p.role) is_role
      (λ _. refl) (λ _ _. refl) words board n p

  pub role_added : role_place p.role < length words → Tracks role_place is_role words board → map.get board n ≡ None
      →
      Tracks role_place is_role
      (list_set words (role_place p.role) (set.insert (squares_at words (role_place p.role)) n)) (map.insert board n p)
  role_added = added role_place role_at role_placed same_role same_role-same same_role-itself (λ p. p.role) is_role
      (λ _. refl) (λ _ _. refl) words board n p

-- a square on which nothing is left is filled as any square is
pub insert-removed : (board : ShogiBoard) (n : ℕ) (p : SPiece)
    → map.insert (map.remove board n) n p ≡ map.insert board n p
insert-removed board n p =
    map.same_map nat_cmp_total nat_cmp-IsAntisymmetric _ _
    (λ q. map.get-insert nat_cmp_total (map.remove board n) n p q
    ∙ elim (eq_by_cmp nat_cmp q n) as (λ b. eq_by_cmp nat_cmp q n ≡ b
    → cond b (Some p) (map.get (map.remove board n) q) ≡ cond b (Some p) (map.get board q)) [
      | true ↦ λ _. refl
      | false ↦ λ e. map.get-remove nat_cmp_total board n q ∙ ap (λ b. cond b None (map.get board q)) e
    ] refl
    ∙ sym (map.get-insert nat_cmp_total board n p q))
