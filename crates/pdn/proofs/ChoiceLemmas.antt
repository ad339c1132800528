-- A choice among moves, as more of them are looked at.
use Rattle.std.proofs.Common.{◌≡◌, ℕ, ◌+◌, ◌<◌, true, ◌&&◌, nat_eq, List, [], ◌∷◌, ◌++◌, length, take, drop, get_or}
use Rattle.std.proofs.Common.{Option, Some, None, inl, inr, refl, sym, ap, ◌∙◌, subst}
use Rattle.std.proofs.lemmas.Bool.{and_parts, eqb-true, eq-eqb}
use Rattle.std.proofs.lemmas.List.{take_more, take-append-drop}
use Rattle.squares.specs.declared.draughts.moves.DMove.{DMove}
use Rattle.squares.specs.DraughtsSets.{same_squares}
use Rattle.squares.specs.internal.DraughtsSameSquares.{same_squares-same, same_squares-itself}
use Rattle.squares.specs.internal.In.{In, In-left, In-right, In-take_more}
use Rattle.pdn.specs.declared.faults.MoveFault.{MoveFault}
use Rattle.pdn.specs.Choice.{same_move}
use Rattle.pdn.specs.internal.Choice.{IsChoice, IsChoiceFault, Joins, Parts}

pub same_move-same : (a b : DMove) → same_move a b ≡ true → a ≡ b
same_move-same a b e =
    let from = and_parts (nat_eq a.from b.from) (nat_eq a.to b.to && same_squares a.taken b.taken) e in
    let to = and_parts (nat_eq a.to b.to) (same_squares a.taken b.taken) from.1 in
    let from_is = eqb-true a.from b.from from.0 in
    let to_is = eqb-true a.to b.to to.0 in
    let taken_is = same_squares-same a.taken b.taken to.1 in
    λ i. record { from = from_is i; to = to_is i; taken = taken_is i }

pub same_move-itself : (a b : DMove) → a ≡ b → same_move a b ≡ true
same_move-itself a b e =
    let from = eq-eqb a.from b.from (ap (λ (m : DMove). m.from) e) in
    let to = eq-eqb a.to b.to (ap (λ (m : DMove). m.to) e) in
    let taken : same_squares a.taken b.taken ≡ true = ap (λ (m : DMove). same_squares a.taken m.taken) (sym e)
    ∙ same_squares-itself a.taken in
    λ i. from i && (to i && taken i)

In-take : (n : DMove) (moves : List DMove) (i : ℕ) → In n (take i moves) → In n moves
In-take n moves i h = subst (λ ms. In n ms) (take-append-drop i moves) (In-left n (take i moves) (drop i moves) h)

module _ (F : DMove → Type 0) (moves : List DMove) (i : ℕ) (n : DMove) (within : i < length moves)
    (is : n ≡ get_or moves i n) where
  more : take (i + 1) moves ≡ take i moves ++ n ∷ []
  more = take_more moves i n within ∙ ap (λ m. take i moves ++ m ∷ []) (sym is)

  still : (m : DMove) → In m (take i moves) → In m (take (i + 1) moves)
  still m h = subst (λ ms. In m ms) (sym more) (In-left m (take i moves) (n ∷ []) h)

  here : In n (take (i + 1) moves)
  here = subst (λ ms. In n ms) (sym more) (In-right n (take i moves) (n ∷ []) (inl refl))

  -- a move that does not fit
  pub choice-skip : (choice : Option DMove) → IsChoice F (take i moves) choice → (F n → ⊥)
      → IsChoice F (take (i + 1) moves) choice
  choice-skip None none refuted = λ m h fits. elim (In-take_more moves i m n within h) [
    | inl before ↦ none m before fits
    | inr this ↦ refuted (subst F (sym (is ∙ this)) fits)
  ]
  choice-skip (Some other) chosen refuted = (
    still other chosen.0,
    chosen.1,
    λ m h fits. elim (In-take_more moves i m n within h) [
      | inl before ↦ chosen.2 m before fits
      | inr this ↦ absurd (refuted (subst F (sym (is ∙ this)) fits))
    ],
  )

  -- one that fits
  pub choice-join : (choice : Option DMove) (m : DMove) → IsChoice F (take i moves) choice → F n → Joins choice n m
      → IsChoice F (take (i + 1) moves) (Some m)
  choice-join None m none fits same = (
    subst (λ x. In x (take (i + 1) moves)) (sym same) here,
    subst F (sym same) fits,
    λ k h fits'. elim (In-take_more moves i k n within h) [
      | inl before ↦ absurd (none k before fits')
      | inr this ↦ sym (is ∙ this) ∙ sym same
    ],
  )
  choice-join (Some other) m chosen fits same = (
    subst (λ x. In x (take (i + 1) moves)) (sym same.0) here,
    subst F (sym same.0) fits,
    λ k h fits'. elim (In-take_more moves i k n within h) [
      | inl before ↦ chosen.2 k before fits' ∙ sym same.1
      | inr this ↦ sym (is ∙ this) ∙ sym same.0
    ],
  )

  -- one that fits beside another
  pub choice-parts : (choice : Option DMove) (fault : MoveFault) → IsChoice F (take i moves) choice → F n
      → Parts choice n fault → IsChoiceFault F moves fault
  choice-parts None fault none fits never = absurd never
  choice-parts (Some other) fault chosen fits parts =
      subst (IsChoiceFault F moves) (sym parts.0)
      (other, n, In-take other moves i chosen.0, chosen.1, In-take n moves (i + 1) here, fits, parts.1)
