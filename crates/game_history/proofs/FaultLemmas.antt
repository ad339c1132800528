-- The fault of a line that grows at its end.
use Rattle.std.proofs.Common.{◌≡◌, ◌⊎◌, inl, inr, ℕ, ◌+◌, ◌<◌, ◌≤◌, List, [], ◌∷◌, ◌++◌, length, take, drop}
use Rattle.std.proofs.Common.{get_or, Some, None, sym, ap, subst, ◌∙◌, arith, length-append}
use Rattle.std.specs.Prelude.{slice_get}
use Rattle.std.proofs.lemmas.List.{take-append-le, take-append-drop, take_more}
use Rattle.std.proofs.lemmas.Option.{slice_get-get_or, get_or_from_slice_get, slice_get_within}
use Rattle.std.proofs.Math.Nat.{eq-or-lt_of_le}
use Rattle.std.proofs.Math.Seq.{take-append_seam, get_or-append_seam}
use Rattle.std.proofs.Math.ListN.{get_or-append}
use Rattle.game_history.specs.declared.faults.LineFault.{LineFault}
use Rattle.game_history.specs.declared.faults.LineFault.TheVariants.{Memory, Illegal, AfterEnd}
use Rattle.game_history.specs.Line.{last_position}
use Rattle.game_history.specs.Faults.{LineRules, GoesOn, IsPlayed}
use Rattle.game_history.specs.internal.Faults.{HasFault}

-- ---- moves of a list that is longer

module _ {M : Type 0} (xs ys : List M) where
  get-longer : (k : ℕ) (m : M) → k < length xs → slice_get xs k ≡ Some m → slice_get (xs ++ ys) k ≡ Some m
  get-longer k m within at =
      let long = length-append xs ys in
      slice_get-get_or (xs ++ ys) k m (omega (arith, within, long))
      ∙ ap (λ x. Some x) (get_or-append xs ys m k within ∙ get_or_from_slice_get xs k m m at)

  get-shorter : (k : ℕ) (m : M) → k < length xs → slice_get (xs ++ ys) k ≡ Some m → slice_get xs k ≡ Some m
  get-shorter k m within at = slice_get-get_or xs k m within
      ∙ ap (λ x. Some x) (sym (get_or-append xs ys m k within) ∙ get_or_from_slice_get (xs ++ ys) k m m at)

get-last : {M : Type 0} (ms : List M) (m : M) → slice_get (ms ++ m ∷ []) (length ms) ≡ Some m
get-last ms m =
    let long = length-append ms (m ∷ []) in
    slice_get-get_or (ms ++ m ∷ []) (length ms) m (omega (arith, long))
    ∙ ap (λ x. Some x) (get_or-append_seam ms m [] m)

-- a move and those before it
pub grown : {M : Type 0} (ms : List M) (k : ℕ) (m : M) → k < length ms → m ≡ get_or ms k m
    → take k ms ++ m ∷ [] ≡ take (k + 1) ms
grown ms k m within is = ap (λ x. take k ms ++ x ∷ []) is ∙ sym (take_more ms k m within)

module _ {P M E C : Type 0} (rules : LineRules P M E C) (start : P) where
  module _ (xs ys : List M) where
    goes-longer : (k : ℕ) → k < length xs → GoesOn rules start xs k → GoesOn rules start (xs ++ ys) k
    goes-longer k h on =
        let same : take k (xs ++ ys) ≡ take k xs = take-append-le k xs ys (omega (arith, h)) in
        record {
          unended = subst (λ l. rules.EndsSo start l None) (sym same) on.unended;
          legal = λ m at.
              subst (λ l. rules.Legal (last_position rules.play start l) m) (sym same)
              (on.legal m (get-shorter xs ys k m h at));
        }

    played-longer : (n : ℕ) → n ≤ length xs → IsPlayed rules start xs n → IsPlayed rules start (xs ++ ys) n
    played-longer n h played k below = goes-longer k (omega (arith, h, below)) (played k below)

    fault-longer : (fault : LineFault C) → HasFault rules start xs fault → HasFault rules start (xs ++ ys) fault
    fault-longer Memory h = tt
    fault-longer (AfterEnd ply) (k, end, ply_is, within, played, ended) =
        let long = length-append xs ys in
        let same : take k (xs ++ ys) ≡ take k xs = take-append-le k xs ys (omega (arith, within)) in (
          k,
          end,
          ply_is,
          omega (arith, within, long),
          played-longer k (omega (arith, within)) played,
          subst (λ l. rules.EndsSo start l (Some end)) (sym same) ended,
        )
    fault-longer (Illegal ply cause) (k, m, ply_is, at, played, unended, refused) =
        let within = slice_get_within xs k m at in
        let same : take k (xs ++ ys) ≡ take k xs = take-append-le k xs ys (omega (arith, within)) in (
          k,
          m,
          ply_is,
          get-longer xs ys k m within at,
          played-longer k (omega (arith, within)) played,
          subst (λ l. rules.EndsSo start l None) (sym same) unended,
          subst (λ l. rules.IsRefused (last_position rules.play start l) m cause) (sym same) refused,
        )

  -- a fault of a beginning is the line's
  pub fault-of-beginning : (ms : List M) (k : ℕ) (m : M) (fault : LineFault C) → k < length ms → m ≡ get_or ms k m
      → HasFault rules start (take k ms ++ m ∷ []) fault → HasFault rules start ms fault
  fault-of-beginning ms k m fault within is h =
      subst (λ l. HasFault rules start l fault) (take-append-drop (k + 1) ms)
      (fault-longer (take (k + 1) ms) (drop (k + 1) ms) fault
      (subst (λ l. HasFault rules start l fault) (grown ms k m within is) h))

  -- the line without a move is played by the rules
  pub played-none : IsPlayed rules start [] 0
  played-none k h = absurd (omega (arith, h))

  -- ---- one move more

  module _ (ms : List M) (m : M) where
    abbrev more : List M
    more = ms ++ m ∷ []

    here : take (length ms) more ≡ ms
    here = take-append_seam ms (m ∷ [])

    played-before : IsPlayed rules start ms (length ms) → IsPlayed rules start more (length ms)
    played-before played = played-longer ms (m ∷ []) (length ms) (omega arith) played

    -- a ply of the line with one move more is one of the line's, or the last
    ply-of : (k : ℕ) → k < length more → (k ≡ length ms) ⊎ (k < length ms)
    ply-of k h = let long = length-append ms (m ∷ []) in eq-or-lt_of_le (omega (arith, h, long))

    -- one ply more is played by the rules
    pub played-more : IsPlayed rules start ms (length ms) → rules.EndsSo start ms None
        → rules.Legal (last_position rules.play start ms) m → IsPlayed rules start more (length more)
    played-more played unended legal k h =
        elim (ply-of k h) [
          | inr before ↦ played-before played k before
          | inl at_end ↦ subst (GoesOn rules start more) (sym at_end) (record {
            unended = subst (λ l. rules.EndsSo start l None) (sym here) unended;
            legal = λ n at.
                let same : m ≡ n = one m n (sym (get-last ms m) ∙ at) in
                subst (λ l. rules.Legal (last_position rules.play start l) n) (sym here)
                (subst (rules.Legal (last_position rules.play start ms)) same legal);
          })
        ]
      where
        one : (x y : M) → Some x ≡ Some y → x ≡ y
        one x y e = cc

    -- the last move of a line that is played by the rules is legal
    pub last-legal : IsPlayed rules start more (length more) → rules.Legal (last_position rules.play start ms) m
    last-legal played =
        let long = length-append ms (m ∷ []) in
        subst (λ l. rules.Legal (last_position rules.play start l) m) here
        ((played (length ms) (omega (arith, long))).legal m (get-last ms m))

    pub after-end : (plies : ℕ) (end : E) → plies ≡ length ms → IsPlayed rules start ms (length ms)
        → rules.EndsSo start ms (Some end) → HasFault rules start more (AfterEnd (plies + 1))
    after-end plies end are played ended =
        let long = length-append ms (m ∷ []) in (
          length ms,
          end,
          ap (λ n. n + 1) are,
          omega (arith, long),
          played-before played,
          subst (λ l. rules.EndsSo start l (Some end)) (sym here) ended,
        )

    pub not-legal : (plies : ℕ) (cause : C) → plies ≡ length ms → IsPlayed rules start ms (length ms)
        → rules.EndsSo start ms None → rules.IsRefused (last_position rules.play start ms) m cause
        → HasFault rules start more (Illegal (plies + 1) cause)
    not-legal plies cause are played unended refused = (
      length ms,
      m,
      ap (λ n. n + 1) are,
      get-last ms m,
      played-before played,
      subst (λ l. rules.EndsSo start l None) (sym here) unended,
      subst (λ l. rules.IsRefused (last_position rules.play start l) m cause) (sym here) refused,
    )

    -- ---- the last ply

    -- the fault of the last ply, where the line was played up to it
    abbrev pub IsFaultOfLast : LineFault C → Type 0
    IsFaultOfLast Memory = Unit {0}
    IsFaultOfLast (AfterEnd ply) = (ply ≡ length ms + 1) × (end : E) × rules.EndsSo start ms (Some end)
    IsFaultOfLast (Illegal ply cause) = (ply ≡ length ms + 1) × rules.EndsSo start ms None
        × rules.IsRefused (last_position rules.play start ms) m cause

    module _ (one_end : (l : List M) (end : E) → rules.EndsSo start l None → rules.EndsSo start l (Some end) → ⊥)
        (unrefused : (p : P) (n : M) (cause : C) → rules.Legal p n → rules.IsRefused p n cause → ⊥)
        (played : IsPlayed rules start ms (length ms)) where
      pub fault-of-last : (fault : LineFault C) → HasFault rules start more fault → IsFaultOfLast fault
      fault-of-last Memory h = tt
      fault-of-last (AfterEnd ply) (k, end, ply_is, within, before, ended) =
          elim (ply-of k within) [
            | inl at_end ↦
                let whole : take k more ≡ ms = ap (λ n. take n more) at_end ∙ here in
                (rw (← at_end) ply_is, end, subst (λ l. rules.EndsSo start l (Some end)) whole ended)
            | inr earlier ↦
                let same : take k more ≡ take k ms = take-append-le k ms (m ∷ []) (omega (arith, earlier)) in
                absurd (one_end (take k ms) end (played k earlier).unended
                (subst (λ l. rules.EndsSo start l (Some end)) same ended))
          ]
      fault-of-last (Illegal ply cause) (k, n, ply_is, at, before, unended, refused) =
          elim (ply-of k (slice_get_within more k n at)) [
            | inl at_end ↦
                let whole : take k more ≡ ms = ap (λ i. take i more) at_end ∙ here in
                let found : Some n ≡ Some m = sym at ∙ ap (λ i. slice_get more i) at_end ∙ get-last ms m in
                let is : n ≡ m = cc in (
                  rw (← at_end) ply_is,
                  subst (λ l. rules.EndsSo start l None) whole unended,
                  subst (λ x. rules.IsRefused (last_position rules.play start ms) x cause) is
                      (subst (λ l. rules.IsRefused (last_position rules.play start l) n cause) whole refused),
                )
            | inr earlier ↦
                let same : take k more ≡ take k ms = take-append-le k ms (m ∷ []) (omega (arith, earlier)) in
                absurd (unrefused (last_position rules.play start (take k ms)) n cause
                ((played k earlier).legal n (get-shorter ms (m ∷ []) k n earlier at))
                (subst (λ l. rules.IsRefused (last_position rules.play start l) n cause) same refused))
          ]
