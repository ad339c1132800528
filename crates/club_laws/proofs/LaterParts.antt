-- Members and events of a later state: each stays at its place, members keep their keys, and closed events stay closed.
use Rattle.std.proofs.Common.{◌≡◌, ℕ, zero, suc, List, ◌++◌, Option, Some, Bool, true, refl, ap, ap₂, sym, ◌∙◌, ◌&&◌}
use Rattle.std.proofs.Common.{inl}
use Rattle.std.proofs.Common.{inr}
use Rattle.std.specs.Prelude.{slice_get, slice_set, is_some, IsSome, ◌==◌}
use Rattle.std.specs.Str.{bytes_eq}
use Rattle.club_core.specs.Members.{Member, find_id, is_member}
use Rattle.club_core.specs.Events.{Event, has_event_name, is_event, same_game}
use Rattle.club_core.specs.Seats.{has_member_name}
use Rattle.club_core.specs.State.{place}
use Rattle.club_laws.proofs.GameSteps.{Begins, begins-refl, begins-trans}
use Rattle.club_laws.proofs.Lists.{find_id-pointwise, get-append, set-got, some-is}

-- each element of a list has a later one at its place in the other
abbrev pub IsEachLater : {A : Type 0} → (A → A → Type 0) → List A → List A → Type 0
IsEachLater {A} IsLaterOne xs ys =
    (n : ℕ) (x : A) → slice_get xs n ≡ Some x → (y : A) × (slice_get ys n ≡ Some y) × IsLaterOne x y

module _ {A : Type 0} (IsLaterOne : A → A → Type 0) where
  pub each-later-refl : ((x : A) → IsLaterOne x x) → (xs : List A) → IsEachLater IsLaterOne xs xs
  each-later-refl same xs = λ n x at. (x, at, same x)

  pub each-later-trans : ((x y z : A) → IsLaterOne x y → IsLaterOne y z → IsLaterOne x z) → (xs ys zs : List A)
      → IsEachLater IsLaterOne xs ys → IsEachLater IsLaterOne ys zs → IsEachLater IsLaterOne xs zs
  each-later-trans trans xs ys zs first second =
      λ n x at.
      let (y, at_y, to_y) = first n x at in
      let (z, at_z, to_z) = second n y at_y in
      (z, at_z, trans x y z to_y to_z)

  pub each-later-append : ((x : A) → IsLaterOne x x) → (xs more : List A) → IsEachLater IsLaterOne xs (xs ++ more)
  each-later-append same xs more = λ n x at. (x, get-append xs more n x at, same x)

  -- one element is changed into a later one
  pub each-later-set : ((x : A) → IsLaterOne x x) → (xs : List A) (i : ℕ) (old new : A) → slice_get xs i ≡ Some old
      → IsLaterOne old new → IsEachLater IsLaterOne xs (slice_set xs i new)
  each-later-set same xs i old new stood later =
      λ n x at.
      elim (set-got xs i new n x at) [
        | inl stays ↦ (x, stays, same x)
        | inr put ↦
            let there : Some old ≡ Some x = sym stood ∙ (ap (slice_get xs) (sym put.0) ∙ at) in
            let e : old ≡ x = cc in
            (new, put.1, rw (← e) later)
      ]

  pub place-each-later : (xs ys : List A) → IsEachLater IsLaterOne xs ys → (id : ℕ) (x : A) → place xs id ≡ Some x
      → (y : A) × (place ys id ≡ Some y) × IsLaterOne x y
  place-each-later xs ys later zero x at = cc
  place-each-later xs ys later (suc n) x at = later n x at

  pub some-later : (xs ys : List A) → IsEachLater IsLaterOne xs ys → (id : ℕ) → IsSome (place xs id)
      → IsSome (place ys id)
  some-later xs ys later id some =
      let (x, at) = some-is (place xs id) some in
      let (y, at_y, is) = place-each-later xs ys later id x at in
      rw at_y refl

  -- what is found is found later, where later elements pass alike
  pub find-later : (test : A → Bool) → ((x y : A) → IsLaterOne x y → test y ≡ test x) → (xs ys : List A) (id : ℕ)
      → IsEachLater IsLaterOne xs ys → find_id test xs ≡ Some id → find_id test ys ≡ Some id
  find-later test alike xs ys id later =
      find_id-pointwise test xs ys id (λ n x at. let (y, at_y, is) = later n x at in (y, at_y, alike x y is))

-- a later member has the same name and the same first key, and the keys that it had come first
pub record IsLaterMember (m new : Member) : Type 0 where
  pub name : new.name ≡ m.name
  pub key : new.key ≡ m.key
  pub later : Begins m.later new.later

pub later-member-refl : (m : Member) → IsLaterMember m m
later-member-refl m = record { name = refl; key = refl; later = begins-refl m.later }

pub later-member-trans : (a b c : Member) → IsLaterMember a b → IsLaterMember b c → IsLaterMember a c
later-member-trans a b c first second =
    record {
      name = second.name ∙ first.name;
      key = second.key ∙ first.key;
      later = begins-trans a.later b.later c.later first.later second.later;
    }

pub named-later : (name : List ℕ) (xs ys : List Member) (id : ℕ) → IsEachLater IsLaterMember xs ys
    → find_id (has_member_name name) xs ≡ Some id → find_id (has_member_name name) ys ≡ Some id
named-later name = find-later IsLaterMember (has_member_name name) (λ m new is. ap (λ n. bytes_eq n name) is.name)

pub same-member-later : (name key : List ℕ) (m new : Member) → IsLaterMember m new
    → is_member name key new ≡ is_member name key m
same-member-later name key m new is = ap₂ (λ n k. bytes_eq n name && bytes_eq k key) is.name is.key

-- a later event is the same, and stays closed
pub record IsLaterEvent (e new : Event) : Type 0 where
  pub same : new ≡ record e { closed = new.closed }
  pub closed : is_some e.closed ≡ true → new.closed ≡ e.closed

pub later-event-refl : (e : Event) → IsLaterEvent e e
later-event-refl e = record { same = refl; closed = λ is. refl }

pub later-event-trans : (a b c : Event) → IsLaterEvent a b → IsLaterEvent b c → IsLaterEvent a c
later-event-trans a b c first second =
    record {
      same = second.same ∙ ap {A = Event} (λ u. record u { closed = c.closed }) first.same;
      closed = λ is. let stays = first.closed is in second.closed (ap (λ o. is_some o) stays ∙ is) ∙ stays;
    }

pub event-named-later : (name : List ℕ) (xs ys : List Event) (id : ℕ) → IsEachLater IsLaterEvent xs ys
    → find_id (has_event_name name) xs ≡ Some id → find_id (has_event_name name) ys ≡ Some id
event-named-later name = find-later IsLaterEvent (has_event_name name) (λ e new is. ap (has_event_name name) is.same)

pub same-event-later : (given e new : Event) → IsLaterEvent e new → is_event given new ≡ is_event given e
same-event-later given e new is = ap (is_event given) is.same
