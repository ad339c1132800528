-- Whose a key is: no two keys of members are the same, and the newest one of a member is the caller's.
use Rattle.std.proofs.Common.{◌≡◌, ℕ, zero, suc, List, [], ◌∷◌, ◌++◌, length, Option, Some, None, Bool, true, false}
use Rattle.std.proofs.Common.{refl}
use Rattle.std.proofs.Common.{ap, sym, ◌∙◌, ◌⊎◌, inl, inr}
use Rattle.std.specs.Prelude.{slice_get, slice_set, if◌then◌else◌, ◌==◌}
use Rattle.std.specs.Option.{option_map}
use Rattle.std.specs.List.{list_any}
use Rattle.std.specs.Str.{bytes_eq}
use Rattle.std.proofs.lemmas.Bool.{eqb-true, eq-eqb}
use Rattle.club_requests.specs.declared.requests.Caller.TheVariants as caller
use Rattle.club_core.specs.ClubRules.{ClubRules}
use Rattle.club_core.specs.Members.{Member, find_id, had_key, keys_of, present_key}
use Rattle.club_core.specs.Keys.{with_key}
use Rattle.club_core.specs.State.{State, caller_found, caller_of, has_member_key, key_holder, place}
use Rattle.club_core.specs.LegalState.{HaveUniqueMemberKeys, IsLegalState}
use Rattle.club_core.proofs.Proved.{last_key-at}
use Rattle.club_laws.proofs.Lists.{bytes_eq-same, got-append, got-set, list_any-false, same-bytes_eq}

-- the key has this place among the keys of the member at that place
abbrev pub IsKeyAt : List Member → ℕ → ℕ → List ℕ → Type 0
IsKeyAt all i a k = (m : Member) × (slice_get all i ≡ Some m) × (slice_get (keys_of m) a ≡ Some k)

-- nobody has or had a key
pub key-fresh : (all : List Member) (key : List ℕ) → list_any (had_key key) all ≡ false → (i a : ℕ)
    → IsKeyAt all i a key → ⊥
key-fresh all key fresh i a stands =
    let (m, at, at_key) = stands in
    let none = list_any-false (had_key key) all fresh i m at in
    let other = list_any-false (λ k. bytes_eq k key) (keys_of m) none a key at_key in
    let both : false ≡ true = sym other ∙ bytes_eq-same key key refl in
    absurd cc

-- no two keys are the same, where all were there before but one, which was nobody's
pub keys-apart : (all new : List Member) (key : List ℕ) (i0 a0 : ℕ) → HaveUniqueMemberKeys all
    → list_any (had_key key) all ≡ false
    → ((i a : ℕ) (k : List ℕ) → IsKeyAt new i a k → IsKeyAt all i a k ⊎ ((i ≡ i0) × (a ≡ a0) × (key ≡ k)))
    → HaveUniqueMemberKeys new
keys-apart all new key i0 a0 apart fresh was i j a b m n k at_m at_n at_a at_b =
    elim (was i a k (m, at_m, at_a)) [
      | inl one ↦ elim (was j b k (n, at_n, at_b)) [
        | inl two ↦ apart i j a b one.0 two.0 k one.1 two.1 one.2 two.2
        | inr is ↦ absurd (key-fresh all key fresh i a (one.0, one.1, one.2 ∙ ap Some (sym is.2)))
      ]
      | inr is ↦ elim (was j b k (n, at_n, at_b)) [
        | inl two ↦ absurd (key-fresh all key fresh j b (two.0, two.1, two.2 ∙ ap Some (sym is.2)))
        | inr other ↦ (is.0 ∙ sym other.0, is.1 ∙ sym other.1)
      ]
    ]

only-key : (key k : List ℕ) (a : ℕ) → slice_get (key ∷ []) a ≡ Some k → (a ≡ 0) × (key ≡ k)
only-key key k zero at = (refl, cc)
only-key key k (suc a) at = cc

-- the keys when a member is added
pub added-key : (all : List Member) (name key : List ℕ) (i a : ℕ) (k : List ℕ)
    → IsKeyAt (all ++ record { name = name; key = key; later = [] } ∷ []) i a k
    → IsKeyAt all i a k ⊎ ((i ≡ length all) × (a ≡ 0) × (key ≡ k))
added-key all name key i a k stands =
    let (m, at, at_key) = stands in
    elim (got-append all (record { name = name; key = key; later = [] }) i m at) [
      | inl old ↦ inl (m, old, at_key)
      | inr is ↦
          let own = only-key key k a (ap (λ (u : Member). slice_get (keys_of u) a) is.1 ∙ at_key) in
          inr (is.0, own.0, own.1)
    ]

-- the keys when a member is given one more
pub given-key : (all : List Member) (i0 : ℕ) (m : Member) (key : List ℕ) → slice_get all i0 ≡ Some m → (i a : ℕ)
    (k : List ℕ) → IsKeyAt (slice_set all i0 (with_key m key)) i a k
    → IsKeyAt all i a k ⊎ ((i ≡ i0) × (a ≡ length (keys_of m)) × (key ≡ k))
given-key all i0 m key stood i a k stands =
    let (x, at, at_key) = stands in
    elim (got-set all i0 (with_key m key) i x at) [
      | inl old ↦ inl (x, old, at_key)
      | inr put ↦
          let of_new : slice_get (keys_of m ++ key ∷ []) a ≡ Some k =
          ap (λ u. slice_get (keys_of u) a) put.1 ∙ at_key in
          elim (got-append (keys_of m) key a k of_new) [
            | inl old ↦ inl (m, ap (slice_get all) put.0 ∙ stood, old)
            | inr new ↦ inr (put.0, new.0, new.1)
          ]
    ]

-- a search finds the only element that passes
pub find_id-only : {A : Type 0} (test : A → Bool) (xs : List A) (i : ℕ) (x : A) → slice_get xs i ≡ Some x
    → test x ≡ true → ((j : ℕ) (y : A) → slice_get xs j ≡ Some y → test y ≡ true → j ≡ i)
    → find_id test xs ≡ Some (suc i)
find_id-only test [] i x at passes only = cc
find_id-only test (y ∷ ys) zero x at passes only = let e : y ≡ x = cc in rw (e, passes) refl
find_id-only test (y ∷ ys) (suc i) x at passes only =
    here (test y) refl
    (find_id-only test ys i x at passes
    (λ j z at_z is. let e : suc j ≡ suc i = only (suc j) z at_z is in cc))
  where
    here : (b : Bool) → test y ≡ b → find_id test ys ≡ Some (suc i)
        → (if b then Some 1 else option_map suc (find_id test ys)) ≡ Some (suc (suc i))
    here true first rest = let none : 0 ≡ suc i = only 0 y refl first in cc
    here false fails rest = rw rest refl

-- a search finds nothing where nothing passes
pub find_id-absent : {A : Type 0} (test : A → Bool) (xs : List A)
    → ((j : ℕ) (y : A) → slice_get xs j ≡ Some y → test y ≡ false) → find_id test xs ≡ None
find_id-absent test [] none = refl
find_id-absent test (x ∷ xs) none =
    let first : test x ≡ false = none 0 x refl in
    let rest = find_id-absent test xs (λ j y at. none (suc j) y at) in
    rw (first, rest) refl

is-false : (b : Bool) → (b ≡ true → ⊥) → b ≡ false
is-false true never = absurd (never refl)
is-false false never = refl

-- the key that a member has now stands last
present-at : (m : Member) (key : List ℕ) → has_member_key key m ≡ true
    → slice_get (keys_of m) (length m.later) ≡ Some key
present-at m key is = last_key-at m.key m.later ∙ ap Some (same-bytes_eq (present_key m) key is)

module _ {DP DM DE DT SP SM SE ST : Type 0} (kinds : ClubRules DP DM DE DT SP SM SE ST) (s : State DM SM)
    (legal : IsLegalState kinds s) where
  -- the newest key of a member is the member's, and an earlier one nobody's
  pub key-owner : (id n : ℕ) (m : Member) (key : List ℕ) → place s.members id ≡ Some m
      → slice_get (keys_of m) n ≡ Some key → caller_of s.members (key_holder key)
      ≡ (if n == length m.later then Some (caller.Member id) else None)
  key-owner zero n m key at at_key = cc
  key-owner (suc i) n m key at at_key = by-place (n == length m.later) refl
    where
      owns : (j : ℕ) (y : Member) → slice_get s.members j ≡ Some y → has_member_key key y ≡ true → (j ≡ i)
          × (length y.later ≡ n)
      owns j y at_y is = legal.member_keys j i (length y.later) n y m key at_y at (present-at y key is) at_key

      is-present : n ≡ length m.later → has_member_key key m ≡ true
      is-present last =
          let both : Some (present_key m) ≡ Some key =
          sym (last_key-at m.key m.later) ∙ (ap (slice_get (keys_of m)) (sym last) ∙ at_key) in
          bytes_eq-same (present_key m) key cc

      by-place : (b : Bool) → (n == length m.later) ≡ b → caller_found (find_id (has_member_key key) s.members)
          ≡ (if b then Some (caller.Member (suc i)) else None)
      by-place true last =
          ap caller_found
          (find_id-only (has_member_key key) s.members i m at (is-present (eqb-true n (length m.later) last))
          (λ j y at_y is. (owns j y at_y is).0))
      by-place false earlier =
          ap caller_found
          (find_id-absent (has_member_key key) s.members
          (λ j y at_y.
          is-false (has_member_key key y)
          (λ is.
          let owner = owns j y at_y is in
          let there : Some y ≡ Some m = sym at_y ∙ (ap (slice_get s.members) owner.0 ∙ at) in
          let same : y ≡ m = cc in
          let last : (n == length m.later) ≡ true =
          eq-eqb n (length m.later) (sym owner.1 ∙ ap (λ u. length u.later) same) in
          let both : false ≡ true = sym earlier ∙ last in
          absurd cc)))
