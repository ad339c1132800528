-- Keys that no two elements of a list share, where each has one or may have one.
use Rattle.std.proofs.Common.{◌≡◌, ◌≢◌, ℕ, ◌+◌, ◌<◌, ◌≤◌, List, [], ◌∷◌, length, Option, Some, None, Bool, true, false}
use Rattle.std.proofs.Common.{cond, Bor, refl, ap, sym, ◌∙◌, arith, inl, inr, true≢false}
use Rattle.std.specs.Prelude.{slice_get}
use Rattle.std.specs.Map.{lookup}
use Rattle.std.specs.Str.{bytes_eq}
use Rattle.std.proofs.lemmas.Bool.{cases_eq, cases_Bool}
use Rattle.std.proofs.lemmas.Grind.{common_steps}
use Rattle.std.proofs.lemmas.Option.{same_Some, slice_get_within}
use Rattle.club_core.specs.LegalState.{HaveUniqueKeys, HaveUniqueKeysIfAny}
use Rattle.club_laws.proofs.Proved.{bytes_eq-same, same-bytes_eq}
use Rattle.club_audit.proofs.PlacedLemmas.{one-place}
use Rattle.std.proofs.lemmas.Bool.Decides.{Decides-int_eq}
use Rattle.store_tables.specs.declared.rows.ChallengeRow.{ChallengeRow}
use Rattle.club_audit.specs.declared.challenges.ChallengeKey.{ChallengeKey}
use Rattle.club_audit.specs.internal.ChallengeKeys.{key_in, same_number}

-- the bytes that are lent
abbrev pub lent : Bor (List ℕ) → List ℕ
lent q = q.now

-- the test tells whether two are one
abbrev pub Tells : {K : Type 0} → (K → K → Bool) → Type 0
Tells {K} same = (a b : K) → (same a b ≡ true → a ≡ b) × (a ≡ b → same a b ≡ true)

pub bytes-told : Tells bytes_eq
bytes-told a b = (same-bytes_eq a b, bytes_eq-same a b)

module _ {A K Q : Type 0} (key : A → Option K) (value : Q → K) (xs : List A) where
  -- The keys of the elements below the index are apart, and the set has them and no other.
  pub record AreKept (index : ℕ) (has : Q → Bool) : Type 0 where
    pub apart : (i j : ℕ) (x y : A) (b : K) → i < j → j < index → slice_get xs i ≡ Some x → slice_get xs j ≡ Some y
        → key x ≡ Some b → key y ≡ Some b → ⊥
    pub taken : (q : Q) → has q ≡ true → (i : ℕ) × (x : A) × (i < index) × (slice_get xs i ≡ Some x)
        × (key x ≡ Some (value q))
    pub known : (q : Q) (i : ℕ) (x : A) → i < index → slice_get xs i ≡ Some x → key x ≡ Some (value q) → has q ≡ true

  -- an element with no key
  pub kept-none : (index : ℕ) (has : Q → Bool) (x : A) → AreKept index has → slice_get xs index ≡ Some x
      → key x ≡ None → AreKept (index + 1) has
  kept-none index has x kept at none = record {
    apart = λ i j y z b less high one two first second.
        kept.apart i j y z b less (below j z b high two second) one two first second;
    taken = λ q is. let (i, y, low, one, first) = kept.taken q is in (i, y, omega (arith, low), one, first);
    known = λ q i y low one first. kept.known q i y (below i y (value q) low one first) one first;
  }
    where
      below : (i : ℕ) (y : A) (b : K) → i < index + 1 → slice_get xs i ≡ Some y → key y ≡ Some b → i < index
      below i y b low one first =
          let other : i ≢ index = λ same. cc in omega (arith, low, other)

  -- an element whose key was in no element before it
  pub kept-more : (same : K → K → Bool) → Tells same → (index : ℕ) (has new : Q → Bool) (x : A) (k : Q)
      → AreKept index has → slice_get xs index ≡ Some x → key x ≡ Some (value k)
      → ((q : Q) → value q ≡ value k → has q ≡ false)
      → ((q : Q) → new q ≡ cond (same (value k) (value q)) true (has q)) → AreKept (index + 1) new
  kept-more same told index has new x k kept at is fresh after = record {
    apart = λ i j y z b less high one two first second. elim (cases_eq j index) [
      | inl here ↦
          let again : key y ≡ Some (value k) = cc in
          true≢false (sym (kept.known k i y (omega (arith, less, here)) one again) ∙ fresh k refl)
      | inr before ↦ kept.apart i j y z b less (omega (arith, high, before)) one two first second
    ];
    taken = λ q some. elim (cases_Bool (same (value k) (value q))) [
      | inl alike ↦ (index, x, omega arith, at, is ∙ ap Some ((told (value k) (value q)).0 alike))
      | inr other ↦ let (i, y, low, one, first) = kept.taken q (grind (arith, common_steps, after q, other, some)) in
          (i, y, omega (arith, low), one, first)
    ];
    known = λ q i y low one first. elim (cases_eq i index) [
      | inl here ↦
          let alike : value k ≡ value q = cc in
          after q ∙ ap (λ t. cond t true (has q)) ((told (value k) (value q)).1 alike)
      | inr before ↦
          grind (arith, common_steps, after q, kept.known q i y (omega (arith, low, before)) one first)
    ];
  }

  -- an element whose key was in an element before it
  pub kept-clash : (index : ℕ) (has : Q → Bool) (x : A) (q : Q) → AreKept index has → slice_get xs index ≡ Some x
      → key x ≡ Some (value q) → has q ≡ true → ¬ HaveUniqueKeysIfAny key xs
  kept-clash index has x q kept at is some apart =
      let (i, y, low, one, first) = kept.taken q some in
      let same = apart i index y x (value q) one at first is in
      omega (arith, low, same)

  pub kept-all : (index : ℕ) (has : Q → Bool) → AreKept index has → length xs ≤ index → HaveUniqueKeysIfAny key xs
  kept-all index has kept past i j x y b one two first second =
      let i-low = slice_get_within xs i x one in
      let j-low = slice_get_within xs j y two in
      one-place i j (λ less. kept.apart i j x y b less (omega (arith, j-low, past)) one two first second)
      (λ more. kept.apart j i y x b more (omega (arith, i-low, past)) two one second first)

-- ---- keys that all elements have

module _ {A K : Type 0} (key : A → K) (xs : List A) where
  pub apart-always : HaveUniqueKeysIfAny (λ x. Some (key x)) xs → HaveUniqueKeys key xs
  apart-always apart i j x y one two alike = apart i j x y (key y) one two (ap Some alike) refl

  pub always-apart : HaveUniqueKeys key xs → HaveUniqueKeysIfAny (λ x. Some (key x)) xs
  always-apart apart i j x y b one two first second =
      apart i j x y one two (same_Some (key x) (key y) (first ∙ sym second))

-- ---- maps

-- a map in which nothing is found has no entry
pub no-entries : {K Q V : Type 0} (test : Q → K → Bool) (asked : K → Q) → ((k : K) → test (asked k) k ≡ true)
    → (entries : List (K × V)) → ((q : Q) → lookup (test q) entries ≡ None) → length entries ≡ 0
no-entries test asked found [] none = refl
no-entries test asked found (e ∷ es) none =
    let here : Some e.1 ≡ None = rw (found e.0) at (none (asked e.0)) in absurd cc

-- each row has a key
abbrev pub some_key : ChallengeRow → Option ChallengeKey
some_key row = Some (key_in row)

abbrev pub as_it_is : ChallengeKey → ChallengeKey
as_it_is key = key

pub numbers-told : Tells same_number
numbers-told a b = (
  λ same.
      let member : a.member ≡ b.member = grind (arith, common_steps, Decides-int_eq a.member b.member) in
      let own : a.number ≡ b.number = grind (arith, common_steps, Decides-int_eq a.number b.number) in
      λ i. record { member = member i; number = own i },
  λ same. grind (arith, common_steps, Decides-int_eq a.member b.member, Decides-int_eq a.number b.number),
)
