-- The JSON of a member's games looks only at the challenges by or to the member.
use Rattle.std.proofs.Common.{◌≡◌, ◌-◌, ◌∙◌, ◌||◌, ◌&&◌, ℕ, List, [], ◌∷◌, ◌++◌, length, map, drop, Bool, true, false}
use Rattle.std.proofs.Common.{refl, ap, sym, true≢false, inl, inr}
use Rattle.std.specs.Prelude.{codes, count_by, filter, if◌then◌else◌, reverse}
use Rattle.std.specs.List.{AllByRecursion}
use Rattle.std.specs.Str.{bytes_eq}
use Rattle.std.proofs.lemmas.Bool.{cases_Bool}
use Rattle.std.proofs.lemmas.List.Sums.{length-filter}
use Rattle.serde_json.specs.Data.{member, no_members, object, string}
use Rattle.serde_json.specs.Written.{compact_text}
use Rattle.club_core.specs.Events.{Event}
use Rattle.club_core.specs.Members.{Member}
use Rattle.club_core.specs.declared.challenges.Challenge.{Challenge}
use Rattle.club_lists.specs.GameSummary.{Running}
use Rattle.club_lists.specs.Newest.{beyond, last_ones}
use Rattle.club_lists.specs.Shows.{challenge_data, from_name, has_room, is_own_challenge, is_own_refused, is_received}
use Rattle.club_lists.specs.Shows.{more_data, most_own, most_refused, my_games_data, my_games_json, own_game_data}
use Rattle.club_lists.specs.Shows.{own_listed, received_after, received_left_out, received_listed, to_name}
use Rattle.club_lists.specs.Values.{array_of, number_data}

-- ---- a test that passes only elements that are kept

-- each element that passes the test is kept
abbrev IsKept : {A : Type 0} → (test keeps : A → Bool) → List A → Type 0
IsKept test keeps xs = AllByRecursion (λ x. test x ≡ true → keeps x ≡ true) xs

fails : {A : Type 0} (test keeps : A → Bool) (x : A) → (test x ≡ true → keeps x ≡ true) → keeps x ≡ false
    → test x ≡ false
fails test keeps x kept left = elim (cases_Bool (test x)) [
  | inl passes ↦ absurd (true≢false (sym (kept passes) ∙ left))
  | inr out ↦ out
]

module _ {A : Type 0} (test keeps : A → Bool) where
  filter-kept : (xs : List A) → IsKept test keeps xs → filter test (filter keeps xs) ≡ filter test xs
  filter-kept [] kept = refl
  filter-kept (x ∷ xs) kept = elim (cases_Bool (keeps x)) [
    | inl stays ↦ rw stays
        (λ i. if test x then x ∷ filter-kept xs kept.1 i else filter-kept xs kept.1 i)
    | inr left ↦ rw (left, fails test keeps x kept.0 left) (filter-kept xs kept.1)
  ]

  count-kept : (xs : List A) → IsKept test keeps xs → count_by test (filter keeps xs) ≡ count_by test xs
  count-kept xs kept =
      sym (length-filter test (filter keeps xs)) ∙ ap length (filter-kept xs kept) ∙ length-filter test xs

  beyond-kept : (most : ℕ) (xs : List A) → IsKept test keeps xs
      → beyond most test (filter keeps xs) ≡ beyond most test xs
  beyond-kept most xs kept = ap (λ n. n - most) (count-kept xs kept)

  last-kept : (most : ℕ) (xs : List A) → IsKept test keeps xs
      → last_ones most test (filter keeps xs) ≡ last_ones most test xs
  last-kept most xs kept = λ i. drop (beyond-kept most xs kept i) (filter-kept xs kept i)

-- ---- the challenges of a member

or-true : (a : Bool) → (a || true) ≡ true
or-true true = refl
or-true false = refl

module _ (members : List Member) (name : List ℕ) where
  -- the challenge is by or to the member with this name
  abbrev pub concerns : Challenge → Bool
  concerns c = bytes_eq (from_name members c) name || bytes_eq (to_name members c) name

  own-concerns : (c : Challenge) → is_own_challenge members name c ≡ true → concerns c ≡ true
  own-concerns c is = elim (cases_Bool (bytes_eq (from_name members c) name)) [
    | inl named ↦ rw named refl
    | inr other ↦ let e = rw other at is in absurd (true≢false (sym e))
  ]

  refused-concerns : (c : Challenge) → is_own_refused members name c ≡ true → concerns c ≡ true
  refused-concerns c is = elim (cases_Bool (bytes_eq (from_name members c) name)) [
    | inl named ↦ rw named refl
    | inr other ↦ let e = rw other at is in absurd (true≢false (sym e))
  ]

  received-concerns : (c : Challenge) → is_received members name c ≡ true → concerns c ≡ true
  received-concerns c is = elim (cases_Bool (bytes_eq (to_name members c) name)) [
    | inl named ↦ rw named (or-true (bytes_eq (from_name members c) name))
    | inr other ↦ let e = rw other at is in absurd (true≢false (sym e))
  ]

  module _ (keeps : Challenge → Bool) where
    received-kept : (listed cs : List Challenge) → IsKept (is_received members name) keeps cs
        → received_after members name listed (filter keeps cs) ≡ received_after members name listed cs
    received-kept listed [] kept = refl
    received-kept listed (c ∷ cs) kept = elim (cases_Bool (keeps c)) [
      | inl stays ↦ rw stays
          (λ i. if is_received members name c && has_room listed c
          then received-kept (listed ++ c ∷ []) cs kept.1 i
          else received-kept listed cs kept.1 i)
      | inr left ↦
          rw (left, fails (is_received members name) keeps c kept.0 left) (received-kept listed cs kept.1)
    ]

    kept-by : (test : Challenge → Bool) (cs : List Challenge) → ((c : Challenge) → test c ≡ true → concerns c ≡ true)
        → IsKept concerns keeps cs → IsKept test keeps cs
    kept-by test [] concerned kept = tt
    kept-by test (c ∷ cs) concerned kept =
        (λ passes. kept.0 (concerned c passes), kept-by test cs concerned kept.1)

    module _ (cs : List Challenge) (kept : IsKept concerns keeps cs) where
      own-kept : IsKept (is_own_challenge members name) keeps cs
      own-kept = kept-by (is_own_challenge members name) cs own-concerns kept

      refused-kept : IsKept (is_own_refused members name) keeps cs
      refused-kept = kept-by (is_own_refused members name) cs refused-concerns kept

      to-kept : IsKept (is_received members name) keeps cs
      to-kept = kept-by (is_received members name) cs received-concerns kept

      listed-same : own_listed members name (filter keeps cs) ≡ own_listed members name cs
      listed-same = last-kept (is_own_challenge members name) keeps most_own cs own-kept

      received-same : received_listed members name (filter keeps cs) ≡ received_listed members name cs
      received-same = received-kept [] cs to-kept

      left-same : received_left_out members name (filter keeps cs) ≡ received_left_out members name cs
      left-same = λ i. count-kept (is_received members name) keeps cs to-kept i - length (received-same i)

      -- The challenges that do not concern the member may be left out.
      pub same_json : (events : List Event) (moment : ℕ) (games : List Running)
          → my_games_json members events name moment (filter keeps cs) games
          ≡ my_games_json members events name moment cs games
      unfolding my_games_data more_data
      same_json events moment games =
          λ i. compact_text (object
          (member (codes "challenges")
          (array_of (map (challenge_data members events) (listed-same i ++ received-same i)))
          (member (codes "games") (array_of (map (own_game_data members events) games))
          (member (codes "member") (string name)
          (member (codes "moment") (number_data moment)
          (member (codes "more") (object
          (member (codes "from")
          (number_data (beyond-kept (is_own_challenge members name) keeps most_own cs own-kept i))
          (member (codes "to") (number_data (left-same i)) no_members)))
          (member (codes "refused")
          (array_of (map (challenge_data members events)
          (reverse (last-kept (is_own_refused members name) keeps most_refused cs refused-kept i))))
          no_members)))))))
