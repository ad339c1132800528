-- The challenges of one member among those of the club.
use Rattle.std.proofs.Common.{◌≡◌, ℕ, zero, suc, ◌+◌, List, [], ◌∷◌, ◌++◌, map, filter, Option, Some, None, true, pos}
use Rattle.std.proofs.Common.{◌⊎◌, inl, inr, refl, ap, sym, subst, ◌∙◌, arith}
use Rattle.std.specs.Prelude.{◌==◌, slice_get, option_map, IsSome}
use Rattle.std.specs.Cmp.{tied_itself}
use Rattle.std.specs.List.Sorted.{IsPermutation}
use Rattle.std.specs.Str.{bytes_eq}
use Rattle.std.proofs.lemmas.Bool.{and_from, and_parts, cases_Bool, cases_order, eq-eqb, eqb-true, or_cases, or_left}
use Rattle.std.proofs.lemmas.Bool.{or_right}
use Rattle.std.proofs.lemmas.List.Sorted.{IsPermutation-sym}
use Rattle.sqlite.specs.declared.types.Value.TheVariants.{Null}
use Rattle.sqlite.specs.Order.{Row, column}
use Rattle.sqlite_value.specs.Keys.{first_key}
use Rattle.sqlite_value.proofs.OrderLemmas.{value_cmp_total}
use Rattle.sqlite_trees.specs.Tree.{IsAscending}
use Rattle.sqlite_trees.proofs.ListLemmas.{all_weaker, ascending-filter}
use Rattle.sqlite_rules.specs.Lists.{Has}
use Rattle.sqlite_rules.proofs.ListLemmas.{all_from, all_has, has_either, has_filtered, has_kept, has_left, has_right}
use Rattle.club_core.specs.Challenges.{key_of_challenge}
use Rattle.club_core.specs.Events.{Event}
use Rattle.club_core.specs.LegalState.{HaveUniqueKeys}
use Rattle.club_core.specs.Members.{Member, find_id}
use Rattle.club_core.specs.State.{has_member_key, place}
use Rattle.club_core.specs.declared.challenges.Challenge.{Challenge}
use Rattle.club_laws.proofs.Proved.{same-bytes_eq}
use Rattle.club_rows.specs.Club.{ClubState, IsClub, tables}
use Rattle.club_rows.specs.Tables.{challenge_row, number}
use Rattle.club_rows.proofs.Proved.{mapped_had, mapped_has}
use Rattle.club_changes.proofs.Proved.{place_at}
use Rattle.store_tables.specs.Content.{same_key}
use Rattle.store_tables.specs.internal.Cells.{challenge_cells}
use Rattle.store_tables.specs.internal.Contents.{AreThose}
use Rattle.store_tables.specs.declared.rows.ChallengeRow.{ChallengeRow}
use Rattle.store_tables.proofs.Proved.{equal_from, equal_ints, has_turned}
use Rattle.club_lists.specs.GameSummary.{Running}
use Rattle.club_lists.specs.Listing.{member_name}
use Rattle.club_lists.specs.Shows.{from_name, member_name_by_key, my_games_json, to_name}
use Rattle.club_lists.proofs.Proved.{concerns, same_json}
use Rattle.club_answers.specs.Challenges.{AreChallengesOf, ComesBefore}
use Rattle.club_answers.specs.internal.Challenges.{AreChallengesWith, is_with}
use Rattle.club_answers.proofs.ChallengeOrder.{among, before_then}
use Rattle.club_answers.proofs.OneOrder.{one_order}

-- ---- a number in a column

column_same : (a b : Row) (k m n : ℕ) → column a k ≡ number m → column b k ≡ number n → same_key (k ∷ []) a b ≡ true
    → m ≡ n
unfolding first_key
column_same a b k m n p q same =
    let h = rw (p, q) at same in
    let e : pos m ≡ pos n = equal_ints (pos m) (pos n) (and_parts _ _ h).0 in cc

column_alike : (a b : Row) (k m : ℕ) → column a k ≡ number m → column b k ≡ number m → same_key (k ∷ []) a b ≡ true
unfolding first_key
column_alike a b k m p q =
    rw (p, q) (and_from _ _ (equal_from (number m) (number m) refl refl (tied_itself value_cmp_total (number m))) refl)

-- the row that has a member as the challenged one
abbrev pub to_member : ℕ → Row
to_member member = Null ∷ Null ∷ Null ∷ number member ∷ []

-- ---- what was read of the rows by a member and to the member

module _ (s : ClubState) (member : ℕ) (own received rows : List ChallengeRow)
    (mine : AreThose (0 ∷ []) (number member ∷ []) (tables s 6) (map challenge_cells own))
    (theirs : AreThose (3 ∷ []) (to_member member) (tables s 6) (map challenge_cells received))
    (both : IsPermutation (own ++ received) rows) where
  stored_with : (c : Challenge) (r : ChallengeRow) → Has rows r → challenge_row c ≡ challenge_cells r
      → Has s.challenges c × (is_with member c ≡ true)
  stored_with c r has is =
      elim (has_either own received r (has_turned rows (own ++ received) r (IsPermutation-sym _ _ both) has)) [
        | inl first ↦
            let it = subst (λ z. Has (tables s 6) z × (same_key (0 ∷ []) z (number member ∷ []) ≡ true)) (sym is)
            (mine.sound (challenge_cells r) (mapped_has challenge_cells own r first)) in
            let by = column_same (challenge_row c) (number member ∷ []) 0 c.member member refl refl it.1 in
            (among s.challenges c it.0, or_left (c.member == member) (c.other == member) (eq-eqb c.member member by))
        | inr second ↦
            let it = subst (λ z. Has (tables s 6) z × (same_key (3 ∷ []) z (to_member member) ≡ true)) (sym is)
            (theirs.sound (challenge_cells r) (mapped_has challenge_cells received r second)) in
            let to = column_same (challenge_row c) (to_member member) 3 c.other member refl refl it.1 in
            (among s.challenges c it.0, or_right (c.member == member) (c.other == member) (eq-eqb c.other member to))
      ]

  read_with : (c : Challenge) → Has s.challenges c → is_with member c ≡ true
      → Has (map challenge_cells rows) (challenge_row c)
  read_with c stored with' =
      let there : Has (tables s 6) (challenge_row c) = mapped_has challenge_row s.challenges c stored in
      elim (or_cases (c.member == member) (c.other == member) with') [
        | inl by ↦
            let found = mine.complete (challenge_row c) there
            (column_alike (challenge_row c) (number member ∷ []) 0 member (ap number (eqb-true c.member member by)) refl)
            in
            let (r, had, is) = mapped_had challenge_cells own (challenge_row c) found in
            subst (Has (map challenge_cells rows)) (sym is)
            (mapped_has challenge_cells rows r
            (has_turned (own ++ received) rows r both (has_left own received r had)))
        | inr to ↦
            let found = theirs.complete (challenge_row c) there
            (column_alike (challenge_row c) (to_member member) 3 member (ap number (eqb-true c.other member to)) refl) in
            let (r, had, is) = mapped_had challenge_cells received (challenge_row c) found in
            subst (Has (map challenge_cells rows)) (sym is)
            (mapped_has challenge_cells rows r
            (has_turned (own ++ received) rows r both (has_right own received r had)))
      ]

  pub challenges_with : (all : List Challenge) → map challenge_cells rows ≡ map challenge_row all
      → IsAscending ComesBefore all → AreChallengesWith s member all
  challenges_with all is up = record {
    there = λ c has.
        let row : Has (map challenge_cells rows) (challenge_row c) = rw is (mapped_has challenge_row all c has) in
        let (r, had, same) = mapped_had challenge_cells rows (challenge_row c) row in
        stored_with c r had same;
    back = λ c stored with'. among all c (subst (λ l. Has l (challenge_row c)) is (read_with c stored with'));
    order = up;
  }

-- ---- all challenges in order

-- the elements of the list in order
record IsSortedOf (xs zs : List Challenge) : Type 0 where
  pub up : IsAscending ComesBefore zs
  pub there : (z : Challenge) → Has zs z → Has xs z
  pub back : (z : Challenge) → Has xs z → Has zs z

one_or_other : (x y : Challenge) → (key_of_challenge x ≡ key_of_challenge y → ⊥) → ComesBefore x y ⊎ ComesBefore y x
one_or_other x y apart = elim (cases_order x.member y.member) [
  | inl same ↦ elim (cases_order x.number y.number) [
    | inl alike ↦ absurd (apart (λ i. (same i, alike i)))
    | inr differ ↦ elim differ [ inl less ↦ inl (inr (same, less)) | inr more ↦ inr (inr (sym same, more)) ]
  ]
  | inr differ ↦ elim differ [ inl less ↦ inl (inl less) | inr more ↦ inr (inl more) ]
]

one_way : (x y : Challenge) → ComesBefore x y → ComesBefore y x → ⊥
one_way x y below above = grind (arith, below, above)

inserted : (x : Challenge) (ys : List Challenge) → IsAscending ComesBefore ys
    → ((y : Challenge) → Has ys y → key_of_challenge x ≡ key_of_challenge y → ⊥)
    → (zs : List Challenge) × IsSortedOf (x ∷ ys) zs
inserted x [] up apart = (x ∷ [], record { up = (tt, tt); there = λ z h. h; back = λ z h. h })
inserted x (y ∷ ys) up apart = elim (one_or_other x y (apart y (inl refl))) [
  | inl first ↦
      let later = all_weaker (ComesBefore y) (ComesBefore x) (λ z. before_then x y z first) ys up.0 in
      (x ∷ y ∷ ys, record { up = ((first, later), up); there = λ z h. h; back = λ z h. h })
  | inr after ↦
      let (zs, is) = inserted x ys up.1 (λ z h. apart z (inr h)) in
      let lowest : (z : Challenge) → Has zs z → ComesBefore y z = λ z h. elim (is.there z h) [
        | inl same ↦ subst (ComesBefore y) (sym same) after
        | inr had ↦ all_has (ComesBefore y) ys z up.0 had
      ] in (
        y ∷ zs,
        record {
          up = (all_from (ComesBefore y) zs lowest, is.up);
          there = λ z h. elim h [
            | inl same ↦ inr (inl same)
            | inr had ↦ elim (is.there z had) [ inl same ↦ inl same | inr rest ↦ inr (inr rest) ]
          ];
          back = λ z h. elim h [
            | inl same ↦ inr (is.back z (inl same))
            | inr had ↦ elim had [ inl same ↦ inl same | inr rest ↦ inr (is.back z (inr rest)) ]
          ];
        },
      )
]

at_index : {A : Type 0} (xs : List A) (x : A) → Has xs x → (n : ℕ) × (slice_get xs n ≡ Some x)
at_index [] x h = absurd h
at_index (y ∷ xs) x (inl same) = (0, ap Some (sym same))
at_index (y ∷ xs) x (inr h) = let (n, at) = at_index xs x h in (suc n, at)

in_order : (xs : List Challenge) → HaveUniqueKeys key_of_challenge xs → (zs : List Challenge) × IsSortedOf xs zs
in_order [] unique = ([], record { up = tt; there = λ z h. h; back = λ z h. h })
in_order (x ∷ xs) unique =
    let (ys, is) = in_order xs
    (λ i j a b at there same. let e = unique (suc i) (suc j) a b at there same in omega (arith, e)) in
    let (zs, into) = inserted x ys is.up (λ y h same.
    let (n, at) = at_index xs y (is.there y h) in
    let e = unique 0 (suc n) x y refl at same in omega (arith, e)) in (
      zs,
      record {
        up = into.up;
        there = λ z h. elim (into.there z h) [ inl same ↦ inl same | inr had ↦ inr (is.there z had) ];
        back = λ z h. into.back z (elim h [ inl same ↦ inl same | inr had ↦ inr (is.back z had) ]);
      },
    )

-- ---- the member with an id

some_is : {A : Type 0} (o : Option A) → IsSome o → (x : A) × (o ≡ Some x)
some_is None some = cc
some_is (Some x) some = (x, refl)

module _ (s : ClubState) (is_club : IsClub s) (id : ℕ) (m : Member) (at : place s.members id ≡ Some m) where
  -- no other member has the name
  named_so : (other : ℕ) → IsSome (place s.members other) → bytes_eq (member_name (place s.members other)) m.name ≡ true
      → other ≡ id
  named_so other there named =
      let (o, stands) = some_is (place s.members other) there in
      let (i, other_is, here) = place_at s.members other o stands in
      let (j, id_is, also) = place_at s.members id m at in
      let same : o.name ≡ m.name = same-bytes_eq o.name m.name (rw stands at named) in
      let one : i ≡ j = is_club.member_names i j o m here also same in
      omega (arith, other_is, id_is, one)

  kept_with : (c : Challenge) → Has s.challenges c → concerns s.members m.name c ≡ true → is_with id c ≡ true
  kept_with c stored concerned =
      let (n, stands) = at_index s.challenges c stored in
      let legal = is_club.challenges n c stands in
      elim (or_cases (bytes_eq (from_name s.members c) m.name) (bytes_eq (to_name s.members c) m.name) concerned) [
        | inl by ↦ or_left (c.member == id) (c.other == id) (eq-eqb c.member id (named_so c.member legal.member by))
        | inr to ↦ or_right (c.member == id) (c.other == id) (eq-eqb c.other id (named_so c.other legal.other to))
      ]

  -- The list of the member's games is the same for the member's challenges as for all of them.
  pub all_same : (own : List Challenge) → AreChallengesWith s id own → (all : List Challenge) × AreChallengesOf s all
      × ((events : List Event) (moment : ℕ) (games : List Running)
      → my_games_json s.members events m.name moment own games ≡ my_games_json s.members events m.name moment all games)
  all_same own mine =
      let (all, sorted) = in_order s.challenges is_club.challenge_numbers in
      let same : own ≡ filter (is_with id) all =
      one_order ComesBefore one_way own (filter (is_with id) all) mine.order
      (ascending-filter ComesBefore (is_with id) all sorted.up)
      (λ z h. let (stored, with') = mine.there z h in has_kept (is_with id) all z (sorted.back z stored) with')
      (λ z h. let (had, with') = has_filtered (is_with id) all z h in mine.back z (sorted.there z had) with') in
      let kept = all_from (λ c. concerns s.members m.name c ≡ true → is_with id c ≡ true) all
      (λ c h. kept_with c (sorted.there c h)) in (
        all,
        record { there = sorted.there; back = sorted.back; order = sorted.up },
        λ events moment games.
            (λ i. my_games_json s.members events m.name moment (same i) games)
            ∙ same_json s.members m.name (is_with id) all kept events moment games,
      )

-- ---- the member with a key

next_of : (o : Option ℕ) (id : ℕ) → option_map suc o ≡ Some id → (k : ℕ) × (o ≡ Some k) × (suc k ≡ id)
next_of None id is = cc
next_of (Some k) id is = (k, refl, cc)

none_of : (o : Option ℕ) → option_map suc o ≡ None → o ≡ None
none_of None is = refl
none_of (Some k) is = cc

place_next : {A : Type 0} (x y : A) (xs : List A) (id : ℕ) → place xs id ≡ Some y → place (x ∷ xs) (suc id) ≡ Some y
place_next x y xs zero at = cc
place_next x y xs (suc n) at = at

pub key_found : (key : List ℕ) (members : List Member) (id : ℕ) → find_id (has_member_key key) members ≡ Some id
    → (m : Member) × (place members id ≡ Some m) × (Some m.name ≡ member_name_by_key key members)
key_found key [] id is = cc
key_found key (x ∷ xs) id is = elim (cases_Bool (has_member_key key x)) [
  | inl first ↦
      let one : Some 1 ≡ Some id = rw first at is in
      let id_is : 1 ≡ id = cc in
      (x, subst (λ j. place (x ∷ xs) j ≡ Some x) id_is refl, rw first refl)
  | inr later ↦
      let (k, found, next) = next_of (find_id (has_member_key key) xs) id (rw later at is) in
      let (m, stands, named) = key_found key xs k found in
      (m, subst (λ j. place (x ∷ xs) j ≡ Some m) next (place_next x m xs k stands), rw later named)
]

pub key_none : (key : List ℕ) (members : List Member) → find_id (has_member_key key) members ≡ None
    → member_name_by_key key members ≡ None
key_none key [] is = refl
key_none key (x ∷ xs) is = elim (cases_Bool (has_member_key key x)) [
  | inl first ↦ let e = rw first at is in cc
  | inr later ↦ rw later (key_none key xs (none_of (find_id (has_member_key key) xs) (rw later at is)))
]
