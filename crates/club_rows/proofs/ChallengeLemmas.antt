-- The table of challenges: what its rows tell, and what a row that is put makes of it.
use Rattle.std.proofs.Common.{◌≡◌, ℕ, zero, suc, inl, inr, List, [], ◌∷◌, map, Some, None, true, false, refl, ap, sym}
use Rattle.std.proofs.Common.{◌∙◌, arith}
use Rattle.std.specs.Prelude.{slice_get}
use Rattle.std.proofs.lemmas.Bool.{cases_Bool}
use Rattle.sqlite.specs.Order.{Row, column}
use Rattle.sqlite_rules.specs.Lists.{Has}
use Rattle.sqlite_rules.proofs.ListLemmas.{has_got}
use Rattle.club_core.specs.declared.challenges.Challenge.{Challenge}
use Rattle.club_core.specs.Challenges.{key_of_challenge, is_under, challenge_under, put_challenge}
use Rattle.club_core.specs.LegalState.{HaveUniqueKeys}
use Rattle.club_laws.proofs.Proved.{under-key, key-under, under-at, under-found, under-each, under-put, got-put}
use Rattle.club_laws.proofs.Proved.{apart-put}
use Rattle.store_tables.specs.internal.Cells.{challenge_cells}
use Rattle.store_tables.specs.Changes.{HaveSame}
use Rattle.store_tables.specs.internal.Changes.{Alters}
use Rattle.store_tables.specs.Content.{same_key}
use Rattle.store_tables.specs.internal.Content.{put}
use Rattle.store_tables.specs.internal.Contents.{AreThose}
use Rattle.store_tables.specs.declared.rows.ChallengeRow.{ChallengeRow}
use Rattle.store_tables.proofs.Proved.{altered, unaltered, has_map}
use Rattle.club_rows.specs.internal.ChallengeRows.{IsChallengeFound, challenge_key}
use Rattle.club_rows.specs.Tables.{number, challenge_row}
use Rattle.club_rows.proofs.KeyPairs.{same-numbers, same-seconds, keys-agree}
pub use Rattle.club_rows.proofs.SeenClub.{seated-added}

-- ---- a row tells its challenge

-- two challenges with the same row are one
pub challenges-alike : (c d : Challenge) → challenge_row c ≡ challenge_row d → c ≡ d
challenges-alike c d is = grind arith

-- lists of challenges with the same rows are one
pub challenge-rows-alike : (cs ds : List Challenge) → map challenge_row cs ≡ map challenge_row ds → cs ≡ ds
challenge-rows-alike [] [] is = refl
challenge-rows-alike (c ∷ cs) (d ∷ ds) is =
    let head : c ≡ d = challenges-alike c d (cc) in
    let tail : cs ≡ ds = challenge-rows-alike cs ds (cc) in
    cc
challenge-rows-alike cs ds is = cc

-- ---- rows of a list

-- a row is that of a challenge of the list
pub challenge-had : (cs : List Challenge) (z : Row) → Has (map challenge_row cs) z → (n : ℕ) × (c : Challenge)
    × (slice_get cs n ≡ Some c) × (z ≡ challenge_row c)
challenge-had [] z h = absurd h
challenge-had (c ∷ cs) z (inl is) = (0, c, refl, is)
challenge-had (c ∷ cs) z (inr h) = let (n, d, at, is) = challenge-had cs z h in (suc n, d, at, is)

pub challenge-has : (cs : List Challenge) (n : ℕ) (c : Challenge) → slice_get cs n ≡ Some c
    → Has (map challenge_row cs) (challenge_row c)
challenge-has cs n c at = has_map challenge_row cs c (has_got cs n c at)

-- ---- keys

keys-told : (a b : Row) (c d m n : ℕ) → column a 0 ≡ number c → column a 1 ≡ number d → column b 0 ≡ number m
    → column b 1 ≡ number n → same_key (0 ∷ 1 ∷ []) a b ≡ true → (c ≡ m) × (d ≡ n)
keys-told a b c d m n p q r t same = (same-numbers a b c m p r same, same-seconds a b d n q t same)

-- no two rows of challenges that go by different numbers have one key
pub challenge-rows-apart : (cs : List Challenge) → HaveUniqueKeys key_of_challenge cs → (z w : Row) → Has (map challenge_row cs) z
    → Has (map challenge_row cs) w → same_key (0 ∷ 1 ∷ []) z w ≡ true → z ≡ w
challenge-rows-apart cs apart z w h k same =
    let (m, c, at, z_is) = challenge-had cs z h in
    let (n, d, there, w_is) = challenge-had cs w k in
    let (member, own) = keys-told (challenge_row c) (challenge_row d) c.member c.number d.member d.number refl refl refl
    refl (rw (z_is, w_is) at same) in
    let place : m ≡ n = apart m n c d at there (λ i. (member i, own i)) in
    let one : c ≡ d = cc in
    rw (z_is, w_is, one)

-- where no challenge is put, the table stays
pub challenges-unaltered : (cs : List Challenge) → HaveUniqueKeys key_of_challenge cs
    → Alters (0 ∷ 1 ∷ []) [] (map challenge_row cs) (map challenge_row cs)
challenges-unaltered cs apart = unaltered (0 ∷ 1 ∷ []) (map challenge_row cs) (challenge-rows-apart cs apart)

-- ---- a challenge that is put

-- it stands in the list
put-stands : (cs : List Challenge) (new : Challenge) → (n : ℕ) × (slice_get (put_challenge cs new) n ≡ Some new)
put-stands cs new =
    under-each (λ c. (n : ℕ) × (slice_get (put_challenge cs new) n ≡ Some c)) (put_challenge cs new) new.member
    new.number new
    (λ n c at. (n, at))
    (rw (under-put cs new new.member new.number, key-under new.member new.number new refl refl) refl)

-- a challenge that goes by another number stays in the list
others-stand : (cs : List Challenge) (new : Challenge) (n : ℕ) (c : Challenge) → slice_get cs n ≡ Some c
    → is_under new.member new.number c ≡ false → (m : ℕ) × (slice_get (put_challenge cs new) m ≡ Some c)
others-stand [] new n c at other = cc
others-stand (x ∷ xs) new zero c at other = let e : c ≡ x = cc in (0, rw (rw e at other) at)
others-stand (x ∷ xs) new (suc k) c at other = elim (cases_Bool (is_under new.member new.number x)) [
  | inl here ↦ (suc k, rw here at)
  | inr there ↦ let (m, is) = others-stand xs new k c at other in (suc m, rw there is)
]

-- The row of a challenge, put for the one with its member and its number, makes the rows of the challenges with this
-- one.
pub challenge-alters : (cs : List Challenge) (new : Challenge) → HaveUniqueKeys key_of_challenge cs
    → Alters (0 ∷ 1 ∷ []) (challenge_row new ∷ []) (map challenge_row cs) (map challenge_row (put_challenge cs new))
challenge-alters cs new apart = record {
  among = λ z h. elim h [
    | inl is ↦ let (n, at) = put-stands cs new in rw is (challenge-has (put_challenge cs new) n new at)
    | inr none ↦ absurd none
  ];
  from = λ z h.
      let (n, c, at, is) = challenge-had (put_challenge cs new) z h in
      elim (got-put cs new n c at) [
        | inl was ↦ inl (rw is (challenge-has cs n c was))
        | inr here ↦ inr (inl (is ∙ ap challenge_row (sym here)))
      ];
  stays = λ z h.
      let (n, c, at, is) = challenge-had cs z h in
      elim (cases_Bool (is_under new.member new.number c)) [
        | inl same ↦
            let (member, own) = under-key new.member new.number c same in
            inr (
              challenge_row new,
              inl refl,
              rw is (keys-agree (challenge_row c) (challenge_row new) (number new.member) (number new.number) (λ e. cc)
                  (λ e. cc) (ap number member) refl (ap number own) refl),
            )
        | inr other ↦
            let (m, there) = others-stand cs new n c at other in
            inl (rw is (challenge-has (put_challenge cs new) m c there))
      ];
  one = challenge-rows-apart (put_challenge cs new) (apart-put cs new apart);
}

pub challenge-put : (cs : List Challenge) (new : Challenge) → HaveUniqueKeys key_of_challenge cs
    → HaveSame (put (0 ∷ 1 ∷ []) (challenge_row new) (map challenge_row cs)) (map challenge_row (put_challenge cs new))
challenge-put cs new apart = altered (0 ∷ 1 ∷ []) (challenge_row new ∷ []) (map challenge_row cs)
    (map challenge_row (put_challenge cs new)) (challenge-alters cs new apart)

-- ---- a challenge that is looked for

-- what is shown of a row with the key, and of none
pub challenge-shown : (rows found : List Row) (member own_number : ℕ) (row : ChallengeRow)
    → AreThose (0 ∷ 1 ∷ []) (challenge_key member own_number) rows found → Has found (challenge_cells row)
    → IsChallengeFound rows member own_number (Some row)
challenge-shown rows found member own_number row those has = those.sound (challenge_cells row) has

pub challenge-not-shown : (rows : List Row) (member own_number : ℕ)
    → AreThose (0 ∷ 1 ∷ []) (challenge_key member own_number) rows [] → IsChallengeFound rows member own_number None
challenge-not-shown rows member own_number those row has same = those.complete row has same

-- a row that was found is that of the member's challenge under the number
pub challenge-told : (cs : List Challenge) (member own_number : ℕ) (row : ChallengeRow) → HaveUniqueKeys key_of_challenge cs
    → IsChallengeFound (map challenge_row cs) member own_number (Some row)
    → (c : Challenge) × (challenge_under cs member own_number ≡ Some c) × (challenge_cells row ≡ challenge_row c)
challenge-told cs member own_number row apart (has, same) =
    let (n, c, at, is) = challenge-had cs (challenge_cells row) has in
    let (member_is, own_is) = keys-told (challenge_cells row) (challenge_key member own_number) c.member c.number member
    own_number (ap (λ r. column r 0) is) (ap (λ r. column r 1) is) refl refl same in
    (c, rw (← member_is, ← own_is) (under-at cs n c apart at), is)

-- where none was found, the member has no challenge under the number
pub no-challenge-told : (cs : List Challenge) (member own_number : ℕ)
    → IsChallengeFound (map challenge_row cs) member own_number None → challenge_under cs member own_number ≡ None
no-challenge-told cs member own_number none =
    elim (challenge_under cs member own_number) as
    (λ o. challenge_under cs member own_number ≡ o → challenge_under cs member own_number ≡ None) [
      | None ↦ λ is. is
      | Some c ↦ λ is.
          let (n, at) = under-each (λ d. (k : ℕ) × (slice_get cs k ≡ Some d)) cs member own_number c
          (λ k d there. (k, there)) is in
          let (member_is, own_is) = under-key member own_number c (under-found cs member own_number c is) in
          absurd
          (none (challenge_row c) (challenge-has cs n c at)
          (keys-agree (challenge_row c) (challenge_key member own_number) (number member) (number own_number)
          (λ e. cc) (λ e. cc) (ap number member_is) refl (ap number own_is) refl))
    ] refl
