-- The rows of challenges: their types, and the challenge that is found by a member and the member's number for it.
use Rattle.std.proofs.Common.{◌≡◌, ◌≤◌, ℕ, ℤ, pos, List, [], ◌∷◌, map, Option, Some, None, refl, ap, sym, ◌∙◌}
use Rattle.std.proofs.Common.{arith, inl, inr, ◌⊎◌}
use Rattle.std.specs.List.{AllByRecursion}
use Rattle.std.proofs.lemmas.Bool.{and_parts}
use Rattle.sqlite.specs.Order.{Row}
use Rattle.sqlite.specs.declared.types.Value.TheVariants.{Int, Null}
use Rattle.sqlite_rules.specs.Lists.{Has}
use Rattle.club_core.specs.declared.challenges.Challenge.{Challenge}
use Rattle.club_core.specs.Challenges.{challenge_under}
use Rattle.club_core.specs.LegalState.{IsLegalChallenge}
use Rattle.club_laws.proofs.Proved.{le-true, under-each, under-found, under-key}
use Rattle.club_rows.specs.internal.ChallengeRows.{challenge_key}
use Rattle.club_rows.specs.Club.{ClubState, IsClub, tables}
use Rattle.club_rows.specs.Tables.{challenge_row, game_started, number}
use Rattle.sqlite.specs.Values.{or_null}
use Rattle.club_rows.proofs.Proved.{challenge-shown, challenge-not-shown, challenge-told, no-challenge-told}
use Rattle.club_rows.proofs.Proved.{challenges-alike}
use Rattle.store_tables.specs.Cells.{IsChallenge}
use Rattle.store_tables.specs.internal.Cells.{challenge_cells}
use Rattle.store_tables.specs.internal.Contents.{AreThose}
use Rattle.store_tables.specs.declared.rows.ChallengeRow.{ChallengeRow}

-- ---- types

game_typed : (o : Option ℕ) → (or_null number o ≡ Null) ⊎ ((n : ℤ) × (or_null number o ≡ Int n))
game_typed None = inl refl
game_typed (Some id) = inr (_, refl)

challenge_typed : (c : Challenge) → IsChallenge (challenge_row c)
challenge_typed c = record {
  width = refl;
  member = (_, refl);
  number = (_, refl);
  event = (_, refl);
  other = (_, refl);
  first = (_, refl);
  state = (_, refl);
  game = game_typed (game_started c.standing);
}

pub challenges_typed : (cs : List Challenge) → AllByRecursion IsChallenge (map challenge_row cs)
challenges_typed [] = tt
challenges_typed (c ∷ cs) = (challenge_typed c, challenges_typed cs)

-- ---- a challenge that is looked for

-- the columns that are asked for, by numbers of 64 bits
pub asked : (member own : ℤ) (m n : ℕ) → member ≡ pos m → own ≡ pos n
    → ◌≡◌ {A = Row} (Int member ∷ Int own ∷ []) (challenge_key m n)
asked member own m n one two = λ i. Int (one i) ∷ Int (two i) ∷ []

module _ (s : ClubState) (is_club : IsClub s) (m n : ℕ) where
  -- the first of the rows that were found is that of the member's challenge
  pub found_some : (wanted : Row) (rows : List Row) (row : ChallengeRow) (c : Challenge) → wanted ≡ challenge_key m n
      → AreThose (0 ∷ 1 ∷ []) wanted (tables s 6) rows → Has rows (challenge_cells row)
      → challenge_cells row ≡ challenge_row c → Some c ≡ challenge_under s.challenges m n
  found_some wanted rows row c key those has is =
      let shown = challenge-shown (tables s 6) rows m n row (rw key at those) has in
      let (known, under, cells) = challenge-told s.challenges m n row is_club.challenge_numbers shown in
      ap Some (challenges-alike c known (sym is ∙ cells)) ∙ sym under

  -- where none was found there is none
  pub found_none : (wanted : Row) (rows : List Row) → wanted ≡ challenge_key m n
      → AreThose (0 ∷ 1 ∷ []) wanted (tables s 6) rows → rows ≡ []
      → ◌≡◌ {A = Option Challenge} None (challenge_under s.challenges m n)
  found_none wanted rows key those none =
      sym (no-challenge-told s.challenges m n (challenge-not-shown (tables s 6) m n (rw (none, key) at those)))

-- no challenge of a legal club has a number above the greatest
pub past_numbers : (s : ClubState) → IsClub s → (m n : ℕ) → (n ≤ 9999 → ⊥)
    → ◌≡◌ {A = Option Challenge} None (challenge_under s.challenges m n)
past_numbers s is_club m n high = here (challenge_under s.challenges m n) refl
  where
    here : (o : Option Challenge) → challenge_under s.challenges m n ≡ o
        → ◌≡◌ {A = Option Challenge} None (challenge_under s.challenges m n)
    here None is = sym is
    here (Some c) is =
        let legal = under-each (IsLegalChallenge s) s.challenges m n c is_club.challenges is in
        let (member, own) = under-key m n c (under-found s.challenges m n c is) in
        let low = le-true c.number 9999 (and_parts _ _ legal.number).1 in
        absurd (high (omega (arith, low, own)))
