-- The check of the rows of later keys. No promise of the program rests on these definitions.
use Rattle.std.specs.Prelude.{◌≡◌, ◌⊎◌, ◌<◌, ◌≤◌, ℕ, suc, pos, List, [], ◌∷◌, ◌++◌, map, string_bytes, IsTrue}
use Rattle.club_requests.specs.Limits.{is_member_key, most_keys}
use Rattle.club_core.specs.LegalState.{HaveUniqueMemberKeys}
use Rattle.club_core.specs.Members.{Member}
use Rattle.store_tables.specs.internal.Cells.{key_cells}
use Rattle.store_tables.specs.declared.rows.KeyRow.{KeyRow}
use Rattle.store_tables.specs.declared.rows.MemberRow.{MemberRow}
use Rattle.club_rows.specs.Tables.{gathered_from, rows_of_keys}
use Rattle.club_audit.specs.declared.keys.KeyPlace.{KeyPlace}

-- the first keys in the rows of members, and then the later ones
abbrev pub all_keys : List MemberRow → List KeyRow → List (List ℕ)
all_keys members keys = map (λ r. string_bytes r.key) members ++ map (λ r. string_bytes r.key) keys

-- The row has this place and a valid key. It may come after a row with the place before: it has the next number of the
-- same member, or the first of a later one.
pub record IsKeyAfter (count : ℕ) (before place : KeyPlace) (row : KeyRow) : Type 0 where
  pub member_is : row.member ≡ pos place.member
  pub number_is : row.number ≡ pos place.number
  pub member : place.member ≤ count
  pub number : place.number ≤ most_keys
  pub valid : IsTrue (is_member_key (string_bytes row.key))
  pub next : ((place.member ≡ before.member) × (place.number ≡ suc before.number))
      ⊎ ((before.member < place.member) × (place.number ≡ 1))

-- each row may come after the one before it
abbrev pub AreKeysAfter : ℕ → KeyPlace → List KeyRow → Type 0
AreKeysAfter count before [] = Unit {0}
AreKeysAfter count before (r ∷ rs) = (place : KeyPlace) × IsKeyAfter count before place r × AreKeysAfter count place rs

-- the place before the first row
abbrev pub no_key : KeyPlace
no_key = record { member = 1; number = 0 }

-- the rows are those of the later keys of these members; no two keys are the same, the first ones included
pub record AreKeysOf (members : List Member) (keys : List KeyRow) : Type 0 where
  pub rows_are : map key_cells keys ≡ gathered_from rows_of_keys 1 members
  pub apart : HaveUniqueMemberKeys members
