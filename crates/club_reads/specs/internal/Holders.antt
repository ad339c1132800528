-- The member who has a secret key now, by rows. No promise of the program rests on these definitions.
use Rattle.std.specs.Prelude.{◌≡◌, ◌≢◌, ℕ, ◌+◌, List, Option, Some, None, slice_get}
use Rattle.club_requests.specs.declared.requests.Caller.TheVariants as caller
use Rattle.club_core.specs.Members.{Member, find_id}
use Rattle.club_core.specs.State.{caller_found, has_member_key, place}
use Rattle.club_rows.specs.Club.{ClubState}
use Rattle.club_rows.specs.Tables.{key_row, member_row}
use Rattle.store_tables.specs.internal.Cells.{key_cells, member_cells}
use Rattle.store_tables.specs.declared.rows.KeyRow.{KeyRow}
use Rattle.store_tables.specs.declared.rows.MemberRow.{MemberRow}

-- The row of the member who has this key now, if there is one.
abbrev pub IsHolder : ClubState → List ℕ → Option MemberRow → Type 0
IsHolder s key None = caller_found (find_id (has_member_key key) s.members) ≡ None
IsHolder s key (Some row) =
    (id : ℕ) × (m : Member) × (place s.members id ≡ Some m) × (member_cells row ≡ member_row id m)
    × (caller_found (find_id (has_member_key key) s.members) ≡ Some (caller.Member id))

-- the row of a later key of the member at index n; j is the key's index
pub record IsLaterAt (s : ClubState) (key : List ℕ) (row : KeyRow) : Type 0 where
  pub n : ℕ
  pub j : ℕ
  pub m : Member
  pub stands : slice_get s.members n ≡ Some m
  pub at : slice_get m.later j ≡ Some key
  pub cells : key_cells row ≡ key_row (1 + n) (1 + j) key

-- The row of the later key with this text, if any member has or had it as a later key.
abbrev pub IsKeyRow : ClubState → List ℕ → Option KeyRow → Type 0
IsKeyRow s key None =
    (n j : ℕ) (m : Member) → slice_get s.members n ≡ Some m → slice_get m.later j ≢ Some key
IsKeyRow s key (Some row) = IsLaterAt s key row

-- no member has or had the key as the first one
abbrev pub IsNoFirstKey : ClubState → List ℕ → Type 0
IsNoFirstKey s key = (n : ℕ) (m : Member) → slice_get s.members n ≡ Some m → m.key ≢ key
