-- The schema version of a club, and what a connection that stores it has.
use Rattle.std.proofs.Common.{◌≡◌, Bool, true, false, refl}
use Rattle.std.specs.Prelude.{if◌then◌else◌}
use Rattle.sqlite.specs.State as connection
use Rattle.store_tables.specs.internal.Over.{HasRows}
use Rattle.store_tables.specs.Tables.{IsServed}
use Rattle.store_tables.specs.declared.names.Version.TheVariants.{V2, V3}
use Rattle.store_tables.proofs.Proved.{served_rows}
use Rattle.club_rows.specs.Club.{ClubState, StoresClub, tables}
use Rattle.club_rows.specs.Tables.{version_of}

either-served : (arbiter : Bool) → IsServed (if arbiter then V3 else V2)
either-served true = refl
either-served false = refl

-- the program serves each club's version
pub version-served : (s : ClubState) → IsServed (version_of s)
version-served s = either-served s.has_arbiter

-- a connection that stores a club has the rows of its tables of schema 2
pub stores-rows : (s : ClubState) (conn : connection.State) → StoresClub s conn → HasRows (tables s) conn
stores-rows s conn stores = served_rows (version_of s) (version-served s) (tables s) conn stores

-- a club without an arbiter has schema 2, one with an arbiter schema 3
pub version-without : (s : ClubState) → s.has_arbiter ≡ false → version_of s ≡ V2
version-without s none = rw none refl

pub version-with : (s : ClubState) → s.has_arbiter ≡ true → version_of s ≡ V3
version-with s has = rw has refl
