-- The ghost view of an open club, and what a call on it finds.
use Rattle.std.specs.Prelude.{◌≡◌, Bool, refl, if◌then◌else◌}
use Rattle.std.specs.Coded.{Coded, code_by, coded×, coded_bool}
use Rattle.sqlite.specs.Held.{Held, held_code}
use Rattle.sqlite.specs.State.{State}
use Rattle.store_tables.specs.Over.{HoldsClubAmong, Neighbours}
use Rattle.store_tables.specs.declared.names.Version.{Version}
use Rattle.store_tables.specs.declared.names.Version.TheVariants.{V2, V3}
use Rattle.club_rows.specs.Club.{ClubState, IsClub, StoresClub, tables}
use Rattle.club_rows.specs.Tables.{version_of}

-- the connection, whether the club has an arbiter (schema 3), and whether a call has failed since the database was
-- opened
pub record Kept (S : Type 0) : Type 0 where
  pub connection : Held S
  pub has_arbiter : Bool
  pub needs_reopening : Bool

-- the ghost view of an open club coded by its three fields, as the kit requires
abbrev pub kept_code : {S : Type 0} → Coded S → Coded (Kept S)
kept_code {S} store = code_by (Held S × (Bool × Bool)) (coded× (held_code store) (coded× coded_bool coded_bool))
    (λ k. (k.connection, (k.has_arbiter, k.needs_reopening)))
    (λ p. record { connection = p.0; has_arbiter = p.1.0; needs_reopening = p.1.1 }) (λ _. refl)

-- the schema version of a club with or without an arbiter
abbrev pub version_with : Bool → Version
version_with has_arbiter = if has_arbiter then V3 else V2

-- A query to the club finds exactly the tables of this state, in the schema that the club was opened in.
pub record Asks (has_arbiter : Bool) (conn : State) (s : ClubState) : Type 0 where
  pub legal : IsClub s
  pub arbiter : has_arbiter ≡ s.has_arbiter
  pub stores : StoresClub s conn

-- The same among these foreign tables, also after a crash: what a command finds.
pub record Serves (has_arbiter : Bool) (conn : State) (them : Neighbours) (s : ClubState) : Type 0 where
  pub legal : IsClub s
  pub arbiter : has_arbiter ≡ s.has_arbiter
  pub version : them.version ≡ version_of s
  pub holds : HoldsClubAmong them (tables s) conn
