-- The promise about a database that was just opened: it holds a club, or it was rejected.
use Rattle.sqlite.specs.Tree.{Trees}
use Rattle.club_rows.specs.Club.{ClubState, IsClub, tables}
use Rattle.club_rows.specs.Tables.{version_of}
use Rattle.club_check.specs.Versions.{LeavesRows}

-- the database has the tables of a legal state in its schema version, alone or beside foreign tables
pub record HoldClub (trees : Trees) : Type 0 where
  pub state : ClubState
  pub legal : IsClub state
  pub leaves : LeavesRows (version_of state) (tables state) trees
