-- What a serving session served, and the states that it leaves. No promise of the program rests on these definitions.
use Rattle.std.specs.Prelude.{◌≡◌, Bool, false, List}
use Rattle.sqlite.specs.Tree.{Trees}
use Rattle.sqlite.specs.State.{State}
use Rattle.store_tables.specs.Over.{Neighbours}
use Rattle.club_rows.specs.Club.{ClubState}
use Rattle.club_rows.specs.Tables.{version_of}
use Rattle.server.specs.Acknowledged.{LeadTo}
use Rattle.server.specs.declared.connections.Served.{Served}
use Rattle.club_session.specs.Served.{DeskState, beside_them, served}
use Rattle.club_session.specs.ServedStates.{IsLeftBy, IsOpenIn}

-- After these items any crash leaves the tables of a state that they lead to; if no call has failed, the club is in
-- one.
pub record IsAfter (has_arbiter needs_reopening : Bool) (now : State) (s : DeskState) (items : List Served) : Type 0
  where
    pub leaves : (db : Trees) → now.may_leave db → (t : DeskState) × LeadTo served s items t × IsLeftBy db t
    pub stands : needs_reopening ≡ false → (t : DeskState) × LeadTo served s items t
        × IsOpenIn has_arbiter needs_reopening now t

-- Whatever is found is the tables of one state to which these items lead.
pub record IsSettled (s : ClubState) (items : List Served) (MayFind : Trees → Type 0) : Type 0 where
  pub them : Neighbours
  pub version : them.version ≡ version_of s
  pub after : DeskState
  pub leads : LeadTo served (beside_them them s) items after
  pub leaves : (found : Trees) → MayFind found → IsLeftBy found after
