-- The state of a club between requests, and after a crash.
use Rattle.std.specs.Prelude.{◌≡◌, ◌⊎◌, Bool, false}
use Rattle.std.proofs.Common.{inl, inr}
use Rattle.sqlite.specs.Tree.{Trees}
use Rattle.sqlite.specs.State.{State}
use Rattle.store_tables.specs.Over.{LeavesBeside}
use Rattle.store_tables.proofs.Proved.{leaves_beside}
use Rattle.club_rows.specs.Club.{tables}
use Rattle.store.specs.Clubs.{Serves}
use Rattle.club_session.specs.Served.{DeskState}

-- No call has failed, and the tables are exactly those of this legal state beside these foreign tables, in the schema
-- that the club was opened in.
pub record IsOpenIn (has_arbiter needs_reopening : Bool) (now : State) (s : DeskState) : Type 0 where
  pub ready : needs_reopening ≡ false
  pub serves : Serves has_arbiter now s.them s.state

-- the database holds the tables of this state, for a later opening
abbrev pub IsLeftBy : Trees → DeskState → Type 0
IsLeftBy db s = LeavesBeside s.them (tables s.state) db

-- any crash leaves the tables of one of the two states
abbrev pub MayLeave : State → DeskState → DeskState → Type 0
MayLeave now s t = (db : Trees) → now.may_leave db → IsLeftBy db s ⊎ IsLeftBy db t

-- Any crash leaves one of the two states; if no call has failed, the club is in one of them.
pub record IsLeft (has_arbiter needs_reopening : Bool) (now : State) (s t : DeskState) : Type 0 where
  pub leaves : MayLeave now s t
  pub stands : needs_reopening ≡ false → IsOpenIn has_arbiter needs_reopening now s
      ⊎ IsOpenIn has_arbiter needs_reopening now t

pub served_stays : (arbiter shut : Bool) (now : State) (s t : DeskState) → IsOpenIn arbiter shut now s
    → IsLeft arbiter shut now s t
served_stays arbiter shut now s t open_in = record {
  leaves = λ db left. inl (leaves_beside s.them (tables s.state) now open_in.serves.holds db left);
  stands = λ ready. inl open_in;
}

pub served_settled : (arbiter shut : Bool) (now : State) (s t : DeskState) → IsOpenIn arbiter shut now t
    → IsLeft arbiter shut now s t
served_settled arbiter shut now s t open_in = record {
  leaves = λ db left. inr (leaves_beside t.them (tables t.state) now open_in.serves.holds db left);
  stands = λ ready. inr open_in;
}

pub left_wider : (arbiter shut : Bool) (now : State) (s t : DeskState) → IsLeft arbiter shut now s s
    → IsLeft arbiter shut now s t
left_wider arbiter shut now s t left =
    record {
      leaves = λ db may. elim (left.leaves db may) [ inl it ↦ inl it | inr it ↦ inl it ];
      stands = λ ready. elim (left.stands ready) [ inl it ↦ inl it | inr it ↦ inl it ];
    }
