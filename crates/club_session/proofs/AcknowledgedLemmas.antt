-- What was served leads from the state before it to what is present and to what a crash leaves.
use Rattle.std.proofs.Common.{◌≡◌, ◌++◌, Bool, false, List, Option}
use Rattle.sqlite.specs.State.{State}
use Rattle.sqlite.specs.Tree.{Trees}
use Rattle.store_tables.proofs.Proved.{leaves_beside}
use Rattle.club_rows.specs.Club.{tables}
use Rattle.server.specs.Acknowledged.{LeadTo}
use Rattle.server.specs.Visits.{IsNextServed, listed}
use Rattle.server.specs.declared.connections.Served.{Served}
use Rattle.server.proofs.Proved.{lead_on, some_state}
use Rattle.club_session.specs.internal.Acknowledged.{IsAfter}
use Rattle.club_session.specs.Served.{DeskState, served}
use Rattle.club_session.specs.ServedStates.{IsLeft, IsLeftBy, IsOpenIn}

module _ (arbiter shut : Bool) (now : State) (u : DeskState) (next : Option Served)
    (acts : IsNextServed served (IsOpenIn arbiter shut now) (IsLeft arbiter shut now) u next) where
  next_leaves : (db : Trees) → now.may_leave db → (t : DeskState) × LeadTo served u (listed next) t × IsLeftBy db t
  next_leaves db may =
      some_state served (IsOpenIn arbiter shut now) (IsLeft arbiter shut now) (IsLeftBy db)
      (λ v is. leaves_beside v.them (tables v.state) now is.serves.holds db may) (λ v w left. left.leaves db may) u next
      acts

  next_stands : shut ≡ false → (t : DeskState) × LeadTo served u (listed next) t
      × IsOpenIn arbiter shut now t
  next_stands ready =
      some_state served (IsOpenIn arbiter shut now) (IsLeft arbiter shut now) (IsOpenIn arbiter shut now) (λ v is. is)
      (λ v w left. left.stands ready) u next acts

-- one more item behind those before it
pub after_next : (was_arbiter old_shut : Bool) (old : State) (s : DeskState) (items : List Served) (arbiter shut : Bool)
    (now : State) (next : Option Served)
    → ((t : DeskState) × LeadTo served s items t × IsOpenIn was_arbiter old_shut old t)
    → ((u : DeskState) → IsOpenIn was_arbiter old_shut old u
    → IsNextServed served (IsOpenIn arbiter shut now) (IsLeft arbiter shut now) u next)
    → IsAfter arbiter shut now s (items ++ listed next)
after_next was_arbiter old_shut old s items arbiter shut now next (u, leads, is) acts =
    record {
      leaves = λ db may.
          let (t, on, left) = next_leaves arbiter shut now u next (acts u is) db may in
          (t, lead_on served s u t items (listed next) leads on, left);
      stands = λ ready.
          let (t, on, stood) = next_stands arbiter shut now u next (acts u is) ready in
          (t, lead_on served s u t items (listed next) leads on, stood);
    }

-- what is present stays, whatever a crash leaves
pub after_all : (arbiter shut : Bool) (now : State) (s : DeskState) (items : List Served)
    → ((t : DeskState) × LeadTo served s items t × IsOpenIn arbiter shut now t) → IsAfter arbiter shut now s items
after_all arbiter shut now s items (t, leads, is) =
    record {
      leaves = λ db may. (t, leads, leaves_beside t.them (tables t.state) now is.serves.holds db may);
      stands = λ ready. (t, leads, is);
    }
