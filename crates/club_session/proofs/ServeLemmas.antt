-- What the calls of a club tell, as the desk asks it.
use Rattle.std.proofs.Common.{◌≡◌, ◌≤◌, Bool, true, false, not, ◌||◌, Result, Ok, Err, refl, ap, sym, subst, ◌∙◌}
use Rattle.std.proofs.Common.{◌⊎◌, inl, inr, true≢false}
use Rattle.std.specs.Prelude.{pos, IfOk, IfErr, OnOk, OnErr, is_ok, if◌then◌else◌}
use Rattle.sqlite.specs.State.{State, HasCleanDisk}
use Rattle.store_tables.specs.Over.{HoldsClubAmong}
use Rattle.store_tables.specs.Reading.{KeepsContent, Reads}
use Rattle.store_tables.specs.declared.names.Version.TheVariants.{V2, V3}
use Rattle.store_tables.proofs.Proved.{leaves_beside, still_beside}
use Rattle.club_requests.specs.Limits.{last_moment}
use Rattle.club_core.specs.State.{Command, Request, needs_arbiter, takes}
use Rattle.club_laws.proofs.Proved.{next-arbiter}
use Rattle.club_rows.specs.Club.{ClubState, both_games, tables}
use Rattle.store.specs.Clubs.{Asks}
use Rattle.store.specs.declared.fault.StoreFault.{StoreFault}
use Rattle.store.specs.declared.fault.StoreFault.TheVariants as club
use Rattle.club_changes.specs.Steps.{club_next}
use Rattle.store.specs.Runs.{KeepsClub}
use Rattle.store.proofs.Proved.{asks_served}
use Rattle.http_desk.specs.declared.faults.ClubFault.{ClubFault}
use Rattle.http_desk.specs.declared.faults.ClubFault.TheVariants.{Reopen, Schema}
use Rattle.http_desk.specs.Served.{IsOfCall, IsOfCommand, Serves}
use Rattle.club_session.specs.internal.Faults.{fault_of_store, club_fault}
use Rattle.club_session.specs.Served.{DeskState, beside_them, next_of}
use Rattle.club_session.specs.ServedStates.{IsOpenIn, IsLeft, MayLeave, served_stays}

true_false : (b : Bool) → b ≡ true → b ≡ false → ⊥
true_false b is isnt = true≢false (sym is ∙ isnt)

-- ---- a state that a call finds

-- a query finds the state that a command finds
pub asked : {arbiter shut : Bool} {now : State} {s : DeskState} → IsOpenIn arbiter shut now s → Asks arbiter now s.state
asked open_in = asks_served open_in.serves

-- a club that is shut stands nowhere
pub shut_left : (arbiter shut : Bool) (now : State) (s t : DeskState) → shut ≡ true → MayLeave now s t
    → IsLeft arbiter shut now s t
shut_left arbiter shut now s t ends left =
    record { leaves = left; stands = λ ready. absurd (true_false shut ends ready) }

pub if_ok : {A F : Type 0} (P Q : A → Type 0) (found : Result A F) → IfOk found P → ((a : A) → P a → Q a) → IfOk found Q
if_ok P Q (Ok a) is goes = goes a is
if_ok P Q (Err fault) is goes = tt

-- what a reading call leaves at a fault
pub read_left : (answered was_arbiter is_arbiter old_shut new_shut : Bool) (old new : State) (s : DeskState)
    → new_shut ≡ true → Reads answered old new → HasCleanDisk new → IsOpenIn was_arbiter old_shut old s
    → IsLeft is_arbiter new_shut new s s
read_left answered was_arbiter is_arbiter old_shut new_shut old new s ends reads clean open_in =
    shut_left is_arbiter new_shut new s s ends
    (λ db left. inl (leaves_beside s.them (tables s.state) old open_in.serves.holds db (reads.may clean db left)))

-- where a reading call leaves the club
pub read_stands : (was_arbiter is_arbiter old_shut new_shut : Bool) (old new : State) (s : DeskState)
    → is_arbiter ≡ was_arbiter → new_shut ≡ false → KeepsContent old new → IsOpenIn was_arbiter old_shut old s
    → IsOpenIn is_arbiter new_shut new s
read_stands was_arbiter is_arbiter old_shut new_shut old new s same ready keeps open_in =
    record {
      ready = ready;
      serves = record {
        legal = open_in.serves.legal;
        arbiter = same ∙ open_in.serves.arbiter;
        version = open_in.serves.version;
        holds = still_beside old new keeps s.them (tables s.state) open_in.serves.holds;
      };
    }

-- what a call on an open club fails with
abbrev pub IsNamed : StoreFault → Type 0
IsNamed fault = (fault ≡ club.Store) ⊎ (fault ≡ club.Memory)

-- what a command fails with
abbrev pub IsNamedAt : StoreFault → Type 0
IsNamedAt fault = (fault ≡ club.Store) ⊎ ((fault ≡ club.Memory) ⊎ (fault ≡ club.Schema (pos 2)))

-- the desk tells that a call failed, or that memory was refused
told_of_call : (fault : StoreFault) → IsNamed fault → IsOfCall (fault_of_store fault)
told_of_call fault (inl is) = inl (ap fault_of_store is)
told_of_call fault (inr is) = inr (ap fault_of_store is)

-- ---- what a command needs

by_needs : (needs has : Bool) → ((not needs || has) ≡ true) ⊎ ((needs ≡ true) × (has ≡ false))
by_needs true true = inl refl
by_needs true false = inr (refl, refl)
by_needs false has = inl refl

-- the club takes the command, or has no arbiter and the command is an arbiter's
pub taken_or : (s : ClubState) (command : Command) → (takes s command ≡ true)
    ⊎ ((needs_arbiter command ≡ true) × (s.has_arbiter ≡ false))
taken_or s command = by_needs (needs_arbiter command) s.has_arbiter

no_taken : (needs has : Bool) → needs ≡ true → has ≡ false → (not needs || has) ≡ true → ⊥
no_taken true false needed none taken = cc
no_taken true true needed none taken = true≢false none
no_taken false has needed none taken = true≢false (sym needed)

pub untaken : (s : ClubState) (command : Command) → needs_arbiter command ≡ true → s.has_arbiter ≡ false
    → takes s command ≡ true → ⊥
untaken s command = no_taken (needs_arbiter command) s.has_arbiter

-- the state after a command that the club takes, and after one that it does not take
pub next_taken : (s : DeskState) (request : Request) → takes s.state request.command ≡ true
    → next_of s request ≡ beside_them s.them (club_next s.state request)
next_taken s request taken =
    ap (λ b. if b then beside_them s.them (club_next s.state request) else s) taken

pub next_untaken : (s : DeskState) (request : Request) → takes s.state request.command ≡ false → next_of s request ≡ s
next_untaken s request untaken =
    ap (λ b. if b then beside_them s.them (club_next s.state request) else s) untaken

-- a command that the club takes leads to a legal state in the same schema
pub next_open : (keeps : KeepsClub) (was_arbiter is_arbiter old_shut new_shut : Bool) (old new : State) (s : DeskState)
    (request : Request) → is_arbiter ≡ was_arbiter → new_shut ≡ false → request.moment ≤ last_moment
    → takes s.state request.command ≡ true → IsOpenIn was_arbiter old_shut old s
    → HoldsClubAmong s.them (tables (club_next s.state request)) new
    → IsOpenIn is_arbiter new_shut new (beside_them s.them (club_next s.state request))
next_open keeps was_arbiter is_arbiter old_shut new_shut old new s request same ready within taken open_in holds =
    let arbiter = sym (next-arbiter both_games s.state request) in
    record {
      ready = ready;
      serves = record {
        legal = keeps s.state request within taken open_in.serves.legal;
        arbiter = same ∙ open_in.serves.arbiter ∙ arbiter;
        version = open_in.serves.version ∙ ap (λ b. if b then V3 else V2) arbiter;
        holds = holds;
      };
    }

module _ {A : Type 0} where
  -- a club that is shut tells the desk that it is to be opened again
  pub told_shut : (fault : ClubFault) (found : Result A StoreFault) → fault ≡ Reopen → found ≡ Err club.Reopen
      → club_fault found ≡ Err fault
  told_shut fault found is shut = ap club_fault shut ∙ ap Err (sym is)

  -- the desk is told of the schema only if the club tells of it
  schema_named : (found : Result A StoreFault) → club_fault found ≡ Err Schema → IfErr found IsNamedAt
      → found ≡ Err (club.Schema (pos 2))
  schema_named (Ok a) told named = absurd (cc)
  schema_named (Err club.Store) told named = absurd (cc)
  schema_named (Err club.Reopen) told named = absurd (cc)
  schema_named (Err club.Memory) told named = absurd (cc)
  schema_named (Err (club.Schema number)) told (inl other) = absurd (cc)
  schema_named (Err (club.Schema number)) told (inr (inl other)) = absurd (cc)
  schema_named (Err (club.Schema number)) told (inr (inr is)) = ap Err is

  pub of_schema : (found : Result A StoreFault) (answer : Result A ClubFault) → answer ≡ club_fault found
      → answer ≡ Err Schema → (old_shut : Bool) → old_shut ≡ false
      → IfErr found (λ fault. old_shut ≡ false → IsNamedAt fault) → found ≡ Err (club.Schema (pos 2))
  of_schema found answer is told old_shut ready named =
      schema_named found (sym is ∙ told) (named_here found named)
    where
      named_here : (given : Result A StoreFault) → IfErr given (λ fault. old_shut ≡ false → IsNamedAt fault)
          → IfErr given IsNamedAt
      named_here (Ok a) each = tt
      named_here (Err fault) each = each ready

  read_answers : (was_arbiter is_arbiter old_shut new_shut : Bool) (old new : State) (s : DeskState)
      (IsRight : A → Type 0) (found : Result A StoreFault) → is_arbiter ≡ was_arbiter → OnOk found (new_shut ≡ false)
      → OnErr found (new_shut ≡ true)
      → IfErr found (λ fault. old_shut ≡ false → IsNamed fault) → Reads (is_ok found) old new → IfOk found IsRight
      → HasCleanDisk new → IsOpenIn was_arbiter old_shut old s
      → Serves (IsOpenIn is_arbiter new_shut new) (IsLeft is_arbiter new_shut new) s s IsRight IsOfCall
      (club_fault found)
  read_answers was_arbiter is_arbiter old_shut new_shut old new s IsRight (Ok a) same ready ends named reads right clean
      open_in =
      (right, read_stands was_arbiter is_arbiter old_shut new_shut old new s same ready (reads.kept refl clean) open_in)
  read_answers was_arbiter is_arbiter old_shut new_shut old new s IsRight (Err fault) same ready ends named reads right
      clean open_in = (
        told_of_call fault (named open_in.ready),
        read_left false was_arbiter is_arbiter old_shut new_shut old new s ends reads clean open_in,
      )

  -- a call that only reads, at whatever it answers
  pub read_serves : (was_arbiter is_arbiter old_shut new_shut : Bool) (old new : State) (s : DeskState)
      (IsRight : A → Type 0) (found : Result A StoreFault) (answer : Result A ClubFault) → answer ≡ club_fault found
      → is_arbiter ≡ was_arbiter → OnOk found (new_shut ≡ false) → OnErr found (new_shut ≡ true)
      → IfErr found (λ fault. old_shut ≡ false → IsNamed fault) → Reads (is_ok found) old new → IfOk found IsRight
      → HasCleanDisk new → IsOpenIn was_arbiter old_shut old s
      → Serves (IsOpenIn is_arbiter new_shut new) (IsLeft is_arbiter new_shut new) s s IsRight IsOfCall answer
  read_serves was_arbiter is_arbiter old_shut new_shut old new s IsRight found answer is same ready ends named reads
      right clean open_in =
      let P : Result A ClubFault → Type 0 = λ r.
      Serves (IsOpenIn is_arbiter new_shut new) (IsLeft is_arbiter new_shut new) s s IsRight IsOfCall r in
      subst P (sym is)
      (read_answers was_arbiter is_arbiter old_shut new_shut old new s IsRight found same ready ends named reads right
      clean open_in)

  -- what a command does that the club takes
  apply_answers : (was_arbiter is_arbiter old_shut new_shut : Bool) (old new : State) (s : DeskState)
      (request : Request) (IsRight : A → Type 0) (found : Result A StoreFault) → KeepsClub
      → request.moment ≤ last_moment → is_arbiter ≡ was_arbiter → takes s.state request.command ≡ true
      → (found ≡ Err (club.Schema (pos 2)) → (was_arbiter ≡ false) × (needs_arbiter request.command ≡ true))
      → OnOk found (new_shut ≡ false)
      → IfErr found (λ fault. ¬ (fault ≡ club.Schema (pos 2)) → new_shut ≡ true)
      → IfErr found (λ fault. old_shut ≡ false → IsNamedAt fault) → IfOk found IsRight
      → OnOk found (HoldsClubAmong s.them (tables (club_next s.state request)) new)
      → OnErr found (MayLeave new s (beside_them s.them (club_next s.state request)))
      → IsOpenIn was_arbiter old_shut old s
      → Serves (IsOpenIn is_arbiter new_shut new) (IsLeft is_arbiter new_shut new) s
      (beside_them s.them (club_next s.state request)) IsRight (IsOfCommand request.command) (club_fault found)
  apply_answers was_arbiter is_arbiter old_shut new_shut old new s request IsRight (Ok a) keeps within same taken other
      ready ends named right steps left open_in = (
        right,
        next_open keeps was_arbiter is_arbiter old_shut new_shut old new s request same ready within taken open_in steps,
      )
  apply_answers was_arbiter is_arbiter old_shut new_shut old new s request IsRight (Err fault) keeps within same taken
      other ready ends named right steps left open_in =
      let none : fault ≡ club.Schema (pos 2) → ⊥ = λ is.
      let (was, needs) = other (ap Err is) in
      untaken s.state request.command needs (sym open_in.serves.arbiter ∙ was) taken in (
        inl (told_of_call fault (elim (named open_in.ready) [
          | inl is ↦ inl is
          | inr (inl is) ↦ inr is
          | inr (inr is) ↦ absurd (none is)
        ])),
        shut_left is_arbiter new_shut new s (beside_them s.them (club_next s.state request)) (ends none) left,
      )

  -- a command, at whatever it is answered
  pub apply_serves : (was_arbiter is_arbiter old_shut new_shut : Bool) (old new : State) (s : DeskState)
      (request : Request) (IsRight : A → Type 0) (found : Result A StoreFault) (answer : Result A ClubFault)
      → answer ≡ club_fault found → KeepsClub → request.moment ≤ last_moment → is_arbiter ≡ was_arbiter
      → (was_arbiter ≡ false → needs_arbiter request.command ≡ true
      → (found ≡ Err (club.Schema (pos 2))) × IsOpenIn is_arbiter new_shut new s)
      → (found ≡ Err (club.Schema (pos 2)) → (was_arbiter ≡ false) × (needs_arbiter request.command ≡ true))
      → OnOk found (new_shut ≡ false)
      → IfErr found (λ fault. ¬ (fault ≡ club.Schema (pos 2)) → new_shut ≡ true)
      → IfErr found (λ fault. old_shut ≡ false → IsNamedAt fault) → IfOk found IsRight
      → OnOk found (HoldsClubAmong s.them (tables (club_next s.state request)) new)
      → OnErr found (MayLeave new s (beside_them s.them (club_next s.state request)))
      → IsOpenIn was_arbiter old_shut old s
      → Serves (IsOpenIn is_arbiter new_shut new) (IsLeft is_arbiter new_shut new) s (next_of s request) IsRight
      (IsOfCommand request.command) answer
  apply_serves was_arbiter is_arbiter old_shut new_shut old new s request IsRight found answer is keeps within same
      withheld other ready ends named right steps left open_in =
      let P : Result A ClubFault → DeskState → Type 0 = λ r t.
      Serves (IsOpenIn is_arbiter new_shut new) (IsLeft is_arbiter new_shut new) s t IsRight
      (IsOfCommand request.command) r in
      elim (taken_or s.state request.command) [
        | inl taken ↦
            subst (P answer) (sym (next_taken s request taken))
            (subst (λ r. P r (beside_them s.them (club_next s.state request))) (sym is)
            (apply_answers was_arbiter is_arbiter old_shut new_shut old new s request IsRight found keeps within same
            taken other ready ends named right steps left open_in))
        | inr (needs, none) ↦
            let (told, stays) = withheld (open_in.serves.arbiter ∙ none) needs in
            subst (λ r. P r (next_of s request)) (sym (is ∙ ap club_fault told))
            (inr (needs, refl), served_stays is_arbiter new_shut new s (next_of s request) stays)
      ]

-- what holds of an answer for each state holds of it for this one
pub on_ok : {A F P Q : Type 0} (found : Result A F) → OnOk found P → (P → Q) → OnOk found Q
on_ok (Ok a) is goes = goes is
on_ok (Err fault) is goes = tt

pub on_err : {A F P Q : Type 0} (found : Result A F) → OnErr found P → (P → Q) → OnErr found Q
on_err (Ok a) is goes = tt
on_err (Err fault) is goes = goes is
