-- What sessions of a club lead to, counted by the requests that are accepted.
use Rattle.store_tables.specs.Placed.{HasTablesOf}
use Rattle.store_tables.specs.Contents.{AreStored}
use Rattle.store_tables.specs.Placed.{club_trees}
use Rattle.store_tables.specs.Tables.{IsServed, schema_after, schema_of}
use Rattle.std.proofs.Common.{◌≡◌, ◌⊎◌, ℕ, zero, suc, ◌+◌, ◌≤◌, Bool, true, false, List, [], ◌∷◌, ◌++◌, map, length}
use Rattle.std.proofs.Common.{take, Option, Some, None, IsSome, IsTrue, is_none, refl, sym, ap, subst, ◌∙◌, inl, inr}
use Rattle.std.proofs.Common.{arith, true≢false}
use Rattle.std.specs.Prelude.{if◌then◌else◌}
use Rattle.std.specs.List.{count_by}
use Rattle.std.proofs.lemmas.List.{take-map, take-take, take_all}
use Rattle.std.proofs.lemmas.List.Recursion.{is_count_by}
use Rattle.std.proofs.lemmas.Bool.{cases_Bool}
use Rattle.sqlite.specs.Tree.{Trees}
use Rattle.sqlite.specs.State.{State, Opens, IsLive}
use Rattle.club_requests.specs.declared.requests.Request as given_request
use Rattle.club_requests.specs.declared.answers.Outcome as given_outcome
use Rattle.club_core.specs.Answer.{answered, outcome_of, request_of}
use Rattle.club_requests.specs.Outcome.{Outcome, accepted}
use Rattle.club_core.specs.State.{Request, opening_state, is_accepted}
use Rattle.club_laws.proofs.Proved.{folds-accepted}
use Rattle.club_rows.specs.Club.{both_games, ClubState, IsClub, tables}
use Rattle.store_tables.specs.Contents.{Content, IsEmpty, IsExactlyEmpty}
use Rattle.store_tables.specs.Club.{IsExactly, Leaves}
use Rattle.store_tables.specs.Migrations.{HoldsInVersion, LeavesInVersion}
use Rattle.store_tables.specs.Over.{alone, HasRowsIn, HoldsClubAmong, LeavesBeside, Neighbours, over}
use Rattle.store_tables.specs.Reading.{KeepsContent}
use Rattle.store_tables.proofs.Proved.{club_held, holds_itself, leaves_in_version, leaves_itself, left_alone}
use Rattle.store_tables.proofs.Proved.{rows_in, still_in_version, tables_before}
use Rattle.store.specs.declared.club.run.Run.{Run}
use Rattle.store.specs.declared.fault.StoreFault.{StoreFault}
use Rattle.club_changes.specs.Steps.{club_step, club_next}
use Rattle.store.specs.Runs.{club_fold, club_outcomes}
use Rattle.store.specs.internal.Runs.{club_accepted}
use Rattle.store.specs.SchemaRuns.{accepted_in, fold_in}
use Rattle.store.specs.Clubs.{Asks, Serves, version_with}
use Rattle.store_sql.proofs.Proved.{opens_exactly, schema_once}
use Rattle.store.specs.Histories.{HistoryStep, StepLeadsTo, Place, SessionReaches, HistoryLeadsTo, IsReachable, IsHistory}
use Rattle.store.specs.Histories.{IsAfter, is_taken, opens_as, run_session, served, session_of, answered_session}
use Rattle.store.specs.Histories.{Session, cut_session}
use Rattle.club_rows.specs.FirstSchema.{IsClubOf, IsFirstClub, first_tables, tables_at, upgraded_to}
use Rattle.club_rows.specs.Tables.{version_of}
use Rattle.club_rows.proofs.Proved.{version-served, version-with, version-without}
use Rattle.club_check.specs.Versions.{HoldsRows}
use Rattle.club_check.specs.internal.Versions.{IsExactlyClub}
use Rattle.club_check.proofs.Proved.{club_told}
use Rattle.store.proofs.LegalLemmas.{arbiter_kept, arbiter_stays}
use Rattle.store_tables.specs.declared.names.Version.{Version}
use Rattle.store_tables.specs.declared.names.Version.TheVariants.{V1, V2, V3}

-- ---- the clubs of one version

pub with_served : (has_arbiter : Bool) → IsServed (version_with has_arbiter)
with_served true = refl
with_served false = refl

-- a served version has the tables of the club's state
pub tables_served : (version : Version) → IsServed version → (s : ClubState)
    → ◌≡◌ {A = Content} (tables_at version s) (tables s)
tables_served V1 serves s = absurd (true≢false (sym serves))
tables_served V2 serves s = refl
tables_served V3 serves s = refl

-- a legal club is one of its own version
pub own_version : (s : ClubState) → IsClub s → IsClubOf (version_of s) s
own_version s club = elim (cases_Bool s.has_arbiter) [
  | inl has ↦ subst (λ v. IsClubOf v s) (sym (version-with s has)) (club, has)
  | inr none ↦ subst (λ v. IsClubOf v s) (sym (version-without s none)) (club, none)
]

-- a club that was opened in the version of its state has an arbiter just where the state has one
arbiter_alike : (one other : Bool) → version_with one ≡ version_with other → one ≡ other
arbiter_alike true true same = refl
arbiter_alike false false same = refl
arbiter_alike true false same = absurd (let x = same in cc)
arbiter_alike false true same = absurd (let x = same in cc)

pub arbiter_of : (has : Bool) (s : ClubState) {version : Version} → version_with has ≡ version → version ≡ version_of s
    → has ≡ s.has_arbiter
arbiter_of has s is own = arbiter_alike has s.has_arbiter (is ∙ own)

-- the version of a club of a served version is this one
pub version_is : (version : Version) → IsServed version → (s : ClubState) → IsClubOf version s
    → version_of s ≡ version
version_is V1 serves s own = absurd (true≢false (sym serves))
version_is V2 serves s own = version-without s own.1
version_is V3 serves s own = version-with s own.1

-- a later state of a club, which still has an arbiter or none, is one of the same version
pub same_version : (version : Version) → IsServed version → (s u : ClubState) → IsClubOf version s → IsClub u
    → u.has_arbiter ≡ s.has_arbiter → IsClubOf version u
same_version V1 serves s u own club same = absurd (true≢false (sym serves))
same_version V2 serves s u own club same = (club, same ∙ own.1)
same_version V3 serves s u own club same = (club, same ∙ own.1)

-- the state that a command finds is one that a query finds
pub asks_served : {has_arbiter : Bool} {conn : State} {them : Neighbours} {s : ClubState}
    → Serves has_arbiter conn them s → Asks has_arbiter conn s
asks_served {conn = conn} {them = them} {s = s} k = record {
  legal = k.legal;
  arbiter = k.arbiter;
  stores = subst (λ v. HasRowsIn v (tables s) conn) k.version (rows_in them (tables s) conn k.holds);
}

-- those of the first requests are the first of those
first_accepted : (s : ClubState) (rs : List Request) (j : ℕ)
    → take (length (club_accepted s (take j rs))) (club_accepted s rs) ≡ club_accepted s (take j rs)
first_accepted s [] zero = refl
first_accepted s (r ∷ rs) (suc j) = elim (cases_Bool (is_accepted (club_step s r))) [
  | inl took ↦ rw took (ap (λ l. r ∷ l) (first_accepted (club_next s r) rs j))
  | inr left ↦ rw left (first_accepted (club_next s r) rs j)
]
first_accepted s _ _ = refl

abbrev Counted : ClubState → List Request → ℕ → ℕ
Counted s rs j = length (club_accepted s (take j rs))

one_more : (s : ClubState) (rs : List Request) (j : ℕ) → (Counted s rs j ≤ Counted s rs (suc j))
    × (Counted s rs (suc j) ≤ Counted s rs j + 1)
one_more s [] zero = (omega arith, omega arith)
one_more s [] (suc j) = (omega arith, omega arith)
one_more s (r ∷ rs) zero = elim (cases_Bool (is_accepted (club_step s r)))
    [ inl took ↦ rw took (omega arith, omega arith) | inr left ↦ rw left (omega arith, omega arith) ]
one_more s (r ∷ rs) (suc j) =
    let more = one_more (club_next s r) rs j in
    elim (cases_Bool (is_accepted (club_step s r)))
    [ inl took ↦ rw took (omega (arith, more.0), omega (arith, more.1)) | inr left ↦ rw left more ]

after : (s : ClubState) (rs : List Request) (j : ℕ)
    → club_fold s (take j rs) ≡ club_fold s (take (Counted s rs j) (club_accepted s rs))
after s rs j = sym (folds-accepted both_games s (take j rs)) ∙ ap (club_fold s) (sym (first_accepted s rs j))

-- the program of schema 2 or schema 3 is the machine, whose states its tables hold whole
pub fold_same : (version : Version) → IsServed version → (s : ClubState) (rs : List Request)
    → fold_in version s rs ≡ club_fold s rs
fold_same V1 serves s rs = absurd (true≢false (sym serves))
fold_same V2 serves s [] = refl
fold_same V2 serves s (r ∷ rs) = fold_same V2 serves (club_next s r) rs
fold_same V3 serves s [] = refl
fold_same V3 serves s (r ∷ rs) = fold_same V3 serves (club_next s r) rs

accepted_same : (version : Version) → IsServed version → (s : ClubState) (rs : List Request)
    → accepted_in version s rs ≡ club_accepted s rs
accepted_same V1 serves s rs = absurd (true≢false (sym serves))
accepted_same V2 serves s [] = refl
accepted_same V2 serves s (r ∷ rs) =
    ap (λ l. if is_accepted (club_step s r) then r ∷ l else l) (accepted_same V2 serves (club_next s r) rs)
accepted_same V3 serves s [] = refl
accepted_same V3 serves s (r ∷ rs) =
    ap (λ l. if is_accepted (club_step s r) then r ∷ l else l) (accepted_same V3 serves (club_next s r) rs)

-- where so many of the first j were answered as accepted, the session leads to the state after these, and where it was
-- stopped, to the state after one more
leads_on : (version : Version) → IsServed version → (s : ClubState) (rs : List Request) (j n a : ℕ) (whole : Bool)
    → a ≡ Counted s rs j → (n ≡ j) ⊎ ((whole ≡ false) × (n ≡ j + 1))
    → SessionReaches version s (record { requests = rs; returned = a; is_whole = whole }) (club_fold s (take n rs))
leads_on version serves s rs j n a whole is by = record {
  k = Counted s rs n;
  effect = elim by [
    | inl same ↦
        let e = ap (Counted s rs) same in
        record { least = omega (arith, is, e); most = omega (arith, is, e); whole = λ _. e ∙ sym is }
    | inr (stopped, next) ↦
        let more = one_more s rs j in
        let here : n ≡ suc j = omega (arith, next) in
        let e = ap (Counted s rs) here in
        record {
          least = omega (arith, more.0, is, e);
          most = omega (arith, more.1, is, e);
          whole = λ e. absurd (true≢false (sym e ∙ stopped));
        }
  ];
  is = after s rs n
      ∙ (ap (λ l. club_fold s (take (Counted s rs n) l)) (sym (accepted_same version serves s rs))
      ∙ sym (fold_same version serves s (take (Counted s rs n) (accepted_in version s rs))));
}

-- what a command finds after another one, in a club whose version is the same
pub serves_on : {one other : Bool} {old new : State} {them : Neighbours} {s u : ClubState} → Serves one old them s
    → other ≡ one → IsClub u → u.has_arbiter ≡ s.has_arbiter → HoldsClubAmong them (tables u) new
    → Serves other new them u
serves_on k same club stays holds = record {
  legal = club;
  arbiter = same ∙ (k.arbiter ∙ sym stays);
  version = k.version ∙ ap version_with (sym stays);
  holds = holds;
}

pub exactly_served : (version : Version) → IsServed version → (s : ClubState) {conn : State}
    → IsExactlyClub version s conn → IsExactly version (tables s) conn
exactly_served version serves s {conn} exactly =
    subst (λ (rows : Content). IsExactly version rows conn) (tables_served version serves s) exactly

-- ---- the rows of a club before a migration

-- what an opening is told of them
pub holds_in_version : (version : Version) (them : Neighbours) (u : ClubState) (s : State) → IsServed them.version
    → IsClubOf version u → HoldsInVersion version them (tables_at version u) s
    → HoldsRows version (tables_at version u) s.now
holds_in_version version them u s serves own k =
    let content = tables_at version u in
    let club = k.holds.clear.club in
    record {
      schema = subst (λ v. HasTablesOf v s.now.schema) k.is
          (subst (HasTablesOf k.before.version) (sym k.holds.exactly.now.schema)
          (tables_before k.before them serves k.migrates club));
      told = club_told version u own s.now.schema;
      sound = k.holds.exactly.now.sound;
      tables = subst (λ v. AreStored (schema_of v) (club_trees s.now) content) k.is
          (club_held k.before content s.now club k.holds.exactly.now);
    }

-- the same of a club of its own version, which needs no migration
pub holds_beside : (them : Neighbours) (u : ClubState) (s : State) → them.version ≡ version_of u → IsClub u
    → HoldsClubAmong them (tables u) s → HoldsRows (version_of u) (tables u) s.now
holds_beside them u s is club k =
    let version = version_of u in
    let serves = version-served u in
    let same : ◌≡◌ {A = Content} (tables_at version u) (tables u) = tables_served version serves u in
    let here = holds_itself version them (tables_at version u) s is
    (subst (λ (rows : Content). HoldsClubAmong them rows s) (sym same) k) in
    subst (λ (rows : Content). HoldsRows version rows s.now) same
    (holds_in_version version them u s (subst IsServed (sym is) serves) (own_version u club) here)

-- other rows beside the same foreign tables
pub holds_after : {version : Version} {them : Neighbours} {one other : Content} {old new : State}
    → (k : HoldsInVersion version them one old) → HoldsClubAmong k.before other new
    → HoldsInVersion version them other new
holds_after k holds = record { before = k.before; is = k.is; migrates = k.migrates; holds = holds }

pub leaves_after : {version : Version} {them : Neighbours} {one other : Content} {old : State} {trees : Trees}
    → (k : HoldsInVersion version them one old) → LeavesBeside k.before other trees
    → LeavesInVersion version them other trees
leaves_after k leaves = record { before = k.before; is = k.is; migrates = k.migrates; leaves = leaves }

abbrev pub at_state : Version → ClubState → Place
at_state version s = record { version = version; state = s }

pub leads_then : (s t u : Place) (xs : List HistoryStep) (x : HistoryStep) → HistoryLeadsTo s xs t → StepLeadsTo t x u
    → HistoryLeadsTo s (xs ++ x ∷ []) u
leads_then s t u [] x led one = (u, subst (λ v. StepLeadsTo v x u) led one, refl)
leads_then s t u (y ∷ xs) x led one = (led.0, led.1, leads_then led.0 t u xs x led.2 one)

-- a session of a club leads on in the same version
session_then : (from version : Version) (xs : List HistoryStep) {s u : ClubState} {session : Session}
    → HistoryLeadsTo (opens_as from) xs (at_state version s) → SessionReaches version s session u
    → HistoryLeadsTo (opens_as from) (xs ++ served session ∷ []) (at_state version u)
session_then from version xs led one = leads_then _ _ _ xs _ led (refl, one)

session_reached : (from version : Version) (xs : List HistoryStep) {them : Neighbours} {s u : ClubState}
    {session : Session} {db : Trees} → HistoryLeadsTo (opens_as from) xs (at_state version s)
    → SessionReaches version s session u → IsClubOf version u
    → LeavesInVersion version them (tables_at version u) db
    → IsReachable from version them (xs ++ served session ∷ []) db
session_reached from version xs led one own left =
    record { after = _; legal = own; leads = session_then from version xs led one; leaves = left }

-- ---- a history of a club of a served version

-- what a command finds at the end of a history
pub serves_at : (has_arbiter : Bool) {from : Version} {them : Neighbours} {xs : List HistoryStep} {conn : State}
    → (at : IsHistory from (version_with has_arbiter) them xs conn)
    → Serves has_arbiter conn at.exactly.before at.after
serves_at true at = record {
  legal = at.legal.0;
  arbiter = sym at.legal.1;
  version = at.exactly.is ∙ sym (version-with at.after at.legal.1);
  holds = at.exactly.holds;
}
serves_at false at = record {
  legal = at.legal.0;
  arbiter = sym at.legal.1;
  version = at.exactly.is ∙ sym (version-without at.after at.legal.1);
  holds = at.exactly.holds;
}

-- the tables after a session, or what a stop leaves of them, in the version of the club
stood_in : (version : Version) → IsServed version → (u : ClubState) {them : Neighbours} {one : Content}
    {old now : State} → (k : HoldsInVersion version them one old) → HoldsClubAmong k.before (tables u) now
    → HoldsInVersion version them (tables_at version u) now
stood_in version serves u {them = them} {now = now} k holds =
    subst (λ (rows : Content). HoldsInVersion version them rows now) (sym (tables_served version serves u))
    (holds_after k holds)

left_in : (version : Version) → IsServed version → (u : ClubState) {them : Neighbours} {one : Content}
    {old : State} {db : Trees} → (k : HoldsInVersion version them one old) → LeavesBeside k.before (tables u) db
    → LeavesInVersion version them (tables_at version u) db
left_in version serves u {them = them} {db = db} k left =
    subst (λ (rows : Content). LeavesInVersion version them rows db) (sym (tables_served version serves u))
    (leaves_after k left)

session_stood : {from version : Version} {them : Neighbours} {old now : State} {xs : List HistoryStep}
    {session : Session} {u : ClubState} → IsServed version → (at : IsHistory from version them xs old)
    → SessionReaches version at.after session u → IsClub u → u.has_arbiter ≡ at.after.has_arbiter
    → HoldsClubAmong at.exactly.before (tables u) now
    → IsHistory from version them (xs ++ served session ∷ []) now
session_stood {version = version} serves at one legal same holds = record {
  after = _;
  legal = same_version version serves at.after _ at.legal legal same;
  leads = session_then _ version _ at.leads one;
  exactly = stood_in version serves _ at.exactly holds;
}

-- ---- what was answered

told_same : {S : Type 0} (o : Outcome S) → is_accepted (answered o) ≡ is_accepted o
told_same (accepted new reply) = refl
told_same _ = refl

abbrev count : List (Outcome (Unit {0})) → ℕ
count [] = 0
count (o ∷ os) = if is_accepted o then 1 + count os else count os

count_outcomes : (os : List given_outcome.Outcome) → count (map outcome_of os) ≡ count_by is_taken os
count_outcomes os = is_count_by (λ xs. count (map outcome_of xs)) is_taken refl (λ o xs. refl) os

count_machine : (s : ClubState) (rs : List Request)
    → count (map answered (club_outcomes s rs)) ≡ length (club_accepted s rs)
count_machine s [] = refl
count_machine s (r ∷ rs) = elim (cases_Bool (is_accepted (club_step s r))) [
  | inl took ↦ rw (told_same (club_step s r))
      (rw took (let rest = count_machine (club_next s r) rs in omega (arith, rest)))
  | inr left ↦ rw (told_same (club_step s r)) (rw left (count_machine (club_next s r) rs))
]

is_stopped : (fault : Option StoreFault) → IsSome fault → is_none fault ≡ false
is_stopped None failed = absurd (let x = failed in cc)
is_stopped (Some fault) failed = refl

-- ---- a run as a session

-- the outcomes of a run are those of the machine
abbrev pub Told : ClubState → List given_request.Request → Run → Type 0
Told s rs run = map outcome_of run.outcomes.items ≡ map answered
    (club_outcomes s (map request_of (take (length run.outcomes.items) rs)))

-- the first of a run's requests
first_given : (rs : List given_request.Request) (n m : ℕ) → n ≤ m
    → take n (map request_of (take m rs)) ≡ map request_of (take n rs)
first_given rs n m within = take-map request_of n (take m rs) ∙ ap (map request_of) (take-take n m rs within)

-- the state after the answered requests is one that the session leads to; with a fault, so is the state after one more
run_leads : (version : Version) → IsServed version → (s : ClubState) (rs : List given_request.Request) (run : Run)
    (n : ℕ) → Told s rs run
    → (n ≡ length run.outcomes.items) ⊎ (IsSome run.fault × (n ≡ length run.outcomes.items + 1))
    → SessionReaches version s (run_session rs run) (club_fold s (map request_of (take n rs)))
run_leads version serves s rs run n told by =
    let os = run.outcomes.items in
    let j = length os in
    let counted = sym (count_outcomes os) ∙ (ap count told ∙ (count_machine s (map request_of (take j rs))
    ∙ ap (λ xs. length (club_accepted s xs)) (sym (first_given rs j (j + 1) (omega arith))))) in
    subst (λ xs. SessionReaches version s (run_session rs run) (club_fold s xs))
    (first_given rs n (j + 1) (elim by [ inl e ↦ omega (arith, e) | inr e ↦ (let x = e.1 in omega (arith, x)) ]))
    (leads_on version serves s _ j n _ _ counted
    (elim by [ inl e ↦ inl e | inr (failed, e) ↦ inr (is_stopped run.fault failed, e) ]))

-- what a stop leaves is led to with this session added
pub session_leads : {from version : Version} {them : Neighbours} {sessions : List HistoryStep}
    {rs : List given_request.Request} (run : Run) {old : State} {db : Trees} → IsServed version →
    (at : IsHistory from version them sessions old) → Told at.after rs run →
    IsAfter at.exactly.before at.after rs (length run.outcomes.items) db
    ⊎ (IsSome run.fault × IsAfter at.exactly.before at.after rs (length run.outcomes.items + 1) db)
    → IsReachable from version them (sessions ++ session_of rs run ∷ []) db
session_leads {version = version} {rs = rs} run serves at told (inl here) =
    session_reached _ version _ at.leads (run_leads version serves _ _ run _ told (inl refl))
    (same_version version serves at.after _ at.legal here.legal (arbiter_kept at.after (map request_of (take (length run.outcomes.items) rs))))
    (left_in version serves _ at.exactly here.leaves)
session_leads {version = version} {rs = rs} run serves at told (inr (failed, later)) =
    session_reached _ version _ at.leads (run_leads version serves _ _ run _ told (inr (failed, refl)))
    (same_version version serves at.after _ at.legal later.legal (arbiter_kept at.after (map request_of (take (length run.outcomes.items + 1) rs))))
    (left_in version serves _ at.exactly later.leaves)

-- the tables after the answered requests are led to with this session added
pub session_goes_on : {from version : Version} {them : Neighbours} {sessions : List HistoryStep}
    (rs : List given_request.Request) (run : Run) {old now : State} → IsServed version
    → (at : IsHistory from version them sessions old) → Told at.after rs run
    → IsClub (club_fold at.after (map request_of (take (length run.outcomes.items) rs)))
    → HoldsClubAmong at.exactly.before
    (tables (club_fold at.after (map request_of (take (length run.outcomes.items) rs)))) now
    → IsHistory from version them (sessions ++ session_of rs run ∷ []) now
session_goes_on {version = version} rs run serves at told legal exactly =
    session_stood serves at (run_leads version serves at.after rs run _ told (inl refl)) legal
    (arbiter_kept at.after (map request_of (take (length run.outcomes.items) rs))) exactly

-- without a fault, these are the tables after all requests
pub session_stands : {from version : Version} {them : Neighbours} {sessions : List HistoryStep}
    (rs : List given_request.Request) (run : Run) {old now : State} → IsServed version
    → (at : IsHistory from version them sessions old) → Told at.after rs run → length run.outcomes.items ≡ length rs
    → IsClub (club_fold at.after (map request_of rs))
    → HoldsClubAmong at.exactly.before (tables (club_fold at.after (map request_of rs))) now
    → IsHistory from version them (sessions ++ session_of rs run ∷ []) now
session_stands {version = version} rs run {now = now} serves at told whole legal exactly =
    let all = sym (take_all (length run.outcomes.items) rs (omega (arith, whole))) in
    session_goes_on rs run serves at told
    (subst (λ xs. IsClub (club_fold at.after (map request_of xs))) all legal)
    (subst (λ xs. HoldsClubAmong at.exactly.before (tables (club_fold at.after (map request_of xs))) now) all exactly)

-- ---- one request

one_counted : (s : ClubState) (r : Request) → (if is_accepted (club_step s r) then 1 else 0) ≡ Counted s (r ∷ []) 1
one_counted s r = elim (cases_Bool (is_accepted (club_step s r))) [ inl took ↦ rw took refl | inr left ↦ rw left refl ]

-- the session of one request, as the machine takes it
abbrev pub taken_session : ClubState → Request → HistoryStep
taken_session s r =
    served (record { requests = r ∷ []; returned = if is_accepted (club_step s r) then 1 else 0; is_whole = true })

-- a request that was answered leads, as a session of its own, to the state after it
pub one_stands : {from version : Version} {them : Neighbours} {sessions : List HistoryStep} (r : Request)
    (o : given_outcome.Outcome) {old now : State} → IsServed version
    → (at : IsHistory from version them sessions old) → outcome_of o ≡ answered (club_step at.after r)
    → IsClub (club_next at.after r) → HoldsClubAmong at.exactly.before (tables (club_next at.after r)) now
    → IsHistory from version them (sessions ++ answered_session r o ∷ []) now
one_stands {version = version} r o serves at told legal holds =
    session_stood serves at (leads_on version serves at.after (r ∷ []) 1 1 _ true
    (ap (λ b. if b then 1 else 0) (ap is_accepted told ∙ told_same (club_step at.after r)) ∙ one_counted at.after r)
    (inl refl)) legal (arbiter_stays at.after r) holds

-- a request leads, as a session of its own, to the state after it
pub one_leads : (from version : Version) (s : ClubState) (sessions : List HistoryStep) (r : Request)
    → IsServed version → HistoryLeadsTo (opens_as from) sessions (at_state version s)
    → HistoryLeadsTo (opens_as from) (sessions ++ taken_session s r ∷ []) (at_state version (club_next s r))
one_leads from version s sessions r serves led =
    session_then from version sessions led
    (leads_on version serves s (r ∷ []) 1 1 _ true (one_counted s r) (inl refl))

-- a request that a fault cut off leads to the state before it or to the one after
pub one_cut : {from version : Version} {them : Neighbours} {sessions : List HistoryStep} (r : Request) (db : Trees)
    {old : State} → IsServed version → (at : IsHistory from version them sessions old)
    → IsClub (club_next at.after r)
    → LeavesBeside at.exactly.before (tables at.after) db
    ⊎ LeavesBeside at.exactly.before (tables (club_next at.after r)) db
    → IsReachable from version them (sessions ++ cut_session r ∷ []) db
one_cut {version = version} r db serves at after (inl kept) =
    session_reached _ version _ at.leads (leads_on version serves at.after (r ∷ []) 0 0 0 false refl (inl refl))
    at.legal (left_in version serves at.after at.exactly kept)
one_cut {version = version} r db serves at after (inr changed) =
    session_reached _ version _ at.leads
    (leads_on version serves at.after (r ∷ []) 0 1 0 false refl (inr (refl, refl)))
    (same_version version serves at.after _ at.legal after (arbiter_stays at.after r))
    (left_in version serves (club_next at.after r) at.exactly changed)

-- a request that was refused for the schema, before anything was done, leads to the state before it
pub one_unserved : {from version : Version} {them : Neighbours} {sessions : List HistoryStep} (r : Request)
    {now : State} → IsServed version → (at : IsHistory from version them sessions now)
    → IsHistory from version them (sessions ++ cut_session r ∷ []) now
one_unserved {version = version} r serves at = record {
  after = at.after;
  legal = at.legal;
  leads = session_then _ version _ at.leads (leads_on version serves at.after (r ∷ []) 0 0 0 false refl (inl refl));
  exactly = at.exactly;
}

-- ---- openings

opening_legal : (version : Version) → IsServed version → IsClubOf version (upgraded_to version opening_state)
opening_legal V1 serves = absurd (true≢false (sym serves))
opening_legal V2 serves = (search arith, refl)
opening_legal V3 serves = (search arith, refl)

-- a club that was just made, beside whatever neighbours, has a history with no session
pub made_led : (version : Version) → IsServed version → (them : Neighbours) (trees : Trees) → them.version ≡ version
    → LeavesBeside them (tables (upgraded_to version opening_state)) trees
    → IsReachable version version them [] trees
made_led version serves them trees is left =
    let made = upgraded_to version opening_state in
    record {
      after = made;
      legal = opening_legal version serves;
      leads = refl;
      leaves = leaves_itself version them (tables_at version made) trees is
          (subst (λ (rows : Content). LeavesBeside them rows trees) (sym (tables_served version serves made)) left);
    }

pub made_stands : (version : Version) → IsServed version → (them : Neighbours) (now : State)
    → them.version ≡ version → HoldsClubAmong them (tables (upgraded_to version opening_state)) now
    → IsHistory version version them [] now
made_stands version serves them now is holds =
    let made = upgraded_to version opening_state in
    record {
      after = made;
      legal = opening_legal version serves;
      leads = refl;
      exactly = holds_itself version them (tables_at version made) now is
          (subst (λ (rows : Content). HoldsClubAmong them rows now) (sym (tables_served version serves made)) holds);
    }

-- so has one that stands alone
pub opening_led : (version : Version) → IsServed version → (trees : Trees)
    → Leaves version (tables (upgraded_to version opening_state)) trees
    → IsReachable version version (alone version) [] trees
opening_led version serves trees left =
    made_led version serves (alone version) trees refl
    (left_alone version (tables (upgraded_to version opening_state)) trees left)

pub stops_led : (from version : Version) (them : Neighbours) (chapters : List HistoryStep) (now : State)
    → IsHistory from version them chapters now → (trees : Trees) → now.may_leave trees
    → IsReachable from version them chapters trees
stops_led from version them chapters now at trees left = record {
  after = at.after;
  legal = at.legal;
  leads = at.leads;
  leaves = leaves_in_version version them (tables_at version at.after) now at.exactly trees left;
}

-- A history whose tables are not those of a club of schema 1, and tell whether a club has an arbiter, is of this version.
pub version_taken : (has_arbiter : Bool) {from : Version} (version : Version) {them : Neighbours}
    {chapters : List HistoryStep} {s : State} → IsServed them.version
    → ((u : ClubState) → IsFirstClub u → ¬ HoldsInVersion V1 them (first_tables u) s)
    → ((u : ClubState) → IsClub u → HoldsRows (version_of u) (tables u) s.now → has_arbiter ≡ u.has_arbiter)
    → IsHistory from version them chapters s → version ≡ version_with has_arbiter
version_taken has V1 serves older tells at = absurd (older at.after at.legal at.exactly)
version_taken has V2 {them} {s = s} serves older tells at =
    let own = holds_in_version V2 them at.after s serves at.legal at.exactly in
    let is = version-without at.after at.legal.1 in
    sym (ap version_with (tells at.after at.legal.0
    (subst (λ v. HoldsRows v (tables at.after) s.now) (sym is) own) ∙ at.legal.1))
version_taken has V3 {them} {s = s} serves older tells at =
    let own = holds_in_version V3 them at.after s serves at.legal at.exactly in
    let is = version-with at.after at.legal.1 in
    sym (ap version_with (tells at.after at.legal.0
    (subst (λ v. HoldsRows v (tables at.after) s.now) (sym is) own) ∙ at.legal.1))

-- what keeps the tables keeps where they stand
pub still_stands : (from version : Version) (them : Neighbours) (chapters : List HistoryStep) (old new : State)
    → KeepsContent old new → IsHistory from version them chapters old → IsHistory from version them chapters new
still_stands from version them chapters old new kept at = record {
  after = at.after;
  legal = at.legal;
  leads = at.leads;
  exactly = still_in_version old new kept version them (tables_at version at.after) at.exactly;
}

-- what a connection finds that was just opened, where a stop leaves what was committed
module _ (s : State) (opens : Opens s) (live : IsLive s)
    (settled : (db : Trees) → IsTrue s.is_open → s.may_leave db → db ≡ s.committed.trees) where
  pub opens_beside : (them : Neighbours) (content : Content) → LeavesBeside them content s.committed.trees
      → HoldsClubAmong them content s
  opens_beside them content left = record {
    clear = left.clear;
    exactly =
        opens_exactly them.schema (over them content) s opens live settled left.leaves;
  }

  pub opens_led : (from version : Version) (them : Neighbours) (chapters : List HistoryStep)
      → IsReachable from version them chapters s.committed.trees → IsHistory from version them chapters s
  opens_led from version them chapters led = record {
    after = led.after;
    legal = led.legal;
    leads = led.leads;
    exactly = record {
      before = led.leaves.before;
      is = led.leaves.is;
      migrates = led.leaves.migrates;
      holds = opens_beside led.leaves.before (tables_at version led.after) led.leaves.leaves;
    };
  }

  -- A club that was opened, with an arbiter or without one, stands where the chapters lead.
  pub opens_taken : (has_arbiter : Bool) {from version : Version} {them : Neighbours} {chapters : List HistoryStep}
      {now : State} → IsServed them.version → IsReachable from version them chapters s.committed.trees
      → ((u : ClubState) → IsFirstClub u → ¬ HoldsInVersion V1 them (first_tables u) s)
      → ((u : ClubState) → IsClub u → HoldsRows (version_of u) (tables u) s.now → has_arbiter ≡ u.has_arbiter)
      → KeepsContent s now
      → (version ≡ version_with has_arbiter) × IsHistory from (version_with has_arbiter) them chapters now
  opens_taken has {from} {version} {them} {chapters} {now} serves led older tells kept =
      let at = opens_led from version them chapters led in
      let is = version_taken has version serves older tells at in (
        is,
        still_stands from (version_with has) them chapters s now kept
            (subst (λ v. IsHistory from v them chapters s) is at),
      )

  -- a connection that opens on trees with no table is empty
  pub opens_empty : IsEmpty s.committed.trees → IsExactlyEmpty s
  opens_empty empty =
      let same : s.now.trees ≡ s.committed.trees = ap (λ d. d.trees) opens.clean in
      let here : IsEmpty s.now.trees = subst IsEmpty (sym same) empty in
      record {
        is_open = opens.is_open;
        idle = opens.autocommit;
        now =
            record {
              schema_is = schema_once s.now.trees s.now.schema (schema_after 0) (live opens.is_open).0 here.sound;
              sound = (live opens.is_open).0;
              empty = tt;
            };
        may_leave = λ db left. subst IsEmpty (sym (settled db opens.is_open left)) empty;
      }
