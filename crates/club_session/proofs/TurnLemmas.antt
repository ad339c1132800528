-- What stands, and what a stop leaves, where members and the officer made requests in turn.
use Rattle.std.proofs.Common.{◌≡◌, ◌⊎◌, ◌≤◌, ℕ, List, [], ◌∷◌, ◌++◌, Bool, true, false, Option, refl, sym, subst}
use Rattle.std.proofs.Common.{inl, inr, ◌∙◌, append_assoc}
use Rattle.std.proofs.lemmas.Bool.{cases_Bool}
use Rattle.std.proofs.lemmas.List.{append-nil}
use Rattle.sqlite.specs.State.{State, HasCleanDisk}
use Rattle.sqlite.specs.Tree.{Trees}
use Rattle.store_tables.specs.Contents.{Content}
use Rattle.store_tables.specs.Migrations.{HoldsInVersion, LeavesInVersion}
use Rattle.store_tables.specs.Over.{HoldsClubAmong, LeavesBeside, Neighbours}
use Rattle.store_tables.specs.Tables.{IsServed}
use Rattle.store_tables.specs.declared.names.Version.{Version}
use Rattle.store_tables.specs.Reading.{OnlyReads}
use Rattle.store_tables.proofs.Proved.{leaves_in_version}
use Rattle.club_requests.specs.Limits.{last_moment}
use Rattle.club_core.specs.Answer.{command_of}
use Rattle.club_core.specs.State.{Request, takes}
use Rattle.club_laws.proofs.Proved.{next-arbiter}
use Rattle.club_rows.specs.Club.{ClubState, both_games, tables}
use Rattle.club_rows.specs.FirstSchema.{IsClubOf, tables_at}
use Rattle.store.specs.Clubs.{version_with}
use Rattle.store.specs.Histories.{HistoryStep, IsReachable, IsHistory, cut_session}
use Rattle.club_changes.specs.Steps.{club_next}
use Rattle.store.specs.Runs.{KeepsClub}
use Rattle.store.proofs.Proved.{holds_after, leaves_after, one_cut, one_leads, own_version, serves_at, tables_served}
use Rattle.store.proofs.Proved.{taken_session, with_served}
use Rattle.club_session.specs.Served.{DeskState, beside_them, next_of, served}
use Rattle.club_session.specs.ServedStates.{IsLeft, IsOpenIn, MayLeave}
use Rattle.club_session.specs.Turns.{IsTurn, IsOrder, IsTurnOf, AreTurns, IsWhole, AreWhole}
use Rattle.club_session.specs.internal.Turns.{IsHistoryOn, IsReachableOn}
use Rattle.control_socket.specs.declared.orders.Operation.{Operation}
use Rattle.control_socket.specs.declared.orders.Operation.TheVariants as errand
use Rattle.control_socket.specs.Orders.{HasRunOperation, order, state_after}
use Rattle.server.proofs.Proved.{was_served}
use Rattle.server.specs.Visits.{HasActed, IsNextServed}
use Rattle.server.specs.declared.connections.Served.{Served}
use Rattle.http_head.specs.Request.{ParseState}
use Rattle.http_desk.specs.Desk.{next_state}
use Rattle.club_session.proofs.NextLemmas.{seen_next}
use Rattle.club_session.proofs.ServeLemmas.{next_taken, next_untaken}

-- a member asks, or the officer
abbrev IsAsked : Request → Type 0
IsAsked request = IsTurn request ⊎ IsOrder request

asked_within : (request : Request) → IsAsked request → request.moment ≤ last_moment
asked_within request (inl turn) = turn.within
asked_within request (inr given) = given.within

turns_more : (turns : List HistoryStep) (chapter : HistoryStep) → AreTurns turns → IsTurnOf chapter
    → AreTurns (turns ++ chapter ∷ [])
turns_more [] chapter are turn = (turn, tt)
turns_more (one ∷ turns) chapter are turn = (are.0, turns_more turns chapter are.1 turn)

whole_more : (turns : List HistoryStep) (chapter : HistoryStep) → AreWhole turns → IsWhole chapter
    → AreWhole (turns ++ chapter ∷ [])
whole_more [] chapter whole is = (is, tt)
whole_more (one ∷ turns) chapter whole is = (whole.0, whole_more turns chapter whole.1 is)

-- the tables of a state, and what a stop leaves of them, in a version that is served
stood_in : (version : Version) (u : ClubState) {them : Neighbours} {one : Content} {old now : State}
    → IsServed version → (k : HoldsInVersion version them one old) → HoldsClubAmong k.before (tables u) now
    → HoldsInVersion version them (tables_at version u) now
stood_in version u {them} {now = now} serves k holds =
    subst (λ (rows : Content). HoldsInVersion version them rows now) (sym (tables_served version serves u))
    (holds_after k holds)

left_in : (version : Version) (u : ClubState) {them : Neighbours} {one : Content} {old : State} {db : Trees}
    → IsServed version → (k : HoldsInVersion version them one old) → LeavesBeside k.before (tables u) db
    → LeavesInVersion version them (tables_at version u) db
left_in version u {them} {db = db} serves k left =
    subst (λ (rows : Content). LeavesInVersion version them rows db) (sym (tables_served version serves u))
    (leaves_after k left)

-- where it began
pub stands_first : (from version : Version) (them : Neighbours) (sessions : List HistoryStep) (now : State)
    → IsHistory from version them sessions now → IsHistoryOn from version them sessions now
stands_first from version them sessions now stands =
    record {
      turns = [];
      are_turns = tt;
      whole = tt;
      stands = let P : List HistoryStep → Type 0 = λ xs. IsHistory from version them xs now in
          subst P (sym (append-nil sessions)) stands;
    }

pub stands_led : (from version : Version) (them : Neighbours) (sessions : List HistoryStep) (now : State)
    → IsHistoryOn from version them sessions now → IsReachableOn from version them sessions now
stands_led from version them sessions now on =
    record {
      turns = on.turns;
      are_turns = on.are_turns;
      led =
          λ db may. record {
            after = on.stands.after;
            legal = on.stands.legal;
            leads = on.stands.leads;
            leaves =
                leaves_in_version version them (tables_at version on.stands.after) now on.stands.exactly db may;
          };
    }

-- a call that only read leaves nothing else
pub reads_led : (from version : Version) (them : Neighbours) (sessions : List HistoryStep) (old new : State)
    → OnlyReads old new → HasCleanDisk new
    → ((db : Trees) → old.may_leave db → IsReachable from version them sessions db)
    → IsReachableOn from version them sessions new
reads_led from version them sessions old new reads clean led = record {
  turns = [];
  are_turns = tt;
  led = λ db may.
      let P : List HistoryStep → Type 0 = λ xs. IsReachable from version them xs db in
      subst P (sym (append-nil sessions)) (led db (reads.may clean db may));
}

module _ (keeps : KeepsClub) (arbiter : Bool) (from : Version) (them : Neighbours) (sessions : List HistoryStep)
    (old : State) (on : IsHistoryOn from (version_with arbiter) them sessions old) where
  abbrev before : DeskState
  before = beside_them on.stands.exactly.before on.stands.after

  -- the state after a request that the club takes
  abbrev later : Request → DeskState
  later request = beside_them on.stands.exactly.before (club_next on.stands.after request)

  -- the history leads on in the schema that the club was opened in
  abbrev GoesOn : (is_arbiter : Bool) → State → Type 0
  GoesOn is_arbiter now = IsHistoryOn from (version_with arbiter) them sessions now × (is_arbiter ≡ arbiter)

  stays : (is_arbiter shut : Bool) (now : State) → IsOpenIn is_arbiter shut now before → GoesOn is_arbiter now
  stays is_arbiter shut now is = (
    record {
      turns = on.turns;
      are_turns = on.are_turns;
      whole = on.whole;
      stands = record {
        after = on.stands.after;
        legal = on.stands.legal;
        leads = on.stands.leads;
        exactly = stood_in (version_with arbiter) on.stands.after (with_served arbiter) on.stands.exactly is.serves.holds;
      };
    },
    is.serves.arbiter ∙ sym (serves_at arbiter on.stands).arbiter,
  )

  taken_stands : (is_arbiter shut : Bool) (now : State) (request : Request) → IsAsked request
      → IsOpenIn is_arbiter shut now (later request) → GoesOn is_arbiter now
  taken_stands is_arbiter shut now request turn is =
      let one = taken_session on.stands.after request in
      let kept = next-arbiter both_games on.stands.after request in
      let P : List HistoryStep → Type 0 = λ xs. IsHistory from (version_with arbiter) them xs now in (
        record {
          turns = on.turns ++ one ∷ [];
          are_turns = turns_more on.turns one on.are_turns (request, turn, refl);
          whole = whole_more on.turns one on.whole refl;
          stands = subst P (append_assoc sessions on.turns (one ∷ [])) (record {
            after = club_next on.stands.after request;
            legal = subst (λ v. IsClubOf v (club_next on.stands.after request))
                (sym is.serves.version ∙ on.stands.exactly.is)
                (own_version (club_next on.stands.after request) is.serves.legal);
            leads = one_leads from (version_with arbiter) on.stands.after (sessions ++ on.turns) request
                (with_served arbiter) on.stands.leads;
            exactly = stood_in (version_with arbiter) (club_next on.stands.after request) (with_served arbiter)
                on.stands.exactly is.serves.holds;
          });
        },
        is.serves.arbiter ∙ kept ∙ sym (serves_at arbiter on.stands).arbiter,
      )

  goes : (is_arbiter shut : Bool) (now : State) (request : Request) → IsAsked request
      → IsOpenIn is_arbiter shut now (next_of before request) → GoesOn is_arbiter now
  goes is_arbiter shut now request turn is =
      let P : DeskState → Type 0 = λ u. IsOpenIn is_arbiter shut now u in
      elim (cases_Bool (takes on.stands.after request.command)) [
        | inl taken ↦ taken_stands is_arbiter shut now request turn (subst P (next_taken before request taken) is)
        | inr untaken ↦ stays is_arbiter shut now (subst P (next_untaken before request untaken) is)
      ]

  next_stands : (is_arbiter shut : Bool) (now : State) (t : DeskState) → (t ≡ before)
      ⊎ ((request : Request) × IsAsked request × (t ≡ next_of before request)) → IsOpenIn is_arbiter shut now t
      → GoesOn is_arbiter now
  next_stands is_arbiter shut now t (inl same) is =
      stays is_arbiter shut now (let P : DeskState → Type 0 = λ u. IsOpenIn is_arbiter shut now u in subst P same is)
  next_stands is_arbiter shut now t (inr done) is = goes is_arbiter shut now done.0 done.1
      (let P : DeskState → Type 0 = λ u. IsOpenIn is_arbiter shut now u in subst P done.2 is)

  asked_next : (t : DeskState) → (t ≡ before)
      ⊎ ((request : Request) × IsTurn request × (t ≡ next_of before request)) → (t ≡ before)
      ⊎ ((request : Request) × IsAsked request × (t ≡ next_of before request))
  asked_next t (inl same) = inl same
  asked_next t (inr done) = inr (done.0, inl done.1, done.2)

  behind_seen : (moment : ℕ) (within : moment ≤ last_moment) (seen : ParseState)
      → (next_state served before moment seen ≡ before) ⊎ ((request : Request) × IsAsked request
      × (next_state served before moment seen ≡ next_of before request))
  behind_seen moment within seen = asked_next _ (seen_next before moment within seen)

  -- what is behind an errand of the officer's
  behind_errand : (moment : ℕ) (within : moment ≤ last_moment) (given : Operation)
      → (state_after served before moment given ≡ before) ⊎ ((request : Request) × IsAsked request
      × (state_after served before moment given ≡ next_of before request))
  behind_errand moment within (errand.Question question) = inl refl
  behind_errand moment within (errand.Command command) =
      let is_order : IsOrder (order (command_of command) moment) =
      record { command = command_of command; is = refl; within = within } in
      inr (order (command_of command) moment, inr is_order, refl)

  -- no call has failed so far
  pub acted_stands : (is_arbiter shut : Bool) (now : State) (moment : ℕ) (bytes : List ℕ) → moment ≤ last_moment
      → shut ≡ false
      → HasActed served (IsOpenIn is_arbiter shut now) (IsLeft is_arbiter shut now) before moment bytes
      → GoesOn is_arbiter now
  acted_stands is_arbiter shut now moment bytes within ready (inl is) = stays is_arbiter shut now is
  acted_stands is_arbiter shut now moment bytes within ready (inr done) = elim done.2 [
    | inl is ↦ next_stands is_arbiter shut now _ (behind_seen moment within done.0) is
    | inr left ↦ elim (left.stands ready) [
      | inl is ↦ stays is_arbiter shut now is
      | inr is ↦ next_stands is_arbiter shut now _ (behind_seen moment within done.0) is
    ]
  ]

  pub obeyed_stands : (is_arbiter shut : Bool) (now : State) (moment : ℕ) (given : Operation) → moment ≤ last_moment
      → shut ≡ false
      → HasRunOperation served (IsOpenIn is_arbiter shut now) (IsLeft is_arbiter shut now) before moment given
      → GoesOn is_arbiter now
  obeyed_stands is_arbiter shut now moment given within ready (inl is) = stays is_arbiter shut now is
  obeyed_stands is_arbiter shut now moment given within ready (inr (inl is)) =
      next_stands is_arbiter shut now _ (behind_errand moment within given) is
  obeyed_stands is_arbiter shut now moment given within ready (inr (inr left)) = elim (left.stands ready) [
    | inl is ↦ stays is_arbiter shut now is
    | inr is ↦ next_stands is_arbiter shut now _ (behind_errand moment within given) is
  ]

  stays_led : (now : State) → MayLeave now before before → IsReachableOn from (version_with arbiter) them sessions now
  stays_led now left =
      record {
        turns = on.turns;
        are_turns = on.are_turns;
        led = λ db may. record {
          after = on.stands.after;
          legal = on.stands.legal;
          leads = on.stands.leads;
          leaves = left_in (version_with arbiter) on.stands.after (with_served arbiter) on.stands.exactly
              (elim (left db may) [ inl it ↦ it | inr it ↦ it ]);
        };
      }

  cut_led : (now : State) (request : Request) → IsAsked request → takes on.stands.after request.command ≡ true
      → MayLeave now before (later request) → IsReachableOn from (version_with arbiter) them sessions now
  cut_led now request turn taken left =
      let one = cut_session request in
      record {
        turns = on.turns ++ one ∷ [];
        are_turns = turns_more on.turns one on.are_turns (request, turn, refl);
        led = λ db may.
            let P : List HistoryStep → Type 0 = λ xs. IsReachable from (version_with arbiter) them xs db in
            subst P (append_assoc sessions on.turns (one ∷ []))
            (one_cut request db (with_served arbiter) on.stands
            (keeps on.stands.after request (asked_within request turn) taken (serves_at arbiter on.stands).legal)
            (left db may));
      }

  asked_led : (now : State) (request : Request) → IsAsked request → MayLeave now before (next_of before request)
      → IsReachableOn from (version_with arbiter) them sessions now
  asked_led now request turn left =
      let P : DeskState → Type 0 = λ u. MayLeave now before u in
      elim (cases_Bool (takes on.stands.after request.command)) [
        | inl taken ↦ cut_led now request turn taken (subst P (next_taken before request taken) left)
        | inr untaken ↦ stays_led now (subst P (next_untaken before request untaken) left)
      ]

  next_led : (now : State) (t : DeskState) → (t ≡ before)
      ⊎ ((request : Request) × IsAsked request × (t ≡ next_of before request)) → MayLeave now before t
      → IsReachableOn from (version_with arbiter) them sessions now
  next_led now t (inl same) left = stays_led now (let P : DeskState → Type 0 = λ u. MayLeave now before u in
      subst P same left)
  next_led now t (inr done) left =
      asked_led now done.0 done.1 (let P : DeskState → Type 0 = λ u. MayLeave now before u in subst P done.2 left)

  open_led : (is_arbiter : Bool) (now : State) → GoesOn is_arbiter now
      → IsReachableOn from (version_with arbiter) them sessions now
  open_led is_arbiter now on_now = stands_led from (version_with arbiter) them sessions now on_now.0

  -- whether a call has failed or not
  pub acted_led : (is_arbiter shut : Bool) (now : State) (moment : ℕ) (bytes : List ℕ) → moment ≤ last_moment
      → HasActed served (IsOpenIn is_arbiter shut now) (IsLeft is_arbiter shut now) before moment bytes
      → IsReachableOn from (version_with arbiter) them sessions now
  acted_led is_arbiter shut now moment bytes within (inl is) = open_led is_arbiter now (stays is_arbiter shut now is)
  acted_led is_arbiter shut now moment bytes within (inr done) = elim done.2 [
    | inl is ↦ open_led is_arbiter now (next_stands is_arbiter shut now _ (behind_seen moment within done.0) is)
    | inr left ↦ next_led now _ (behind_seen moment within done.0) left.leaves
  ]

  pub obeyed_led : (is_arbiter shut : Bool) (now : State) (moment : ℕ) (given : Operation) → moment ≤ last_moment
      → HasRunOperation served (IsOpenIn is_arbiter shut now) (IsLeft is_arbiter shut now) before moment given
      → IsReachableOn from (version_with arbiter) them sessions now
  obeyed_led is_arbiter shut now moment given within (inl is) = open_led is_arbiter now (stays is_arbiter shut now is)
  obeyed_led is_arbiter shut now moment given within (inr (inl is)) =
      open_led is_arbiter now (next_stands is_arbiter shut now _ (behind_errand moment within given) is)
  obeyed_led is_arbiter shut now moment given within (inr (inr left)) =
      next_led now _ (behind_errand moment within given) left.leaves

-- what a call of `serve_next` served, over the club
abbrev pub Acted : (is_arbiter shut : Bool) → State → Option Served → DeskState → Type 0
Acted is_arbiter shut now next s =
    IsNextServed served (IsOpenIn is_arbiter shut now) (IsLeft is_arbiter shut now) s next

module _ (keeps : KeepsClub) (arbiter : Bool) (from : Version) (them : Neighbours) (sessions : List HistoryStep)
    (was_arbiter old_shut : Bool) (old : State) (ready : old_shut ≡ false)
    (on : IsHistoryOn from (version_with arbiter) them sessions old × (was_arbiter ≡ arbiter)) where
  -- the open club is where the history leads
  served_before : IsOpenIn was_arbiter old_shut old (beside_them on.0.stands.exactly.before on.0.stands.after)
  served_before =
      let at = serves_at arbiter on.0.stands in
      record {
        ready = ready;
        serves = record { legal = at.legal; arbiter = on.1 ∙ at.arbiter; version = at.version; holds = at.holds };
      }

  pub turn_stands : (is_arbiter shut : Bool) (now : State) (next : Option Served) → shut ≡ false
      → ((s : DeskState) → IsOpenIn was_arbiter old_shut old s → Acted is_arbiter shut now next s)
      → IsHistoryOn from (version_with arbiter) them sessions now × (is_arbiter ≡ arbiter)
  turn_stands is_arbiter shut now next is_open acts =
      let before = beside_them on.0.stands.exactly.before on.0.stands.after in
      let (moment, within, done) =
      was_served served (IsOpenIn is_arbiter shut now) (IsLeft is_arbiter shut now) before next
      (acts before served_before) in
      elim done [
        | inl acted ↦
            acted_stands keeps arbiter from them sessions old on.0 is_arbiter shut now moment acted.0 within is_open acted.1
        | inr obeyed ↦
            obeyed_stands keeps arbiter from them sessions old on.0 is_arbiter shut now moment obeyed.0 within is_open
            obeyed.1
      ]

  pub turn_led : (is_arbiter shut : Bool) (now : State) (next : Option Served)
      → ((s : DeskState) → IsOpenIn was_arbiter old_shut old s → Acted is_arbiter shut now next s)
      → IsReachableOn from (version_with arbiter) them sessions now
  turn_led is_arbiter shut now next acts =
      let before = beside_them on.0.stands.exactly.before on.0.stands.after in
      let (moment, within, done) =
      was_served served (IsOpenIn is_arbiter shut now) (IsLeft is_arbiter shut now) before next
      (acts before served_before) in
      elim done [
        | inl acted ↦
            acted_led keeps arbiter from them sessions old on.0 is_arbiter shut now moment acted.0 within acted.1
        | inr obeyed ↦
            obeyed_led keeps arbiter from them sessions old on.0 is_arbiter shut now moment obeyed.0 within obeyed.1
      ]
