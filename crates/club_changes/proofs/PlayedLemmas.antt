-- What is decided of a command on a game, by the decision on that game.
pub use Rattle.club_changes.proofs.RoomLemmas.{budget_most, increment_most, room_for}
use Rattle.std.proofs.Common.{◌≡◌, ◌⊎◌, inl, inr, Bool, false, ℕ, suc, ◌+◌, ◌<◌, ◌≤◌, ◌^◌, List, [], ◌∷◌, ◌++◌, length}
use Rattle.std.proofs.Common.{map, Option, Some, None, Result, Ok, Err, true, refl, ap, sym, subst, subst₂, ◌∙◌, arith}
use Rattle.std.proofs.Common.{length-append}
use Rattle.std.specs.Prelude.{if◌then◌else◌, is_some, slice_get, IsTrue}
use Rattle.std.proofs.lemmas.List.{length-map}
use Rattle.std.proofs.lemmas.Option.{slice_get_within}
use Rattle.squares.specs.declared.sides.Side.{Side}
use Rattle.squares.specs.declared.sides.Side.TheVariants.{First, Second}
use Rattle.squares.specs.Sides.{other}
use Rattle.club_rules.specs.declared.refusals.MoveRefusal.{MoveRefusal}
use Rattle.club_rules.specs.GameRules.{GameRules}
use Rattle.club_rules.specs.Line.{IsLegalLine, times_stood, FirstStands}
use Rattle.club_rules.proofs.Proved.{IsLegalLine-append}
use Rattle.club_requests.specs.declared.answers.Answer.{Answer}
use Rattle.club_requests.specs.declared.answers.Answer.TheVariants as answer_is
use Rattle.club_requests.specs.declared.answers.MoveAnswer.{MoveAnswer}
use Rattle.club_core.specs.declared.decided.Decision.{Decision}
use Rattle.club_core.specs.declared.decided.Decision.TheVariants as decision
use Rattle.club_requests.specs.declared.answers.Outcome as given
use Rattle.club_requests.specs.declared.answers.Outcome.TheVariants as given_is
use Rattle.club_core.specs.declared.rows.GameRow.{GameRow}
use Rattle.club_core.specs.declared.rows.Made.{Made}
use Rattle.club_requests.specs.declared.requests.Caller.{Caller}
use Rattle.club_requests.specs.declared.refusals.Refusal.{Refusal}
use Rattle.club_core.specs.declared.rows.Offer.{Offer}
use Rattle.club_requests.specs.declared.outside_end.OutsideEnd.{OutsideEnd}
use Rattle.club_requests.specs.Limits.{is_budget, is_increment, most_plies}
use Rattle.club_requests.specs.Outcome.{Reply, MoveReply, moved, draw_offered, Outcome, accepted, repeated, refused}
use Rattle.club_requests.specs.Outcome.{unless, unless_repeat}
use Rattle.club_core.specs.Answer.{outcome_of, reply_of, move_reply_of}
use Rattle.club_core.specs.Events.{Terms}
use Rattle.club_core.specs.Game.{Game, Entry, Clocks, moves_of, spend, spend_all, clocks_of, left_of, turn_of}
use Rattle.club_core.specs.Game.{after_rulings, clocks_then, opening_clocks}
use Rattle.club_core.specs.Game.{end_of, last_position, result_of, rule_end}
use Rattle.club_core.specs.Rulings.{GivenRuling, verdict_of}
use Rattle.club_core.specs.Legal.{IsLegalGame}
use Rattle.club_core.specs.LegalState.{Each}
use Rattle.club_core.specs.Step.{GameCommand, move, offer_draw, accept_draw, resign, claim_time, declare, played}
use Rattle.club_core.specs.Step.{offered, plays, ends, by_side, side_step, caller_side, may_give, asked_ply, repeat_of}
use Rattle.club_core.specs.Step.{repeat_of_offer, repeat_of_accept, repeat_of_resign, repeat_of_claim}
use Rattle.club_core.specs.Step.{move_at, checked}
use Rattle.club_core.specs.Step.{game_step, reply_of_move, move_tests, offer_tests, accept_tests, resign_tests}
use Rattle.club_core.specs.Step.{claim_tests, repeat_of_declare, declare_tests}
use Rattle.club_core.specs.declared.settling.Settled.{Settled}
use Rattle.club_core.specs.View.{IsRowOf}
use Rattle.club_core.specs.internal.View.{concluded, HasMade, IsConcluded, IsMade, RepetitionIfMoved}
use Rattle.club_core.proofs.Proved.{AreRules, checked-legal, none-holds, reply-played, moves_of-played, made-played}
use Rattle.club_core.proofs.Proved.{clocks_of-played, since-after, verdict-alone}
use Rattle.club_rows.specs.Tables.{game_row, move_rows, entry_rows, with_entry, at_start, ruling_rows}
use Rattle.club_rows.specs.Tables.{ruling_rows_from}
use Rattle.club_rows.proofs.Proved.{made-last, rows-alike, rulings-stay, seen-row-stays, spend-since, is_some-none}
use Rattle.store_tables.specs.declared.rows.Changes.{Changes}
use Rattle.club_changes.specs.declared.decided.CommandEffect.{CommandEffect}
use Rattle.sqlite.specs.Order.{Row}
use Rattle.store_tables.specs.internal.Changed.{changed}
use Rattle.club_changes.specs.declared.game.DerivedRows.{DerivedRows}
use Rattle.club_changes.specs.internal.Steps.{Puts, PutRows, PutsScoresOf, PutsMove, PutsRow, no_rows, HasSeen}
use Rattle.club_changes.specs.internal.Steps.{IsSeenAfter}
use Rattle.club_changes.specs.internal.Steps.{HasTwoPlayers, AreScoresAfter, answered_rows, left_answered, seen_list}
use Rattle.club_changes.specs.internal.Steps.{score_list}
use Rattle.club_changes.specs.internal.Steps.{IsDecidedIn}
use Rattle.store_tables.specs.Cells.{seen_cells}
use Rattle.store_tables.specs.declared.rows.SeenRow.{SeenRow}
use Rattle.club_rows.specs.internal.Seen.{IsSeenRow}

-- ---- what a command does

left_side : (side : Side) (c : Clocks) (n : ℕ) → c.left_first < n → c.left_second < n → left_of side c < n
left_side First c n first second = first
left_side Second c n first second = second

module _ {P M E T : Type 0} (laws : GameRules P M E T) (terms : Terms) (g : Game M) (moment : ℕ) where
  -- a move was played, and this is its answer
  abbrev pub IsMoved : Game M → Reply → Type 0
  IsMoved new reply = (m : M) × (new ≡ played g m moment)
      × (reply ≡ reply_of_move laws terms (played g m moment) (length g.entries + 1) m)

  -- an offer or an end: the event, the start and the entries stay, and the answer is not that to a move
  pub record IsChanged (new : Game M) (reply : Reply) : Type 0 where
    pub event : new.event ≡ g.event
    pub first : new.first ≡ g.first
    pub second : new.second ≡ g.second
    pub start : new.start ≡ g.start
    pub entries : new.entries ≡ g.entries
    pub rulings : new.rulings ≡ g.rulings
    pub unmoved : (r : MoveReply) → reply ≡ moved r → ⊥

  -- what a step leaves is so, where it accepts
  abbrev pub WhereAccepted : (Game M → Reply → Type 0) → Outcome (Game M) → Type 0
  WhereAccepted Is (accepted new reply) = Is new reply
  WhereAccepted Is _ = Unit {0}

  -- It is, where it is so after a legal move, an offer and an end of a game that was running.
  module _ (Is : Game M → Reply → Type 0)
      (of_move : (m : M) → laws.check (last_position laws g) m ≡ Ok tt → end_of laws g ≡ None
      → WhereAccepted Is (plays laws terms g moment (Ok m)))
      (of_offer : (offer : Offer) (ply : ℕ) → end_of laws g ≡ None → Is (offered g offer) (draw_offered ply))
      (of_end : (end : OutsideEnd) → end_of laws g ≡ None → WhereAccepted Is (ends laws g end)) where
    read_so : (r : Result M MoveRefusal) → ((m : M) → r ≡ Ok m → laws.check (last_position laws g) m ≡ Ok tt)
        → end_of laws g ≡ None → WhereAccepted Is (plays laws terms g moment r)
    read_so (Ok m) legal running = of_move m (legal m refl) running
    read_so (Err why) legal running = tt

    unless_so : (again : Option Reply) (refusal : Option Refusal) (o : Outcome (Game M))
        → (refusal ≡ None → WhereAccepted Is o) → WhereAccepted Is (unless_repeat again (unless refusal o))
    unless_so (Some reply) refusal o is = tt
    unless_so None (Some why) o is = tt
    unless_so None None o is = is refl

    if_so : (b : Bool) (o : Outcome (Game M)) (why : Refusal) → WhereAccepted Is o
        → WhereAccepted Is (if b then o else refused why)
    if_so true o why is = is
    if_so false o why is = tt

    running : is_some (end_of laws g) ≡ false → end_of laws g ≡ None
    running none = is_some-none (end_of laws g) none

    side_so : (side : Side) (command : GameCommand) → WhereAccepted Is (side_step laws terms g moment side command)
    side_so side (move ply text) =
        let p = last_position laws g in
        let read = checked laws p (laws.read_move p text) in
        unless_so (repeat_of laws terms g ply (move_at g ply) side text) _ (plays laws terms g moment read)
        (λ none. read_so read (λ m is. checked-legal laws terms g moment p (laws.read_move p text) m is)
        (running (none-holds (move_tests laws terms g moment side ply text) none).0))
    side_so side (offer_draw ply) =
        let offer : Offer = record { side = side; ply = ply } in
        if_so laws.has_draw_offers _ _
        (unless_so (repeat_of_offer g.offer side ply) _ (accepted (offered g offer) (draw_offered ply))
        (λ none. of_offer offer ply (running (none-holds (offer_tests laws g side ply) none).0)))
    side_so side (accept_draw ply) =
        if_so laws.has_draw_offers _ _
        (unless_so (repeat_of_accept laws g side ply) _ _
        (λ none. of_end _ (running (none-holds (accept_tests laws g side ply) none).0)))
    side_so side resign = unless_so (repeat_of_resign laws g side) _ _
        (λ none. of_end _ (running (none-holds (resign_tests laws g side) none).0))
    side_so side claim_time = unless_so (repeat_of_claim laws g side) _ _
        (λ none. of_end _ (running (none-holds (claim_tests laws terms g moment side) none).0))
    side_so side (declare ply) = unless_so (repeat_of_declare laws terms g side ply) _ _
        (λ none. of_end _ (running (none-holds (declare_tests laws terms g side ply) none).0))

    by_so : (side : Option Side) (command : GameCommand) → WhereAccepted Is (by_side laws terms g moment side command)
    by_so None command = tt
    by_so (Some side) command = side_so side command

    step_so : (who : Caller) (command : GameCommand) → WhereAccepted Is (game_step laws terms g moment who command)
    step_so who command = if_so (may_give who command) _ _
        (by_so (caller_side g.first g.second who (asked_ply command)) command)

  same_but_end : (offer : Option Offer) (outside : Option OutsideEnd) (reply : Reply)
      → ((r : MoveReply) → reply ≡ moved r → ⊥) → IsChanged (record g { offer = offer; outside = outside }) reply
  same_but_end offer outside reply unmoved =
      record {
        event = refl;
        first = refl;
        second = refl;
        start = refl;
        entries = refl;
        rulings = refl;
        unmoved = unmoved;
      }

  -- a move was made, or nothing moved
  abbrev pub IsDone : Outcome (Game M) → Type 0
  IsDone = WhereAccepted (λ new reply. IsMoved new reply ⊎ IsChanged new reply)

  pub step_done : (who : Caller) (command : GameCommand) → IsDone (game_step laws terms g moment who command)
  step_done = step_so (λ new reply. IsMoved new reply ⊎ IsChanged new reply) (λ m legal running. inl (m, refl, refl))
      (λ offer ply running. inr (same_but_end (Some offer) g.outside (draw_offered ply) (λ r is. cc)))
      (λ end running. inr (same_but_end _ _ _ (λ r is. cc)))

  -- only a game that was running is changed
  abbrev pub WasRunning : Outcome (Game M) → Type 0
  WasRunning = WhereAccepted (λ new reply. end_of laws g ≡ None)

  pub step_running : (who : Caller) (command : GameCommand) → WasRunning (game_step laws terms g moment who command)
  step_running = step_so (λ new reply. end_of laws g ≡ None) (λ m legal running. running)
      (λ offer ply running. running) (λ end running. running)

  -- a game that a step leaves has a line of legal moves
  abbrev pub HasLegalLine : Outcome (Game M) → Type 0
  HasLegalLine = WhereAccepted (λ new reply. IsLegalLine laws laws.start (moves_of new))

  pub step_legal : IsLegalLine laws laws.start (moves_of g) → (who : Caller) (command : GameCommand)
      → HasLegalLine (game_step laws terms g moment who command)
  step_legal line = step_so (λ new reply. IsLegalLine laws laws.start (moves_of new))
      (λ m legal running. subst (IsLegalLine laws laws.start) (sym (moves_of-played g m moment))
      (IsLegalLine-append laws laws.start (moves_of g) m line legal)) (λ offer ply running. line)
      (λ end running. line)

  -- what the row of the last position tells of a game that a step leaves
  module _ (id times first : ℕ) (seen : Option SeenRow)
      (tells : (row : SeenRow) → seen ≡ Some row → (id : ℕ) (new : Game M) → IsLegalLine laws laws.start (moves_of new)
      → IsSeenRow laws id new (laws.write_position (last_position laws new)) (seen_cells row)
      → (times ≡ times_stood laws laws.start (moves_of new)) × FirstStands laws laws.start (moves_of new) first) where
    pub seen_stood : {R : Type 0} (o : Outcome (Game M)) → HasLegalLine o → (d : Decision R P M E T)
        → IsSeenAfter laws id o d seen → RepetitionIfMoved laws o d times first
    seen_stood (accepted new reply) line (decision.Accepted given (Some made) answer) (row, seen_is, is) =
        tells row seen_is id new line is
    seen_stood (repeated reply) line (decision.Accepted given (Some made) answer) is = tt
    seen_stood (refused refusal) line (decision.Accepted given (Some made) answer) is = tt
    seen_stood o line _ is = tt

  -- a move that was made leads to the position after it
  made_some : {R : Type 0} (made : Made R P M E T) (new : Game M) (o : Option M) → IsMade laws new o (Some made)
      → (m : M) × (o ≡ Some m) × (made.position ≡ last_position laws new)
  made_some made new None is = absurd is
  made_some made new (Some m) is = (m, refl, is.1)

  -- nothing was made where the entries stayed
  changed_unmade : {R : Type 0} (new : Game M) (reply : Reply) → IsChanged new reply → (made : Option (Made R P M E T))
      → IsMade laws new (slice_get (moves_of new) (length g.entries)) made → made ≡ None
  changed_unmade new reply changed None is = refl
  changed_unmade new reply changed (Some made) is =
      let there = made_some made new _ is in
      let inside = slice_get_within (moves_of new) (length g.entries) there.0 there.1 in
      let count : length (moves_of new) ≡ length new.entries = simp length-map in
      let same : length new.entries ≡ length g.entries = ap length changed.entries in
      absurd (omega (arith, inside, count, same))

  -- the end of a decision changes nothing of what was seen
  pub seen_concluded : {R : Type 0} (id : ℕ) (o : Outcome (Game M)) (seen : Option SeenRow) (d : Decision R P M E T)
      (settled : Settled R P M E T) → IsSeenAfter laws id o d seen
      → IsSeenAfter laws id o (concluded laws d settled) seen
  seen_concluded id o seen (decision.Accepted row (Some made) answer) settled is = is
  seen_concluded id o seen (decision.Accepted row None answer) settled is = is
  seen_concluded id o seen _ settled is = is

  -- what was seen at an entry that a step made was seen at what its decision made
  module _ {R : Type 0} (id : ℕ) (row : SeenRow) (made : Made R P M E T)
      (seen_at : (e : Entry M) → made.position ≡ last_position laws (with_entry g e)
      → IsSeenRow laws id (with_entry g e) (laws.write_position made.position) (seen_cells row)) where
    seen_either : (new : Game M) (reply : Reply) → IsMoved new reply ⊎ IsChanged new reply
        → IsMade laws new (slice_get (moves_of new) (length g.entries)) (Some made)
        → IsSeenRow laws id new (laws.write_position (last_position laws new)) (seen_cells row)
    seen_either new reply (inl (m, new_is, reply_is)) is =
        let there = made_some made new _ is in
        let e : Entry M = record { made = m; moment = moment } in
        let entries : new.entries ≡ g.entries ++ e ∷ [] = ap (λ n. n.entries) new_is in
        let position : last_position laws new ≡ last_position laws (with_entry g e) = ap (last_position laws) new_is in
        seen-row-stays laws id (with_entry g e) new (laws.write_position (last_position laws new)) (seen_cells row)
        (sym entries)
        (subst (λ p. IsSeenRow laws id (with_entry g e) (laws.write_position p) (seen_cells row)) there.2
        (seen_at e (there.2 ∙ position)))
    seen_either new reply (inr changed) is = let none = changed_unmade new reply changed (Some made) is in absurd cc

    pub seen_by_step : (o : Outcome (Game M)) → IsDone o → (given : GameRow E) (answer : Answer)
        → HasMade laws g o (decision.Accepted given (Some made) answer) → HasSeen laws id o (Some row)
    seen_by_step (accepted new reply) done given answer is = (row, refl, seen_either new reply done is)
    seen_by_step _ done given answer is = tt

  -- what was accepted, with its answer
  pub decided_change : {R : Type 0} (o : Outcome (Game M)) (row : GameRow E) (made : Option (Made R P M E T))
      (answer : Answer) → IsDone o → IsConcluded laws terms g o (decision.Accepted row made answer)
      → (new : Game M) × (o ≡ accepted new (reply_of answer)) × IsRowOf laws terms new row
      × IsMade laws new (slice_get (moves_of new) (length g.entries)) made
      × (IsMoved new (reply_of answer) ⊎ IsChanged new (reply_of answer))
  decided_change (accepted new reply) row made answer is shown =
      (new, ap (accepted new) (sym shown.2), shown.0, shown.1, rw shown.2 is)
  decided_change _ row made answer is shown = absurd shown

same_moved : (a b : MoveReply) → ◌≡◌ {A = Reply} (moved a) (moved b) → a ≡ b
same_moved a b is = cc

-- ---- the effective moment

pub since_within : {M : Type 0} (increment : ℕ) (rulings : List GivenRuling) (plies : ℕ) (side : Side)
    (es : List (Entry M)) (c : Clocks) (last : ℕ) → c.since ≤ last → Each (λ e. e.moment ≤ last) es
    → (spend_all increment rulings plies side (map (λ e. e.moment) es) c).since ≤ last
since_within increment rulings plies side [] c last within each = within
since_within increment rulings plies side (e ∷ es) c last within each =
    let granted = after_rulings rulings plies c in
    since_within increment rulings (suc plies) (other side) es (spend increment side e.moment granted) last
    (rw (spend-since increment side e.moment granted) (each 0 e refl)) (λ n x at. each (suc n) x at)

-- the clocks of a game go since its start or its last move
pub clocks_within : {M : Type 0} (g : Game M) (terms : Terms) (last : ℕ) → g.start ≤ last
    → Each (λ e. e.moment ≤ last) g.entries → (clocks_of g terms).since ≤ last
clocks_within g terms last start each =
    rw (since-after g.rulings (length g.entries) (clocks_then g terms))
    (since_within terms.increment g.rulings 0 First g.entries (opening_clocks g terms) last start each)

-- ---- what is decided in a game

-- what is told of a decision that accepted nothing
abbrev pub IsTold : {R P M E T : Type 0} → Decision R P M E T → given.Outcome → Type 0
IsTold (decision.Accepted row made answer) told = ⊥
IsTold (decision.Repeated answer) told = told ≡ given_is.Repeated answer
IsTold (decision.Refused why) told = told ≡ given_is.Refused why

module _ {P M E T : Type 0} (laws : GameRules P M E T) (terms : Terms) (id : ℕ) (g : Game M) (moment : ℕ)
    (table : List Row) where
  -- then nothing is put
  pub none_given : {R : Type 0} (o : Outcome (Game M)) (shown : Decision R P M E T) (d : CommandEffect)
      → IsConcluded laws terms g o shown → IsTold shown d.outcome → d.changes ≡ None
      → IsDecidedIn laws terms id moment table g o d
  none_given (repeated reply) (decision.Repeated answer) d is told none =
      record { answer = ap outcome_of told ∙ ap (λ r. repeated r) is; puts = rw none tt }
  none_given (refused refusal) (decision.Refused why) d is told none =
      record { answer = ap outcome_of told ∙ ap (λ r. refused r) is; puts = rw none tt }
  none_given o (decision.Accepted row made answer) d is told none = absurd told
  none_given (accepted new reply) _ d is told none = absurd is
  none_given (repeated reply) _ d is told none = absurd is
  none_given (refused refusal) _ d is told none = absurd is

-- the rows of the moves are those of the start, the rulings and the entries
pub rows_stay : {P M E T : Type 0} (laws : GameRules P M E T) (terms : Terms) (id : ℕ) (new g : Game M)
    → new.start ≡ g.start → new.rulings ≡ g.rulings → new.entries ≡ g.entries
    → move_rows laws terms id new ≡ move_rows laws terms id g
rows_stay laws terms id new g start rulings entries =
    rows-alike laws terms id (at_start new) (at_start g) new.entries start rulings refl
    ∙ ap (entry_rows laws terms id (at_start g)) entries

-- the rows of the rulings on a running game do not depend on how it ends outside the rules
pub ruled_rows_stay : {P M E T : Type 0} (laws : GameRules P M E T) (id : ℕ) (new g : Game M) → end_of laws g ≡ None
    → new.rulings ≡ g.rulings → ruling_rows id new ≡ ruling_rows id g
ruled_rows_stay laws id new g running rulings =
    let none : verdict_of g.rulings ≡ None =
    verdict-alone (rule_end laws g) (verdict_of g.rulings) g.outside running in
    ap (ruling_rows_from id 1 new.outside) rulings ∙ rulings-stay id 1 new.outside g.outside g.rulings none

-- an answer to a move
moved_answer : (answer : Answer) (r : MoveReply) → reply_of answer ≡ moved r → (mv : MoveAnswer)
    × (answer ≡ answer_is.Moved mv)
moved_answer (answer_is.Moved mv) r is = (mv, refl)
moved_answer _ r is = cc

-- any other answer puts no move
unmoved_rows : (id moment : ℕ) (answer : Answer) → ((r : MoveReply) → reply_of answer ≡ moved r → ⊥)
    → (answered_rows id answer moment ≡ []) × (left_answered answer ≡ 0)
unmoved_rows id moment (answer_is.Moved mv) unmoved = absurd (unmoved (move_reply_of mv) refl)
unmoved_rows id moment _ unmoved = (refl, refl)

module _ {P M E T : Type 0} (laws : GameRules P M E T) (are_rules : AreRules laws) (terms : Terms) (id : ℕ) (g : Game M)
    (moment : ℕ) (who : Caller) (command : GameCommand)
    (budget : IsTrue (is_budget terms.budget)) (increment : IsTrue (is_increment terms.increment))
    (legal : IsLegalGame laws terms g) (table : List Row) where
  abbrev pub step_in : Outcome (Game M)
  step_in = game_step laws terms g moment who command

  -- what is put of a game with this answer
  abbrev pub rows_of : Terms → Answer → DerivedRows → Game M → PutRows
  rows_of terms answer counts new = record no_rows {
    games = game_row laws terms id new ∷ [];
    moves = answered_rows id answer moment;
    seen = seen_list counts.seen;
    scores = score_list counts.scores;
  }

  abbrev pub ArePut : GameRow E → Answer → DerivedRows → Changes → Type 0
  ArePut row answer counts c =
      (terms : Terms) (new : Game M) → row.left_first < 2 ^ 63 → row.left_second < 2 ^ 63
      → left_answered answer < 2 ^ 63 → IsRowOf laws terms new row → Puts c moment (rows_of terms answer counts new)

  -- the row of the position is that which the step saw
  seen_made : {R : Type 0} (row : GameRow E) (made : Option (Made R P M E T)) (answer : Answer) (m : M) (new : Game M)
      (o : Option M) (seen : Option SeenRow) → o ≡ Some m → IsMade laws new o made
      → IsSeenAfter laws id (accepted new (reply_of answer)) (decision.Accepted row made answer) seen
      → HasSeen laws id (accepted new (reply_of answer)) seen
  seen_made row None answer m new (Some n) seen is made_is after = absurd made_is
  seen_made row None answer m new None seen is made_is after = cc
  seen_made row (Some made) answer m new o seen is made_is after = after

  module _ {R : Type 0} (row : GameRow E) (made : Option (Made R P M E T)) (answer : Answer) (counts : DerivedRows)
      (c : Changes) (new : Game M) (running : end_of laws g ≡ None) (is : IsRowOf laws terms new row)
      (made_is : IsMade laws new (slice_get (moves_of new) (length g.entries)) made)
      (after : IsSeenAfter laws id (accepted new (reply_of answer)) (decision.Accepted row made answer) counts.seen)
      (scores : PutsScoresOf table row.event row.first row.second row.end row.result (score_list counts.scores))
      (are : ArePut row answer counts c) where
    scores_are : PutsScoresOf table new.event new.first new.second (end_of laws new) (result_of laws new)
        (score_list counts.scores)
    scores_are = rw (is.event, is.first, is.second, is.end, is.result) at scores

    -- the seconds of both fit the table
    rows_put : length new.entries ≤ length g.entries + 1 → new.rulings ≡ g.rulings → left_answered answer < 2 ^ 63
        → Puts c moment (rows_of terms answer counts new)
    rows_put few rulings left =
        let plies : length g.entries ≤ most_plies = legal.plies in
        let room = room_for new terms budget increment (omega (arith, few, plies)) (rw rulings legal.rulings.count)
        (rw rulings (λ n r at. (legal.rulings.each n r at).time)) in
        let clocks = sym is.clocks in
        are terms new (subst (λ k. k.left_first < 2 ^ 63) clocks room.0)
        (subst (λ k. k.left_second < 2 ^ 63) clocks room.1) left is

    puts_either : IsMoved laws terms g moment new (reply_of answer)
        ⊎ IsChanged laws terms g moment new (reply_of answer)
        → PutsMove laws terms id moment table g new c ⊎ PutsRow laws terms id moment table g new c
    puts_either (inl (m, new_is, reply_is)) =
        let (mv, moved_is) = moved_answer answer _ reply_is in
        let reply = ap reply_of (sym moved_is) ∙ reply_is in
        let shows = same_moved _ _ (reply
        ∙ reply-played laws are_rules.turn_passes are_rules.first_starts g legal.line.legal m moment terms) in
        let count : length (played g m moment).entries ≡ length g.entries + 1 = simp length-append in
        let plies : length g.entries ≤ most_plies = legal.plies in
        let room = room_for (played g m moment) terms budget increment (omega (arith, count, plies))
        legal.rulings.count (λ n r at. (legal.rulings.each n r at).time) in
        let stands = clocks_of-played g m moment (λ n r at. (legal.rulings.each n r at).plies) terms in
        let left = subst (λ k. k < 2 ^ 63) (sym (ap left_answered moved_is ∙ ap (λ r. r.left) shows))
        (subst (λ c. left_of (turn_of laws g) c < 2 ^ 63) stands
        (left_side (turn_of laws g) (clocks_of (played g m moment) terms) (2 ^ 63) room.0 room.1)) in
        let new_count = ap (λ n. length n.entries) new_is in
        let at = ap (λ n. slice_get (moves_of n) (length g.entries)) new_is ∙ made-played laws g m moment in
        let (seen, seen_is, is_seen) = seen_made row made answer m new _ counts.seen at made_is after in
        inl
        (record {
          event = ap (λ n. n.event) new_is;
          running = running;
          entry = record { made = m; moment = moment };
          entries = ap (λ n. n.entries) new_is;
          reply = move_reply_of mv;
          ply = ap (λ r. r.ply) shows;
          seen = seen_cells seen;
          seen_is = is_seen;
          scores = score_list counts.scores;
          scores_are = scores_are;
          puts = rw (moved_is, seen_is) at (rows_put (omega (arith, count, new_count)) (ap (λ n. n.rulings) new_is) left);
          grown = ap (move_rows laws terms id) new_is
              ∙ made-last laws are_rules terms id g m moment (move_reply_of mv) legal.line.legal (sym reply);
          rulings = ap (ruling_rows id) new_is;
        })
    puts_either (inr same) =
        let none = unmoved_rows id moment answer same.unmoved in
        let unmade = changed_unmade laws terms g moment new (reply_of answer) same made made_is in
        let unseen : counts.seen ≡ None = rw unmade at after in
        let count = ap length same.entries in
        inr
        (record {
          event = same.event;
          running = running;
          entries = same.entries;
          scores = score_list counts.scores;
          scores_are = scores_are;
          puts = rw (none.0, unseen) at (rows_put (omega (arith, count)) same.rulings (omega (arith, none.1)));
          stays = rows_stay laws terms id new g same.start same.rulings same.entries;
          rulings = ruled_rows_stay laws id new g running same.rulings;
        })

  -- by the decision as it was given
  pub given_change : {R : Type 0} (shown : Decision R P M E T) (row : GameRow E) (made : Option (Made R P M E T))
      (answer : Answer) (counts : DerivedRows) (c : Changes) → shown ≡ decision.Accepted row made answer
      → IsConcluded laws terms g step_in shown → IsSeenAfter laws id step_in shown counts.seen
      → AreScoresAfter table shown counts.scores → ArePut row answer counts c
      → IsDecidedIn laws terms id moment table g step_in
      (record { outcome = given_is.Accepted answer; changes = Some c })
  given_change shown row made answer counts c was is after scores are =
      let (new, step_is, is_row, made_is, how) =
      decided_change laws terms g moment step_in row made answer (step_done laws terms g moment who command)
      (subst (IsConcluded laws terms g step_in) was is) in
      let running = subst (WasRunning laws terms g moment) step_is (step_running laws terms g moment who command) in
      let seen = subst₂ (λ o d. IsSeenAfter laws id o d counts.seen) step_is was after in
      let met = subst (λ d. AreScoresAfter table d counts.scores) was scores in
      subst
      (λ o. IsDecidedIn laws terms id moment table g o
      (record { outcome = given_is.Accepted answer; changes = Some c })) (sym step_is)
      (record {
        answer = refl;
        puts = puts_either row made answer counts c new running is_row made_is seen met are how;
      })

  -- an accepted decision's game has two players
  players_stay : (new : Game M) (reply : Reply)
      → IsMoved laws terms g moment new reply ⊎ IsChanged laws terms g moment new reply
      → (new.first ≡ g.first) × (new.second ≡ g.second)
  players_stay new reply (inl (m, new_is, reply_is)) = (ap (λ x. x.first) new_is, ap (λ x. x.second) new_is)
  players_stay new reply (inr is) = (is.first, is.second)

  pub decided_players : {R : Type 0} (d : Decision R P M E T) → IsConcluded laws terms g step_in d → HasTwoPlayers d
  decided_players (decision.Accepted row made answer) shown =
      let (new, step_is, is_row, made_is, how) =
      decided_change laws terms g moment step_in row made answer (step_done laws terms g moment who command) shown in
      let (one, two) = players_stay new (reply_of answer) how in
      λ same. legal.players (sym (is_row.first ∙ one) ∙ (same ∙ (is_row.second ∙ two)))
  decided_players (decision.Repeated answer) shown = tt
  decided_players (decision.Refused refusal) shown = tt
