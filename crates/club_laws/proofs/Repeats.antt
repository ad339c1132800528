-- An accepted command that comes again from the one who gave it is repeated with the same answer.
use Rattle.std.proofs.Common.{◌≡◌, ℕ, suc, ◌+◌, ◌-◌, ◌≤◌, List, [], ◌∷◌, ◌++◌, length, map, take, Option, Some, None}
use Rattle.std.proofs.Common.{Result, Ok, Err, Bool, true, false, ◌&&◌, ◌||◌, refl, ap, sym, subst, ◌∙◌, arith}
use Rattle.std.proofs.Common.{add-one, length-append}
use Rattle.std.specs.Prelude.{max, nat_lt, nat_le, ◌==◌, if◌then◌else◌, slice_set}
use Rattle.std.specs.Cmp.{booleans_Decides}
use Rattle.std.specs.Cmp.Derive.{both_true}
use Rattle.std.specs.Option.{option_map}
use Rattle.std.proofs.Math.Seq.{take-length}
use Rattle.std.proofs.lemmas.Bool.{eq-eqb, not-false}
use Rattle.std.proofs.lemmas.Bool.Decides.{nat_tests}
use Rattle.std.proofs.lemmas.List.{length-map, map-append, take-append-le}
use Rattle.squares.specs.declared.sides.Side.{Side}
use Rattle.squares.specs.declared.sides.Side.TheVariants.{First}
use Rattle.squares.specs.Sides.{other, same_side}
use Rattle.squares.specs.internal.Sides.{same_side-itself}
use Rattle.club_rules.specs.declared.refusals.MoveRefusal.{MoveRefusal}
use Rattle.club_rules.specs.declared.names.GameKind.{GameKind}
use Rattle.club_rules.specs.declared.names.GameKind.TheVariants.{Draughts, Shogi}
use Rattle.club_rules.specs.GameRules.{GameRules}
use Rattle.club_core.specs.ClubRules.{ClubRules}
use Rattle.club_rules.specs.Line.{IsLegalLine}
use Rattle.club_requests.specs.declared.outside_end.OutsideEnd.{OutsideEnd}
use Rattle.club_core.specs.declared.challenges.Challenge.{Challenge}
use Rattle.club_core.specs.declared.challenges.ChallengeState.{ChallengeState}
use Rattle.club_core.specs.declared.challenges.ChallengeState.TheVariants.{Withdrawn}
use Rattle.club_requests.specs.declared.refusals.Refusal.{Refusal}
use Rattle.club_requests.specs.declared.requests.Caller.{Caller}
use Rattle.club_requests.specs.declared.requests.Caller.TheVariants.{Officer, Member}
use Rattle.club_requests.specs.declared.rulings.Ruling.{Ruling}
use Rattle.club_requests.specs.Outcome.{Reply, member_added, event_added, Outcome, accepted, repeated, map_outcome}
use Rattle.club_requests.specs.Outcome.{by_officer, first_refusal, unless, unless_repeat}
use Rattle.club_requests.specs.Limits.{is_member_key}
use Rattle.club_core.specs.Members.{find_id, is_member, member_tests, member_step}
use Rattle.club_core.specs.Keys.{is_key_number, with_key, key_step}
use Rattle.club_core.specs.Closings.{closed_at, close_step}
use Rattle.club_core.specs.Events.{Terms, Event, event_kind, same_game, is_event, has_event_name, event_tests}
use Rattle.club_core.specs.Events.{declaring}
use Rattle.club_core.specs.Seats.{has_member_name, seat_step}
use Rattle.club_core.specs.Challenges.{challenge_under, challenge_by, is_open, standing_as, asks_same, opening_step}
use Rattle.club_core.specs.Challenges.{withdrawal_step, answer_step}
use Rattle.club_core.specs.Imports.{Import}
use Rattle.club_core.specs.Rulings.{GivenRuling}
use Rattle.club_core.specs.Game.{Game, Entry, spend_all, opening_clocks, moves_of, last_position, turn_of, side_after}
use Rattle.club_core.specs.Game.{game_at}
use Rattle.club_core.specs.Step.{GameCommand, move, offer_draw, accept_draw, resign, claim_time, declare}
use Rattle.club_core.specs.Step.{asked_ply, caller_side, is_over, is_next_ply, has_offer, played, offered, ended}
use Rattle.club_core.specs.Step.{checked, checked_as, ruled, repeat_of_ruling, ruling_step}
use Rattle.club_core.specs.Step.{reads_as, repeats, side_step, game_step, repeat_of, reply_of_move, move_at}
use Rattle.club_core.specs.State.{AnyGame, draughts, shogi, State, Command, add_member, add_event, seat, import_record}
use Rattle.club_core.specs.State.{on_game, sweep, open_challenge, withdraw_challenge, answer_challenge, new_key}
use Rattle.club_core.specs.State.{close_event, rule}
use Rattle.club_core.specs.State.{Request, state_after, place, terms_at, is_key, game_under}
use Rattle.club_core.specs.State.{seated_as, kind_at, caller_of, with_members}
use Rattle.club_core.specs.State.{with_events}
use Rattle.club_core.specs.State.{with_new_game, with_imported, with_game, with_challenge, challenge_game, with_answer}
use Rattle.club_core.specs.State.{import_as, step_game, step_ruling, step_command, step_by, step, next, fold}
use Rattle.club_core.specs.LegalState.{IsGameOf, IsLegalIn, IsLegalState}
use Rattle.club_core.proofs.Proved.{AreFrom, AreRules, turn-of-game, made-played, spend_all-more, take-before}
use Rattle.club_core.proofs.Proved.{take-whole}
use Rattle.club_laws.specs.Laws.{HasNextPly, StillRepeats, StillRepeatsOn, IsSentAgain}
use Rattle.club_laws.proofs.Lists.{both-true, bytes_eq-same, find_id-new, get-append, place-set, put-at}
use Rattle.club_laws.proofs.LegalSteps.{in-place}
use Rattle.club_laws.proofs.Accepts.{unless-accepted, accepted-same, map-accepted, officer-accepted}
use Rattle.club_laws.proofs.PutChallenges.{under-key, key-under, under-same, under-found, under-put}
use Rattle.club_laws.proofs.Challenged.{IsLaterChallenge, answered_as, was-opened, was-withdrawn, was-answered}
use Rattle.club_laws.proofs.GameSteps.{IsLaterGame, later-game-trans, ended-over, Finds, Leaves, WasGiven}
use Rattle.club_laws.proofs.GameSteps.{was-given, same-event, same-side, is-next}
use Rattle.club_laws.proofs.SeatSteps.{was-seated, seated-key, seated-pairing, seats-again}
use Rattle.club_laws.proofs.Later.{IsLater, IsLaterAny, later-trans, place-later, next-later, fold-later}
use Rattle.club_laws.proofs.LaterParts.{IsEachLater, find-later, place-each-later, IsLaterMember, named-later}
use Rattle.club_laws.proofs.LaterParts.{same-member-later, IsLaterEvent, event-named-later, same-event-later}
use Rattle.club_laws.proofs.ArbiterSteps.{was-keyed, key-there, was-closed}
use Rattle.club_laws.proofs.RulingSteps.{ruling-there, was-ruled}

none-found : (f : ℕ → Reply) (o : Option ℕ) → option_map f o ≡ None → o ≡ None
none-found f None is = refl
none-found f (Some id) is = cc

same_game-refl : (g : GameKind) → same_game g g ≡ true
same_game-refl Draughts = refl
same_game-refl Shogi = refl

-- what the officer added at the end of a list is found in each list that begins so, and repeated
added-again : {S T A : Type 0} (IsLaterOne : A → A → Type 0) (f : List A → S) (g : List T → S) (who : Caller)
    (test : A → Bool) (alike : (x y : A) → IsLaterOne x y → test y ≡ test x) (answer : ℕ → Reply)
    (tests : List (Bool × Refusal)) (all now : List A) (new : A) (after : S) (reply : Reply) → test new ≡ true
    → by_officer who
    (map_outcome f
    (unless_repeat (option_map answer (find_id test all))
    (unless (first_refusal tests) (accepted (all ++ new ∷ []) (answer (length all + 1))))))
    ≡ accepted after reply → ((xs : List A) → f xs ≡ after → IsEachLater IsLaterOne xs now) → (x : Outcome (List T))
    → by_officer who (map_outcome g (unless_repeat (option_map answer (find_id test now)) x)) ≡ repeated reply
added-again IsLaterOne f g who test alike answer tests all now new after reply itself is later x =
    let by = officer-accepted who _ after reply is in
    let (xs, step_is, after_is) = map-accepted f _ after reply by.1 in
    let added = unless-accepted (option_map answer (find_id test all)) (first_refusal tests) _ xs reply step_is in
    let stands = accepted-same (all ++ new ∷ []) xs (answer (length all + 1)) reply added.2 in
    let found : find_id test now ≡ Some (length all + 1) =
    find-later IsLaterOne test alike (all ++ new ∷ []) now _ (later (all ++ new ∷ []) (ap f stands.0 ∙ after_is))
    (find_id-new test all new (none-found answer (find_id test all) added.0) itself) in
    rw (by.0, found, stands.1) refl

module _ {DP DM DE DT SP SM SE ST : Type 0} (kinds : ClubRules DP DM DE DT SP SM SE ST) (s t : State DM SM) (moment : ℕ)
  where
    -- a challenge that was put stands from then on, and only an open one is changed
    put-later : (new : Challenge) → IsLater kinds (with_challenge s moment new) t → (c : Challenge)
        × (challenge_under t.challenges new.member new.number ≡ Some c) × IsLaterChallenge new c
    put-later new later =
        let itself = ap (λ b. if b then Some new else challenge_under s.challenges new.member new.number)
        (key-under new.member new.number new refl refl) in
        later.challenges new.member new.number new (under-put s.challenges new new.member new.number ∙ itself)

    -- a challenge that was closed stays so
    closed-stays : (member number : ℕ) (old : Challenge) (standing : ChallengeState)
        → challenge_under s.challenges member number ≡ Some old → is_open standing ≡ false
        → IsLater kinds (with_challenge s moment (standing_as old standing)) t
        → challenge_under t.challenges member number ≡ Some (standing_as old standing)
    closed-stays member number old standing found closed later =
        let key = under-key member number old (under-found s.challenges member number old found) in
        let (c, stands, is_later) = put-later (standing_as old standing) later in
        under-same t.challenges _ _ member number _ key.0 key.1 (stands ∙ ap Some (is_later.closed closed))

-- the challenge that was opened, whatever became of it, is the one that is asked for again
asks-again : (number : ℕ) (first : Bool) (new c : Challenge) → new.number ≡ number → new.first ≡ first
    → c ≡ standing_as new c.standing → (asks_same new.event (Some new.other) first c ≡ true) × (c.number ≡ number)
asks-again number first new c has_number has_sides asks = (
  both_true
      (both_true (eq-eqb new.event c.event (sym (ap (λ u. u.event) asks)))
      (eq-eqb new.other c.other (sym (ap (λ u. u.other) asks))))
      ((booleans_Decides first c.first).1 (sym (ap (λ u. u.first) asks ∙ has_sides))),
  ap (λ u. u.number) asks ∙ has_number,
)

-- the answer to a move shows nothing of later entries
reply-same : {P M E T : Type 0} (laws : GameRules P M E T) (terms : Terms) (a b : Game M) (ply : ℕ) (m : M)
    → a.start ≡ b.start → take (ply - 1) a.entries ≡ take (ply - 1) b.entries → take ply a.entries ≡ take ply b.entries
    → spend_all terms.increment a.rulings 0 First (map (λ e. e.moment) (take ply b.entries)) (opening_clocks b terms)
    ≡ spend_all terms.increment b.rulings 0 First (map (λ e. e.moment) (take ply b.entries)) (opening_clocks b terms)
    → reply_of_move laws terms a ply m ≡ reply_of_move laws terms b ply m
reply-same laws terms a b ply m start before after spent = rw (start, before, after, spent) refl

take-then : {A : Type 0} (xs : List A) (x : A) (more : List A) → take (length xs) ((xs ++ x ∷ []) ++ more) ≡ xs
take-then xs x more =
    let count : length (xs ++ x ∷ []) ≡ length xs + 1 = simp length-append in
    let within : length xs ≤ length (xs ++ x ∷ []) = omega (arith, count) in
    let itself : length xs ≤ length xs = omega arith in
    rw (take-append-le (length xs) (xs ++ x ∷ []) more within, take-append-le (length xs) xs (x ∷ []) itself)
    (take-length xs)

take-then-whole : {A : Type 0} (xs : List A) (x : A) (more : List A)
    → take (length xs + 1) ((xs ++ x ∷ []) ++ more) ≡ xs ++ x ∷ []
take-then-whole xs x more =
    let count : length (xs ++ x ∷ []) ≡ length xs + 1 = simp length-append in
    let itself : length (xs ++ x ∷ []) ≤ length (xs ++ x ∷ []) = omega arith in
    rw (← count, take-append-le (length (xs ++ x ∷ [])) (xs ++ x ∷ []) more itself) (take-length (xs ++ x ∷ []))

-- the new ply is the next
next-ply : (ply n : ℕ) → (ply == 0 || nat_lt (n + 1) ply) ≡ false → nat_le ply n ≡ false → ply ≡ n + 1
next-ply ply n within above = grind (arith, nat_tests)

module _ {P M E T : Type 0} (laws : GameRules P M E T) where
  checked-read : (p : P) (read : Result M MoveRefusal) (m : M) → checked laws p read ≡ Ok m → read ≡ Ok m
  checked-read p (Err refusal) m is = cc
  checked-read p (Ok n) m is = ap Ok (read-as n m (laws.check p n) is)
    where
      read-as : (n m : M) (c : Result (Unit {0}) MoveRefusal) → checked_as laws n c ≡ Ok m → n ≡ m
      read-as n m (Err refusal) is = cc
      read-as n m (Ok u) is = cc

module _ {P M E T : Type 0} (laws : GameRules P M E T) (are_rules : AreRules laws) (terms : Terms) (game : Game M)
    (line : IsLegalLine laws laws.start (map (λ e. e.made) game.entries)) (moment again : ℕ) where
  repeat-later : (m : M) (side : Side) (text : List ℕ) (more : List (Entry M)) (further : List GivenRuling)
      (later : Game M) → later.start ≡ game.start
      → later.entries ≡ (game.entries ++ record { made = m; moment = moment } ∷ []) ++ more
      → later.rulings ≡ game.rulings ++ further
      → AreFrom further (length (game.entries ++ record { made = m; moment = moment } ∷ []))
      → same_side side (turn_of laws game) ≡ true → laws.read_move (last_position laws game) text ≡ Ok m
      → repeat_of laws terms later (length game.entries + 1) (move_at later (length game.entries + 1)) side text
      ≡ Some (reply_of_move laws terms (played game m moment) (length game.entries + 1) m)
  repeat-later m side text more further later start entries rulings from turn read =
      let e : Entry M = record { made = m; moment = moment } in
      let count : length game.entries + 1 - 1 ≡ length game.entries = omega arith in
      let before : take (length game.entries + 1 - 1) later.entries ≡ game.entries =
      rw (count, entries) (take-then game.entries e more) in
      let after : take (length game.entries + 1) later.entries ≡ game.entries ++ e ∷ [] =
      rw entries (take-then-whole game.entries e more) in
      let played_before : take (length game.entries + 1 - 1) (game.entries ++ e ∷ []) ≡ game.entries =
      take-before game.entries e in
      let played_after : take (length game.entries + 1) (game.entries ++ e ∷ []) ≡ game.entries ++ e ∷ [] =
      take-whole game.entries e in
      let next_ply : length game.entries + 1 ≡ suc (length game.entries) = add-one (length game.entries) in
      let moves : moves_of later ≡ moves_of (played game m moment) ++ map (λ x. x.made) more =
      rw (entries) (map-append (λ x. x.made) (game.entries ++ e ∷ []) more) in
      let at : move_at later (length game.entries + 1) ≡ Some m =
      rw (next_ply, moves)
      (get-append (moves_of (played game m moment)) (map (λ x. x.made) more) (length game.entries) m
      (made-played laws game m moment)) in
      let reads : reads_as laws (laws.read_move (last_position laws (game_at later (length game.entries + 1 - 1))) text)
      m ≡ true = rw (before, read) ((are_rules.same_is m m).1 refl) in
      let side_is : same_side side (side_after (length game.entries + 1 - 1)) ≡ true =
      rw (count, ← turn-of-game laws are_rules.turn_passes are_rules.first_starts game line) turn in
      let passes : repeats laws terms later (length game.entries + 1) m side text ≡ true = both_true side_is reads in
      let moments = map (λ x. x.moment) (game.entries ++ e ∷ []) in
      let moments_are : map (λ x. x.moment) (take (length game.entries + 1) (game.entries ++ e ∷ [])) ≡ moments =
      ap (map (λ x. x.moment)) played_after in
      let many : length moments ≡ length (game.entries ++ e ∷ []) = simp length-map in
      let spent : spend_all terms.increment later.rulings 0 First moments (opening_clocks game terms)
      ≡ spend_all terms.increment game.rulings 0 First moments (opening_clocks game terms) =
      rw rulings
      (spend_all-more terms.increment game.rulings further 0 (length (game.entries ++ e ∷ [])) First moments
      (opening_clocks game terms) (omega (arith, many)) from) in
      rw (at, passes)
      (ap Some
      (reply-same laws terms later (played game m moment) (length game.entries + 1) m start
      (before ∙ sym played_before) (after ∙ sym played_after) (rw moments_are spent)))

  -- an end from outside stays, with the moves and the offer
  stays-ended : (end : OutsideEnd) (new later : Game M) → ended game end ≡ new → IsLaterGame laws new later
      → (later.entries ≡ game.entries) × (later.offer ≡ game.offer) × (later.outside ≡ Some end)
  stays-ended end new later is since =
      let stays : later ≡ record new { rulings = later.rulings } =
      (since.over (ap (is_over laws) (sym is) ∙ ended-over laws game end)).0 in (
        ap (λ g. g.entries) stays ∙ ap (λ g. g.entries) (sym is),
        ap (λ g. g.offer) stays ∙ ap (λ g. g.offer) (sym is),
        ap (λ g. g.outside) stays ∙ ap (λ g. g.outside) (sym is),
      )

  -- what an accepted command found and left lets it repeat: an offer until the next move
  side-again : (side : Side) (command : GameCommand) (new : Game M) (reply : Reply)
      → Finds laws terms game moment side command → Leaves laws terms game moment side command new reply
      → (later : Game M) → IsLaterGame laws new later
      → ((ply : ℕ) → command ≡ offer_draw ply → ply ≡ length later.entries + 1)
      → side_step laws terms later again side command ≡ repeated reply
  side-again side (move ply text) new reply found left later since still =
      let (m, checked_is, stands, answer) = left in
      let ply_is : ply ≡ length game.entries + 1 = next-ply ply (length game.entries) found.1.0 found.1.1.0 in
      let turn : same_side side (turn_of laws game) ≡ true = not-false _ found.1.1.1.0 in
      let read = checked-read laws (last_position laws game) _ m checked_is in
      let from : IsLaterGame laws (played game m moment) later = rw stands since in
      let repeat : repeat_of laws terms later (length game.entries + 1) (move_at later (length game.entries + 1)) side
      text ≡ Some (reply_of_move laws terms (played game m moment) (length game.entries + 1) m) =
      repeat-later m side text from.entries.0 from.rulings.0 later (ap (λ g. g.start) from.head) from.entries.1
      from.rulings.1 from.rulings.2 turn read in
      rw (ply_is, repeat, answer) refl
  side-again side (offer_draw ply) new reply found left later since still =
      let next : ply ≡ length game.entries + 1 = is-next ply (length game.entries) found.0.1.0 in
      let now : ply ≡ length later.entries + 1 = still ply refl in
      let from : IsLaterGame laws (offered game (record { side = side; ply = ply })) later = rw left.0 since in
      let offer : later.offer ≡ Some (record { side = side; ply = ply }) =
      from.offered (record { side = side; ply = ply }) refl next (omega (arith, now, next)) in
      let own : (same_side side side && ply == ply) ≡ true = both_true (same_side-itself side) (eq-eqb ply ply refl) in
      rw (found.1, offer, own, left.1) refl
  side-again side (accept_draw ply) new reply found left later since still =
      let other's : has_offer game.offer (other side) ply ≡ true = not-false _ found.0.1.1.0 in
      let (entries, offer, outside) = stays-ended _ new later left.0 since in
      rw (entries, offer, outside, found.1, other's, left.1) refl
  side-again side resign new reply found left later since still =
      let turn : same_side side (turn_of laws game) ≡ true = not-false _ found.1.0 in
      let (entries, offer, outside) = stays-ended _ new later left.0 since in
      rw (entries, outside, turn, left.1) refl
  side-again side claim_time new reply found left later since still =
      let turn : same_side side (turn_of laws game) ≡ false = found.1.0 in
      let (entries, offer, outside) = stays-ended _ new later left.0 since in
      rw (entries, outside, turn, left.1) refl
  side-again side (declare ply) new reply found left later since still =
      let turn : same_side side (turn_of laws game) ≡ true = not-false _ found.1.1.0 in
      let next : is_next_ply laws game ply ≡ true = not-false _ found.1.0 in
      let (entries, offer, outside) = stays-ended _ new later left.0 since in
      rw (entries, outside, turn, next, left.1) refl

-- the game of one kind that a command was accepted on, in a later state
module _ {DP DM DE DT SP SM SE ST P M E T : Type 0} (kinds : ClubRules DP DM DE DT SP SM SE ST)
    (laws : GameRules P M E T) (wrap : Game M → AnyGame DM SM)
    (unwrap : (g : Game M) (new : AnyGame DM SM) → IsLaterAny kinds (wrap g) new → (later : Game M)
    × (new ≡ wrap later) × IsLaterGame laws g later) (s t : State DM SM) (moment id : ℕ) (game : Game M) where
  -- an accepted command's game stands there as a later one, in which its caller has the same side
  pub record StandsLater (who : Caller) (command : GameCommand) (reply : Reply) : Type 0 where
    pub new : Game M
    pub was : WasGiven laws (terms_at (place s.events game.event)) game moment who command new reply
    pub later : Game M
    pub stands : place t.games id ≡ Some (wrap later)
    pub since : IsLaterGame laws new later
    pub event : later.event ≡ game.event
    pub of_side : caller_side later.first later.second who (asked_ply command) ≡ Some was.side
    pub events : IsEachLater IsLaterEvent s.events t.events

  stands-as : (who : Caller) (command : GameCommand) (reply : Reply) (new : Game M) (any : AnyGame DM SM)
      (later : Game M) → WasGiven laws (terms_at (place s.events game.event)) game moment who command new reply
      → place t.games id ≡ Some any → any ≡ wrap later → IsLaterGame laws new later
      → IsEachLater IsLaterEvent s.events t.events → StandsLater who command reply
  stands-as who command reply new any later was stands any_is since events =
      let now = later-game-trans laws game new later was.later since in
      record {
        new = new;
        was = was;
        later = later;
        stands = stands ∙ ap Some any_is;
        since = since;
        event = same-event laws game later now;
        of_side = same-side laws game later now who (asked_ply command) (Some was.side) was.of_side;
        events = events;
      }

  pub stands-later : (who : Caller) (command : GameCommand) (after : State DM SM) (reply : Reply)
      → place s.games id ≡ Some (wrap game)
      → map_outcome (λ new. with_game s moment id (wrap new))
      (game_step laws (terms_at (place s.events game.event)) game moment who command) ≡ accepted after reply
      → IsLater kinds after t → StandsLater who command reply
  stands-later who command after reply at is since =
      let terms = terms_at (place s.events game.event) in
      let (new, step_is, after_is) = map-accepted (λ new. with_game s moment id (wrap new))
      (game_step laws terms game moment who command) after reply is in
      let from : IsLater kinds (with_game s moment id (wrap new)) t = rw after_is since in
      let (any, stands, any_later) = place-later kinds (with_game s moment id (wrap new)) t from id (wrap new)
      (place-set s.games id (wrap game) (wrap new) at) in
      let (later, any_is, is_later) = unwrap new any any_later in
      stands-as who command reply new any later (was-given laws terms game moment who command new reply step_is) stands
      any_is is_later from.events

-- a command on a game of one kind
module _ {DP DM DE DT SP SM SE ST P M E T : Type 0} (kinds : ClubRules DP DM DE DT SP SM SE ST)
    (laws : GameRules P M E T) (are_rules : AreRules laws) (kind : GameKind) (wrap : Game M → AnyGame DM SM)
    (unwrap : (g : Game M) (new : AnyGame DM SM) → IsLaterAny kinds (wrap g) new → (later : Game M)
    × (new ≡ wrap later) × IsLaterGame laws g later)
    (next_of : (ply : ℕ) (g : Game M) → HasNextPly ply (Some (wrap g)) → ply ≡ length g.entries + 1) where
  game-again : (s t : State DM SM) (moment again id : ℕ) (who : Caller) (command : GameCommand) (game : Game M)
      (after : State DM SM) (reply : Reply) → place s.games id ≡ Some (wrap game) → IsGameOf laws kind s game
      → map_outcome (λ new. with_game s moment id (wrap new))
      (game_step laws (terms_at (place s.events game.event)) game moment who command) ≡ accepted after reply
      → IsLater kinds after t → StillRepeatsOn (place t.games id) command → (later : Game M)
      × (place t.games id ≡ Some (wrap later))
      ×
      (map_outcome (λ new. with_game t again id (wrap new))
      (game_step laws (terms_at (place t.events later.event)) later again who command) ≡ repeated reply)
  game-again s t moment again id who command game after reply at of is since still =
      let there = stands-later kinds laws wrap unwrap s t moment id game who command after reply at is since in
      let later = there.later in
      let terms = terms_at (place s.events game.event) in
      let (event, found, is_later) = place-each-later IsLaterEvent s.events t.events there.events game.event of.event
      of.in_event in
      let same : event.terms ≡ of.event.terms = ap (λ e. e.terms) is_later.same in
      let terms_now : terms_at (place t.events later.event) ≡ terms = rw (there.event, found, of.in_event) same in
      let repeats = side-again laws are_rules terms game of.legal.line.legal moment again there.was.side command
      there.new
      reply there.was.found there.was.left later there.since
      (λ ply is_offer. next_of ply later (rw (is_offer, there.stands) at still)) in
      (later, there.stands, rw (terms_now, there.was.may, there.of_side, repeats) refl)

-- a ruling that was given on a game of one kind is there in each later state
module _ {DP DM DE DT SP SM SE ST P M E T : Type 0} (kinds : ClubRules DP DM DE DT SP SM SE ST)
    (laws : GameRules P M E T) (wrap : Game M → AnyGame DM SM)
    (unwrap : (g : Game M) (new : AnyGame DM SM) → IsLaterAny kinds (wrap g) new → (later : Game M)
    × (new ≡ wrap later) × IsLaterGame laws g later) (s t : State DM SM) (moment id number : ℕ) (ruling : Ruling) where
  ruled-again : (game : Game M) (after : State DM SM) (reply : Reply) → place s.games id ≡ Some (wrap game)
      → map_outcome (λ new. with_game s moment id (wrap new)) (ruling_step laws game number ruling moment)
      ≡ accepted after reply → IsLater kinds after t → (later : Game M)
      × (place t.games id ≡ Some (wrap later))
      × (repeat_of_ruling laws later number ruling ≡ Some reply)
  ruled-again game after reply at is since =
      let (new, step_is, after_is) = map-accepted (λ new. with_game s moment id (wrap new))
      (ruling_step laws game number ruling moment) after reply is in
      let was = was-ruled laws game number ruling moment new reply step_is in
      let from : IsLater kinds (with_game s moment id (wrap new)) t = rw after_is since in
      let (any, stands, any_later) = place-later kinds (with_game s moment id (wrap new)) t from id (wrap new)
      (place-set s.games id (wrap game) (wrap new) at) in
      let (later, any_is, is_later) = unwrap new any any_later in
      let from_ruled : IsLaterGame laws (ruled game ruling moment) later =
      subst (λ g. IsLaterGame laws g later) (sym was.stands) is_later in (
        later,
        stands ∙ ap Some any_is,
        ruling-there laws game number ruling moment later was.tests from_ruled ∙ ap Some was.answer,
      )

module _ {DP DM DE DT SP SM SE ST : Type 0} (kinds : ClubRules DP DM DE DT SP SM SE ST) where
  -- an import that was accepted is repeated in each later state
  abbrev pub RepeatsImport : Type 0
  RepeatsImport = (s t : State DM SM) (moment again : ℕ) (who : Caller) (given : Import) (after : State DM SM)
      (reply : Reply) → by_officer who (import_as kinds s moment given (event_kind s.events given.event))
      ≡ accepted after reply → IsLater kinds s t → IsLater kinds after t
      → by_officer who (import_as kinds t again given (event_kind t.events given.event)) ≡ repeated reply

module _ {DP DM DE DT SP SM SE ST : Type 0} (kinds : ClubRules DP DM DE DT SP SM SE ST)
    (are_draughts : AreRules kinds.draughts) (are_shogi : AreRules kinds.shogi) (import_again : RepeatsImport kinds)
    (s t : State DM SM) (moment again : ℕ) (after : State DM SM) (reply : Reply) (legal : IsLegalState kinds s)
    (to_t : IsLater kinds s t) (since : IsLater kinds after t) where
  -- a command that was accepted is repeated
  abbrev Again : Caller → Command → Type 0
  Again who command = step_command kinds s moment who command ≡ accepted after reply
      → step_command kinds t again who command ≡ repeated reply

  member-again : (who : Caller) (name key : List ℕ) → Again who (add_member name key)
  member-again who name key is =
      added-again IsLaterMember (with_members s moment) (with_members t again) who (is_member name key)
      (same-member-later name key) member_added (member_tests s.members name key) s.members t.members
      (record { name = name; key = key; later = [] }) after reply
      (both_true (bytes_eq-same name name refl) (bytes_eq-same key key refl)) is
      (λ xs same. rw (ap (λ u. u.members) same) since.members) _

  event-again : (who : Caller) (event : Event) → Again who (add_event event)
  event-again who event is =
      let terms = event.terms in
      added-again IsLaterEvent (with_events s moment) (with_events t again) who (is_event event)
      (same-event-later event) event_added (event_tests s.events event) s.events t.events (declaring event) after reply
      (both_true
      (both_true (both_true (bytes_eq-same event.name event.name refl) (same_game-refl event.game))
      (eq-eqb terms.budget terms.budget refl)) (eq-eqb terms.increment terms.increment refl)) is
      (λ xs same. rw (ap (λ u. u.events) same) since.events) _

  seat-again : (who : Caller) (key event first second : List ℕ) → Again who (seat key event first second)
  seat-again who key event first second is =
      let by = officer-accepted who _ after reply is in
      let (pairing, step_is, after_is) = map-accepted (with_new_game s moment key)
      (seat_step s.members s.events (game_under s.games key) (length s.games) key event first second) after reply
      by.1 in
      let was = was-seated (find_id (has_event_name event) s.events) (find_id (has_member_name first) s.members)
      (find_id (has_member_name second) s.members) (game_under s.games key) (length s.games) key pairing reply
      step_is in
      let from : IsLater kinds (with_new_game s moment key pairing) t = rw (← after_is) at since in
      let kind = kind_at (place s.events pairing.event) in
      let (in_event, same) = seats-again kinds s t moment key (seated_as kind (Some key) pairing moment)
      (ap (is_key key) (seated-key DM SM kind (Some key) pairing moment) ∙ bytes_eq-same key key refl) was.fresh from
      event first second pairing reply (seated-pairing DM SM kind (Some key) pairing moment) was in
      rw (by.0, in_event, same) refl

  opening-again : (id number : ℕ) (event other : List ℕ) (first : Bool)
      → Again (Member id) (open_challenge number event other first)
  opening-again id number event other first is =
      let (new, step_is, after_is) = map-accepted (with_challenge s moment)
      (opening_step s.members s.events (challenge_under s.challenges id number) id number event other first) after
      reply is in
      let was = was-opened s.events id number (find_id (has_event_name event) s.events)
      (find_id (has_member_name other) s.members) first (challenge_under s.challenges id number) new reply step_is in
      let from : IsLater kinds (with_challenge s moment new) t = rw (← after_is) at since in
      let (c, stands, is_later) = put-later kinds s t moment new from in
      let in_event : find_id (has_event_name event) t.events ≡ Some new.event =
      event-named-later event s.events t.events _ from.events was.in_event in
      let to_member : find_id (has_member_name other) t.members ≡ Some new.other =
      named-later other s.members t.members _ from.members was.to_member in
      let found : challenge_under t.challenges id number ≡ Some c =
      under-same t.challenges _ _ id number c was.by_caller was.has_number stands in
      let (same, numbered) = asks-again number first new c was.has_number was.has_sides is_later.asks in
      rw (in_event, to_member, found, same, numbered, was.answer) refl

  withdrawal-again : (id number : ℕ) → Again (Member id) (withdraw_challenge number)
  withdrawal-again id number is =
      let (new, step_is, after_is) = map-accepted (with_challenge s moment)
      (withdrawal_step (challenge_under s.challenges id number)) after reply is in
      let was = was-withdrawn (challenge_under s.challenges id number) new reply step_is in
      let from : IsLater kinds (with_challenge s moment (standing_as was.old Withdrawn)) t =
      rw (← after_is, ← was.stands) at since in
      rw (closed-stays kinds s t moment id number was.old Withdrawn was.found refl from) (ap repeated was.answer)

  -- the answer that closed a challenge is given again
  answer-again : (challenger : List ℕ) (number id : ℕ) (accept : Bool)
      → Again (Member id) (answer_challenge challenger number accept)
  answer-again challenger number id accept is =
      let by = find_id (has_member_name challenger) s.members in
      let (new, step_is, after_is) = map-accepted (with_answer s moment accept)
      (answer_step s.events (challenge_by s.challenges by number) (length s.games) id accept) after reply is in
      let was = was-answered s.events s.challenges by number (length s.games) id accept new reply step_is in
      let from : IsLater kinds (with_answer s moment accept (standing_as was.old (answered_as (length s.games) accept)))
      t = rw (← after_is, ← was.stands) at since in
      let (found, members) = closed accept was.member was.old was.found from in
      let by_now : find_id (has_member_name challenger) t.members ≡ Some was.member =
      named-later challenger s.members t.members _ members was.by_member in
      rw (by_now, found, was.to_caller, was.answer) refl
    where
      closed : (accept : Bool) (member : ℕ) (old : Challenge) → challenge_under s.challenges member number ≡ Some old
          → IsLater kinds (with_answer s moment accept (standing_as old (answered_as (length s.games) accept))) t
          → (challenge_under t.challenges member number
          ≡ Some (standing_as old (answered_as (length s.games) accept)))
          × IsEachLater IsLaterMember s.members t.members
      closed false member old found from =
          (closed-stays kinds s t moment member number old _ found refl from, from.members)
      closed true member old found from = (
        closed-stays kinds (with_imported s moment (challenge_game s moment old)) t moment member number old _ found
            refl from,
        from.members,
      )

  -- the key stands under its number in every later state
  key-again : (who : Caller) (name : List ℕ) (number : ℕ) (key : List ℕ) → Again who (new_key name number key)
  key-again who name number key is =
      let by = officer-accepted who _ after reply is in
      let (new, step_is, after_is) = map-accepted (with_members s moment) (key_step s.members name number key) after
      reply by.1 in
      let was = was-keyed s.members name number key new reply step_is in
      let keyed = with_key was.member key in
      let i = was.id - 1 in
      let from : IsLater kinds (with_members s moment (slice_set s.members i keyed)) t =
      rw (← after_is, ← was.stands) at since in
      let (now, at, is_later) = from.members i keyed (put-at s.members i was.member keyed was.stood) in
      let found = named-later name s.members t.members was.id to_t.members was.found in
      let good = both-true (is_member_key key) (is_key_number was.member number) (not-false _ was.tests.1.1.0) in
      rw (by.0, found, at, key-there was.member now number key was.tests.0 good.1 is_later, was.answer) refl

  -- a closed event stays closed
  close-again : (who : Caller) (event : List ℕ) → Again who (close_event event)
  close-again who event is =
      let by = officer-accepted who _ after reply is in
      let (new, step_is, after_is) = map-accepted (with_events s moment) (close_step s.events event moment) after reply
      by.1 in
      let was = was-closed s.events event moment new reply step_is in
      let closed = closed_at was.event moment in
      let i = was.id - 1 in
      let from : IsLater kinds (with_events s moment (slice_set s.events i closed)) t =
      rw (← after_is, ← was.stands) at since in
      let (now, at, is_later) = from.events i closed (put-at s.events i was.event closed was.stood) in
      let found = event-named-later event s.events t.events was.id to_t.events was.found in
      rw (by.0, found, at, is_later.closed refl, was.answer) refl

  on-game-again : (id : ℕ) (who : Caller) (command : GameCommand) (g : Option (AnyGame DM SM)) → place s.games id ≡ g
      → step_game kinds s moment id who command g ≡ accepted after reply → StillRepeatsOn (place t.games id) command
      → step_game kinds t again id who command (place t.games id) ≡ repeated reply
  on-game-again id who command None at is still = cc
  on-game-again id who command (Some (draughts game)) at is still =
      let of : IsGameOf kinds.draughts Draughts s game =
      in-place (IsLegalIn kinds s) s.games id (draughts game) legal.games at in
      let (later, stands, so) = game-again kinds kinds.draughts are_draughts Draughts draughts (λ g new is. is)
      (λ ply g is. is) s t moment again id who command game after reply at of is since still in
      rw stands so
  on-game-again id who command (Some (shogi game)) at is still =
      let of : IsGameOf kinds.shogi Shogi s game =
      in-place (IsLegalIn kinds s) s.games id (shogi game) legal.games at in
      let (later, stands, so) = game-again kinds kinds.shogi are_shogi Shogi shogi (λ g new is. is)
      (λ ply g is. is) s t moment again id who command game after reply at of is since still in
      rw stands so

  -- a ruling has its number in every later state
  ruling-again : (id number : ℕ) (ruling : Ruling) (who : Caller) (g : Option (AnyGame DM SM)) → place s.games id ≡ g
      → by_officer who (step_ruling kinds s moment id number ruling g) ≡ accepted after reply
      → by_officer who (step_ruling kinds t again id number ruling (place t.games id)) ≡ repeated reply
  ruling-again id number ruling who None at is =
      let by = officer-accepted who (step_ruling kinds s moment id number ruling None) after reply is in
      let none = by.1 in
      cc
  ruling-again id number ruling who (Some (draughts game)) at is =
      let by = officer-accepted who (step_ruling kinds s moment id number ruling (Some (draughts game))) after reply is
      in
      let (later, stands, repeats) = ruled-again kinds kinds.draughts draughts (λ g new is. is) s t moment id number
      ruling game after reply at by.1 since in
      rw (by.0, stands, repeats) refl
  ruling-again id number ruling who (Some (shogi game)) at is =
      let by = officer-accepted who (step_ruling kinds s moment id number ruling (Some (shogi game))) after reply is in
      let (later, stands, repeats) = ruled-again kinds kinds.shogi shogi (λ g new is. is) s t moment id number ruling
      game after reply at by.1 since in
      rw (by.0, stands, repeats) refl

  command-again : (who : Caller) (command : Command) → StillRepeats t command → Again who command
  command-again who (add_member name key) still is = member-again who name key is
  command-again who (add_event event) still is = event-again who event is
  command-again who (seat key event first second) still is = seat-again who key event first second is
  command-again who (import_record given) still is = import_again s t moment again who given after reply is to_t since
  command-again who (on_game id command) still is = on-game-again id who command (place s.games id) refl is still
  command-again who sweep still is = absurd still
  command-again Officer (open_challenge number event other first) still is = cc
  command-again (Member id) (open_challenge number event other first) still is =
      opening-again id number event other first is
  command-again Officer (withdraw_challenge number) still is = cc
  command-again (Member id) (withdraw_challenge number) still is = withdrawal-again id number is
  command-again Officer (answer_challenge challenger number accept) still is = cc
  command-again (Member id) (answer_challenge challenger number accept) still is =
      answer-again challenger number id accept is
  command-again who (new_key name number key) still is = key-again who name number key is
  command-again who (close_event event) still is = close-again who event is
  command-again who (rule id number ruling) still is = ruling-again id number ruling who (place s.games id) refl is

module _ {DP DM DE DT SP SM SE ST : Type 0} (kinds : ClubRules DP DM DE DT SP SM SE ST) where
  -- what stands after an accepted request and those after it is later than what stood before
  pub accepted-later : (s after : State DM SM) (r : Request) (reply : Reply) (between : List Request)
      → step kinds s r ≡ accepted after reply → IsLater kinds s (fold kinds after between)
  accepted-later s after r reply between is =
      let stands : next kinds s r ≡ after = ap (state_after s) is in
      let to_after : IsLater kinds s after = rw (← stands) (next-later kinds s r) in
      later-trans kinds s after (fold kinds after between) to_after (fold-later kinds after between)

  -- whoever gave an accepted request can give it again
  pub by-accepted : (s after : State DM SM) (moment : ℕ) (command : Command) (reply : Reply) (who : Option Caller)
      → step_by kinds s moment who command ≡ accepted after reply → (c : Caller) × (who ≡ Some c)
      × (step_command kinds s moment c command ≡ accepted after reply)
  by-accepted s after moment command reply None is = cc
  by-accepted s after moment command reply (Some who) is = (who, refl, is)

  pub answers-again : AreRules kinds.draughts → AreRules kinds.shogi → RepeatsImport kinds → (s after : State DM SM)
      (r again : Request) (reply : Reply) (between : List Request) → IsLegalState kinds s
      → step kinds s r ≡ accepted after reply → IsSentAgain s (fold kinds after between) r again
      → StillRepeats (fold kinds after between) r.command
      → step kinds (fold kinds after between) again ≡ repeated reply
  answers-again are_draughts are_shogi import_again s after r again reply between legal is sent still =
      let t = fold kinds after between in
      let to_t = accepted-later s after r reply between is in
      let (who, who_is, step_is) = by-accepted s after (max r.moment s.last) r.command reply
      (caller_of s.members r.who) is
      in
      rw (sent.command, sent.caller, who_is)
      (command-again kinds are_draughts are_shogi import_again s t (max r.moment s.last) (max again.moment t.last)
      after reply
      legal to_t (fold-later kinds after between) who r.command still step_is)
