-- What an accepted command on a game found and what it leaves, which is a later game.
use Rattle.std.proofs.Common.{◌≡◌, ℕ, ◌+◌, List, [], ◌∷◌, ◌++◌, length, Option, Some, None, Result, Ok, Err, Bool, true}
use Rattle.std.proofs.Common.{false, ◌&&◌, not, refl, ap, sym, ◌∙◌, arith, append_assoc, append-nil, length-append}
use Rattle.std.specs.Prelude.{is_some, ◌==◌, if◌then◌else◌}
use Rattle.std.proofs.lemmas.Bool.{eq-eqb}
use Rattle.std.proofs.lemmas.Bool.Decides.{nat_tests}
use Rattle.squares.specs.declared.sides.Side.{Side}
use Rattle.squares.specs.declared.sides.Side.TheVariants.{First, Second}
use Rattle.squares.specs.Sides.{other, same_side}
use Rattle.club_rules.specs.declared.refusals.MoveRefusal.{MoveRefusal}
use Rattle.club_rules.specs.GameRules.{GameRules}
use Rattle.club_requests.specs.declared.outside_end.OutsideEnd.{OutsideEnd}
use Rattle.club_requests.specs.declared.outside_end.OutsideEnd.TheVariants.{Resigned, Agreed, Time, Declared}
use Rattle.club_requests.specs.declared.requests.Caller.{Caller}
use Rattle.club_requests.specs.declared.rulings.Verdict.{Verdict}
use Rattle.club_requests.specs.declared.refusals.Refusal.{Refusal}
use Rattle.club_requests.specs.declared.refusals.Refusal.TheVariants.{NotAllowed, NotInThisGame}
use Rattle.club_requests.specs.Outcome.{Reply, draw_offered, accepted, first_refusal, unless, unless_repeat}
use Rattle.club_core.specs.declared.rows.Offer.{Offer}
use Rattle.club_core.specs.Events.{Terms}
use Rattle.club_core.specs.Rulings.{GivenRuling, verdict_of}
use Rattle.club_core.specs.Game.{Game, Entry, last_position, turn_of, end_with, rule_end}
use Rattle.club_core.specs.Step.{GameCommand, move, offer_draw, accept_draw, resign, claim_time, declare, may_give}
use Rattle.club_core.specs.Step.{asked_ply, caller_side, has_offer, repeat_of_offer, played, offered, ended, checked}
use Rattle.club_core.specs.Step.{is_over, move_at, repeat_of, reply_of_move, reply_of_end, ends, plays}
use Rattle.club_core.specs.Step.{repeat_of_accept}
use Rattle.club_core.specs.Step.{repeat_of_resign, repeat_of_claim, repeat_of_declare, move_tests, offer_tests}
use Rattle.club_core.specs.Step.{accept_tests, resign_tests, claim_tests, declare_tests, move_refusal, offer_refusal}
use Rattle.club_core.specs.Step.{side_step, by_side, game_step, is_overdue, is_late, swept}
use Rattle.club_core.proofs.Proved.{AreFrom, NoneHolds, are_from-append, are_from-fewer, none-holds}
use Rattle.club_laws.proofs.Accepts.{unless-accepted, accepted-same, if-accepted}

-- one list begins with the other
abbrev pub Begins : {A : Type 0} → List A → List A → Type 0
Begins {A} xs ys = (more : List A) × (ys ≡ xs ++ more)

pub begins-refl : {A : Type 0} (xs : List A) → Begins xs xs
begins-refl xs = ([], sym (append-nil xs))

pub begins-trans : {A : Type 0} (xs ys zs : List A) → Begins xs ys → Begins ys zs → Begins xs zs
begins-trans xs ys zs first second =
    (first.0 ++ second.0, second.1 ∙ (ap (λ l. l ++ second.0) first.1 ∙ append_assoc xs first.0 second.0))

begins-length : {A : Type 0} (xs ys : List A) (begins : Begins xs ys) → length ys ≡ length xs + length begins.0
begins-length xs ys begins = ap length begins.1 ∙ length-append xs begins.0

-- an offer of a ply is one side's or the other's
of-neither : (a b : Side) (c : Bool) → (same_side a b && c) ≡ false → (same_side a (other b) && c) ≡ false → c ≡ false
of-neither First First c is_not nor = is_not
of-neither Second Second c is_not nor = is_not
of-neither First Second c is_not nor = nor
of-neither Second First c is_not nor = nor

-- where neither side has offered a draw at a ply, no offer of that ply stands
no-offer : (o : Option Offer) (offer : Offer) (side : Side) (ply : ℕ) → o ≡ Some offer → has_offer o side ply ≡ false
    → has_offer o (other side) ply ≡ false → offer.ply ≡ ply → ⊥
no-offer None offer side ply at is_not nor same = cc
no-offer (Some standing) offer side ply at is_not nor same =
    let e : standing ≡ offer = cc in
    let this_ply : (standing.ply == ply) ≡ true = eq-eqb standing.ply ply (ap (λ o. o.ply) e ∙ same) in
    let both : false ≡ true = sym (of-neither standing.side side (standing.ply == ply) is_not nor) ∙ this_ply in
    absurd cc

no-repeat : (b : Bool) (reply : Reply) → (if b then Some reply else None) ≡ None → b ≡ false
no-repeat true reply is = cc
no-repeat false reply is = refl

abbrev rulings_in : {M : Type 0} → Game M → List GivenRuling
rulings_in game = game.rulings

-- a ply that is the next
pub is-next : (ply n : ℕ) → not (ply == n + 1) ≡ false → ply ≡ n + 1
is-next ply n is = grind (arith, nat_tests)

module _ {P M E T : Type 0} (laws : GameRules P M E T) where
  pub record IsLaterGame (game new : Game M) : Type 0 where
    -- its key, its event, its players and its start stay
    pub head : new ≡ record game {
      entries = new.entries;
      offer = new.offer;
      outside = new.outside;
      rulings = new.rulings;
    }
    pub entries : Begins game.entries new.entries
    -- a game that is over stays so, and stays as it is but for further rulings
    pub over : is_over laws game ≡ true → (new ≡ record game { rulings = new.rulings }) × (is_over laws new ≡ true)
    -- further rulings came after its moves
    pub rulings : (more : List GivenRuling) × (new.rulings ≡ game.rulings ++ more)
        × AreFrom more (length game.entries)
    -- an offer of the next ply stands until a move is made
    pub offered : (offer : Offer) → game.offer ≡ Some offer → offer.ply ≡ length game.entries + 1
        → length new.entries ≡ length game.entries → new.offer ≡ Some offer

  pub later-game-refl : (game : Game M) → IsLaterGame game game
  later-game-refl game =
      record {
        head = refl;
        entries = begins-refl game.entries;
        over = λ is. (refl, is);
        rulings = ([], sym (append-nil game.rulings), tt);
        offered = λ offer is next same. is;
      }

  pub later-game-trans : (a b c : Game M) → IsLaterGame a b → IsLaterGame b c → IsLaterGame a c
  later-game-trans a b c first second =
      record {
        head = second.head
            ∙ ap
            (λ (g : Game M). record g {
              entries = c.entries;
              offer = c.offer;
              outside = c.outside;
              rulings = c.rulings;
            }) first.head;
        entries = begins-trans a.entries b.entries c.entries first.entries second.entries;
        over = λ is.
            let (same, over_b) = first.over is in
            let (same_c, over_c) = second.over over_b in
            (same_c ∙ ap (λ (g : Game M). record g { rulings = c.rulings }) same, over_c);
        rulings =
            let (more, grown, from) = first.rulings in
            let (further, grown_then, from_then) = second.rulings in
            let count_b = begins-length a.entries b.entries first.entries in (
              more ++ further,
              grown_then ∙ (ap (λ l. l ++ further) grown ∙ append_assoc a.rulings more further),
              are_from-append more further (length a.entries) from
                  (are_from-fewer further (length a.entries) (length b.entries) (omega (arith, count_b)) from_then),
            );
        offered = λ offer is next same.
            let count_b = begins-length a.entries b.entries first.entries in
            let count_c = begins-length b.entries c.entries second.entries in
            let between : length b.entries ≡ length a.entries = omega (arith, count_b, count_c, same) in
            second.offered offer (first.offered offer is next between) (omega (arith, between, next))
            (omega (arith, between, same));
      }

  -- a later game is of the same event, and its callers give commands for the same sides
  pub same-event : (game later : Game M) → IsLaterGame game later → later.event ≡ game.event
  same-event game later since = ap (λ g. g.event) since.head

  pub same-side : (game later : Game M) → IsLaterGame game later → (who : Caller) (ply : ℕ) (side : Option Side)
      → caller_side game.first game.second who ply ≡ side → caller_side later.first later.second who ply ≡ side
  same-side game later since who ply side is = rw (ap (λ g. g.first) since.head, ap (λ g. g.second) since.head) is

  -- a game with an end from outside is over
  pub ended-over : (game : Game M) (end : OutsideEnd) → is_over laws (ended game end) ≡ true
  ended-over game end = some (rule_end laws game) (verdict_of game.rulings)
    where
      some : (e : Option E) (v : Option Verdict) → is_some (end_with e v (Some end)) ≡ true
      some (Some e) v = refl
      some None (Some v) = refl
      some None None = refl

module _ {P M E T : Type 0} (laws : GameRules P M E T) (terms : Terms) (game : Game M) (moment : ℕ) where
  -- what an accepted command of a side found: each began with that the game is not over
  abbrev pub Finds : Side → GameCommand → Type 0
  Finds side (move ply text) = NoneHolds (move_tests laws terms game moment side ply text)
  Finds side (offer_draw ply) = NoneHolds (offer_tests laws game side ply) × (laws.has_draw_offers ≡ true)
      × (has_offer game.offer side ply ≡ false)
  Finds side (accept_draw ply) = NoneHolds (accept_tests laws game side ply) × (laws.has_draw_offers ≡ true)
  Finds side resign = NoneHolds (resign_tests laws game side)
  Finds side claim_time = NoneHolds (claim_tests laws terms game moment side)
  Finds side (declare ply) = NoneHolds (declare_tests laws terms game side ply)

  abbrev pub IsEnded : OutsideEnd → Game M → Reply → Type 0
  IsEnded end new reply = (ended game end ≡ new) × (reply_of_end laws game end ≡ reply)

  -- what it leaves, and its answer
  abbrev pub Leaves : Side → GameCommand → Game M → Reply → Type 0
  Leaves side (move ply text) new reply = (m : M)
      × (checked laws (last_position laws game) (laws.read_move (last_position laws game) text) ≡ Ok m)
      × (played game m moment ≡ new)
      × (reply_of_move laws terms (played game m moment) (length game.entries + 1) m ≡ reply)
  Leaves side (offer_draw ply) new reply = (offered game (record { side = side; ply = ply }) ≡ new)
      × (draw_offered ply ≡ reply)
  Leaves side (accept_draw ply) new reply = IsEnded Agreed new reply
  Leaves side resign new reply = IsEnded Resigned new reply
  Leaves side claim_time new reply = IsEnded Time new reply
  Leaves side (declare ply) new reply = IsEnded Declared new reply

  plays-accepted : (o : Result M MoveRefusal) (new : Game M) (reply : Reply)
      → plays laws terms game moment o ≡ accepted new reply → (m : M) × (o ≡ Ok m) × (played game m moment ≡ new)
      × (reply_of_move laws terms (played game m moment) (length game.entries + 1) m ≡ reply)
  plays-accepted (Err refusal) new reply is = cc
  plays-accepted (Ok m) new reply is =
      let same = accepted-same (played game m moment) new _ reply is in
      (m, refl, same.0, same.1)

  ends-accepted : (end : OutsideEnd) (repeat : Option Reply) (tests : List (Bool × Refusal)) (new : Game M)
      (reply : Reply) → unless_repeat repeat (unless (first_refusal tests) (ends laws game end)) ≡ accepted new reply
      → NoneHolds tests × IsEnded end new reply
  ends-accepted end repeat tests new reply is =
      let parts = unless-accepted repeat (first_refusal tests) (ends laws game end) new reply is in
      (none-holds tests parts.1, accepted-same (ended game end) new (reply_of_end laws game end) reply parts.2)

  side-accepts : (side : Side) (command : GameCommand) (new : Game M) (reply : Reply)
      → side_step laws terms game moment side command ≡ accepted new reply
      → Finds side command × Leaves side command new reply
  side-accepts side (move ply text) new reply is =
      let parts = unless-accepted (repeat_of laws terms game ply (move_at game ply) side text)
      (move_refusal laws terms game moment side ply text) _ new reply is in
      (none-holds (move_tests laws terms game moment side ply text) parts.1, plays-accepted _ new reply parts.2)
  side-accepts side (offer_draw ply) new reply is =
      let given = if-accepted laws.has_draw_offers _ NotInThisGame new reply is in
      let parts = unless-accepted (repeat_of_offer game.offer side ply) (offer_refusal laws game side ply) _ new reply
      given.1 in
      let fresh = no-repeat (has_offer game.offer side ply) (draw_offered ply) parts.0 in
      ((none-holds (offer_tests laws game side ply) parts.1, given.0, fresh), accepted-same _ new _ reply parts.2)
  side-accepts side (accept_draw ply) new reply is =
      let given = if-accepted laws.has_draw_offers _ NotInThisGame new reply is in
      let both = ends-accepted Agreed (repeat_of_accept laws game side ply) (accept_tests laws game side ply) new reply
      given.1 in
      ((both.0, given.0), both.1)
  side-accepts side resign new reply is =
      ends-accepted Resigned (repeat_of_resign laws game side) (resign_tests laws game side) new reply is
  side-accepts side claim_time new reply is =
      ends-accepted Time (repeat_of_claim laws game side) (claim_tests laws terms game moment side) new reply is
  side-accepts side (declare ply) new reply is = ends-accepted Declared (repeat_of_declare laws terms game side ply)
      (declare_tests laws terms game side ply) new reply is

  module _ (running : is_over laws game ≡ false) where
    -- what a running game becomes is a later one, where its entries grow and an offer of the next ply stays until then
    changed-later : (entries : List (Entry M)) (offer : Option Offer) (outside : Option OutsideEnd)
        → Begins game.entries entries
        → ((old : Offer) → game.offer ≡ Some old → old.ply ≡ length game.entries + 1
        → length entries ≡ length game.entries → offer ≡ Some old)
        → IsLaterGame laws game (record game { entries = entries; offer = offer; outside = outside })
    changed-later entries offer outside begins offered =
        record {
          head = refl;
          entries = begins;
          over = λ is. let both : false ≡ true = sym running ∙ is in absurd cc;
          rulings = ([], sym (append-nil game.rulings), tt);
          offered = offered;
        }

    ended-later : (new : Game M) (end : OutsideEnd) → ended game end ≡ new → IsLaterGame laws game new
    ended-later new end is =
        rw (← is)
        (changed-later game.entries game.offer (Some end) (begins-refl game.entries) (λ offer is next same. is))

  side-later : (side : Side) (command : GameCommand) (new : Game M) (reply : Reply) → Finds side command
      → Leaves side command new reply → IsLaterGame laws game new
  side-later side (move ply text) new reply found left =
      let (m, checked_is, stands, answer) = left in
      let e : Entry M = record { made = m; moment = moment } in
      let count : length (game.entries ++ e ∷ []) ≡ length game.entries + 1 = simp length-append in
      rw (← stands)
      (changed-later found.0 (game.entries ++ e ∷ []) None game.outside (e ∷ [], refl)
      (λ offer is next same. absurd (omega (arith, count, same))))
  side-later side (offer_draw ply) new reply found left =
      rw (← left.0)
      (changed-later found.0.0 game.entries (Some (record { side = side; ply = ply })) game.outside
      (begins-refl game.entries)
      (λ offer at next same. absurd
      (no-offer game.offer offer side ply at found.2 found.0.1.1.0
      (next ∙ sym (is-next ply (length game.entries) found.0.1.0)))))
  side-later side (accept_draw ply) new reply found left = ended-later found.0.0 new Agreed left.0
  side-later side resign new reply found left = ended-later found.0 new Resigned left.0
  side-later side claim_time new reply found left = ended-later found.0 new Time left.0
  side-later side (declare ply) new reply found left = ended-later found.0 new Declared left.0

  -- it leaves the rulings
  side-rulings : (side : Side) (command : GameCommand) (new : Game M) (reply : Reply) → Leaves side command new reply
      → new.rulings ≡ game.rulings
  side-rulings side (move ply text) new reply left = ap (λ g. g.rulings) (sym left.2)
  side-rulings side (offer_draw ply) new reply left = ap (λ g. g.rulings) (sym left.0)
  side-rulings side (accept_draw ply) new reply left = ap (λ g. g.rulings) (sym left.0)
  side-rulings side resign new reply left = ap (λ g. g.rulings) (sym left.0)
  side-rulings side claim_time new reply left = ap (λ g. g.rulings) (sym left.0)
  side-rulings side (declare ply) new reply left = ap (λ g. g.rulings) (sym left.0)

  -- an accepted command was given by one who may, for a side, and leads to a later game
  pub record WasGiven (who : Caller) (command : GameCommand) (new : Game M) (reply : Reply) : Type 0 where
    pub may : may_give who command ≡ true
    pub side : Side
    pub of_side : caller_side game.first game.second who (asked_ply command) ≡ Some side
    pub found : Finds side command
    pub left : Leaves side command new reply
    pub later : IsLaterGame laws game new
    pub rulings : new.rulings ≡ game.rulings

  pub was-given : (who : Caller) (command : GameCommand) (new : Game M) (reply : Reply)
      → game_step laws terms game moment who command ≡ accepted new reply → WasGiven who command new reply
  was-given who command new reply is =
      let given = if-accepted (may_give who command) _ NotAllowed new reply is in
      for-side (caller_side game.first game.second who (asked_ply command)) refl given.1
    where
      for-side : (o : Option Side) → caller_side game.first game.second who (asked_ply command) ≡ o
          → by_side laws terms game moment o command ≡ accepted new reply → WasGiven who command new reply
      for-side None of_side step_is = cc
      for-side (Some side) of_side step_is =
          let both = side-accepts side command new reply step_is in
          record {
            may = (if-accepted (may_give who command) _ NotAllowed new reply is).0;
            side = side;
            of_side = of_side;
            found = both.0;
            left = both.1;
            later = side-later side command new reply both.0 both.1;
            rulings = side-rulings side command new reply both.1;
          }

  -- a sweep ends running games alone
  pub swept-game-later : IsLaterGame laws game (swept laws terms game moment)
  swept-game-later = late-later (is_over laws game) (is_overdue laws terms game moment) refl
    where
      late-later : (over late : Bool) → is_over laws game ≡ over
          → IsLaterGame laws game (if not over && late then ended game Time else game)
      late-later true late is = later-game-refl laws game
      late-later false true is = ended-later is (ended game Time) Time refl
      late-later false false is = later-game-refl laws game

  pub swept-rulings : (swept laws terms game moment).rulings ≡ game.rulings
  swept-rulings = late-rulings (is_late laws terms game moment)
    where
      late-rulings : (late : Bool) → rulings_in (if late then ended game Time else game) ≡ game.rulings
      late-rulings true = refl
      late-rulings false = refl
