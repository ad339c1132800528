-- What an accepted seating found, and that it is found again in each later state.
use Rattle.std.proofs.Common.{◌≡◌, ◌≢◌, ℕ, suc, ◌+◌, ◌<◌, List, [], ◌∷◌, ◌++◌, length, Option, Some, None, Bool, true}
use Rattle.std.proofs.Common.{false, ◌&&◌, refl, ap, ◌∙◌, arith, add-one}
use Rattle.std.specs.Prelude.{is_some, slice_get, nat_le, ◌==◌}
use Rattle.std.specs.Cmp.Derive.{both_true}
use Rattle.std.proofs.lemmas.Bool.{not-true, not-false, eqb-false, eq-eqb}
use Rattle.std.proofs.lemmas.Bool.Decides.{nat_tests}
use Rattle.club_rules.specs.declared.names.GameKind.{GameKind}
use Rattle.club_rules.specs.declared.names.GameKind.TheVariants.{Draughts, Shogi}
use Rattle.club_requests.specs.Limits.{most_games, is_name}
use Rattle.club_requests.specs.Outcome.{Reply, game_seated, accepted}
use Rattle.club_core.specs.ClubRules.{ClubRules}
use Rattle.club_core.specs.declared.seats.KeyedGame.{KeyedGame}
use Rattle.club_core.specs.declared.seats.Pairing.{Pairing}
use Rattle.club_core.specs.Members.{find_id}
use Rattle.club_core.specs.Events.{has_event_name}
use Rattle.club_core.specs.Seats.{has_member_name, same_seats, are_distinct, seat_tests, seat_refusal, pair, seat_found}
use Rattle.club_core.specs.State.{AnyGame, State, place, has_key, is_key, key_of, pairing_of, keyed_at, game_under}
use Rattle.club_core.specs.State.{rulings_of, seated_as, with_imported}
use Rattle.club_core.proofs.Proved.{none-holds, not-some}
use Rattle.club_laws.proofs.Lists.{both-true, find_id-found, find_id-none, find_id-new}
use Rattle.club_laws.proofs.Lists.{find_id-pointwise, at-last}
use Rattle.club_laws.proofs.Accepts.{unless-accepted, accepted-same}
use Rattle.club_laws.proofs.Later.{IsLater, key-later, pairing-later}
use Rattle.club_laws.proofs.LaterParts.{event-named-later, named-later}

pub nat_le-false : (a b : ℕ) → nat_le a b ≡ false → b < a
nat_le-false a b is = grind (arith, nat_tests)

-- a seating that was accepted found its event and its members, no game under its key, and room for one
pub record WasSeated (event first second : Option ℕ) (under_key : Option KeyedGame) (games : ℕ) (key : List ℕ)
    (pairing : Pairing) (reply : Reply) : Type 0 where
  pub in_event : event ≡ Some pairing.event
  pub has_first : first ≡ Some pairing.first
  pub has_second : second ≡ Some pairing.second
  pub apart : pairing.first ≢ pairing.second
  pub named : is_name key ≡ true
  pub fresh : is_some under_key ≡ false
  pub room : games < most_games
  pub answer : game_seated (games + 1) ≡ reply

module _ (event : ℕ) (under_key : Option KeyedGame) (games : ℕ) (key : List ℕ) (pairing : Pairing) (reply : Reply) where
  pub pair-seated : (first second : Option ℕ) → is_some under_key ≡ false → is_name key ≡ true
      → are_distinct first second ≡ true → nat_le most_games games ≡ false
      → pair event first second games ≡ accepted pairing reply
      → WasSeated (Some event) first second under_key games key pairing reply
  pair-seated None second fresh named two room is = cc
  pair-seated (Some a) None fresh named two room is = cc
  pair-seated (Some a) (Some b) fresh named two room is =
      let same = accepted-same (record { event = event; first = a; second = b }) pairing (game_seated (games + 1)) reply
      is in
      rw (← same.0)
      (record {
        in_event = refl;
        has_first = refl;
        has_second = refl;
        apart = eqb-false a b (not-true _ two);
        named = named;
        fresh = fresh;
        room = nat_le-false _ _ room;
        answer = same.1;
      })

pub was-seated : (event first second : Option ℕ) (under_key : Option KeyedGame) (games : ℕ) (key : List ℕ)
    (pairing : Pairing) (reply : Reply) → seat_found event first second under_key games key ≡ accepted pairing reply
    → WasSeated event first second under_key games key pairing reply
was-seated None first second under_key games key pairing reply is = cc
was-seated (Some event) first second under_key games key pairing reply is =
    let parts = unless-accepted (same_seats event first second under_key)
    (seat_refusal under_key games key first second) (pair event first second games) pairing reply is in
    let tests = none-holds (seat_tests under_key games key first second) parts.1 in
    let good = both-true (is_name key) (are_distinct first second) (not-false _ tests.1.0) in
    pair-seated event under_key games key pairing reply first second tests.0 good.0 good.1 tests.1.1.0 parts.2

-- a game that is seated has its key and its pairing, whatever its kind
pub seated-key : (DM SM : Type 0) (kind : GameKind) (key : Option (List ℕ)) (pairing : Pairing) (moment : ℕ)
    → key_of {DM = DM} {SM = SM} (seated_as kind key pairing moment) ≡ key
seated-key DM SM Draughts key pairing moment = refl
seated-key DM SM Shogi key pairing moment = refl

pub seated-pairing : (DM SM : Type 0) (kind : GameKind) (key : Option (List ℕ)) (pairing : Pairing) (moment : ℕ)
    → pairing_of {DM = DM} {SM = SM} (seated_as kind key pairing moment) ≡ pairing
seated-pairing DM SM Draughts key pairing moment = refl
seated-pairing DM SM Shogi key pairing moment = refl

pub seated-rulings : (DM SM : Type 0) (kind : GameKind) (key : Option (List ℕ)) (pairing : Pairing) (moment : ℕ)
    → rulings_of {DM = DM} {SM = SM} (seated_as kind key pairing moment) ≡ []
seated-rulings DM SM Draughts key pairing moment = refl
seated-rulings DM SM Shogi key pairing moment = refl

module _ {DM SM : Type 0} where
  no-keyed : (games : List (AnyGame DM SM)) (id : Option ℕ)
      → ((k : ℕ) → id ≡ Some k → (g : AnyGame DM SM) × (place games k ≡ Some g)) → keyed_at games id ≡ None → id ≡ None
  no-keyed games None stands none = refl
  no-keyed games (Some k) stands none =
      let (g, at) = stands k refl in
      let some : ◌≡◌ {A = Option KeyedGame} (Some (record { game = k; pairing = pairing_of g })) None = rw at at none in
      absurd cc

  -- where no game stands under a key, a search for the key finds none
  no-game-under : (games : List (AnyGame DM SM)) (key : List ℕ) → is_some (game_under games key) ≡ false
      → find_id (has_key key) games ≡ None
  no-game-under games key none =
      no-keyed games (find_id (has_key key) games) (λ k is. let (g, at, _) = find_id-found (has_key key) games k is in
      (g, at)) (not-some (game_under games key) none)

  pub fresh-key : (games : List (AnyGame DM SM)) (key : List ℕ) → is_some (game_under games key) ≡ false
      → (n : ℕ) (g : AnyGame DM SM) → slice_get games n ≡ Some g → has_key key g ≡ false
  fresh-key games key none = find_id-none (has_key key) games (no-game-under games key none)

module _ {DP DM DE DT SP SM SE ST : Type 0} (kinds : ClubRules DP DM DE DT SP SM SE ST) (s t : State DM SM)
    (moment : ℕ) (key : List ℕ) (new : AnyGame DM SM) (has : has_key key new ≡ true)
    (fresh : is_some (game_under s.games key) ≡ false) (later : IsLater kinds (with_imported s moment new) t) where
  -- a game that was added is found by its key from then on
  pub added-found : find_id (has_key key) t.games ≡ Some (length s.games + 1)
  added-found =
      find_id-pointwise (has_key key) (s.games ++ new ∷ []) t.games (length s.games + 1)
      (λ n g is. let (other, stands, so) = later.games n g is in
      (other, stands, ap (is_key key) (key-later kinds g other so)))
      (find_id-new (has_key key) s.games new (no-game-under s.games key fresh) has)

  -- and a seating of the same members for the same event is answered again
  pub seats-again : (event first second : List ℕ) (pairing : Pairing) (reply : Reply) → pairing_of new ≡ pairing
      → WasSeated (find_id (has_event_name event) s.events) (find_id (has_member_name first) s.members)
      (find_id (has_member_name second) s.members) (game_under s.games key) (length s.games) key pairing reply
      → (find_id (has_event_name event) t.events ≡ Some pairing.event)
      ×
      (same_seats pairing.event (find_id (has_member_name first) t.members) (find_id (has_member_name second) t.members)
      (game_under t.games key) ≡ Some reply)
  seats-again event first second pairing reply of was =
      let (game, at, is_later) = later.games (length s.games) new (at-last s.games new) in
      let same : pairing_of game ≡ pairing = pairing-later kinds new game is_later ∙ of in
      let next_id : length s.games + 1 ≡ suc (length s.games) = add-one (length s.games) in
      let stands : place t.games (length s.games + 1) ≡ Some game = rw next_id at in
      let has_first : find_id (has_member_name first) t.members ≡ Some pairing.first =
      named-later first s.members t.members _ later.members was.has_first in
      let has_second : find_id (has_member_name second) t.members ≡ Some pairing.second =
      named-later second s.members t.members _ later.members was.has_second in
      let seats : (pairing.event == pairing.event && pairing.first == pairing.first && pairing.second == pairing.second)
      ≡ true =
      both_true (both_true (eq-eqb pairing.event pairing.event refl) (eq-eqb pairing.first pairing.first refl))
      (eq-eqb pairing.second pairing.second refl) in (
        event-named-later event s.events t.events _ later.events was.in_event,
        rw (has_first, has_second, added-found, stands, same, seats, was.answer) refl,
      )
