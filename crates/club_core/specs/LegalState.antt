-- A legal state of the club: its games are legal, values and counts are within limits, and all references exist.
use Rattle.std.specs.Prelude.{◌≡◌, ◌≢◌, ◌+◌, ◌<◌, ◌≤◌, ℕ, List, [], length, Option, Some, None, false, IsTrue}
use Rattle.std.specs.Prelude.{IsSome, IfSome, slice_get}
use Rattle.club_rules.specs.declared.names.GameKind.{GameKind}
use Rattle.club_rules.specs.declared.names.GameKind.TheVariants.{Draughts, Shogi}
use Rattle.club_rules.specs.GameRules.{GameRules}
use Rattle.club_core.specs.ClubRules.{ClubRules}
use Rattle.club_core.specs.declared.challenges.Challenge.{Challenge}
use Rattle.club_core.specs.declared.challenges.ChallengeState.TheVariants.{Accepted}
use Rattle.club_requests.specs.declared.outside_end.OutsideEnd.TheVariants.{Time}
use Rattle.club_requests.specs.Limits.{last_moment, most_members, most_events, most_games, is_name, is_member_key}
use Rattle.club_requests.specs.Limits.{is_challenge_number, is_budget, is_increment, most_keys}
use Rattle.club_core.specs.Members.{Member, keys_of}
use Rattle.club_core.specs.Events.{Event}
use Rattle.club_core.specs.Challenges.{key_of_challenge, pairing_for}
use Rattle.club_core.specs.Game.{Game, clocks_of, left_of, turn_of}
use Rattle.club_core.specs.Legal.{IsLegalGame}
use Rattle.club_core.specs.State.{AnyGame, draughts, shogi, State, place, key_of, pairing_of, rulings_of}

-- the predicate holds for each element
abbrev pub Each : {A : Type 0} → (A → Type 0) → List A → Type 0
Each {A} IsSo xs = (n : ℕ) (x : A) → slice_get xs n ≡ Some x → IsSo x

-- the values of `part` are unique
abbrev pub HaveUniqueKeys : {A B : Type 0} → (A → B) → List A → Type 0
HaveUniqueKeys {A} part xs =
    (i j : ℕ) (x y : A) → slice_get xs i ≡ Some x → slice_get xs j ≡ Some y → part x ≡ part y → i ≡ j

-- the values of `part` are unique among the elements that have one
abbrev pub HaveUniqueKeysIfAny : {A B : Type 0} → (A → Option B) → List A → Type 0
HaveUniqueKeysIfAny {A} {B} part xs =
    (i j : ℕ) (x y : A) (b : B) → slice_get xs i ≡ Some x → slice_get xs j ≡ Some y → part x ≡ Some b → part y ≡ Some b
    → i ≡ j

-- the name and the keys of a member are valid
pub record IsLegalMember (m : Member) : Type 0 where
  pub name : IsTrue (is_name m.name)
  pub key : IsTrue (is_member_key m.key)
  pub later : Each (λ k. IsTrue (is_member_key k)) m.later
  pub later_count : length m.later ≤ most_keys

-- no two keys are the same, of all that the members have or had
abbrev pub HaveUniqueMemberKeys : List Member → Type 0
HaveUniqueMemberKeys members =
    (i j a b : ℕ) (m n : Member) (k : List ℕ) → slice_get members i ≡ Some m → slice_get members j ≡ Some n
    → slice_get (keys_of m) a ≡ Some k → slice_get (keys_of n) b ≡ Some k → (i ≡ j) × (a ≡ b)

-- the name and the terms of an event are valid
pub record IsLegalEvent (e : Event) : Type 0 where
  pub name : IsTrue (is_name e.name)
  pub budget : IsTrue (is_budget e.terms.budget)
  pub increment : IsTrue (is_increment e.terms.increment)

-- a game of the club, in an event of its kind and between two members
pub record IsGameOf {DM SM P M E T : Type 0} (rules : GameRules P M E T) (kind : GameKind) (s : State DM SM)
    (game : Game M) : Type 0 where
  pub event : Event
  pub in_event : place s.events game.event ≡ Some event
  pub of_kind : event.game ≡ kind
  pub legal : IsLegalGame rules event.terms game
  pub first : IsSome (place s.members game.first)
  pub second : IsSome (place s.members game.second)
  pub key : IfSome game.key (λ k. IsTrue (is_name k))
  -- no timestamp is later than that of the last accepted request
  pub start : game.start ≤ s.last
  pub entries : Each (λ e. e.moment ≤ s.last) game.entries
  pub rulings : Each (λ r. r.moment ≤ s.last) game.rulings
  -- a side that lost on time had exceeded its limit when the last request was accepted
  pub lost_by_time : game.outside ≡ Some Time
      → (clocks_of game event.terms).since + left_of (turn_of rules game) (clocks_of game event.terms) < s.last

module _ {DP DM DE DT SP SM SE ST : Type 0} (rules : ClubRules DP DM DE DT SP SM SE ST) where
  -- the game is legal in this state, by the rules of its kind
  abbrev pub IsLegalIn : State DM SM → AnyGame DM SM → Type 0
  IsLegalIn s (draughts game) = IsGameOf rules.draughts Draughts s game
  IsLegalIn s (shogi game) = IsGameOf rules.shogi Shogi s game

-- a challenge of one member to another, to a game of an event
pub record IsLegalChallenge {DM SM : Type 0} (s : State DM SM) (c : Challenge) : Type 0 where
  pub number : IsTrue (is_challenge_number c.number)
  pub member : IsSome (place s.members c.member)
  pub other : IsSome (place s.members c.other)
  pub apart : c.member ≢ c.other
  pub event : IsSome (place s.events c.event)
  -- an accepted challenge refers to a game with its event, players and sides
  pub accepted : (id : ℕ) → c.standing ≡ Accepted id →
      (game : AnyGame DM SM) × (place s.games id ≡ Some game) × (pairing_of game ≡ pairing_for c)

-- what only an arbiter can do was never done
pub record IsWithoutArbiter {DM SM : Type 0} (s : State DM SM) : Type 0 where
  pub keys : Each (λ m. m.later ≡ []) s.members
  pub events : Each (λ e. e.closed ≡ None) s.events
  pub games : Each (λ g. rulings_of g ≡ []) s.games

-- the invariant of the club's state
pub record IsLegalState {DP DM DE DT SP SM SE ST : Type 0} (rules : ClubRules DP DM DE DT SP SM SE ST)
    (s : State DM SM) : Type 0 where
  pub last : s.last ≤ last_moment
  pub members : Each IsLegalMember s.members
  pub member_count : length s.members ≤ most_members
  pub member_names : HaveUniqueKeys (λ m. m.name) s.members
  pub member_keys : HaveUniqueMemberKeys s.members
  pub events : Each IsLegalEvent s.events
  pub event_count : length s.events ≤ most_events
  pub event_names : HaveUniqueKeys (λ e. e.name) s.events
  pub closings : Each (λ e. IfSome e.closed (λ moment. moment ≤ s.last)) s.events
  pub games : Each (IsLegalIn rules s) s.games
  pub game_count : length s.games ≤ most_games
  pub game_keys : HaveUniqueKeysIfAny (λ g. key_of g) s.games
  pub challenges : Each (IsLegalChallenge s) s.challenges
  pub challenge_numbers : HaveUniqueKeys key_of_challenge s.challenges
  pub without_arbiter : s.has_arbiter ≡ false → IsWithoutArbiter s
