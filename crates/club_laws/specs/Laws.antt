-- Properties of the club's state machine.
use Rattle.std.specs.Prelude.{◌≡◌, ◌≤◌, ◌+◌, ◌==◌, ℕ, List, length, Option, Some, None, Bool, true, false, IsTrue}
use Rattle.std.specs.Prelude.{if◌then◌else◌, slice_get}
use Rattle.club_core.specs.ClubRules.{ClubRules}
use Rattle.club_requests.specs.Limits.{last_moment}
use Rattle.club_requests.specs.Outcome.{Reply, accepted, repeated, refused}
use Rattle.club_requests.specs.declared.refusals.Refusal.{Refusal}
use Rattle.club_requests.specs.declared.refusals.Refusal.TheVariants.{GameOver, WrongPly}
use Rattle.club_requests.specs.declared.requests.Caller.TheVariants as caller
use Rattle.club_core.specs.Members as members
use Rattle.club_core.specs.Members.{keys_of}
use Rattle.club_core.specs.Step.{GameCommand, offer_draw, is_over}
use Rattle.club_core.specs.State.{AnyGame, draughts, shogi, State, Command, on_game, sweep, Request, place}
use Rattle.club_core.specs.State.{caller_of, key_holder, takes, is_accepted, step, next, fold, accepted_of}
use Rattle.club_core.specs.LegalState.{IsLegalState}

-- the command can still be repeated: a draw offer is still for the next ply, and the command is no sweep
module _ {DM SM : Type 0} where
  -- the ply is the next one of the game
  abbrev pub HasNextPly : ℕ → Option (AnyGame DM SM) → Type 0
  HasNextPly ply None = ⊥
  HasNextPly ply (Some (draughts game)) = ply ≡ length game.entries + 1
  HasNextPly ply (Some (shogi game)) = ply ≡ length game.entries + 1

  -- the command can be repeated in this game: an offer of a draw until the next move, any other always
  abbrev pub StillRepeatsOn : Option (AnyGame DM SM) → GameCommand → Type 0
  StillRepeatsOn game (offer_draw ply) = HasNextPly ply game
  StillRepeatsOn game _ = Unit {0}

  -- the command can be repeated in this state: an offer of a draw until the next move, a sweep never
  abbrev pub StillRepeats : State DM SM → Command → Type 0
  StillRepeats s (on_game id command) = StillRepeatsOn (place s.games id) command
  StillRepeats s sweep = ⊥
  StillRepeats s _ = Unit {0}

  -- a request gives the command of an earlier one, and its caller now is the caller of then
  pub record IsSentAgain (before now : State DM SM) (earlier again : Request) : Type 0 where
    pub command : again.command ≡ earlier.command
    pub caller : caller_of now.members again.who ≡ caller_of before.members earlier.who

-- the refusal of a draw offer that is sent again after a later move, given whether the game is over
abbrev pub passed_offer : Bool → Refusal
passed_offer true = GameOver
passed_offer false = WrongPly

module _ {DP DM DE DT SP SM SE ST : Type 0} (rules : ClubRules DP DM DE DT SP SM SE ST) where
  -- folding only the accepted requests gives the same state
  abbrev pub FoldsAccepted : Type 0
  FoldsAccepted = (s : State DM SM) (rs : List Request) → fold rules s (accepted_of rules s rs) ≡ fold rules s rs

  -- a refused or repeated request leaves the state unchanged
  abbrev pub LeavesState : Type 0
  LeavesState = (s : State DM SM) (r : Request) → is_accepted (step rules s r) ≡ false → next rules s r ≡ s

  -- the timestamp of the last accepted request never decreases
  abbrev pub TimestampsNeverDecrease : Type 0
  TimestampsNeverDecrease = (s : State DM SM) (r : Request) → s.last ≤ (next rules s r).last

  -- a request with a valid timestamp, whose command the club takes, keeps a legal state legal
  abbrev pub KeepsLegal : Type 0
  KeepsLegal =
      (s : State DM SM) (r : Request) → r.moment ≤ last_moment → IsTrue (takes s r.command) → IsLegalState rules s →
      IsLegalState rules (next rules s r)

  -- the newest key of a member is that of the member, an earlier one nobody's
  abbrev pub KeysIdentify : Type 0
  KeysIdentify =
      (s : State DM SM) (id n : ℕ) (m : members.Member) (key : List ℕ) → IsLegalState rules s →
      place s.members id ≡ Some m → slice_get (keys_of m) n ≡ Some key →
      caller_of s.members (key_holder key) ≡ (if n == length m.later then Some (caller.Member id) else None)

  -- Idempotence: an accepted command, sent again by the same caller under the key of that time, at any time and after
  -- any requests, is repeated with the same reply. A draw offer is repeated until the next move, a sweep never, every
  -- other command always.
  abbrev pub IsIdempotent : Type 0
  IsIdempotent =
      (s after : State DM SM) (r again : Request) (reply : Reply) (between : List Request) →
      IsLegalState rules s → step rules s r ≡ accepted after reply →
      IsSentAgain s (fold rules after between) r again → StillRepeats (fold rules after between) r.command →
      step rules (fold rules after between) again ≡ repeated reply

  -- the game exists and is over
  abbrev pub is_over_in : Option (AnyGame DM SM) → Bool
  is_over_in None = false
  is_over_in (Some (draughts game)) = is_over rules.draughts game
  is_over_in (Some (shogi game)) = is_over rules.shogi game

  -- A draw offer that is sent again by the same caller after a later move is refused, because the game is over or
  -- because of its ply.
  abbrev pub RefusesPassedOffers : Type 0
  RefusesPassedOffers =
      (s after : State DM SM) (r again : Request) (id ply : ℕ) (reply : Reply) (between : List Request) →
      IsLegalState rules s → IsLegalState rules (fold rules after between) →
      r.command ≡ on_game id (offer_draw ply) → step rules s r ≡ accepted after reply →
      IsSentAgain s (fold rules after between) r again →
      ¬ HasNextPly ply (place (fold rules after between).games id) →
      step rules (fold rules after between) again
      ≡ refused (passed_offer (is_over_in (place (fold rules after between).games id)))
