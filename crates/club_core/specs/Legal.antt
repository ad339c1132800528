-- A legal game: one that the rules, the clocks and the club allow.
use Rattle.std.specs.Prelude.{◌≡◌, ◌≢◌, ◌+◌, ◌-◌, ◌≤◌, ◌<◌, ℕ, zero, suc, List, [], ◌∷◌, length, Option, Some, None}
use Rattle.std.specs.Prelude.{true, IsSome, IfSome, slice_get}
use Rattle.squares.specs.declared.sides.Side.{Side}
use Rattle.squares.specs.declared.sides.Side.TheVariants.{First}
use Rattle.squares.specs.declared.sides.Score.{Score}
use Rattle.squares.specs.Sides.{other}
use Rattle.club_rules.specs.GameRules.{GameRules}
use Rattle.club_rules.specs.Line.{IsPlayedLine}
use Rattle.club_requests.specs.declared.outside_end.OutsideEnd.{OutsideEnd}
use Rattle.club_requests.specs.declared.outside_end.OutsideEnd.TheVariants.{Resigned, Agreed, Time, Declared, Recorded}
use Rattle.club_core.specs.declared.rows.Offer.{Offer}
use Rattle.club_requests.specs.Limits.{most_plies, most_rulings}
use Rattle.club_requests.specs.Rulings.{has_grant_time, verdict_in}
use Rattle.club_core.specs.Events.{Terms}
use Rattle.club_core.specs.Rulings.{GivenRuling, first_verdict, verdict_of}
use Rattle.club_core.specs.Game.{Entry, Game, Clocks, left_of, spend, after_rulings, moves_of, moments_of}
use Rattle.club_core.specs.Game.{opening_clocks, clocks_of, rule_end, last_position, turn_of}

-- Moves at these timestamps, this side moving first, were made in time, with what was granted before each of them, and
-- timestamps never decrease. So many plies were played before.
abbrev pub IsTimely : ℕ → List GivenRuling → ℕ → Side → List ℕ → Clocks → Type 0
IsTimely increment rulings plies side [] c = Unit {0}
IsTimely increment rulings plies side (m ∷ ms) c =
    let now = after_rulings rulings plies c in
    (now.since ≤ m)
    × (m - now.since ≤ left_of side now)
    × IsTimely increment rulings (suc plies) (other side) ms (spend increment side m now)

-- a valid draw offer: at the next ply of a running game whose rules have draws by agreement
pub record IsOffer {P M E T : Type 0} (rules : GameRules P M E T) (game : Game M) (offer : Offer) : Type 0 where
  pub allowed : rules.has_draw_offers ≡ true
  pub next_ply : offer.ply ≡ length game.entries + 1
  pub no_rule_end : rule_end rules game ≡ None

-- an imported game: it has a key and no draw offer, and all its moves have the timestamp of its start
pub record IsRecorded {M : Type 0} (game : Game M) : Type 0 where
  pub keyed : IsSome game.key
  pub no_offer : game.offer ≡ None
  pub at_once : (n : ℕ) (e : Entry M) → slice_get game.entries n ≡ Some e → e.moment ≡ game.start

-- what an end outside the rules needs: agreement needs a draw offer, a declaration needs an event and a position that
-- allow it, and the score of a record needs an imported game
abbrev pub MayEndBy : {P M E T : Type 0} → GameRules P M E T → Terms → Game M → OutsideEnd → Type 0
MayEndBy rules terms game Resigned = Unit {0}
MayEndBy rules terms game Time = Unit {0}
MayEndBy rules terms game Agreed = IsSome game.offer
MayEndBy rules terms game Declared =
    (terms.declares ≡ true) × (rules.can_declare (last_position rules game) ≡ true)
MayEndBy rules terms game (Recorded score) = IsRecorded game

-- the ruling ends the game
abbrev pub IsVerdict : GivenRuling → Type 0
IsVerdict r = IsSome (verdict_in r.ruling)

-- the timestamp of an entry that was looked up, or this one
abbrev pub moment_or : {M : Type 0} → ℕ → Option (Entry M) → ℕ
moment_or start None = start
moment_or start (Some e) = e.moment

-- the timestamp of the last of this many plies, or of the start
abbrev pub moment_at : {M : Type 0} → ℕ → List (Entry M) → ℕ → ℕ
moment_at start entries zero = start
moment_at start entries (suc n) = moment_or start (slice_get entries n)

-- a ruling of a game: it was given between two moves, its time is within the limits, and no move follows a verdict
pub record IsRulingOf {M : Type 0} (game : Game M) (r : GivenRuling) : Type 0 where
  pub plies : r.plies ≤ length game.entries
  pub after_move : moment_at game.start game.entries r.plies ≤ r.moment
  pub before_move : IfSome (slice_get game.entries r.plies) (λ e. r.moment ≤ e.moment)
  pub time : has_grant_time r.ruling ≡ true
  pub last : IsVerdict r → r.plies ≡ length game.entries

-- the rulings of a game, in the order in which they were given
pub record AreLegalRulings {P M E T : Type 0} (rules : GameRules P M E T) (terms : Terms) (game : Game M) : Type 0
  where
    pub count : length game.rulings ≤ most_rulings
    pub each : (n : ℕ) (r : GivenRuling) → slice_get game.rulings n ≡ Some r → IsRulingOf game r
    -- plies and timestamps never decrease, and no grant follows a verdict
    pub in_order : (n : ℕ) (r next : GivenRuling) → slice_get game.rulings n ≡ Some r
        → slice_get game.rulings (suc n) ≡ Some next
        → (r.plies ≤ next.plies) × (r.moment ≤ next.moment) × (IsVerdict r → IsVerdict next)
    -- the arbiter ends no game that its rules ended, and grants nothing after its last move
    pub verdict_alone : IsSome (verdict_of game.rulings) → rule_end rules game ≡ None
    pub before_rule_end : IsSome (rule_end rules game) → (n : ℕ) (r : GivenRuling)
        → slice_get game.rulings n ≡ Some r → r.plies < length game.entries
    -- nothing is granted in a game whose score is that of an imported record
    pub recorded : (score : Score) → game.outside ≡ Some (Recorded score) → (n : ℕ) (r : GivenRuling)
        → slice_get game.rulings n ≡ Some r → IsVerdict r
    -- a first verdict on a game that was lost on time came after the time limit was exceeded
    pub lost_by_time : game.outside ≡ Some Time → IfSome (first_verdict game.rulings)
        (λ r. (clocks_of game terms).since + left_of (turn_of rules game) (clocks_of game terms) < r.moment)

-- the invariant of a game: legal moves that were made in time, a consistent end and draw offer, and legal rulings
pub record IsLegalGame {P M E T : Type 0} (rules : GameRules P M E T) (terms : Terms) (game : Game M) : Type 0 where
  pub line : IsPlayedLine rules rules.start (moves_of game)
  pub plies : length game.entries ≤ most_plies
  pub timely : IsTimely terms.increment game.rulings 0 First (moments_of game) (opening_clocks game terms)
  -- an outside reason ends a game only if the rules gave no end
  pub outside_alone : IsSome game.outside → rule_end rules game ≡ None
  pub offer : IfSome game.offer (λ o. IsOffer rules game o)
  pub outside : IfSome game.outside (λ end. MayEndBy rules terms game end)
  pub players : game.first ≢ game.second
  pub rulings : AreLegalRulings rules terms game
