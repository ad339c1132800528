-- The kinds of games: how the games of one kind stand among the games of the club.
use Rattle.std.proofs.Common.{◌≡◌, ℕ, List, length, Some, refl, ap, ◌∙◌, arith}
use Rattle.std.specs.Prelude.{Option}
use Rattle.squares.specs.declared.draughts.moves.DMove.{DMove}
use Rattle.squares.specs.declared.shogi.moves.SMove.{SMove}
use Rattle.club_rules.specs.declared.names.GameKind.{GameKind}
use Rattle.club_rules.specs.declared.names.GameKind.TheVariants.{Draughts, Shogi}
use Rattle.club_rules.specs.GameRules.{GameRules}
use Rattle.club_games.specs.internal.DraughtsLaws.{draughts-first_starts, draughts-turn_passes, draughts-same_is}
use Rattle.club_games.specs.internal.DraughtsLaws.{draughts-ends_at_limit}
use Rattle.club_games.specs.internal.ShogiLaws.{shogi-first_starts, shogi-turn_passes, shogi-same_is}
use Rattle.club_games.specs.internal.ShogiLaws.{shogi-ends_at_limit}
use Rattle.club_requests.specs.declared.requests.Caller.{Caller}
use Rattle.club_requests.specs.declared.rulings.Ruling.{Ruling}
use Rattle.club_core.specs.Events.{Event}
use Rattle.club_core.specs.Game.{Game}
use Rattle.club_core.specs.LegalState.{IsGameOf, IsLegalIn}
use Rattle.club_requests.specs.Outcome.{map_outcome}
use Rattle.club_core.specs.declared.seats.Pairing.{Pairing}
use Rattle.club_core.specs.State.{AnyGame, draughts, shogi, place, kind_at, terms_at, pairing_of, seated, seated_as}
use Rattle.club_core.specs.State.{rulings_of, with_game, step_game, step_ruling}
use Rattle.club_core.specs.Step.{GameCommand, game_step, ruling_step}
use Rattle.club_core.proofs.Proved.{AreRules, are_rules}
use Rattle.club_rows.specs.Club.{both_games, ClubGame, ClubState}
use Rattle.club_rows.specs.Seen.{seen_rows}
use Rattle.club_rows.specs.Scores.{meetings_of, meetings_in}
use Rattle.club_rows.specs.Tables.{kind_number, game_row, move_rows, row_of_game, rows_of_moves, rows_of_rulings}
use Rattle.club_rows.specs.Tables.{rows_of_seen, ruling_rows}

-- the event of a game
abbrev pub event_in : ClubGame → ℕ
event_in any = (pairing_of any).event

-- how many moves were played in a game
abbrev pub plies_in : {DM SM : Type 0} → AnyGame DM SM → ℕ
plies_in (draughts g) = length g.entries
plies_in (shogi g) = length g.entries

-- the games of one kind as games of the club, which step, and have rows, as its rules say
pub record Kind {P M E T : Type 0} (rules : GameRules P M E T) (kind : GameKind) : Type 0 where
  pub laws : AreRules rules
  pub into : Game M → ClubGame
  pub event : (g : Game M) → event_in (into g) ≡ g.event
  pub plies : (g : Game M) → plies_in (into g) ≡ length g.entries
  pub row : (events : List Event) (id : ℕ) (g : Game M)
      → row_of_game both_games events id (into g) ≡ game_row rules (terms_at (place events g.event)) id g
  pub moves : (events : List Event) (id : ℕ) (g : Game M)
      → rows_of_moves both_games events id (into g) ≡ move_rows rules (terms_at (place events g.event)) id g
  pub rulings : (id : ℕ) (g : Game M) → rows_of_rulings id (into g) ≡ ruling_rows id g
  pub given : (g : Game M) → rulings_of (into g) ≡ g.rulings
  pub seen : (id : ℕ) (g : Game M) → rows_of_seen both_games id (into g) ≡ seen_rows rules id g
  pub scores : (g : Game M) → meetings_in both_games (into g) ≡ meetings_of rules g
  pub legal : (s : ClubState) (g : Game M) → IsLegalIn both_games s (into g) → IsGameOf rules kind s g
  pub is_legal : (s : ClubState) (g : Game M) → IsGameOf rules kind s g → IsLegalIn both_games s (into g)
  -- the games of the events of this kind are the games of this kind
  pub back : (s : ClubState) (any : ClubGame) → IsLegalIn both_games s any
      → kind_at (place s.events (event_in any)) ≡ kind → (g : Game M) × (any ≡ into g)
  pub starts : (key : Option (List ℕ)) (pairing : Pairing) (moment : ℕ)
      → seated_as kind key pairing moment ≡ into (seated key pairing moment)
  pub step : (s : ClubState) (moment id : ℕ) (who : Caller) (command : GameCommand) (g : Game M)
      → step_game both_games s moment id who command (Some (into g))
      ≡ map_outcome (λ new. with_game s moment id (into new))
      (game_step rules (terms_at (place s.events g.event)) g moment who command)
  pub ruled : (s : ClubState) (moment id number : ℕ) (ruling : Ruling) (g : Game M)
      → step_ruling both_games s moment id number ruling (Some (into g))
      ≡ map_outcome (λ new. with_game s moment id (into new)) (ruling_step rules g number ruling moment)

pub back-draughts : (s : ClubState) (any : ClubGame) → IsLegalIn both_games s any
    → kind_at (place s.events (event_in any)) ≡ Draughts → (g : Game DMove) × (any ≡ draughts g)
back-draughts s (draughts g) legal is = (g, refl)
back-draughts s (shogi g) legal is =
    let of_kind = ap kind_at legal.in_event ∙ legal.of_kind in absurd cc

pub back-shogi : (s : ClubState) (any : ClubGame) → IsLegalIn both_games s any
    → kind_at (place s.events (event_in any)) ≡ Shogi → (g : Game SMove) × (any ≡ shogi g)
back-shogi s (shogi g) legal is = (g, refl)
back-shogi s (draughts g) legal is =
    let of_kind = ap kind_at legal.in_event ∙ legal.of_kind in absurd cc

pub draughts_laws : AreRules both_games.draughts
draughts_laws = are_rules both_games.draughts draughts-first_starts draughts-turn_passes draughts-same_is
    draughts-ends_at_limit

pub shogi_laws : AreRules both_games.shogi
shogi_laws = are_rules both_games.shogi shogi-first_starts shogi-turn_passes shogi-same_is shogi-ends_at_limit

abbrev pub in_draughts : Kind both_games.draughts Draughts
in_draughts = record {
  laws = draughts_laws;
  into = λ g. draughts g;
  event = λ g. refl;
  plies = λ g. refl;
  row = λ events id g. refl;
  moves = λ events id g. refl;
  rulings = λ id g. refl;
  given = λ g. refl;
  seen = λ id g. refl;
  scores = λ g. refl;
  legal = λ s g is. is;
  is_legal = λ s g is. is;
  back = back-draughts;
  starts = λ key pairing moment. refl;
  step = λ s moment id who command g. refl;
  ruled = λ s moment id number ruling g. refl;
}

abbrev pub in_shogi : Kind both_games.shogi Shogi
in_shogi = record {
  laws = shogi_laws;
  into = λ g. shogi g;
  event = λ g. refl;
  plies = λ g. refl;
  row = λ events id g. refl;
  moves = λ events id g. refl;
  rulings = λ id g. refl;
  given = λ g. refl;
  seen = λ id g. refl;
  scores = λ g. refl;
  legal = λ s g is. is;
  is_legal = λ s g is. is;
  back = back-shogi;
  starts = λ key pairing moment. refl;
  step = λ s moment id who command g. refl;
  ruled = λ s moment id number ruling g. refl;
}

-- kinds with one number are one
pub kinds-alike : (a b : GameKind) → kind_number a ≡ kind_number b → a ≡ b
kinds-alike a b is = grind arith
