-- Maps the values of an import in the code to those of the specification. No promise of the program rests on these
-- definitions.
use Rattle.std.specs.Prelude.{◌≡◌, Option, Some, None}
use Rattle.club_rules.specs.GameRules.{GameRules}
use Rattle.club_rules.specs.Records as record_is
use Rattle.club_rules.specs.Records.{Reading, IsGameByRules}
use Rattle.club_rules.specs.internal.Records.{recorded_of}
use Rattle.club_core.specs.Game.{Game, moves_of, result_beneath}
use Rattle.club_core.specs.Imports.{Imported}
use Rattle.club_requests.specs.Outcome.{Outcome, accepted, repeated, refused, game_seated}
use Rattle.club_imports.specs.declared.imports.ImportDecision as given_importing
use Rattle.club_imports.specs.declared.imports.ImportDecision.TheVariants as importing
use Rattle.club_imports.specs.declared.played.PlayedGame.{PlayedGame}

-- the moves of the game, and its result without the arbiter's verdict
abbrev pub IsPlayedOf : {P M E T : Type 0} → GameRules P M E T → Game M → PlayedGame M → Type 0
IsPlayedOf rules game played =
    (played.moves.items ≡ moves_of game) × (played.result ≡ result_beneath rules game)

-- the same of the game under the key, if there is one
abbrev pub ShowsPlayed : {P M E T : Type 0} → GameRules P M E T → Option (Game M) → Option (PlayedGame M) → Type 0
ShowsPlayed rules None None = Unit {0}
ShowsPlayed rules (Some game) None = ⊥
ShowsPlayed rules None (Some played) = ⊥
ShowsPlayed rules (Some game) (Some played) = IsPlayedOf rules game played

-- if a game was read, its moves are legal and its score agrees with the rules
abbrev pub IsByRules : {P M E T : Type 0} → GameRules P M E T → Reading M → Type 0
IsByRules rules (record_is.game r) = IsGameByRules rules r
IsByRules rules record_is.no_part = Unit {0}
IsByRules rules (record_is.refused refusal) = Unit {0}

-- the outcome of an import
abbrev pub importing_of : {M : Type 0} → given_importing.ImportDecision M → Outcome (Imported M)
importing_of (importing.Adds new) =
    accepted (record { pairing = new.pairing; recorded = recorded_of new.recorded }) (game_seated new.game)
importing_of (importing.Repeated id) = repeated (game_seated id)
importing_of (importing.Refused refusal) = refused refusal

-- if a game is added, its moves are legal and its score agrees with the rules
abbrev pub AddsByRules : {P M E T : Type 0} → GameRules P M E T → given_importing.ImportDecision M → Type 0
AddsByRules rules (importing.Adds new) = IsGameByRules rules (recorded_of new.recorded)
AddsByRules rules (importing.Repeated id) = Unit {0}
AddsByRules rules (importing.Refused refusal) = Unit {0}
