-- Correct results of parsing: the order that a command line states, or the cause of the error.
use Rattle.std.specs.Prelude.{◌≡◌, ◌≢◌, ◌⊎◌, ⊤, List, [], Some}
use Rattle.clap.specs.Words.{App, IsAmong, Kinds, Text, fault_of, matches_of, rows_of, subcommand_of}
use Rattle.clap.specs.declared.error.kind.ErrorKind.{ErrorKind}
use Rattle.clap.specs.declared.error.kind.ErrorKind.TheVariants.{DisplayVersion}
use Rattle.clap.specs.declared.parser.matches.Found.{Found}
use Rattle.cli.specs.declared.words.BadWords.{BadWords}
use Rattle.cli.specs.declared.words.BadWords.TheVariants as bad
use Rattle.cli.specs.declared.words.Invocation.{Invocation}
use Rattle.cli.specs.App.{Names, are_games, club_app}
use Rattle.cli.specs.Asked.{Asks, HasNoOrder}

-- ---- results

-- The parser accepts the arguments. It finds `all` before the subcommand, and the subcommand `name` with `found` after
-- it.
pub record Finds (app : App) (words : List Text) (all : Found) (name : Text) (found : Found) : Type 0 where
  pub passes : fault_of app words ≡ []
  pub before : rows_of all ≡ matches_of app words
  pub behind : subcommand_of app words ≡ Some (name, rows_of found)

-- the result is what the arguments state, as the parser finds it
pub record AreSaidBy {S : Type 0} (app : Names → App) (asks : Found → Text → Found → S → Type 0) (words : List Text)
    (said : S) : Type 0 where
  pub games : Names
  pub names : are_games games
  pub all : Found
  pub name : Text
  pub found : Found
  pub finds : Finds (app games) words all name found
  pub asked : asks all name found said

-- the result is what the command line states
abbrev pub StatesInvocation : List Text → Invocation → Type 0
StatesInvocation = AreSaidBy club_app Asks

-- ---- errors

-- the parser accepts the arguments, but they state no order
pub record AreNoOrder (app : App) (is_none : Found → Text → Found → Type 0) (words : List Text) : Type 0 where
  pub all : Found
  pub name : Text
  pub found : Found
  pub finds : Finds app words all name found
  pub is : is_none all name found

-- one of these errors is help or invalid arguments
abbrev pub HasFault : Kinds → Type 0
HasFault kinds = (kind : ErrorKind) × IsAmong kind kinds × (kind ≢ DisplayVersion)

-- The cause of an error. Out of memory can occur for any arguments; any other error has a cause in them.
abbrev pub AreRefusedBy : (Names → App) → (Found → Text → Found → Type 0) → List Text → BadWords → Type 0
AreRefusedBy app is_none words bad.Memory = ⊤
AreRefusedBy app is_none words (bad.Version line) =
    (games : Names) × are_games games × IsAmong DisplayVersion (fault_of (app games) words)
AreRefusedBy app is_none words (bad.Text text) =
    (games : Names) × are_games games × (HasFault (fault_of (app games) words) ⊎ AreNoOrder (app games) is_none words)

-- the cause of an error of a command line
abbrev pub AreRefused : List Text → BadWords → Type 0
AreRefused = AreRefusedBy club_app HasNoOrder
