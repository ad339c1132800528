-- The names of the subcommands that send commands to the club. No promise of the program rests on these definitions.
use Rattle.std.specs.Prelude.{List, ℕ, Option, None, Some, codes}
use Rattle.club_rules.specs.declared.records.RecordFormat.{RecordFormat}
use Rattle.club_rules.specs.declared.records.RecordFormat.TheVariants.{Pdn, Csa}
use Rattle.club_requests.specs.declared.requests.Command.{Command}
use Rattle.club_requests.specs.declared.requests.Command.TheVariants as command
use Rattle.club_requests.specs.declared.requests.GameCommand.{GameCommand}
use Rattle.club_requests.specs.declared.requests.GameCommand.TheVariants.{Move}

-- the subcommand that imports a record of this format
abbrev pub import_name : RecordFormat → List ℕ
import_name Pdn = codes "import-pdn"
import_name Csa = codes "import-csa"

-- the subcommand of a command on a game; only moves have one
abbrev pub game_command_name : GameCommand → Option (List ℕ)
game_command_name (Move ply text) = Some (codes "move")
game_command_name _ = None

-- the subcommand of a command; challenges have none
abbrev pub command_name : Command → Option (List ℕ)
command_name (command.AddMember given) = Some (codes "member")
command_name (command.AddEvent given) = Some (codes "event")
command_name (command.Seat given) = Some (codes "seat")
command_name (command.Import given) = Some (import_name given.format)
command_name (command.OnGame given) = game_command_name given.command
command_name command.Sweep = Some (codes "sweep")
command_name (command.NewKey given) = Some (codes "key")
command_name (command.CloseEvent given) = Some (codes "close")
command_name (command.Rule given) = Some (codes "rule")
command_name _ = None
