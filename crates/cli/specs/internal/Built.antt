-- Relates the builders of the code to the grammar. No promise of the program rests on these definitions.
use Rattle.std.specs.Prelude.{◌≡◌, false}
use Rattle.clap.specs.Words.{App, Rule, app_of, rule_of}
use Rattle.clap.specs.declared.builder.arg.Arg.{Arg}
use Rattle.clap.specs.declared.builder.command.Command.{Command}
use Rattle.cli.specs.App.{Names, are_games}

-- the argument has this rule and belongs to its own command only
pub record IsRule (rule : Rule) (arg : Arg) : Type 0 where
  pub is : rule_of arg ≡ rule
  pub is_local : arg.global ≡ false

-- the command has this grammar
abbrev pub IsApp : App → Command → Type 0
IsApp app command = app_of command ≡ app

-- the command has this grammar, given the names of the games
pub record IsAppOf (app : Names → App) (command : Command) : Type 0 where
  pub games : Names
  pub names : are_games games
  pub is : IsApp (app games) command
