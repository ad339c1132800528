-- The grammar of the command line, as the parser's data.
use Rattle.std.specs.Prelude.{◌≡◌, ℕ, List, [], ◌∷◌, map, Some, true, codes}
use Rattle.std.specs.Borrow.{Bor}
use Rattle.clap.specs.Words.{App, Rule, Text, new_app, new_rule, with_rule, with_subcommand}
use Rattle.clap.specs.declared.builder.action.ArgAction.TheVariants.{Set, SetTrue, Append}
use Rattle.clap.specs.declared.builder.value_parser.ValueParser.{ValueParser}
use Rattle.clap.specs.declared.builder.value_parser.ValueParser.TheVariants as parser

-- ---- single arguments

-- required argument
abbrev pub required : Text → Rule
required id = record (new_rule id) { action = Some Set; required = true }

-- required argument with this value parser
abbrev pub required_as : ValueParser → Text → Rule
required_as kind id = record (required id) { parser = Some kind }

-- option with a value
abbrev pub given_by : (id long : Text) → Rule
given_by id long = record (new_rule id) { long = Some long; action = Some Set }

-- option with this value parser
abbrev pub given_as : ValueParser → (id long : Text) → Rule
given_as kind id long = record (given_by id long) { parser = Some kind }

-- option whose value has its own name in help
abbrev pub named_by : (id long : Text) → Rule
named_by id long = record (given_by id long) { value_names = 1 }

-- the same option, which may be repeated
abbrev pub repeated_by : (id long : Text) → Rule
repeated_by id long = record (named_by id long) { action = Some Append }

-- option without a value
abbrev pub flag : (id long : Text) → Rule
flag id long = record (new_rule id) { long = Some long; action = Some SetTrue }

-- required argument that is repeated this many times
abbrev pub required_times : (least most : ℕ) → Text → Rule
required_times least most id =
    record (required id) { range = Some (record { start_inclusive = least; end_inclusive = most }) }

-- integer of 64 bits
abbrev pub a_number : ValueParser
a_number = parser.Unsigned 0 18446744073709551615

-- port from 1 to 65535
abbrev pub a_port : ValueParser
a_port = parser.Unsigned 1 65535

-- timestamp up to the last one
abbrev pub a_moment : ValueParser
a_moment = parser.Unsigned 0 253402300799

-- texts of a list of names
abbrev pub Names : Type 0
Names = Bor (List (Bor Text))

-- the list has the names of both games
abbrev pub are_games : Names → Type 0
are_games names = map (λ (name : Bor Text). name.now) names.now ≡ codes "draughts" ∷ codes "shogi" ∷ []

-- ---- arguments of each subcommand

-- arguments of `member`
abbrev pub member_app : App
member_app = with_rule (with_rule (new_app (codes "member")) (required (codes "NAME"))) (required (codes "KEY"))

-- arguments of `event`
abbrev pub event_app : Names → App
event_app games =
    with_rule
    (with_rule
    (with_rule
    (with_rule (new_app (codes "event")) (required (codes "NAME")))
    (required_as (parser.Names games) (codes "GAME")))
    (required_as a_number (codes "BUDGET")))
    (required_as a_number (codes "INCREMENT"))

-- arguments of a new game
abbrev pub game_app : Text → App
game_app name =
    with_rule
    (with_rule
    (with_rule
    (with_rule (new_app name) (required (codes "KEY")))
    (required (codes "EVENT")))
    (required (codes "FIRST")))
    (required (codes "SECOND"))

-- arguments of an import: those of a new game, and the record
abbrev pub import_app : Text → App
import_app name = with_rule (game_app name) (required (codes "RECORD"))

-- arguments and options of `import-csa`
abbrev pub import_csa_app : App
import_csa_app = with_rule (import_app (codes "import-csa")) (given_as a_number (codes "N") (codes "part"))

-- arguments of `move`
abbrev pub move_app : App
move_app =
    with_rule
    (with_rule
    (with_rule (new_app (codes "move")) (required_as a_number (codes "GAME")))
    (required_as a_number (codes "PLY")))
    (required (codes "TEXT"))

-- options of `sweep`
abbrev pub sweep_app : App
sweep_app = with_rule (new_app (codes "sweep")) (given_as a_number (codes "N") (codes "most"))

-- subcommand with the flag `--arbiter` only
abbrev pub by_arbiter_app : Text → App
by_arbiter_app name = with_rule (new_app name) (flag (codes "ARBITER") (codes "arbiter"))

-- arguments of `key`
abbrev pub key_app : App
key_app =
    with_rule
    (with_rule
    (with_rule (new_app (codes "key")) (required (codes "NAME")))
    (required_as a_number (codes "NUMBER")))
    (required (codes "KEY"))

-- arguments of `rule`; a ruling has 1 to 3 words
abbrev pub rule_app : App
rule_app =
    with_rule
    (with_rule
    (with_rule (new_app (codes "rule")) (required_as a_number (codes "GAME")))
    (required_as a_number (codes "NUMBER")))
    (required_times 1 3 (codes "RULING"))

-- subcommand with the flag `--dry`
abbrev pub dry_app : Text → App
dry_app name = with_rule (new_app name) (flag (codes "DRY") (codes "dry"))

-- arguments and flag of `retire`
abbrev pub retire_app : App
retire_app =
    with_rule
    (with_rule
    (with_rule (dry_app (codes "retire")) (required (codes "NAME")))
    (required (codes "EVENT")))
    (required (codes "RESULT"))

-- arguments and flag of `extend`
abbrev pub extend_app : App
extend_app =
    with_rule
    (with_rule (dry_app (codes "extend")) (required (codes "EVENT")))
    (required_as a_number (codes "SECONDS"))

-- subcommand with a GAME argument only
abbrev pub of_game_app : Text → App
of_game_app name = with_rule (new_app name) (required_as a_number (codes "GAME"))

-- subcommand with an EVENT argument only
abbrev pub of_event_app : Text → App
of_event_app name = with_rule (new_app name) (required (codes "EVENT"))

-- arguments and flags of `show`
abbrev pub show_app : App
show_app =
    with_rule
    (with_rule (new_app (codes "show")) (flag (codes "LETTERS") (codes "letters")))
    (required_as a_number (codes "GAME"))

-- arguments of `batch`
abbrev pub batch_app : App
batch_app = with_rule (new_app (codes "batch")) (required (codes "ORDERS"))

-- flags of `round-robin`
abbrev pub with_round_robin_flags_app : App → App
with_round_robin_flags_app app =
    with_rule
    (with_rule app (flag (codes "DOUBLE") (codes "double")))
    (flag (codes "DRY") (codes "dry"))

-- arguments and flags of `round-robin`, with 2 to 32 players
abbrev pub round_robin_app : App
round_robin_app =
    with_rule
    (with_rule
    (with_rule (with_round_robin_flags_app (new_app (codes "round-robin"))) (required (codes "PREFIX")))
    (required (codes "EVENT")))
    (required_times 2 32 (codes "NAME"))

-- arguments of `backup`
abbrev pub backup_app : App
backup_app = with_rule (new_app (codes "backup")) (required (codes "FILE2"))

-- options and flags of `games`
abbrev pub games_app : App
games_app =
    with_rule
    (with_rule
    (with_rule
    (with_rule (new_app (codes "games")) (named_by (codes "EVENT") (codes "event")))
    (named_by (codes "MEMBER") (codes "member")))
    (flag (codes "RUNNING") (codes "running")))
    (flag (codes "OVERDUE") (codes "overdue"))

-- arguments, options and flags of `serve`
abbrev pub serve_app : App
serve_app =
    with_rule
    (with_rule
    (with_rule
    (with_rule (new_app (codes "serve")) (flag (codes "LOG") (codes "log")))
    (given_as a_number (codes "COUNT") (codes "count")))
    (repeated_by (codes "HOST") (codes "host")))
    (required_as a_port (codes "PORT"))

-- ---- the program

-- the program without arguments
abbrev pub named_app : App
named_app = record (new_app (codes "club")) {
  top = record (new_app (codes "club")).top { has_version = true; subcommand_required = true };
}

-- the program with the arguments and options before the subcommand
abbrev pub program_app : App
program_app =
    with_rule
    (with_rule
    (with_rule
    (with_rule named_app (flag (codes "EXPLAIN") (codes "explain")))
    (flag (codes "JSON") (codes "json")))
    (given_as a_moment (codes "SECONDS") (codes "now")))
    (required (codes "FILE"))

-- adds a subcommand
abbrev pub with_sub : App → App → App
with_sub app sub = with_subcommand app sub.top

-- adds the subcommands that create a club and fill it
abbrev pub with_entries_app : Names → App → App
with_entries_app games app =
    with_sub
    (with_sub
    (with_sub
    (with_sub
    (with_sub
    (with_sub app (by_arbiter_app (codes "init")))
    member_app)
    (event_app games))
    (game_app (codes "seat")))
    (import_app (codes "import-pdn")))
    import_csa_app

-- adds the subcommands that play moves and end games by time
abbrev pub with_orders_app : App → App
with_orders_app app =
    with_sub
    (with_sub
    (with_sub
    (with_sub app move_app)
    sweep_app)
    batch_app)
    round_robin_app

-- adds the arbiter's subcommands
abbrev pub with_arbiter_app : App → App
with_arbiter_app app =
    with_sub
    (with_sub
    (with_sub
    (with_sub
    (with_sub
    (with_sub app rule_app)
    retire_app)
    extend_app)
    (of_game_app (codes "rulings")))
    key_app)
    (of_event_app (codes "close"))

-- adds the subcommands that show games
abbrev pub with_games_app : App → App
with_games_app app =
    with_sub
    (with_sub
    (with_sub
    (with_sub app (of_game_app (codes "legal")))
    show_app)
    (of_game_app (codes "export")))
    (of_event_app (codes "export-event"))

-- adds the subcommands that show the club
abbrev pub with_lists_app : App → App
with_lists_app app =
    with_sub
    (with_sub
    (with_sub
    (with_sub
    (with_sub app (of_event_app (codes "table")))
    (new_app (codes "members")))
    (new_app (codes "events")))
    games_app)
    (new_app (codes "challenges"))

-- adds the subcommands on the whole file and the server
abbrev pub with_files_app : App → App
with_files_app app =
    with_sub
    (with_sub
    (with_sub
    (with_sub app (new_app (codes "verify")))
    (by_arbiter_app (codes "upgrade")))
    backup_app)
    serve_app

-- the grammar of the whole command line, with all subcommands
abbrev pub club_app : Names → App
club_app games =
    with_files_app
    (with_lists_app (with_games_app (with_arbiter_app (with_orders_app (with_entries_app games program_app)))))
