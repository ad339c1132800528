-- The meaning of the command line, in terms of the texts that the parser found.
use Rattle.std.specs.Prelude.{◌≡◌, ◌≢◌, ◌⊎◌, ◌<◌, ◌≤◌, ◌^◌, ℕ, Bool, List, [], ◌∷◌, Option, Some, None}
use Rattle.std.specs.Prelude.{option_map, unwrap_or}
use Rattle.std.specs.Prelude.{codes, string_bytes, if◌then◌else◌, ◌||◌, ◌&&◌, ◌==◌, nat_lt, length, true, false, map}
use Rattle.std.specs.Char.{is_ascii_alphanumeric}
use Rattle.std.specs.List.{list_all, list_any}
use Rattle.std.specs.Str.{bytes_eq}
use Rattle.std.specs.Str.Parse.{IsNumeral, digits_value, without_leading_plus}
use Rattle.clap.specs.Words.{first_value, matched_of, one_text, raw_values}
use Rattle.clap.specs.declared.parser.matches.Found.{Found}
use Rattle.club_rules.specs.declared.names.GameKind.{GameKind}
use Rattle.club_rules.specs.declared.names.GameKind.TheVariants.{Draughts, Shogi}
use Rattle.club_rules.specs.declared.records.RecordFormat.TheVariants.{Pdn, Csa}
use Rattle.club_requests.specs.declared.requests.GameCommand.{GameCommand}
use Rattle.club_requests.specs.declared.requests.GameCommand.TheVariants.{Move}
use Rattle.club_requests.specs.declared.requests.Import.{Import}
use Rattle.club_requests.specs.declared.requests.Command.{Command}
use Rattle.club_requests.specs.declared.requests.Command.TheVariants.{AddMember, AddEvent, Seat, OnGame, Sweep}
use Rattle.club_requests.specs.declared.requests.Command.TheVariants.{Import as ImportOf, NewKey, CloseEvent, Rule}
use Rattle.club_requests.specs.Rulings.{IsRulingIn}
use Rattle.club_requests.specs.declared.rulings.Ruling.{Ruling}
use Rattle.cli.specs.declared.words.Task.{Task}
use Rattle.club_requests.specs.declared.questions.BulkRuling.{BulkRuling}
use Rattle.club_requests.specs.declared.questions.BulkRuling.TheVariants.{Retire, Extend}
use Rattle.club_requests.specs.declared.questions.Listing.{Listing}
use Rattle.club_requests.specs.declared.questions.Question.{Question}
use Rattle.club_requests.specs.declared.questions.Question.TheVariants.{LegalMoves, CrossTable, Record, Members}
use Rattle.club_requests.specs.declared.questions.Question.TheVariants.{Events, Games, Board, Challenges}
use Rattle.club_requests.specs.declared.questions.Question.TheVariants.{EventRecords, GamePage, LegalMovesJson}
use Rattle.club_requests.specs.declared.questions.Question.TheVariants.{MembersJson, EventsJson, GamesJson}
use Rattle.club_requests.specs.declared.questions.Question.TheVariants.{ChallengesJson, Rulings, RulingsJson}
use Rattle.club_requests.specs.declared.questions.Question.TheVariants.{RulingOrders}
use Rattle.club_requests.specs.declared.questions.GameFilter.{GameFilter}
use Rattle.club_requests.specs.declared.questions.GameFilter.TheVariants.{All, Running, Overdue}
use Rattle.cli.specs.declared.words.Task.TheVariants.{Init, Request, SweepAtMost, Ask, Upgrade, Verify, Backup, Batch}
use Rattle.cli.specs.declared.batches.BatchOptions.{BatchOptions}
use Rattle.cli.specs.declared.batches.RoundRobin.{RoundRobin}
use Rattle.cli.specs.declared.words.Order.{Order}
use Rattle.cli.specs.declared.words.ServeOptions.{ServeOptions}
use Rattle.cli.specs.declared.words.Invocation.{Invocation}
use Rattle.cli.specs.declared.words.Invocation.TheVariants as words

-- text of an argument; empty if absent
abbrev pub text_in : Found → List ℕ → List ℕ
text_in found name = unwrap_or (first_value found name) []

-- texts of an argument that may be repeated
abbrev pub texts_in : Found → List ℕ → List (List ℕ)
texts_in found name = unwrap_or (option_map raw_values (matched_of found name)) []

-- decimal digits, optionally after a plus sign, of a number that fits 64 bits
abbrev pub IsWhole : List ℕ → Type 0
IsWhole text = IsNumeral 10 (without_leading_plus text) × (digits_value 10 (without_leading_plus text) < 2 ^ 64)

-- value of such a text
abbrev pub number_of : List ℕ → ℕ
number_of text = digits_value 10 (without_leading_plus text)

-- integer argument, or `other` if absent
pub record IsNumberIn (found : Found) (name : List ℕ) (other n : ℕ) : Type 0 where
  pub given : (text : List ℕ) → one_text found name ≡ Some text → IsWhole text → n ≡ number_of text
  pub absent : one_text found name ≡ None → n ≡ other

-- optional integer argument
pub record IsNumberGiven (found : Found) (name : List ℕ) (n : Option ℕ) : Type 0 where
  pub given : (text : List ℕ) → one_text found name ≡ Some text → IsWhole text → n ≡ Some (number_of text)
  pub absent : one_text found name ≡ None → n ≡ None

-- timestamp given by `--now`
pub record IsMomentIn (found : Found) (now : Option ℕ) : Type 0 where
  pub given : (text : List ℕ) → one_text found (codes "SECONDS") ≡ Some text → IsWhole text
      → number_of text ≤ 253402300799 → now ≡ Some (number_of text)
  pub absent : one_text found (codes "SECONDS") ≡ None → now ≡ None

-- whether a flag is given
pub record IsFlagIn (found : Found) (name : List ℕ) (is_given : Bool) : Type 0 where
  pub given : one_text found name ≡ Some (codes "true") → is_given ≡ true
  pub absent : one_text found name ≡ None → is_given ≡ false
  pub other : one_text found name ≡ Some (codes "false") → is_given ≡ false

-- name of a game on the command line
abbrev pub game_word : GameKind → List ℕ
game_word Draughts = codes "draughts"
game_word Shogi = codes "shogi"

-- ---- arguments of a subcommand

-- arguments of an import, whose text is read later
pub record AsksImport (found : Found) (given : Import) : Type 0 where
  pub key : string_bytes given.key ≡ text_in found (codes "KEY")
  pub event : string_bytes given.event ≡ text_in found (codes "EVENT")
  pub first : string_bytes given.first ≡ text_in found (codes "FIRST")
  pub second : string_bytes given.second ≡ text_in found (codes "SECOND")
  pub text : given.text.items ≡ []

-- the subcommand with these arguments is this import; only `import-csa` can choose a part
abbrev pub AsksGiven : List ℕ → Found → Import → Type 0
AsksGiven name found given = AsksImport found given
    × (((name ≡ codes "import-pdn") × (given.format ≡ Pdn) × (given.part ≡ 1))
    ⊎ ((name ≡ codes "import-csa") × (given.format ≡ Csa) × IsNumberIn found (codes "N") 1 given.part))

-- the arguments of `move` state this command
abbrev pub AsksMove : Found → GameCommand → Type 0
AsksMove found (Move ply text) = IsNumberIn found (codes "PLY") 0 ply
    × (string_bytes text ≡ text_in found (codes "TEXT"))
AsksMove found _ = ⊥

-- the subcommand with these arguments is this command
abbrev pub AsksCommand : List ℕ → Found → Command → Type 0
AsksCommand name found (AddMember c) = (name ≡ codes "member")
    × (string_bytes c.name ≡ text_in found (codes "NAME")) × (string_bytes c.key ≡ text_in found (codes "KEY"))
AsksCommand name found (AddEvent c) = (name ≡ codes "event")
    × (string_bytes c.name ≡ text_in found (codes "NAME"))
    × (first_value found (codes "GAME") ≡ Some (game_word c.game))
    × IsNumberIn found (codes "BUDGET") 0 c.budget × IsNumberIn found (codes "INCREMENT") 0 c.increment
AsksCommand name found (Seat c) = (name ≡ codes "seat")
    × (string_bytes c.key ≡ text_in found (codes "KEY")) × (string_bytes c.event ≡ text_in found (codes "EVENT"))
    × (string_bytes c.first ≡ text_in found (codes "FIRST"))
    × (string_bytes c.second ≡ text_in found (codes "SECOND"))
AsksCommand name found (ImportOf c) = AsksGiven name found c
AsksCommand name found (OnGame c) = (name ≡ codes "move") × IsNumberIn found (codes "GAME") 0 c.game
    × AsksMove found c.command
AsksCommand name found Sweep = name ≡ codes "sweep"
AsksCommand name found (Rule c) = (name ≡ codes "rule") × IsNumberIn found (codes "GAME") 0 c.game
    × IsNumberIn found (codes "NUMBER") 0 c.number × IsRulingIn (texts_in found (codes "RULING")) c.ruling
AsksCommand name found (NewKey c) = (name ≡ codes "key")
    × (string_bytes c.name ≡ text_in found (codes "NAME")) × IsNumberIn found (codes "NUMBER") 0 c.number
    × (string_bytes c.key ≡ text_in found (codes "KEY"))
AsksCommand name found (CloseEvent c) = (name ≡ codes "close")
    × (string_bytes c.event ≡ text_in found (codes "EVENT"))
AsksCommand name found _ = ⊥

-- filter for the two flags; none if both are given
abbrev pub which_of : (is_running is_overdue : Bool) → Option GameFilter
which_of true true = None
which_of true false = Some Running
which_of false true = Some Overdue
which_of false false = Some All

-- the flags state this filter
pub record AreShownOf (found : Found) (which : GameFilter) : Type 0 where
  pub is_running : Bool
  pub running : IsFlagIn found (codes "RUNNING") is_running
  pub is_overdue : Bool
  pub overdue : IsFlagIn found (codes "OVERDUE") is_overdue
  pub is : which_of is_running is_overdue ≡ Some which

-- filter by event and by member, each if given
pub record AreListed (found : Found) (listing : Listing) : Type 0 where
  pub event : option_map string_bytes listing.event ≡ first_value found (codes "EVENT")
  pub member : option_map string_bytes listing.member ≡ first_value found (codes "MEMBER")
  pub which : AreShownOf found listing.which

-- RESULT is `loss`, or `void`
abbrev pub IsLossIn : Found → Bool → Type 0
IsLossIn found true = text_in found (codes "RESULT") ≡ codes "loss"
IsLossIn found false = text_in found (codes "RESULT") ≡ codes "void"

-- the subcommand with these arguments gives these rulings
abbrev pub AsksRulings : List ℕ → Found → BulkRuling → Type 0
AsksRulings name found (Retire member event is_loss) = (name ≡ codes "retire")
    × (string_bytes member ≡ text_in found (codes "NAME")) × (string_bytes event ≡ text_in found (codes "EVENT"))
    × IsLossIn found is_loss
AsksRulings name found (Extend event seconds) = (name ≡ codes "extend")
    × (string_bytes event ≡ text_in found (codes "EVENT")) × IsNumberIn found (codes "SECONDS") 0 seconds

-- the subcommand with these arguments is this query; without `--json` the command line has no other queries
abbrev pub AsksQuestion : List ℕ → Found → Question → Type 0
AsksQuestion name found (LegalMoves game) = (name ≡ codes "legal") × IsNumberIn found (codes "GAME") 0 game
AsksQuestion name found (CrossTable event) = (name ≡ codes "table")
    × (string_bytes event ≡ text_in found (codes "EVENT"))
AsksQuestion name found (Record game) = (name ≡ codes "export") × IsNumberIn found (codes "GAME") 0 game
AsksQuestion name found Members = name ≡ codes "members"
AsksQuestion name found Events = name ≡ codes "events"
AsksQuestion name found (Games listing) = (name ≡ codes "games") × AreListed found listing
AsksQuestion name found Challenges = name ≡ codes "challenges"
AsksQuestion name found (Board game letters) = (name ≡ codes "show") × IsNumberIn found (codes "GAME") 0 game
    × IsFlagIn found (codes "LETTERS") letters
AsksQuestion name found (EventRecords event) = (name ≡ codes "export-event")
    × (string_bytes event ≡ text_in found (codes "EVENT"))
AsksQuestion name found (Rulings game) = (name ≡ codes "rulings") × IsNumberIn found (codes "GAME") 0 game
AsksQuestion name found (RulingOrders rulings) = AsksRulings name found rulings
AsksQuestion name found _ = ⊥

-- with `--json` the subcommand with these arguments is this query
abbrev pub AsksJsonQuestion : List ℕ → Found → Question → Type 0
AsksJsonQuestion name found (LegalMovesJson game) = (name ≡ codes "legal") × IsNumberIn found (codes "GAME") 0 game
AsksJsonQuestion name found (GamePage game) = (name ≡ codes "show") × IsNumberIn found (codes "GAME") 0 game
AsksJsonQuestion name found (RulingsJson game) = (name ≡ codes "rulings") × IsNumberIn found (codes "GAME") 0 game
AsksJsonQuestion name found MembersJson = name ≡ codes "members"
AsksJsonQuestion name found EventsJson = name ≡ codes "events"
AsksJsonQuestion name found (GamesJson listing) = (name ≡ codes "games") × AreListed found listing
AsksJsonQuestion name found ChallengesJson = name ≡ codes "challenges"
AsksJsonQuestion name found _ = ⊥

-- the subcommand with these arguments is this operation; the commands of a batch are read later
abbrev pub AsksTask : List ℕ → Found → Task → Type 0
AsksTask name found (Init has_arbiter) = (name ≡ codes "init") × IsFlagIn found (codes "ARBITER") has_arbiter
AsksTask name found (Ask question) = AsksQuestion name found question
AsksTask name found Verify = name ≡ codes "verify"
AsksTask name found (Upgrade has_arbiter) = (name ≡ codes "upgrade") × IsFlagIn found (codes "ARBITER") has_arbiter
AsksTask name found (Backup path) = (name ≡ codes "backup") × (string_bytes path ≡ text_in found (codes "FILE2"))
AsksTask name found (Request command) = AsksCommand name found command
    × (name ≡ codes "sweep" → IsNumberGiven found (codes "N") None)
AsksTask name found (SweepAtMost most) = (name ≡ codes "sweep") × IsNumberGiven found (codes "N") (Some most)
AsksTask name found (Batch batch) = ⊥

-- with `--json` the subcommand with these arguments is this operation: a query
abbrev pub AsksJsonTask : List ℕ → Found → Task → Type 0
AsksJsonTask name found (Ask question) = AsksJsonQuestion name found question
AsksJsonTask name found _ = ⊥

-- the subcommand with these arguments is this operation, by whether `--json` is given
abbrev pub AsksTaskBy : (is_json : Bool) → List ℕ → Found → Task → Type 0
AsksTaskBy true name found task = AsksJsonTask name found task
AsksTaskBy false name found task = AsksTask name found task

-- standard input, if KEY is `-`
abbrev pub key_source : Found → Option (List ℕ)
key_source found =
    if bytes_eq (text_in found (codes "KEY")) (codes "-") then Some (text_in found (codes "KEY")) else None

-- source of an import's record or of a new key
abbrev pub record_word : List ℕ → Found → Option (List ℕ)
record_word name found =
    if bytes_eq name (codes "import-pdn") || bytes_eq name (codes "import-csa")
    then Some (text_in found (codes "RECORD"))
    else if bytes_eq name (codes "key") then key_source found else None

-- ---- whole command line: global options and subcommand

-- the command line states this order, by whether `--json` is given
pub record AsksOrder (is_json : Bool) (all : Found) (name : List ℕ) (found : Found) (order : Order) : Type 0 where
  pub file : string_bytes order.file ≡ text_in all (codes "FILE")
  pub now : IsMomentIn all order.now
  pub task : AsksTaskBy is_json name found order.task
  pub from : option_map string_bytes order.record ≡ record_word name found
  pub explains : IsFlagIn all (codes "EXPLAIN") order.explains

-- the arguments of `serve` state these options
pub record AsksService (all found : Found) (service : ServeOptions) : Type 0 where
  pub file : string_bytes service.file ≡ text_in all (codes "FILE")
  pub now : IsMomentIn all service.now
  pub port : IsNumberIn found (codes "PORT") 0 service.port
  pub count : IsNumberIn found (codes "COUNT") 18446744073709551615 service.count
  pub log : IsFlagIn found (codes "LOG") service.log
  pub hosts : map string_bytes service.hosts.items ≡ texts_in found (codes "HOST")
  pub explains : IsFlagIn all (codes "EXPLAIN") service.explains

-- the arguments of `batch` state these options
pub record AsksBatch (all found : Found) (given : BatchOptions) : Type 0 where
  pub file : string_bytes given.file ≡ text_in all (codes "FILE")
  pub now : IsMomentIn all given.now
  pub orders : string_bytes given.orders ≡ text_in found (codes "ORDERS")
  pub explains : IsFlagIn all (codes "EXPLAIN") given.explains

-- the arguments of `round-robin` state these options
pub record AsksRoundRobin (all found : Found) (given : RoundRobin) : Type 0 where
  pub file : string_bytes given.file ≡ text_in all (codes "FILE")
  pub now : IsMomentIn all given.now
  pub double : IsFlagIn found (codes "DOUBLE") given.is_double
  pub dry : IsFlagIn found (codes "DRY") given.is_dry
  pub prefix : string_bytes given.prefix ≡ text_in found (codes "PREFIX")
  pub event : string_bytes given.event ≡ text_in found (codes "EVENT")
  pub names : map string_bytes given.names.items ≡ texts_in found (codes "NAME")
  pub explains : IsFlagIn all (codes "EXPLAIN") given.explains

-- names of the subcommands that give rulings on many games, or print them with `--dry`
abbrev pub IsBulk : List ℕ → Type 0
IsBulk name = (name ≡ codes "retire") ⊎ (name ≡ codes "extend")

-- the command line states this, by its subcommand and by whether `--json` is given
abbrev pub AsksBy : (is_json : Bool) → Found → List ℕ → Found → Invocation → Type 0
AsksBy true all name found (words.Order order) = AsksOrder true all name found order
AsksBy true all name found _ = ⊥
AsksBy false all name found (words.Order order) = AsksOrder false all name found order
    × (IsBulk name → IsFlagIn found (codes "DRY") true)
AsksBy false all name found (words.BulkRuling order) = AsksOrder false all name found order
    × IsBulk name × IsFlagIn found (codes "DRY") false
AsksBy false all name found (words.Serve service) = (name ≡ codes "serve") × AsksService all found service
AsksBy false all name found (words.Batch batch) = (name ≡ codes "batch") × AsksBatch all found batch
AsksBy false all name found (words.RoundRobin games) = (name ≡ codes "round-robin") × AsksRoundRobin all found games

-- the command line states this, by its subcommand
pub record Asks (all : Found) (name : List ℕ) (found : Found) (said : Invocation) : Type 0 where
  pub is_json : Bool
  pub json : IsFlagIn all (codes "JSON") is_json
  pub asked : AsksBy is_json all name found said

-- ---- errors

-- the name is not in the list
abbrev pub IsOther : List (List ℕ) → List ℕ → Type 0
IsOther names name = list_any (bytes_eq name) names ≡ false

-- names of the subcommands that are a single command to the club
abbrev pub command_names : List (List ℕ)
command_names =
    codes "member" ∷ codes "event" ∷ codes "seat" ∷ codes "sweep" ∷ codes "import-pdn" ∷ codes "import-csa"
    ∷ codes "move" ∷ codes "rule" ∷ codes "key" ∷ codes "close" ∷ []

-- names of the other operations
abbrev pub task_names : List (List ℕ)
task_names =
    codes "init" ∷ codes "legal" ∷ codes "export" ∷ codes "show" ∷ codes "export-event" ∷ codes "table"
    ∷ codes "members" ∷ codes "events" ∷ codes "games" ∷ codes "challenges" ∷ codes "verify" ∷ codes "upgrade"
    ∷ codes "backup" ∷ codes "rulings" ∷ codes "retire" ∷ codes "extend" ∷ []

-- names of the operations whose answers are JSON with `--json`
abbrev pub json_names : List (List ℕ)
json_names =
    codes "legal" ∷ codes "show" ∷ codes "rulings" ∷ codes "members" ∷ codes "events" ∷ codes "games"
    ∷ codes "challenges" ∷ []

-- names of the subcommands that are not a single operation
abbrev pub other_names : List (List ℕ)
other_names = codes "serve" ∷ codes "batch" ∷ codes "round-robin" ∷ []

-- GAME is not the name of a game
abbrev pub HasNoGame : Found → Type 0
HasNoGame found = (game : GameKind) → first_value found (codes "GAME") ≢ Some (game_word game)

-- RULING is no ruling
abbrev pub HasNoRuling : Found → Type 0
HasNoRuling found = (ruling : Ruling) → ¬ (IsRulingIn (texts_in found (codes "RULING")) ruling)

-- RESULT is neither `loss` nor `void`
abbrev pub HasNoResult : Found → Type 0
HasNoResult found = (is_loss : Bool) → ¬ (IsLossIn found is_loss)

-- both `--running` and `--overdue` are given
abbrev pub AsksForBoth : Found → Type 0
AsksForBoth found = IsFlagIn found (codes "RUNNING") true × IsFlagIn found (codes "OVERDUE") true

-- PORT is greater than 65535
abbrev pub HasNoPort : Found → Type 0
HasNoPort found = (port : ℕ) × IsNumberIn found (codes "PORT") 0 port × (65535 < port)

-- a byte of a host name
abbrev pub is_host_byte : ℕ → Bool
is_host_byte c = is_ascii_alphanumeric c || c == 46 || c == 95 || c == 45

-- 1 to 253 letters, digits, `.`, `_` or `-`
abbrev pub is_host_name : List ℕ → Bool
is_host_name text = nat_lt 0 (length text) && nat_lt (length text) 254 && list_all is_host_byte text

-- a value of `--host` is no host name
abbrev pub HasBadHost : Found → Type 0
HasBadHost found = list_all is_host_name (texts_in found (codes "HOST")) ≡ false

-- the arguments of `serve` state no options
abbrev pub HasNoService : Found → Type 0
HasNoService found = HasNoPort found ⊎ HasBadHost found

-- the subcommand is no valid command to the club
abbrev pub HasNoCommand : List ℕ → Found → Type 0
HasNoCommand name found = IsOther command_names name ⊎ ((name ≡ codes "event") × HasNoGame found)
    ⊎ ((name ≡ codes "rule") × HasNoRuling found)

-- the subcommand is no valid single operation
abbrev pub HasNoTask : List ℕ → Found → Type 0
HasNoTask name found = (IsOther task_names name × HasNoCommand name found)
    ⊎ ((name ≡ codes "games") × AsksForBoth found) ⊎ ((name ≡ codes "retire") × HasNoResult found)

-- the subcommand is no operation whose answer is JSON with `--json`
abbrev pub HasNoJsonTask : List ℕ → Found → Type 0
HasNoJsonTask name found = IsOther json_names name ⊎ ((name ≡ codes "games") × AsksForBoth found)

-- the arguments are not valid, by whether `--json` is given
abbrev pub HasNoOrderBy : (is_json : Bool) → List ℕ → Found → Type 0
HasNoOrderBy true name found = HasNoJsonTask name found
HasNoOrderBy false name found = (IsOther other_names name × HasNoTask name found)
    ⊎ ((name ≡ codes "serve") × HasNoService found)

-- The arguments that the parser found are not valid. The grammar excludes all cases but `--json` with another
-- subcommand, the two exclusive flags, the host names, the words of a ruling and the result of a member who leaves.
pub record HasNoOrder (all : Found) (name : List ℕ) (found : Found) : Type 0 where
  pub is_json : Bool
  pub json : IsFlagIn all (codes "JSON") is_json
  pub none : HasNoOrderBy is_json name found
