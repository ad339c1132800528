-- Correct results of parsing: the order that a command line states, or the cause of the error. No promise of the
-- program rests on these definitions.
use Rattle.std.specs.Prelude.{◌≡◌, ◌≢◌, ◌⊎◌, ⊤, List, Some, None}
use Rattle.clap.specs.Words.{Text, found_of, rows_of}
use Rattle.clap.specs.Words.{subcommand_rows_of}
use Rattle.clap.specs.declared.error.kind.ErrorKind.{ErrorKind}
use Rattle.clap.specs.declared.error.kind.ErrorKind.TheVariants.{DisplayVersion, OutOfMemory}
use Rattle.clap.specs.declared.parser.matches.ArgMatches.{ArgMatches}
use Rattle.clap.specs.declared.parser.matches.Found.{Found}
use Rattle.cli.specs.declared.batches.BatchOrder.{BatchOrder}
use Rattle.cli.specs.declared.words.BadWords.{BadWords}
use Rattle.cli.specs.declared.words.BadWords.TheVariants as bad
use Rattle.cli.specs.internal.App.{line_app}
use Rattle.cli.specs.Asked.{HasNoCommand}
use Rattle.cli.specs.internal.Asked.{AsksLine}
use Rattle.cli.specs.Said.{AreSaidBy, AreRefusedBy}

abbrev pub AsksOneLine : Found → Text → Found → BatchOrder → Type 0
AsksOneLine all name found line = AsksLine name found line

-- the result is what a batch line states
abbrev pub AreSaidInLine : List Text → BatchOrder → Type 0
AreSaidInLine = AreSaidBy line_app AsksOneLine

abbrev pub HasNoLine : Found → Text → Found → Type 0
HasNoLine all name found = HasNoCommand name found

-- the cause of an error of a batch line
abbrev pub AreRefusedInLine : List Text → BadWords → Type 0
AreRefusedInLine = AreRefusedBy line_app HasNoLine

-- ---- in terms of the parser's matches

-- the matches have this subcommand with these arguments
abbrev pub Enters : ArgMatches → Text → Found → Type 0
Enters matches name found = subcommand_rows_of matches ≡ Some (name, rows_of found)

-- the result is what the matches state
pub record IsFound {S : Type 0} (asks : Found → Text → Found → S → Type 0) (matches : ArgMatches)
    (said : S) : Type 0 where
  pub name : Text
  pub found : Found
  pub enters : Enters matches name found
  pub asked : asks (found_of matches) name found said

-- the matches state no order
pub record IsNoneFound (is_none : Found → Text → Found → Type 0) (matches : ArgMatches) : Type 0 where
  pub name : Text
  pub found : Found
  pub enters : Enters matches name found
  pub is : is_none (found_of matches) name found

-- the matches have no subcommand, or one that states no order
abbrev pub FindsNone : (Found → Text → Found → Type 0) → ArgMatches → Type 0
FindsNone is_none matches = (subcommand_rows_of matches ≡ None) ⊎ IsNoneFound is_none matches

-- the result for an error of the parser
abbrev pub IsParserErrorOf : ErrorKind → BadWords → Type 0
IsParserErrorOf kind bad.Memory = ⊤
IsParserErrorOf kind (bad.Version line) = kind ≡ DisplayVersion
IsParserErrorOf kind (bad.Text text) = (kind ≢ DisplayVersion) × (kind ≢ OutOfMemory)
