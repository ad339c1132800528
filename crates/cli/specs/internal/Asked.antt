-- The meaning of the command line, in terms of the texts that the parser found. No promise of the program rests on
-- these definitions.
use Rattle.std.specs.Prelude.{◌≡◌, ⊤, ℕ, List, Bool, true, false}
use Rattle.std.specs.Prelude.{option_map}
use Rattle.std.specs.Prelude.{string_bytes}
use Rattle.clap.specs.declared.parser.matches.Found.{Found}
use Rattle.cli.specs.declared.batches.BatchOrder.{BatchOrder}
use Rattle.cli.specs.declared.words.BadWords.{BadWords}
use Rattle.cli.specs.declared.words.BadWords.TheVariants as bad
use Rattle.cli.specs.Asked.{AsksCommand, HasNoJsonTask, HasNoTask, record_word}

-- the command of a batch line
pub record AsksLine (name : List ℕ) (found : Found) (line : BatchOrder) : Type 0 where
  pub command : AsksCommand name found line.command
  pub from : option_map string_bytes line.«record» ≡ record_word name found

-- the subcommand is no valid single operation, by whether `--json` is given
abbrev pub HasNoTaskBy : (is_json : Bool) → List ℕ → Found → Type 0
HasNoTaskBy true name found = HasNoJsonTask name found
HasNoTaskBy false name found = HasNoTask name found

-- an error message with this cause, or out of memory
abbrev pub IsParserErrorFor : Type 0 → BadWords → Type 0
IsParserErrorFor why (bad.Text text) = why
IsParserErrorFor why bad.Memory = ⊤
IsParserErrorFor why (bad.Version line) = ⊥

-- an error message, or out of memory
abbrev pub IsTold : BadWords → Type 0
IsTold (bad.Version line) = ⊥
IsTold _ = ⊤
