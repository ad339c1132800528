-- The statements of a text, line by line.
use Rattle.std.specs.Prelude.{ℕ, ◌==◌, ◌||◌, Bool, true, false, List, [], ◌∷◌, ◌++◌, if◌then◌else◌}
use Rattle.std.proofs.Common.{suc}
use Rattle.std.specs.List.{slice_split}
use Rattle.std.specs.Str.Lines.{lines}
use Rattle.csa.specs.declared.lines.NumberedStatement.{NumberedStatement}
use Rattle.csa.specs.declared.statements.Statement.TheVariants as statement
use Rattle.csa.specs.Statements.{statement_of}

-- a comment begins with an apostrophe
abbrev pub is_comment : List ℕ → Bool
is_comment [] = false
is_comment (c ∷ _) = c == 39

-- a header begins with `$`, `N+` or `N-`
abbrev pub is_header : List ℕ → Bool
is_header [] = false
is_header (c ∷ []) = c == 36
is_header (c ∷ d ∷ _) = if c == 36 then true else if c == 78 then d == 43 || d == 45 else false

-- the statement of a part of a line; an empty part has none
abbrev pub placed_of : ℕ → List ℕ → List NumberedStatement
placed_of line [] = []
placed_of line (c ∷ part) = record { line = line; statement = statement_of (c ∷ part) } ∷ []

-- the statements of the parts of a line, all with its number
abbrev pub placed_all : ℕ → List (List ℕ) → List NumberedStatement
placed_all line [] = []
placed_all line (part ∷ parts) = placed_of line part ++ placed_all line parts

-- The statements of a line: none for a comment, one for a header, else its parts between commas.
abbrev pub statements_on : ℕ → List ℕ → List NumberedStatement
statements_on line text =
    if is_comment text then []
    else if is_header text then record { line = line; statement = statement.Header } ∷ []
    else placed_all line (slice_split (λ b. b == 44) text)

-- the statements of lines, which are numbered from `line`
abbrev pub statements_from : ℕ → List (List ℕ) → List NumberedStatement
statements_from line [] = []
statements_from line (text ∷ more) = statements_on line text ++ statements_from (suc line) more

-- The statements of a text. A line ends with a line feed and an optional carriage return before it.
unfoldable pub text_statements : List ℕ → List NumberedStatement
text_statements text = statements_from 1 (lines text)
