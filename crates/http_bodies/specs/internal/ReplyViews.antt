-- The header lines that the code adds to a reply. No promise of the program rests on these definitions.
use Rattle.std.specs.Prelude.{ℕ, List, ◌++◌}
use Rattle.http_bodies.specs.declared.reply.FurtherLines.{FurtherLines}
use Rattle.http_bodies.specs.Reply.{caching_lines}

-- its own lines, then those about caching
abbrev pub lines_of : FurtherLines → List ℕ
lines_of further = further.own.now ++ caching_lines further.caching
