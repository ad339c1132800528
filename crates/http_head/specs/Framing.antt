-- The end of a request's head.
use Rattle.std.specs.Prelude.{ℕ, ◌+◌, Bool, true, false, ◌&&◌, List, [], ◌∷◌, Option, Some, None, take, ◌==◌, nat_lt}
use Rattle.std.specs.Prelude.{if◌then◌else◌}
use Rattle.http_head.specs.declared.framing.LineState.{LineState}
use Rattle.http_head.specs.declared.framing.LineState.TheVariants.{Fresh, Returned, Filled}
use Rattle.http_head.specs.declared.framing.Scan.{Scan}

-- an LF ends a line
abbrev pub line_feed : ℕ
line_feed = 10

-- the byte CR, which may precede the LF of a line
abbrev pub carriage_return : ℕ
carriage_return = 13

-- the line with one more byte that does not end it
abbrev pub longer : LineState → ℕ → LineState
longer Fresh b = if b == carriage_return then Returned else Filled
longer Returned b = Filled
longer Filled b = Filled

-- LF or CR LF alone is an empty line
abbrev pub is_empty : LineState → Bool
is_empty Fresh = true
is_empty Returned = true
is_empty Filled = false

-- before the first byte
abbrev pub scan_start : Scan
scan_start = record { at = 0; lines = 0; line = Fresh }

-- the byte ends an empty line, and a line that is not empty precedes it
abbrev pub ends_head : Scan → ℕ → Bool
ends_head s b = b == line_feed && is_empty s.line && nat_lt 0 s.lines

-- the number of lines that are not empty, this one included
abbrev pub lines_with : ℕ → LineState → ℕ
lines_with lines line = if is_empty line then lines else lines + 1

-- the scan after one more byte
abbrev pub after : Scan → ℕ → Scan
after s b = record {
  at = s.at + 1;
  lines = if b == line_feed then lines_with s.lines s.line else s.lines;
  line = if b == line_feed then Fresh else longer s.line b;
}

-- the length of the head, and the number of its lines that are not empty
abbrev pub end_from : Scan → List ℕ → Option (ℕ × ℕ)
end_from s [] = None
end_from s (b ∷ bytes) = if ends_head s b then Some (s.at + 1, s.lines) else end_from (after s b) bytes

-- the most bytes of a head
abbrev pub head_limit : ℕ
head_limit = 16384

-- the least number of bytes without an end of the head that is refused
abbrev pub past_limit : ℕ
past_limit = 16385

-- the length of the head and the number of its lines that are not empty, if it ends within the limit
unfoldable pub head_end : List ℕ → Option (ℕ × ℕ)
head_end bytes = end_from scan_start (take head_limit bytes)
