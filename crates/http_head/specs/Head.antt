-- The head of a request, and the refusals that it decides.
use Rattle.std.specs.Prelude.{◌≡◌, ℕ, Bool, true, false, ◌&&◌, List, [], ◌∷◌, Option, Some, None, Result, Ok, Err}
use Rattle.std.specs.Prelude.{codes, length, map, ◌==◌, nat_lt, if◌then◌else◌}
use Rattle.std.specs.List.{list_all}
use Rattle.std.specs.Char.{is_ascii_digit, to_ascii_lowercase}
use Rattle.std.specs.Str.{bytes_eq}
use Rattle.std.specs.Str.Parse.{digits_value}
use Rattle.httparse.specs.Grammar.{RequestHead, ReadsRequest}
use Rattle.httparse.specs.Spans.{name_and_value}
use Rattle.http_head.specs.declared.refusals.HeadRefusal.{HeadRefusal}
use Rattle.http_head.specs.declared.refusals.HeadRefusal.TheVariants.{HeadTooLong, BadHead, BadHost, NotImplemented}
use Rattle.http_head.specs.declared.refusals.HeadRefusal.TheVariants.{NoLength, TooLong}

-- ---- fields

-- field names are equal if they differ in ASCII case alone
abbrev pub is_name : List ℕ → List ℕ → Bool
is_name a b = bytes_eq (map to_ascii_lowercase a) (map to_ascii_lowercase b)

-- header fields: name and value
abbrev pub Fields : Type 0
Fields = List (List ℕ × List ℕ)

-- the values of the fields with a name
abbrev pub values : List ℕ → Fields → List (List ℕ)
values name [] = []
values name (field ∷ fields) = if is_name name field.0 then field.1 ∷ values name fields else values name fields

-- the occurrences of a field
pub data Occurrence : Type 0 where
  absent : Occurrence
  once : List ℕ → Occurrence
  twice : Occurrence

-- the occurrences of a field with these values: none, one or several
abbrev pub occurrence_among : List (List ℕ) → Occurrence
occurrence_among [] = absent
occurrence_among (value ∷ []) = once value
occurrence_among (value ∷ other ∷ values) = twice

-- the occurrences of the field with this name
abbrev pub field_occurrence : List ℕ → Fields → Occurrence
field_occurrence name fields = occurrence_among (values name fields)

-- ---- numbers

-- 1 to 9 digits
abbrev pub is_number : List ℕ → Bool
is_number text = nat_lt 0 (length text) && nat_lt (length text) 10 && list_all is_ascii_digit text

-- a number of 1 to 9 digits
abbrev pub number_of : List ℕ → Option ℕ
number_of text = if is_number text then Some (digits_value 10 text) else None

-- ---- the head

-- the fields of a head as `httparse` reads them; values are trimmed
abbrev pub fields_of : RequestHead → Fields
fields_of h = map name_and_value h.fields

-- the parts of a head that the server uses
pub record ParsedHead : Type 0 where
  pub method : List ℕ
  pub target : List ℕ
  pub key : Option (List ℕ)
  pub length : ℕ

-- the number, or a refusal if the text was not a number
abbrev pub named_number : Option ℕ → Result (Option ℕ) HeadRefusal
named_number None = Err BadHead
named_number (Some n) = Ok (Some n)

-- the value of Content-Length, if present; a malformed or repeated one is refused
abbrev pub named_length : Occurrence → Result (Option ℕ) HeadRefusal
named_length absent = Ok None
named_length (once value) = named_number (number_of value)
named_length twice = Err BadHead

-- Host occurs once, or is absent in HTTP/1.0
abbrev pub has_good_host : ℕ → Occurrence → Bool
has_good_host minor absent = minor == 0
has_good_host minor (once value) = true
has_good_host minor twice = false

-- the field does not occur
abbrev pub is_absent : Occurrence → Bool
is_absent absent = true
is_absent (once value) = false
is_absent twice = false

-- the value of a field that occurs once
abbrev pub single_value : Occurrence → Option (List ℕ)
single_value absent = None
single_value (once value) = Some value
single_value twice = None

-- the most bytes of a body
abbrev pub body_limit : ℕ
body_limit = 65536

-- the most lines of a head that are not empty
abbrev pub line_limit : ℕ
line_limit = 65

-- the length of the body: a POST must name it, another request without one has no body
abbrev pub body_length : List ℕ → Option ℕ → Result ℕ HeadRefusal
body_length method None = if bytes_eq method (codes "POST") then Err NoLength else Ok 0
body_length method (Some n) = if nat_lt body_limit n then Err TooLong else Ok n

-- the head's parts, with the length of the body
abbrev pub outline_with : List ℕ → List ℕ → Fields → Result ℕ HeadRefusal → Result ParsedHead HeadRefusal
outline_with method target fields (Err refusal) = Err refusal
outline_with method target fields (Ok n) =
    Ok
    (record {
      method = method;
      target = target;
      key = single_value (field_occurrence (codes "Member-Key") fields);
      length = n;
    })

-- the refusals after that of Content-Length, in their order
abbrev pub outline_behind : List ℕ → List ℕ → ℕ → Fields → Result (Option ℕ) HeadRefusal → Result ParsedHead HeadRefusal
outline_behind method target minor fields (Err refusal) = Err refusal
outline_behind method target minor fields (Ok named) =
    if has_good_host minor (field_occurrence (codes "Host") fields) then (
    if is_absent (field_occurrence (codes "Transfer-Encoding") fields) then
    outline_with method target fields (body_length method named)
    else Err NotImplemented) else Err BadHost

-- the parts of a head, or its first refusal, beginning with that of Content-Length
abbrev pub outline_from : List ℕ → List ℕ → ℕ → Fields → Result ParsedHead HeadRefusal
outline_from method target minor fields =
    outline_behind method target minor fields (named_length (field_occurrence (codes "Content-Length") fields))

-- the parts of a head, or the first refusal that applies
abbrev pub outline_of : ℕ → Option RequestHead → Result ParsedHead HeadRefusal
outline_of lines None = if nat_lt line_limit lines then Err HeadTooLong else Err BadHead
outline_of lines (Some h) = if nat_lt line_limit lines then Err HeadTooLong else outline_from h.method h.target h.minor
    (fields_of h)

-- the target of a head and the value of its Host, if the field occurs
pub record NamedHost : Type 0 where
  pub target : List ℕ
  pub host : Option (List ℕ)

-- the target and the value of Host; none if Host is missing or repeated
abbrev pub named_host_by : List ℕ → ℕ → Occurrence → Option NamedHost
named_host_by target minor field =
    if has_good_host minor field then Some (record { target = target; host = single_value field }) else None

-- the same, unless Content-Length is refused before
abbrev pub named_host_behind : List ℕ → ℕ → Occurrence → Result (Option ℕ) HeadRefusal → Option NamedHost
named_host_behind target minor field (Err refusal) = None
named_host_behind target minor field (Ok named) = named_host_by target minor field

-- the same, given the fields of a head
abbrev pub named_host_from : List ℕ → ℕ → Fields → Option NamedHost
named_host_from target minor fields =
    named_host_behind target minor (field_occurrence (codes "Host") fields)
    (named_length (field_occurrence (codes "Content-Length") fields))

-- the target and the value of Host, if no refusal of the head comes before one of Host's value
abbrev pub named_host_of : ℕ → Option RequestHead → Option NamedHost
named_host_of lines None = None
named_host_of lines (Some h) =
    if nat_lt line_limit lines then None else named_host_from h.target h.minor (fields_of h)

-- `httparse` reads all the bytes as this head, or reads no head
abbrev pub IsHead : List ℕ → Option RequestHead → Type 0
IsHead bytes None = (h : RequestHead) → ReadsRequest bytes h [] → ⊥
IsHead bytes (Some h) = ReadsRequest bytes h []

-- a head with too many lines is not parsed
abbrev pub IsReadIf : Bool → List ℕ → Option RequestHead → Type 0
IsReadIf true bytes read = read ≡ None
IsReadIf false bytes read = IsHead bytes read

-- the head that is read from bytes with so many lines
abbrev pub IsReadAs : ℕ → List ℕ → Option RequestHead → Type 0
IsReadAs lines bytes read = IsReadIf (nat_lt line_limit lines) bytes read
