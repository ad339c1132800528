-- The mathematical values of the code's types. No promise of the program rests on these definitions.
use Rattle.std.specs.Prelude.{ℕ, List, [], ◌∷◌, Result, Ok, Err, option_map}
use Rattle.http_head.specs.declared.head.FieldOccurrence.{FieldOccurrence}
use Rattle.http_head.specs.declared.head.FieldOccurrence.TheVariants.{Absent, Once, Twice}
use Rattle.http_head.specs.declared.head.ParsedHead as code
use Rattle.http_head.specs.declared.refusals.HeadRefusal.{HeadRefusal}
use Rattle.http_head.specs.declared.head.NamedHost as named
use Rattle.http_head.specs.Head.{Occurrence, absent, once, twice, ParsedHead, NamedHost}

abbrev pub occurrence_view : FieldOccurrence → Occurrence
occurrence_view Absent = absent
occurrence_view (Once value) = once value.now
occurrence_view Twice = twice

abbrev pub outline_view : code.ParsedHead → ParsedHead
outline_view o =
    record { method = o.method.now; target = o.target.now; key = option_map (λ k. k.now) o.key; length = o.length }

abbrev pub outline_result : Result code.ParsedHead HeadRefusal → Result ParsedHead HeadRefusal
outline_result (Ok o) = Ok (outline_view o)
outline_result (Err refusal) = Err refusal

abbrev pub named_host_view : named.NamedHost → NamedHost
named_host_view h = record { target = h.target.now; host = option_map (λ v. v.now) h.host }

-- the values that were found
abbrev pub listed : FieldOccurrence → List (List ℕ)
listed Absent = []
listed (Once value) = value.now ∷ []
listed Twice = []

abbrev pub IsNotTwice : FieldOccurrence → Type 0
IsNotTwice Absent = Unit {0}
IsNotTwice (Once value) = Unit {0}
IsNotTwice Twice = ⊥
