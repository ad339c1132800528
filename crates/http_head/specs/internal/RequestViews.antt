-- The mathematical values of the code's requests. No promise of the program rests on these definitions.
use Rattle.std.specs.Prelude.{option_map}
use Rattle.http_head.specs.declared.request.HttpRequest as code
use Rattle.http_head.specs.declared.request.ParseState.{ParseState}
use Rattle.http_head.specs.declared.request.ParseState.TheVariants.{Unfinished, Refused, Whole}
use Rattle.http_head.specs.Request as spec

abbrev pub request_view : code.HttpRequest → spec.HttpRequest
request_view r =
    record { method = r.method.now; target = r.target.now; key = option_map (λ k. k.now) r.key; body = r.body.now }

abbrev pub seen_view : ParseState → spec.ParseState
seen_view Unfinished = spec.unfinished
seen_view (Refused refusal) = spec.refused refusal
seen_view (Whole request) = spec.whole (request_view request)
