use Rattle.std.proofs.Common.{◌≡◌, drop, map, string_bytes}
use Rattle.serde_json.specs.View.{items_view}
use Rattle.http_bodies.specs.Analyses.{strings_of}
use Rattle.http_bodies.proofs.AnalysisLemmas.{read_then}
use Rattle.http_bodies.proofs.analyses.strings_of.Given as goal

abbrev pub invariant-loop-value : goal.invariant-loop-value
invariant-loop-value l = strings_of (items_view l.values)
    ≡ read_then (map (λ s. string_bytes s) l.texts.items) (strings_of (items_view (drop l.value-index l.values)))
