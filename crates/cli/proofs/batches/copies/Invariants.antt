use Rattle.std.proofs.Common.{◌≡◌, ◌++◌, drop, map}
use Rattle.std.specs.Prelude.{string_bytes}
use Rattle.cli.proofs.batches.copies.Given as goal

abbrev pub invariant-loop-text : goal.invariant-loop-text
invariant-loop-text l =
    map string_bytes l.texts.items ++ map (λ t. t.now) (drop l.text-index l.given) ≡ map (λ t. t.now) l.given
