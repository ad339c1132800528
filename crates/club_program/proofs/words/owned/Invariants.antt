use Rattle.std.proofs.Common.{◌≡◌, ◌++◌, drop, map}
use Rattle.std.specs.Prelude.{string_bytes}
use Rattle.club_program.proofs.words.owned.Given as goal

abbrev pub invariant-loop-word : goal.invariant-loop-word
invariant-loop-word l =
    map string_bytes l.owned.items ++ map (λ t. t.now) (drop l.word-index l.words) ≡ map (λ t. t.now) l.words
