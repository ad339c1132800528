use Rattle.std.proofs.Common.{◌≡◌, ℕ, List, ◌∷◌, map, Bor}
use Rattle.std.specs.Prelude.{codes}
use Rattle.club_batches.proofs.orders.words_of.Given as goal

abbrev pub invariant-loop-word : goal.invariant-loop-word
invariant-loop-word l =
    map (λ (word : Bor (List ℕ)). word.now) l.words.items
    ≡ codes "club" ∷ map (λ (word : Bor (List ℕ)). word.now) l.yielded
