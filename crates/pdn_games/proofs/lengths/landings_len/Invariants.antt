use Rattle.std.proofs.Common.{◌≡◌, ◌+◌, ◌-◌, ◌≤◌, drop, length}
use Rattle.pdn_games.specs.Lengths.{landings_within, landings_len}
use Rattle.pdn_games.proofs.lengths.landings_len.Given as goal

pub record Passed (IsWithin AreAhead : Type 0) : Type 0 where
  pub within : IsWithin
  pub ahead : AreAhead

abbrev pub invariant-loop : goal.invariant-loop
invariant-loop l =
    Passed
    (l.passed ≤ length l.text)
    (l.passed + landings_within (length l.text - l.counter) (drop l.passed l.text) ≡ landings_len l.text)
