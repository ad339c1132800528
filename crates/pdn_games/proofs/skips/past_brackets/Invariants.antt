use Rattle.std.proofs.Common.{◌≡◌, ◌≤◌, drop, false}
use Rattle.pdn_games.specs.Skips.{past_brackets}
use Rattle.pdn_games.proofs.skips.past_brackets.Given as goal

pub record Passing (IsWithin AreAhead : Type 0) : Type 0 where
  pub within : IsWithin
  pub ahead : AreAhead

abbrev pub invariant-loop-i : goal.invariant-loop-i
invariant-loop-i l =
    Passing
    (l.nesting.depth ≤ l.i)
    (past_brackets (record { depth = 0; braced = false }) l.text ≡ past_brackets l.nesting (drop l.i l.text))
