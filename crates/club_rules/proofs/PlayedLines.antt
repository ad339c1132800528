-- What holds of a line that is played by the rules, as it grows at its end.
use Rattle.std.proofs.Common.{◌≡◌, ℕ, ◌+◌, ◌<◌, ◌≤◌, List, [], ◌∷◌, ◌++◌, length, take, None, Ok, arith, length-append}
use Rattle.std.proofs.Common.{◌⊎◌, inl, inr}
use Rattle.std.proofs.Math.Nat.{eq-or-lt_of_le}
use Rattle.std.proofs.Math.Seq.{take-length}
use Rattle.std.proofs.lemmas.List.{take-append-le}
use Rattle.club_rules.specs.GameRules.{GameRules}
use Rattle.club_rules.specs.Line.{position_after, IsPlayedLine}
use Rattle.club_rules.proofs.Lines.{IsLegalLine-append}

module _ {P M E T : Type 0} (laws : GameRules P M E T) (p : P) where
  -- the line without a move is played by the rules
  pub IsPlayedLine-none : IsPlayedLine laws p []
  IsPlayedLine-none = record { legal = tt; unended = λ k inside. absurd (omega (arith, inside)) }

  unended-to : (ms : List M) (k : ℕ) → IsPlayedLine laws p ms → laws.judge p ms ≡ None → (k ≡ length ms)
      ⊎ (k < length ms) → laws.judge p (take k ms) ≡ None
  unended-to ms k line running (inl all) = rw (all, take-length ms) running
  unended-to ms k line running (inr inside) = line.unended k inside

  -- and one that has no end grows by a legal move
  pub IsPlayedLine-append : (ms : List M) (m : M) → IsPlayedLine laws p ms → laws.judge p ms ≡ None
      → laws.check (position_after laws p ms) m ≡ Ok tt → IsPlayedLine laws p (ms ++ m ∷ [])
  IsPlayedLine-append ms m line running ok =
      let count : length (ms ++ m ∷ []) ≡ length ms + 1 = simp length-append in
      record {
        legal = IsLegalLine-append laws p ms m line.legal ok;
        unended = λ k inside.
            let within : k ≤ length ms = omega (arith, count, inside) in
            rw (take-append-le k ms (m ∷ []) within) (unended-to ms k line running (eq-or-lt_of_le within));
      }
