-- Moves that the rules of a game refuse.
use Rattle.std.proofs.Common.{◌≡◌, Result, Ok, Err, IsOk, refl}
use Rattle.club_rules.specs.declared.refusals.MoveRefusal.{MoveRefusal}
use Rattle.club_rules.specs.MoveRefusal.{refused_by}

module _ {Cause : Type 0} (refusal_of : Cause → MoveRefusal) where
  -- the club passes what the game passes
  pub passed-by : (answer : Result (Unit {0}) Cause) → refused_by refusal_of answer ≡ Ok tt → IsOk answer
  passed-by (Ok u) e = refl
  passed-by (Err cause) e = cc

  pub passes-by : (answer : Result (Unit {0}) Cause) → IsOk answer → refused_by refusal_of answer ≡ Ok tt
  passes-by (Ok u) ok = refl
  passes-by (Err cause) ok = cc

  -- and nothing else
  pub refused-passes : (cause : Cause) → refused_by refusal_of (Err cause) ≡ Ok tt → ⊥
  refused-passes cause e = cc
