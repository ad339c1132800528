-- The refusal of a ruling by what is stored of its game. No promise of the program rests on these definitions.
use Rattle.std.specs.Prelude.{ℕ, ◌+◌, List, [], ◌∷◌, Option, Some, None, Bool, true, false, not, ◌&&◌, nat_le, is_some}
use Rattle.club_requests.specs.declared.refusals.Refusal.{Refusal}
use Rattle.club_requests.specs.declared.refusals.Refusal.TheVariants.{GameOver, Conflict, BadValue, Full}
use Rattle.club_requests.specs.declared.rulings.Ruling.{Ruling}
use Rattle.club_requests.specs.Limits.{most_rulings}
use Rattle.club_requests.specs.Outcome.{first_refusal}
use Rattle.club_requests.specs.Rulings.{has_grant_time, is_grant}
use Rattle.club_core.specs.declared.rows.GameEnd.{GameEnd}
use Rattle.club_core.specs.declared.rows.GameEnd.TheVariants.{Rule, Verdict, Outside}
use Rattle.club_core.specs.declared.rows.StoredRulings.{StoredRulings}

-- a rule of the game gave this end, or the ruling grants time after it
abbrev pub is_late_for : {E : Type 0} → Option (GameEnd E) → Ruling → Bool
is_late_for None ruling = false
is_late_for (Some (Rule e)) ruling = true
is_late_for (Some (Verdict v)) ruling = is_grant ruling
is_late_for (Some (Outside o)) ruling = is_grant ruling

-- the number is that of a ruling, or the next one
abbrev pub is_next_number : StoredRulings → ℕ → Bool
is_next_number stored number = nat_le 1 number && nat_le number (stored.count + 1)

module _ {E : Type 0} (end : Option (GameEnd E)) (stored : StoredRulings) (number : ℕ) (ruling : Ruling) where
  -- the refusals of a ruling with their tests, in the order in which they apply
  abbrev pub stored_tests : List (Bool × Refusal)
  stored_tests =
      (is_late_for end ruling, GameOver)
      ∷ (is_some stored.asked, Conflict)
      ∷ (not (is_next_number stored number && has_grant_time ruling), BadValue)
      ∷ (nat_le most_rulings stored.count, Full)
      ∷ []

  -- the first refusal of a ruling that applies, if any
  abbrev pub stored_refusal : Option Refusal
  stored_refusal = first_refusal stored_tests
