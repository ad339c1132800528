-- The rulings on a game as the arbiter gave them, and the verdict that they leave.
use Rattle.std.specs.Prelude.{ℕ, zero, suc, List, [], ◌∷◌, Option, Some, None, Bool, false, slice_get}
use Rattle.club_requests.specs.declared.rulings.Ruling.{Ruling}
use Rattle.club_requests.specs.declared.rulings.Verdict.{Verdict}
use Rattle.club_requests.specs.Rulings.{same_ruling, verdict_in}

-- a ruling with its timestamp and the number of plies that were played when it was given
pub record GivenRuling : Type 0 where
  pub ruling : Ruling
  pub moment : ℕ
  pub plies : ℕ

-- the later one of two verdicts
abbrev pub later_verdict : Option Verdict → Option Verdict → Option Verdict
later_verdict earlier None = earlier
later_verdict earlier (Some later) = Some later

-- the verdict that rulings leave: the last one
abbrev pub verdict_of : List GivenRuling → Option Verdict
verdict_of [] = None
verdict_of (r ∷ rs) = later_verdict (verdict_in r.ruling) (verdict_of rs)

-- the ruling if it gives a verdict, otherwise the one of the rest
abbrev pub verdict_or : Option Verdict → GivenRuling → Option GivenRuling → Option GivenRuling
verdict_or None r rest = rest
verdict_or (Some verdict) r rest = Some r

-- the ruling that gave the first verdict, if there is one
abbrev pub first_verdict : List GivenRuling → Option GivenRuling
first_verdict [] = None
first_verdict (r ∷ rs) = verdict_or (verdict_in r.ruling) r (first_verdict rs)

-- what was decided by a ruling that was looked up
abbrev pub ruling_in : Option GivenRuling → Option Ruling
ruling_in None = None
ruling_in (Some r) = Some r.ruling

-- the ruling under a number, which counts from 1
abbrev pub ruling_under : List GivenRuling → ℕ → Option Ruling
ruling_under rulings zero = None
ruling_under rulings (suc n) = ruling_in (slice_get rulings n)

-- the ruling exists and is this one
abbrev pub is_given : Ruling → Option Ruling → Bool
is_given ruling None = false
is_given ruling (Some given) = same_ruling given ruling
