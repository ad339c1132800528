-- The clocks of a game in which the arbiter granted time: 60 seconds and 5 for each move, from 1000. First moves at
-- 1060. Second is granted 100 seconds at 1125, and moves at 1220.
use Rattle.std.proofs.Common.{◌≡◌, ℕ, List, [], ◌∷◌, refl}
use Rattle.squares.specs.declared.sides.Side.TheVariants.{First, Second}
use Rattle.club_requests.specs.declared.rulings.Ruling.TheVariants.{Grant}
use Rattle.club_core.specs.Rulings.{GivenRuling}
use Rattle.club_core.specs.Game.{Clocks, after_rulings, spend_all}

abbrev granted : List GivenRuling
granted = record { ruling = Grant Second 100; moment = 1125; plies = 1 } ∷ []

abbrev begun : Clocks
begun = record { left_first = 60; left_second = 60; since = 1000 }

-- First has 5 seconds left, and Second 160 from 1060 on
after-grant : after_rulings granted 1 (spend_all 5 granted 0 First (1060 ∷ []) begun)
    ≡ record { left_first = 5; left_second = 160; since = 1060 }
after-grant = refl

-- Second moves in the last second, and has the 5 for the move
after-both : after_rulings granted 2 (spend_all 5 granted 0 First (1060 ∷ 1220 ∷ []) begun)
    ≡ record { left_first = 5; left_second = 5; since = 1220 }
after-both = refl
