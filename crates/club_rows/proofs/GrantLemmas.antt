-- The time that rulings grant in a replay.
use Rattle.std.proofs.Common.{◌≡◌, ℕ, ◌+◌, ◌*◌, ◌<◌, ◌≤◌, List, [], ◌∷◌, length, drop, Some, Bool, true, false, zero}
use Rattle.std.proofs.Common.{suc, refl}
use Rattle.std.proofs.Common.{ap, sym, ◌∙◌, arith, add-one}
use Rattle.std.specs.Prelude.{◌==◌, ◌^◌, if◌then◌else◌, IsTrue, slice_get}
use Rattle.std.proofs.lemmas.Bool.Decides.{nat_tests}
use Rattle.std.proofs.lemmas.List.{length-map}
use Rattle.std.proofs.lemmas.Option.{same_Some}
use Rattle.squares.specs.declared.sides.Side.{Side}
use Rattle.squares.specs.declared.sides.Side.TheVariants.{First, Second}
use Rattle.squares.specs.Sides.{other}
use Rattle.club_rules.specs.GameRules.{GameRules}
use Rattle.club_requests.specs.declared.rulings.Ruling.{Ruling}
use Rattle.club_requests.specs.declared.rulings.Ruling.TheVariants.{Grant, Award, Void}
use Rattle.club_requests.specs.Limits.{is_budget, is_increment}
use Rattle.club_requests.specs.Rulings.{has_grant_time}
use Rattle.club_core.specs.Events.{Terms}
use Rattle.club_core.specs.Game.{Clocks, Game, after_ruling, after_rulings, clocks_of, clocks_then}
use Rattle.club_core.specs.LegalState.{Each}
use Rattle.club_core.specs.Rulings.{GivenRuling}
use Rattle.club_core.proofs.Proved.{grant-bound}
use Rattle.club_rows.specs.Rulings.{ArePossible}
use Rattle.club_rows.specs.internal.Replay.{Replays, granted_by, granted_to, grants_to, left_in, most_left}
use Rattle.club_rows.specs.internal.Rulings.{given_of, rulings_given}
use Rattle.club_rows.specs.declared.replay.Replayed.{Replayed}
use Rattle.club_core.specs.declared.rulings.GivenRuling as read

-- ---- how much

granted-most : (side : Side) (ruling : Ruling) → has_grant_time ruling ≡ true → granted_to side ruling ≤ 31536000
granted-most First (Grant First seconds) good = grant-bound seconds good
granted-most Second (Grant Second seconds) good = grant-bound seconds good
granted-most First (Grant Second seconds) good = omega arith
granted-most Second (Grant First seconds) good = omega arith
granted-most First (Award score) good = omega arith
granted-most Second (Award score) good = omega arith
granted-most First Void good = omega arith
granted-most Second Void good = omega arith

if-most : (b : Bool) (n most : ℕ) → n ≤ most → (if b then n else 0) ≤ most
if-most true n most low = low
if-most false n most low = omega arith

-- rulings grant at most this much
pub grants-most : (side : Side) (plies : ℕ) (rs : List GivenRuling) → Each (λ r. has_grant_time r.ruling ≡ true) rs
    → grants_to side plies rs ≤ 31536000 * length rs
grants-most side plies [] good = omega arith
grants-most side plies (r ∷ rs) good =
    let here = if-most (r.plies == plies) (granted_to side r.ruling) 31536000
    (granted-most side r.ruling (good 0 r refl)) in
    let rest = grants-most side plies rs (λ n x at. good (suc n) x at) in
    omega (arith, here, rest, add-one (length rs))

-- ---- the clocks

-- the clocks with so many seconds more
abbrev with_more : Clocks → ℕ → ℕ → Clocks
with_more c first second =
    record { left_first = c.left_first + first; left_second = c.left_second + second; since = c.since }

ruling-more : (ruling : Ruling) (c : Clocks)
    → after_ruling ruling c ≡ with_more c (granted_to First ruling) (granted_to Second ruling)
ruling-more (Grant First seconds) c = grind arith
ruling-more (Grant Second seconds) c = grind arith
ruling-more (Award score) c = grind arith
ruling-more Void c = grind arith

if-more : (b : Bool) (ruling : Ruling) (c : Clocks) → (if b then after_ruling ruling c else c)
    ≡ with_more c (if b then granted_to First ruling else 0) (if b then granted_to Second ruling else 0)
if-more true ruling c = ruling-more ruling c
if-more false ruling c = grind arith

more-more : (c : Clocks) (a b x y : ℕ) → with_more (with_more c a b) x y ≡ with_more c (a + x) (b + y)
more-more c a b x y = grind arith

-- rulings add what they grant to each side
pub granted-clocks : (rs : List GivenRuling) (plies : ℕ) (c : Clocks)
    → after_rulings rs plies c ≡ with_more c (grants_to First plies rs) (grants_to Second plies rs)
granted-clocks [] plies c = grind arith
granted-clocks (r ∷ rs) plies c =
    ap (after_rulings rs plies) (if-more (r.plies == plies) r.ruling c)
    ∙ (granted-clocks rs plies (with_more c (granted_by First plies r) (granted_by Second plies r))
    ∙ more-more c (granted_by First plies r) (granted_by Second plies r) (grants_to First plies rs)
    (grants_to Second plies rs))

module _ {R P M E T : Type 0} (rules : GameRules P M E T) (terms : Terms) where
  -- what is replayed with what was granted since the last move
  pub granted-replays : (game : Game M) (old new : Replayed R P M E T)
      → Replays rules game (clocks_then game terms) old
      → new.left_first ≡ old.left_first + grants_to First (length old.line.items) game.rulings
      → new.left_second ≡ old.left_second + grants_to Second (length old.line.items) game.rulings
      → new ≡ record old { left_first = new.left_first; left_second = new.left_second }
      → Replays rules game (clocks_of game terms) new
  granted-replays game old new is first second same =
      let plies : length old.line.items ≡ length game.entries =
      ap length is.line ∙ length-map game.entries (λ e. e.made) in
      let clocks = granted-clocks game.rulings (length game.entries) (clocks_then game terms) in
      let since : new.since ≡ old.since = ap (λ r. r.since) same in
      record {
        line = ap (λ r. r.line.items) same ∙ is.line;
        position = ap (λ r. r.position) same ∙ is.position;
        clocks_are = grind (arith, clocks, is.clocks_are, first, second, since, plies);
      }

-- ---- room

pub budget-most : (seconds : ℕ) → IsTrue (is_budget seconds) → seconds ≤ 31536000
budget-most seconds is = grind (arith, nat_tests)

pub increment-most : (seconds : ℕ) → IsTrue (is_increment seconds) → seconds ≤ 2592000
increment-most seconds is = grind (arith, nat_tests)

-- what a side can have left leaves room
pub left-fits : (plies left : ℕ) → plies ≤ 600 → left ≤ most_left plies → left < 2 ^ 41
left-fits plies left low most = omega (arith, low, most)

module _ (side : Side) (rs : List GivenRuling) (possible : ArePossible rs) where
  few : (plies : ℕ) → grants_to side plies rs ≤ 3122064000
  few plies =
      let most = grants-most side plies rs possible.time in
      let count : length rs ≤ 99 = possible.count in
      omega (arith, most, count)

  -- with what was granted they have no more than possible
  pub granted-first : (plies left new : ℕ) → left ≤ 31536000 → new ≡ left + grants_to side plies rs
      → new ≤ most_left 0
  granted-first plies left new low is = omega (arith, few plies, low, is)

  pub granted-left : (k plies left moved increment new : ℕ) → left ≤ most_left k → increment ≤ 2592000
      → moved ≤ left + increment → new ≡ moved + grants_to side plies rs → new ≤ most_left (k + 1)
  granted-left k plies left moved increment new low most more is = omega (arith, few plies, low, most, more, is)

  -- and the sum can be made
  pub granted-fits : (plies left : ℕ) → left < 2 ^ 62 → left + grants_to side plies rs < 2 ^ 63
  granted-fits plies left low = omega (arith, few plies, low)

-- a move adds at most the increment to what a side has left
pub moved-left : {R P M E T : Type 0} (old new : Replayed R P M E T) (turn : Side) (increment : ℕ)
    → left_in new turn ≤ left_in old turn + increment → left_in new (other turn) ≡ left_in old (other turn)
    → (new.left_first ≤ old.left_first + increment) × (new.left_second ≤ old.left_second + increment)
moved-left old new First increment mover rest = (mover, omega (arith, rest))
moved-left old new Second increment mover rest = (omega (arith, rest), mover)

-- ---- what is still to be added of a list

grants-drop : (side : Side) (plies : ℕ) (rulings : List read.GivenRuling) (k : ℕ) (r : read.GivenRuling)
    → slice_get rulings k ≡ Some r
    → grants_to side plies (rulings_given (drop k rulings))
    ≡ granted_by side plies (given_of r) + grants_to side plies (rulings_given (drop (suc k) rulings))
grants-drop side plies [] k r at = cc
grants-drop side plies (x ∷ xs) zero r at =
    ap (λ y. granted_by side plies (given_of y) + grants_to side plies (rulings_given xs)) (same_Some x r at)
grants-drop side plies (x ∷ xs) (suc k) r at = grants-drop side plies xs k r at

pub grants-next : (side : Side) (plies : ℕ) (rulings : List read.GivenRuling) (k : ℕ) (r : read.GivenRuling)
    → slice_get rulings k ≡ Some r
    → grants_to side plies (rulings_given (drop k rulings))
    ≡ granted_by side plies (given_of r) + grants_to side plies (rulings_given (drop (k + 1) rulings))
grants-next side plies rulings k r at =
    grants-drop side plies rulings k r at
    ∙ ap (λ n. granted_by side plies (given_of r) + grants_to side plies (rulings_given (drop n rulings)))
    (sym (add-one k))

pub grants-over : (side : Side) (plies : ℕ) (rulings : List read.GivenRuling) (k : ℕ) → length rulings ≤ k
    → grants_to side plies (rulings_given (drop k rulings)) ≡ 0
grants-over side plies [] zero over = refl
grants-over side plies [] (suc k) over = refl
grants-over side plies (x ∷ xs) zero over = absurd (omega (arith, over))
grants-over side plies (x ∷ xs) (suc k) over =
    grants-over side plies xs k (omega (arith, over, add-one k, add-one (length xs)))
