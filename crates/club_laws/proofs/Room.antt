-- How many seconds a player can have.
use Rattle.std.proofs.Common.{◌≡◌, ℕ, suc, ◌+◌, ◌*◌, ◌<◌, ◌≤◌, ◌^◌, List, [], ◌∷◌, length, map, Some, Bool, true}
use Rattle.std.proofs.Common.{false, refl, ap, arith, add-one}
use Rattle.std.specs.Prelude.{IsTrue, nat_le, ◌==◌, if◌then◌else◌, slice_get}
use Rattle.std.proofs.lemmas.Bool.Decides.{nat_tests}
use Rattle.std.proofs.lemmas.List.{length-map}
use Rattle.squares.specs.declared.sides.Side.{Side}
use Rattle.squares.specs.declared.sides.Side.TheVariants.{First, Second}
use Rattle.squares.specs.Sides.{other}
use Rattle.club_requests.specs.declared.rulings.Ruling.{Ruling}
use Rattle.club_requests.specs.declared.rulings.Ruling.TheVariants.{Grant, Award, Void}
use Rattle.club_requests.specs.Limits.{is_budget, is_increment, most_rulings}
use Rattle.club_requests.specs.Rulings.{has_grant_time}
use Rattle.club_core.specs.Events.{Terms}
use Rattle.club_core.specs.Rulings.{GivenRuling}
use Rattle.club_core.specs.Game.{Game, Clocks, after_ruling, after_rulings, spend, spend_all, opening_clocks}
use Rattle.club_core.specs.Game.{clocks_of, clocks_then, left_of}
use Rattle.club_core.proofs.Proved.{grant-bound}

pub le-true : (a b : ℕ) → nat_le a b ≡ true → a ≤ b
le-true a b is = grind (arith, nat_tests)

pub budget-at-most : (b : ℕ) → is_budget b ≡ true → b ≤ 31536000
budget-at-most b is = grind (arith, nat_tests)

-- each move leaves at most the increment more
spend-left : (increment : ℕ) (side : Side) (m : ℕ) (c : Clocks)
    → ((spend increment side m c).left_first ≤ c.left_first + increment)
    × ((spend increment side m c).left_second ≤ c.left_second + increment)
spend-left increment First m c = (omega arith, omega arith)
spend-left increment Second m c = (omega arith, omega arith)

-- the time that each of these rulings grants, if any, is within its limits
abbrev pub AreInLimits : List GivenRuling → Type 0
AreInLimits rs = (n : ℕ) (r : GivenRuling) → slice_get rs n ≡ Some r → has_grant_time r.ruling ≡ true

-- how many rulings were given when at least this many plies were played, and when exactly so many were
abbrev count_from : ℕ → List GivenRuling → ℕ
count_from plies [] = 0
count_from plies (r ∷ rs) = (if nat_le plies r.plies then 1 else 0) + count_from plies rs

abbrev count_at : ℕ → List GivenRuling → ℕ
count_at plies [] = 0
count_at plies (r ∷ rs) = (if r.plies == plies then 1 else 0) + count_at plies rs

one-at-most : (b : Bool) → (if b then 1 else 0) ≤ 1
one-at-most true = omega arith
one-at-most false = omega arith

from-at-most : (plies : ℕ) (rs : List GivenRuling) → count_from plies rs ≤ length rs
from-at-most plies [] = omega arith
from-at-most plies (r ∷ rs) =
    let rest = from-at-most plies rs in
    let here = one-at-most (nat_le plies r.plies) in
    omega (arith, rest, here, add-one (length rs))

here-or-later : (a plies : ℕ) → (if nat_le plies a then 1 else 0)
    ≡ (if a == plies then 1 else 0) + (if nat_le (suc plies) a then 1 else 0)
here-or-later a plies = grind (arith, nat_tests)

from-next : (plies : ℕ) (rs : List GivenRuling)
    → count_from plies rs ≡ count_at plies rs + count_from (suc plies) rs
from-next plies [] = refl
from-next plies (r ∷ rs) =
    let rest = from-next plies rs in
    let here = here-or-later r.plies plies in
    omega (arith, rest, here)

-- a ruling gives a side at most the longest time that is granted
ruling-left : (ruling : Ruling) (c : Clocks) → has_grant_time ruling ≡ true
    → ((after_ruling ruling c).left_first ≤ c.left_first + 31536000)
    × ((after_ruling ruling c).left_second ≤ c.left_second + 31536000)
ruling-left (Grant First seconds) c good = let most = grant-bound seconds good in (omega (arith, most), omega arith)
ruling-left (Grant Second seconds) c good = let most = grant-bound seconds good in (omega arith, omega (arith, most))
ruling-left (Award score) c good = (omega arith, omega arith)
ruling-left Void c good = (omega arith, omega arith)

if-left : (b : Bool) (ruling : Ruling) (c : Clocks) → has_grant_time ruling ≡ true
    → (left_of First (if b then after_ruling ruling c else c) ≤ c.left_first + 31536000 * (if b then 1 else 0))
    × (left_of Second (if b then after_ruling ruling c else c) ≤ c.left_second + 31536000 * (if b then 1 else 0))
if-left true ruling c good = let most = ruling-left ruling c good in (omega (arith, most.0), omega (arith, most.1))
if-left false ruling c good = (omega arith, omega arith)

rulings-left : (rs : List GivenRuling) (plies : ℕ) (c : Clocks) → AreInLimits rs
    → ((after_rulings rs plies c).left_first ≤ c.left_first + 31536000 * count_at plies rs)
    × ((after_rulings rs plies c).left_second ≤ c.left_second + 31536000 * count_at plies rs)
rulings-left [] plies c good = (omega arith, omega arith)
rulings-left (r ∷ rs) plies c good =
    let rest = rulings-left rs plies (if r.plies == plies then after_ruling r.ruling c else c)
    (λ n x at. good (suc n) x at) in
    let here = if-left (r.plies == plies) r.ruling c (good 0 r refl) in
    (omega (arith, rest.0, here.0), omega (arith, rest.1, here.1))

spent-left : (increment : ℕ) (rs : List GivenRuling) (plies n : ℕ) (side : Side) (ms : List ℕ) (c : Clocks)
    → n ≡ plies + length ms → increment ≤ 2592000 → AreInLimits rs
    → ((spend_all increment rs plies side ms c).left_first + 31536000 * count_from n rs
    ≤ c.left_first + 2592000 * length ms + 31536000 * count_from plies rs)
    × ((spend_all increment rs plies side ms c).left_second + 31536000 * count_from n rs
    ≤ c.left_second + 2592000 * length ms + 31536000 * count_from plies rs)
spent-left increment rs plies n side [] c is most good =
    let e : n ≡ plies = omega (arith, is) in
    let same : count_from n rs ≡ count_from plies rs = ap (λ k. count_from k rs) e in
    (omega (arith, same), omega (arith, same))
spent-left increment rs plies n side (m ∷ ms) c is most good =
    let now = after_rulings rs plies c in
    let rest = spent-left increment rs (suc plies) n (other side) ms (spend increment side m now)
    (omega (arith, is, add-one plies, add-one (length ms))) most good in
    let here = spend-left increment side m now in
    let given = rulings-left rs plies c good in
    let next = from-next plies rs in
    let count = add-one (length ms) in (
      omega (arith, rest.0, here.0, given.0, next, most, count),
      omega (arith, rest.1, here.1, given.1, next, most, count),
    )

-- the seconds of each player by the numbers of moves and of rulings
pub left-at-most : {M : Type 0} (g : Game M) (terms : Terms) → terms.increment ≤ 2592000 → AreInLimits g.rulings
    → ((clocks_of g terms).left_first ≤ terms.budget + 2592000 * length g.entries + 31536000 * length g.rulings)
    × ((clocks_of g terms).left_second ≤ terms.budget + 2592000 * length g.entries + 31536000 * length g.rulings)
left-at-most g terms most good =
    let n = length g.entries in
    let moments = map (λ e. e.moment) g.entries in
    let count : length moments ≡ n = simp length-map in
    let spent = spent-left terms.increment g.rulings 0 n First moments (opening_clocks g terms) (omega (arith, count))
    most good in
    let given = rulings-left g.rulings n (clocks_then g terms) good in
    let next = from-next n g.rulings in
    let few = from-at-most 0 g.rulings in (
      omega (arith, spent.0, given.0, next, few, count),
      omega (arith, spent.1, given.1, next, few, count),
    )

-- the seconds of each player fit the tables
pub room-for : {M : Type 0} (g : Game M) (terms : Terms) → IsTrue (is_budget terms.budget)
    → IsTrue (is_increment terms.increment) → length g.entries ≤ 601 → length g.rulings ≤ most_rulings
    → AreInLimits g.rulings → ((clocks_of g terms).left_first < 2 ^ 63) × ((clocks_of g terms).left_second < 2 ^ 63)
room-for g terms budget increment plies few good =
    let most : terms.increment ≤ 2592000 = le-true terms.increment 2592000 increment in
    let starts : terms.budget ≤ 31536000 = budget-at-most terms.budget budget in
    let left = left-at-most g terms most good in
    (omega (arith, left.0, plies, few, starts), omega (arith, left.1, plies, few, starts))
