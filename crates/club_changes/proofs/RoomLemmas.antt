-- How many seconds a player can have.
use Rattle.std.proofs.Common.{◌≡◌, ℕ, ◌+◌, ◌*◌, ◌≤◌, ap, arith}
use Rattle.std.specs.Prelude.{IsTrue}
use Rattle.std.proofs.lemmas.Bool.Decides.{nat_tests}
use Rattle.squares.specs.declared.sides.Side.{Side}
use Rattle.squares.specs.declared.sides.Side.TheVariants.{First, Second}
use Rattle.club_requests.specs.Limits.{is_budget, is_increment}
use Rattle.club_core.specs.Game.{Clocks, spend, left_of}
use Rattle.club_imports.specs.internal.OneMoment.{clocks_with}
-- the seconds of each player fit the tables
pub use Rattle.club_laws.proofs.Proved.{room-for as room_for}

pub budget_most : (b : ℕ) → IsTrue (is_budget b) → b ≤ 31536000
budget_most b is = grind (arith, nat_tests)

pub increment_most : (n : ℕ) → IsTrue (is_increment n) → n ≤ 2592000
increment_most n is = grind (arith, nat_tests)

spend_most : (increment : ℕ) (side : Side) (m : ℕ) (c : Clocks)
    → ((spend increment side m c).left_first ≤ c.left_first + increment)
    × ((spend increment side m c).left_second ≤ c.left_second + increment)
spend_most increment First m c = (omega arith, omega arith)
spend_most increment Second m c = (omega arith, omega arith)

-- after one ply more each player has no more than so much
pub spent_few : (increment : ℕ) (side : Side) (i a b x y : ℕ) → IsTrue (is_increment increment)
    → a ≤ 31536000 + i * 2592000 → b ≤ 31536000 + i * 2592000
    → clocks_with x y 0 ≡ spend increment side 0 (clocks_with a b 0)
    → (x ≤ 31536000 + (i + 1) * 2592000) × (y ≤ 31536000 + (i + 1) * 2592000)
spent_few increment side i a b x y small first second is =
    let most = increment_most increment small in
    let more = spend_most increment side 0 (clocks_with a b 0) in
    let x_is = ap (λ k. k.left_first) is in
    let y_is = ap (λ k. k.left_second) is in
    (omega (arith, most, more.0, x_is, first), omega (arith, most, more.1, y_is, second))

-- a side has no more than both may have
pub side_most : (side : Side) (a b moment n : ℕ) → a ≤ n → b ≤ n → left_of side (clocks_with a b moment) ≤ n
side_most First a b moment n first second = first
side_most Second a b moment n first second = second
