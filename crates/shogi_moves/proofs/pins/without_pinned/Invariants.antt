use Rattle.std.proofs.Common.{◌≡◌, ℕ, true, false, take}
use Rattle.std.specs.List.{list_any}
use Rattle.std.specs.FinMap as map
use Rattle.std.specs.FinSet as set
use Rattle.shogi_moves.specs.internal.Facing.{faced_along}
use Rattle.shogi_moves.specs.internal.Search.{all_headings}
use Rattle.shogi_moves.proofs.pins.without_pinned.Given as goal

abbrev pub invariant-loop-heading : goal.invariant-loop-heading
invariant-loop-heading l = record {
  kept : (n : ℕ) → set.contains l.free n ≡ true → set.contains l.fn.squares n ≡ true;
  safe : (n : ℕ) → set.contains l.free n ≡ true
      → list_any (faced_along (map.remove l.board n) l.side l.square) (take l.heading-index all_headings) ≡ false;
}
