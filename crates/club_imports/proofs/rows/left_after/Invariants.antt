use Rattle.std.proofs.Common.{◌≡◌, ℕ, ◌+◌, ◌*◌, ◌≤◌, []}
use Rattle.squares.specs.declared.sides.Side.TheVariants.{First}
use Rattle.club_core.specs.Game.{turns, spend_all}
use Rattle.club_imports.specs.internal.OneMoment.{at_moment, clocks_with}
use Rattle.club_imports.proofs.rows.left_after.Given as goal

abbrev pub invariant-loop-ply : goal.invariant-loop-ply
invariant-loop-ply l =
    record {
      side : l.side ≡ turns l.ply First;
      clocks : (moment : ℕ) → clocks_with l.left.first l.left.second moment
          ≡ spend_all l.increment [] 0 First (at_moment moment l.ply) (clocks_with l.budget l.budget moment);
      first : l.left.first ≤ 31536000 + l.ply * 2592000;
      second : l.left.second ≤ 31536000 + l.ply * 2592000;
    }
