use Rattle.std.proofs.Common.{◌≤◌, ◌∙◌, ℕ, sym, ap, arith}
use Rattle.std.proofs.lemmas.Bool.Decides.{nat_tests}
use Rattle.squares.specs.declared.sides.Side.TheVariants.{First}
use Rattle.squares.specs.Sides.{other}
use Rattle.club_core.specs.Game.{spend}
use Rattle.club_imports.specs.internal.OneMoment.{clocks_with}
use Rattle.club_imports.proofs.LeftLemmas.{spend-more, turns-more, spend-first, spend-second}
use Rattle.club_imports.proofs.rows.left_after.Goals as goal

pub loop-ply-preserved : goal.loop-ply-preserved
loop-ply-preserved c =
    let now = c.loop-ply.invariant in
    let increment : ℕ = c.args.increment in
    let low : increment ≤ 2592000 = let is = c.requires.increment in grind (arith, nat_tests, is) in
    let first = ap (λ k. k.left_first) (c.with_increment-left.ensures 0) in
    let second = ap (λ k. k.left_second) (c.with_increment-left.ensures 0) in
    let more_first = spend-first increment c.loop-ply.left.first c.loop-ply.left.second 0 c.loop-ply.side low in
    let more_second = spend-second increment c.loop-ply.left.first c.loop-ply.left.second 0 c.loop-ply.side low in
    let was_first = now.first in
    let was_second = now.second in
    record {
      side = c.other-side.ensures ∙ ap other now.side ∙ sym (turns-more c.loop-ply.ply First);
      clocks = λ moment.
          c.with_increment-left.ensures moment ∙ (λ i. spend increment (now.side i) moment (now.clocks moment i))
          ∙ spend-more increment moment c.loop-ply.ply (clocks_with c.args.budget c.args.budget moment);
      first = omega (arith, first, more_first, was_first);
      second = omega (arith, second, more_second, was_second);
    }
