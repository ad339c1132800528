use Rattle.std.proofs.Common.{◌∙◌}
use Rattle.club_imports.proofs.StandingLemmas.{next-legal, next-position, next-track}
use Rattle.club_imports.proofs.rows.line_state_after.Goals as goal

pub play-next-requires : goal.play-next-requires
play-next-requires g c =
    next-legal g.R.Rules.rules c.args.moves.now c.loop-i.i c.index-moves-i.result c.loop-i-test.true c.index-moves-i.is
    c.requires.line c.loop-i.position c.loop-i.invariant.position

pub loop-i-preserved : goal.loop-i-preserved
loop-i-preserved g c =
    record {
      position =
          c.play-next.ensures
          ∙ next-position g.R.Rules.rules c.args.moves.now c.loop-i.i c.index-moves-i.result c.loop-i-test.true
          c.index-moves-i.is
          c.loop-i.position c.loop-i.invariant.position;
      track =
          c.track_next-track.ensures
          ∙ next-track g.R.Rules.rules c.args.moves.now c.loop-i.i c.index-moves-i.result c.loop-i-test.true
          c.index-moves-i.is
          c.loop-i.track c.loop-i.position c.play-next.result c.loop-i.invariant.track c.loop-i.invariant.position
          c.play-next.ensures;
    }
