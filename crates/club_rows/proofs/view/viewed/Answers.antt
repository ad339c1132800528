use Rattle.std.proofs.Common.{ap, ◌∙◌}
use Rattle.club_rules.specs.Line.{line_track}
use Rattle.club_rows.specs.internal.Replay.{terms_given}
use Rattle.club_rows.proofs.view.viewed.Goals as goal

pub returns-clause-shows : goal.returns-clause-shows
returns-clause-shows g c =
    let laws = g.R.Rules.rules in
    let (outside, named, row) = c.in_ok-row.ensures.shows in (
      outside,
      named,
      λ entries replays. record {
        row = row (terms_given c.args.terms) entries replays;
        position = replays.position;
        track = c.requires.game.counted.track ∙ ap (line_track laws laws.start) replays.line;
      },
    )
