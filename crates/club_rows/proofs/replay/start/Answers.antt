use Rattle.std.proofs.Common.{◌∙◌, ap}
use Rattle.std.specs.Prelude.{Some, cond}
use Rattle.club_rows.specs.internal.Tally.{same_text}
use Rattle.club_rows.proofs.TallyLemmas.{tally-start, seen-none}
use Rattle.club_rows.proofs.ReplayLemmas.{start-replayed}
use Rattle.club_rows.proofs.replay.start.Goals as goal

pub returns-clause-safe : goal.returns-clause-safe
returns-clause-safe g c =
    let laws = g.R.Rules.rules in
    let made = c.in_ok-stood.ensures in
    let none = c.new-tally.ensures c.in_ok-text.text in
    let told = tally-start laws g.met.R.Rules.same_position_is g.met.R.Rules.texts_tell_positions c.add.new.self
    c.in_ok-text.text c.in_ok-stood.stood
    (c.in_ok-text.ensures ∙ ap laws.write_position c.start-position.ensures)
    (seen-none _ _ 0 none made.stood)
    (λ other. made.adds other ∙ ap (cond (same_text c.in_ok-text.text other) (Some c.in_ok-stood.stood))
    (c.new-tally.ensures other)) in
    start-replayed laws _ c.new.ensures.items c.start-position.ensures
    (c.track_start.ensures ∙ ap laws.track_start c.start-position.ensures) told.0 told.1
