use Rattle.std.proofs.Common.{◌≡◌, Some, ap, sym, ◌∙◌}
use Rattle.club_rules.specs.internal.Records.{recorded_of}
use Rattle.club_core.specs.internal.Answer.{events_of}
use Rattle.club_core.specs.Game.{end_of, turn_of}
use Rattle.club_core.specs.Imports.{imported}
use Rattle.club_core.specs.State.{place, terms_at}
use Rattle.club_laws.proofs.Proved.{imported-result}
use Rattle.club_rows.specs.internal.Replay.{terms_given}
use Rattle.club_changes.specs.internal.Steps.{score_list}
use Rattle.club_changes.proofs.Proved.{ended_with, put_as}
use Rattle.store.proofs.imports.added.Goals as goal

pub returns-clause-puts : goal.returns-clause-puts
returns-clause-puts g c clean content k apart =
    let laws = g.R.Rules.rules in
    let new = c.args.new.now in
    let r = recorded_of new.recorded in
    let key = Some c.args.key.now in
    let scores = score_list (Some c.in_ok-scores.scores) in
    let terms : terms_given c.terms_of-terms.result ≡ terms_at (place (events_of c.args.events.now) new.pairing.event) =
    c.terms_of-terms.ensures ∙ ap terms_at (sym c.in_ok-event.ensures.at) in
    let game = imported laws key new.pairing c.args.moment r in
    let result = imported-result laws key new.pairing c.args.moment r c.requires in
    let (end, ended) = ended_with laws (end_of laws game) (turn_of laws game) new.recorded.score result in
    record {
      end = end;
      ended = ended;
      score = new.recorded.score;
      result = result;
      scores = scores;
      scores_are = c.in_ok-scores.ensures.puts clean content k apart;
      puts = put_as laws _ new.game c.args.moment game c.in_ok-rows.rows
          scores c.in_ok-put_rows.field-0 (rw terms at c.in_ok-rows.ensures) c.in_ok-put_rows.ensures;
    }
