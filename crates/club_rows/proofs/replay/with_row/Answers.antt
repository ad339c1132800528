use Rattle.std.proofs.Common.{◌≤◌, ◌+◌, length, subst, arith, ◌∙◌}
use Rattle.club_rules.specs.Line.{IsLegalLine}
use Rattle.club_rows.specs.internal.Replay.{IsNext, terms_with, left_in}
use Rattle.club_rows.proofs.GrantLemmas.{moved-left}
use Rattle.club_rows.proofs.NextLemmas.{follows-next, next-follows, replays-more}
use Rattle.club_rows.proofs.ReplayLemmas.{replayed-more}
use Rattle.club_rows.proofs.replay.with_row.Goals as goal

pub returns-in_ok-new-in-Some : goal.returns-in_ok-new-in-Some
returns-in_ok-new-in-Some g c =
    let laws = g.R.Rules.rules in
    let old = c.args.game in
    let new = c.in_ok-new-in-Some.new in
    let made = c.in_ok-new-in-Some.ensures in
    let found = c.in-Some.next in
    let next : IsNext laws c.args.increment c.args.id old c.args.row.now found.made found.moment found.left =
    rw c.in-Some.is at c.in_ok-next.ensures.some in
    let position = rw c.in-Some.is at c.in_ok-next.ensures.after in
    let turn = rw c.in-Some.is at c.in_ok-next.ensures.turn in
    let text = rw c.in-Some.is at c.in_ok-next.ensures.text in
    let most : found.left ≤ left_in old (laws.turn old.position) + c.args.increment = omega (arith, next.time.left) in
    let (first, second) = moved-left old new found.turn c.args.increment (rw (made.mover, turn) most) made.other in
    record {
      safe = replayed-more laws g.met.R.Rules.same_position_is g.met.R.Rules.texts_tell_positions
          (length old.line.items) old new found.made found.position found.text c.requires.game
          c.requires.room next.running next.legal position made.line made.position
          (record { text_is = text; track = made.track; stood = made.stood; adds = made.tally });
      first = first;
      second = second;
      some = λ budget declares game replays.
          let line = subst (IsLegalLine laws laws.start) replays.line c.requires.game.line.legal in
          let terms = terms_with budget c.args.increment declares in (
            record { made = found.made; moment = found.moment },
            follows-next laws (assumption (g.met.R.Rules)) terms c.args.id game line old replays c.args.row.now
                found.made found.moment found.left next,
            replays-more laws (assumption (g.met.R.Rules)) terms c.args.id game line old replays c.args.row.now new
                (record { made = found.made; moment = found.moment }) found.turn found.left turn next.time.left
                made.line (made.position ∙ position) made.mover made.other made.since,
          );
      none = λ none. absurd cc;
    }

pub returns-in-None-clause-none : goal.returns-in-None-clause-none
returns-in-None-clause-none g c = λ none budget declares game replays e follows.
    let laws = g.R.Rules.rules in
    let line = subst (IsLegalLine laws laws.start) replays.line c.requires.game.line.legal in
    c.in_ok-next.ensures.none c.in-None.is e.made e.moment _
    (next-follows laws (assumption (g.met.R.Rules)) (terms_with budget c.args.increment declares) c.args.id game line
    c.args.game replays c.args.row.now e follows)
