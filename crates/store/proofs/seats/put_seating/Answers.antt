use Rattle.std.proofs.Common.{refl, ap, sym, ◌∙◌}
use Rattle.club_core.specs.Answer.{answered}
use Rattle.club_core.specs.internal.Answer.{seating_of}
use Rattle.club_core.specs.State.{with_new_game}
use Rattle.club_changes.proofs.Proved.{officer_none, seat_decided}
use Rattle.store.proofs.seats.put_seating.Goals as goal

pub returns-in_ok-changes-in-Starts-clause-step : goal.returns-in_ok-changes-in-Starts-clause-step
returns-in_ok-changes-in-Starts-clause-step c s who event first second is_club es is =
    let key = c.args.key.now in
    let p = c.in-Starts.new.pairing in
    let id = c.in-Starts.new.game in
    let are = rw es at c.in_ok-changes-in-Starts.ensures.puts is_club.events in
    let running = rw es at c.in_ok-changes-in-Starts.ensures.running in
    seat_decided s c.args.moment who key event first second p id c.in_ok-changes-in-Starts.changes is_club
    (sym (ap seating_of c.in-Starts.is) ∙ is) are running

pub returns-in-Repeated-clause-step : goal.returns-in-Repeated-clause-step
returns-in-Repeated-clause-step c s who event first second is_club es is =
    officer_none s (with_new_game s c.args.moment c.args.key.now) who _ _ _ c.without_changes.ensures.outcome
    c.without_changes.ensures.none (ap answered (sym (ap seating_of c.in-Repeated.is) ∙ is)) refl

pub returns-in-Refused-clause-step : goal.returns-in-Refused-clause-step
returns-in-Refused-clause-step c s who event first second is_club es is =
    officer_none s (with_new_game s c.args.moment c.args.key.now) who _ _ _ c.without_changes-in-Refused.ensures.outcome
    c.without_changes-in-Refused.ensures.none (ap answered (sym (ap seating_of c.in-Refused.is) ∙ is)) refl
