use Rattle.std.proofs.Common.{◌≡◌, [], ◌∷◌, Some, ap, sym, subst, subst₂, ◌∙◌}
use Rattle.std.specs.Option.{option_map}
use Rattle.std.specs.Prelude.{IsTrue}
use Rattle.club_core.specs.internal.Answer.{event_of, events_of}
use Rattle.club_core.specs.LegalState.{IsLegalEvent}
use Rattle.club_requests.specs.Limits.{is_budget}
use Rattle.club_core.specs.State.{place, kind_at, terms_at}
use Rattle.club_laws.proofs.Proved.{in-place}
use Rattle.club_changes.specs.internal.Steps.{first_row, first_meetings, Puts, no_rows}
use Rattle.club_changes.proofs.ClubPlayed.{started_first, started_seen_first}
use Rattle.club_changes.proofs.seats.seated_rows.Goals as goal

pub returns-clause-puts : goal.returns-clause-puts
returns-clause-puts c legal =
    let key = option_map (λ k. k.now) c.args.key in
    let events = events_of c.args.events.now in
    let event = event_of c.in_ok-event.event.now in
    let pairing = c.args.new.pairing in
    let id = c.args.new.game in
    let at : place events pairing.event ≡ Some event = c.in_ok-event.ensures.at in
    let terms = c.terms_of.ensures ∙ ap terms_at (sym at) in
    let budget = (in-place IsLegalEvent events pairing.event event legal at).budget in
    let is = started_first events pairing id key c.args.moment event.game (ap kind_at at) in
    let seen = started_seen_first events pairing id key c.args.moment event.game (ap kind_at at) in
    subst₂ (λ r l. Puts c.in_ok-changes.changes c.args.moment (record no_rows { games = r ∷ []; seen = l }))
    (ap (λ t. first_row event.game t id key pairing c.args.moment) terms ∙ sym is) seen
    (c.in_ok-changes.ensures.puts (subst (λ t. IsTrue (is_budget t.budget)) (sym c.terms_of.ensures) budget))

pub returns-clause-running : goal.returns-clause-running
returns-clause-running c =
    let key = option_map (λ k. k.now) c.args.key in
    ap (λ kind. first_meetings kind key c.args.new.pairing c.args.moment)
    (ap kind_at c.in_ok-event.ensures.at) ∙ c.in_ok-changes.ensures.running
