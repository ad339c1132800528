use Rattle.std.proofs.Common.{◌≡◌, ap, sym, ◌∙◌}
use Rattle.club_core.specs.Events.{Event}
use Rattle.club_core.specs.internal.Answer.{event_of}
use Rattle.club_core.specs.State.{place, kind_at, terms_at, pairing_of}
use Rattle.club_changes.proofs.Proved.{ids_read, event_stands}
use Rattle.club_reads.specs.internal.Closings.{without_closing}
use Rattle.club_reads.proofs.games.read_game.Goals as goal

pub returns-clause-found : goal.returns-clause-found
returns-clause-found g c clean s id game is_club at cells k =
    let ids = c.in_ok-ids.ids in
    let event = c.in_ok-event.event in
    let (id_is, event_is) = ids_read ids id game (c.in_ok-ids.ensures s id game cells) in
    let (known, there) = event_stands s is_club id game at in
    let read : event_of event ≡ without_closing known =
    c.in_ok-event.ensures.found clean s is_club k known (ap (place s.events) event_is ∙ there) in
    record {
      id_is = id_is;
      kind = ap (λ (e : Event). e.game) read ∙ ap kind_at (sym there);
      terms = c.terms_of.ensures ∙ (ap (λ (e : Event). e.terms) read ∙ ap terms_at (sym there));
      row = cells;
    }
