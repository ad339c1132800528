use Rattle.std.specs.Option.{option_map}
use Rattle.std.proofs.Common.{None, ap, refl, sym, ◌∙◌}
use Rattle.club_core.specs.Game.{end_with}
use Rattle.club_core.specs.State.{seated}
use Rattle.club_rows.specs.internal.Replay.{terms_given}
use Rattle.store_tables.specs.Cells.{game_cells, seen_cells}
use Rattle.club_rows.proofs.Proved.{met_running}
use Rattle.club_changes.proofs.ReadRows.{one_pushed}
use Rattle.club_changes.proofs.ClubPlayed.{seated_cells}
use Rattle.club_changes.proofs.starts.start.Goals as goal

pub returns-clause-puts : goal.returns-clause-puts
returns-clause-puts g c legal =
    let cells = seated_cells g.R.Rules.rules c.in_ok-record_of.field-0 c.in_ok-row.row (terms_given c.args.terms)
    c.args.new.pairing c.args.new.game (option_map (λ k. k.now) c.args.key) c.args.moment legal
    c.in_ok-row.ensures c.in_ok-record_of.ensures in
    let games = one_pushed game_cells c.changes_at-changes.result.games.items c.push.new.self.items c.in_ok-record_of.field-0 _
    c.changes_at-changes.ensures.games_are c.in_ok-push.ensures.items cells in
    let seen = one_pushed seen_cells c.changes_at-changes.result.seen.items c.push-2.new.self.items c.in_ok-first_seen.field-0
    _ c.changes_at-changes.ensures.seen_are c.in_ok-push-2.ensures.items refl
    ∙ sym
    (c.in_ok-first_seen.ensures
    (seated (option_map (λ k. k.now) c.args.key) c.args.new.pairing c.args.moment) refl) in
    search (games, seen, c.changes_at-changes.ensures)

pub returns-clause-running : goal.returns-clause-running
returns-clause-running g c =
    met_running g.R.Rules.rules (seated (option_map (λ k. k.now) c.args.key) c.args.new.pairing c.args.moment)
    (ap (λ e. end_with e None None) g.met.R.Rules.starts_running)
