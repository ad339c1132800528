use Rattle.std.proofs.Common.{true, refl, sym, subst, arith}
use Rattle.sqlite.specs.Held.{state}
use Rattle.sqlite.specs.State.{HasCleanDisk}
use Rattle.club_core.specs.Legal.{IsLegalGame}
use Rattle.club_rows.specs.internal.Replay.{terms_given}
use Rattle.club_rows.specs.internal.RowView.{AreRowsAt}
use Rattle.store_tables.proofs.Proved.{read_then, still_rows}
use Rattle.club_reads.proofs.shown.view_at_ply.Goals as goal

pub returns-clause-shows : goal.returns-clause-shows
returns-clause-shows g c clean content game k seen moves judged of =
    let laws = g.R.Rules.rules in
    let stored = c.args.stored.now in
    let looked : HasCleanDisk (state g.S.Store c.view.new.conn) = omega (arith, c.rows_at.ensures.reads.clean) in
    let kept = still_rows _ _ (c.in_ok-view.ensures.reads.kept refl looked) content k in
    let shows = c.in_ok-view.ensures.shows looked content game k seen judged of in
    let rows = c.in_ok-rows.ensures.found clean content (terms_given stored.terms) game kept moves of.legal in
    let is = c.in_ok-view.ensures.terms in (
      c.in_ok-asked.ensures.shows game shows,
      c.in_ok-asked.ensures.ply stored.id game (subst (λ t. IsLegalGame laws t game) (sym is) of.legal)
          (subst (λ t. AreRowsAt laws t stored.id game c.args.ply c.in_ok-rows.rows) (sym is) rows),
    )

pub returns-clause-reads : goal.returns-clause-reads
returns-clause-reads g c =
    read_then true _ _ _ c.in_ok-view.ensures.reads c.in_ok-rows.ensures.reads
