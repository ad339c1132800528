use Rattle.std.proofs.Common.{sym, ◌∙◌, ap}
use Rattle.std.proofs.lemmas.Option.{same_Some}
use Rattle.club_core.specs.Game.{moves_of}
use Rattle.club_rows.specs.internal.Columns.{columns_in}
use Rattle.club_rows.specs.internal.Replay.{terms_given}
use Rattle.club_rows.proofs.ColumnLemmas.{columns-are, none-read}
use Rattle.club_rows.proofs.RowViewLemmas.{position-found, track-is}
use Rattle.club_rows.proofs.row_view.view_of_row.Goals as goal

pub returns-in-None-clause-found : goal.returns-in-None-clause-found
returns-in-None-clause-found g c = λ id game is.
    absurd
    (none-read g.R.Rules.rules (terms_given c.args.terms) id game c.args.row.now is g.met.R.Rules.numbers_are_few
    c.in-None.ensures)

pub returns-clause-shows : goal.returns-clause-shows
returns-clause-shows g c = λ id game is stands over.
    let laws = g.R.Rules.rules in
    let terms = terms_given c.args.terms in
    let stored = c.in-Some.stored in
    let same = columns-are laws terms id game c.args.row.now is (columns_in stored) c.in-Some.ensures.0 in
    let text = ap (λ x. x.position) same in
    let found = position-found laws g.R.Rules.StandsFor g.met.R.Rules.writes_positions g.met.R.Rules.stands_for_one
    (moves_of game) is.legal.line.legal stored.position.now text c.in_ok-position.field-0 c.in_ok-position.ensures in
    let last = same_Some _ _ (sym c.in-Some-2.is ∙ found) in
    record {
      row = c.in_ok-new.ensures.shows terms id game is.legal same last stands over;
      position = last;
      track = c.track_of.ensures ∙ track-is laws terms id game is.legal (columns_in stored) same
          g.met.R.Rules.numbers_give_tracks;
    }
