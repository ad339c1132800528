use Rattle.store_tables.proofs.Proved.{clean_before, rows_after, reads_on}
use Rattle.club_rows.specs.internal.Replay.{terms_given}
use Rattle.club_answers.proofs.viewed.make_played.Goals as goal

pub returns-clause-reads : goal.returns-clause-reads
returns-clause-reads g c = reads_on c.in_ok-view.ensures.reads c.in_ok-rows.ensures.reads

pub returns-clause-played : goal.returns-clause-played
returns-clause-played g c clean content game k seen line judged of =
    let terms = terms_given c.args.stored.now.terms in
    let looked = clean_before c.line.ensures.reads clean in
    let kept = rows_after c.in_ok-view.ensures.reads looked content k in
    c.in_ok-played.ensures terms c.args.stored.now.id game c.in_ok-view.ensures.terms of.legal
    (c.in_ok-view.ensures.shows looked content game k seen judged of)
    (rw c.deref.ensures.value (c.in_ok-rows.ensures.rows clean content terms game kept line))
