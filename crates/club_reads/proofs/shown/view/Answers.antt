use Rattle.std.proofs.Common.{true, arith}
use Rattle.sqlite.specs.Held.{state}
use Rattle.sqlite.specs.State.{HasCleanDisk}
use Rattle.store_tables.proofs.Proved.{read_then}
use Rattle.club_reads.proofs.RulingLemmas.{verdict_still}
use Rattle.club_reads.proofs.shown.view.Goals as goal

pub returns-in-Some-clause-shows : goal.returns-in-Some-clause-shows
returns-in-Some-clause-shows g c clean content game k tells judged of =
    let looked : HasCleanDisk (state g.S.Store c.last_occurrences.new.conn) =
    omega (arith, c.end_beneath.ensures.reads.clean) in
    let beneath = c.in_ok-beneath.ensures.beneath clean content game
    (verdict_still game c.in_ok-stood.ensures.reads looked judged) of in
    (rw c.in-Some.is at c.in_ok-view.ensures.shows) c.args.stored.now.id game of
    (c.in_ok-stood.ensures.stood looked content game k tells of) beneath

pub returns-in-Some-clause-reads : goal.returns-in-Some-clause-reads
returns-in-Some-clause-reads g c =
    read_then true _ _ _ c.in_ok-stood.ensures.reads c.in_ok-beneath.ensures.reads
