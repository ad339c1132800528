use Rattle.std.proofs.Common.{true, refl, arith}
use Rattle.sqlite.specs.Held.{state}
use Rattle.sqlite.specs.State.{HasCleanDisk}
use Rattle.store_tables.proofs.Proved.{read_then, still_rows}
use Rattle.club_rows.specs.Club.{tables}
use Rattle.club_reads.specs.internal.Holders.{IsLaterAt}
use Rattle.club_reads.proofs.HolderLemmas.{later_version, nobodys}
use Rattle.club_reads.proofs.people.later_holder.Goals as goal

pub returns-in_ok-row-in-Some-clause-found : goal.returns-in_ok-row-in-Some-clause-found
returns-in_ok-row-in-Some-clause-found g c clean s is_club version k not_first =
    let looked : HasCleanDisk (state g.S.Store c.later_key.new.conn) =
    omega (arith, c.newest_holder.ensures.reads.clean) in
    let later : IsLaterAt s c.args.key.now c.in-Some.found =
    rw c.in-Some.is at (c.in_ok-found.ensures.found looked s is_club version k) in
    let kept = still_rows _ _ (c.in_ok-found.ensures.reads.kept refl looked) (tables s) k in
    c.in_ok-row-in-Some.ensures.found clean s is_club (later_version s is_club c.args.key.now c.in-Some.found later)
    kept c.args.key.now later

pub returns-in-None-clause-found : goal.returns-in-None-clause-found
returns-in-None-clause-found g c clean s is_club version k not_first =
    nobodys s is_club c.args.key.now not_first
    (rw c.in-None.is at (c.in_ok-found.ensures.found clean s is_club version k))

pub returns-in_ok-row-in-Some-clause-reads : goal.returns-in_ok-row-in-Some-clause-reads
returns-in_ok-row-in-Some-clause-reads g c =
    read_then true _ _ _ c.in_ok-found.ensures.reads c.in_ok-row-in-Some.ensures.reads
