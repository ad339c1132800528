use Rattle.store_tables.proofs.Proved.{clean_before, reads_on}
use Rattle.std.proofs.Common.{inl, refl}
use Rattle.sqlite.specs.Held.{state}
use Rattle.store_tables.specs.Cells.{IsGame}
use Rattle.store_tables.specs.Tables.{games}
use Rattle.store_tables.specs.declared.names.Table.TheVariants.{Games}
use Rattle.club_check.proofs.KnownLemmas.{known_shown, read_shown}
use Rattle.club_check.proofs.StoredLemmas.{stands}
use Rattle.club_check.proofs.ClubLemmas.{names_both, still}
use Rattle.club_check.proofs.FirstWrong.{stores_of}
use Rattle.club_check.proofs.known.read_games.Goals as goal

pub returns-in-Err-clause-reason_is_right : goal.returns-in-Err-clause-reason_is_right
returns-in-Err-clause-reason_is_right g c clean has =
    names_both Games (games 10) 5 IsGame (state g.S.Store c.args.conn.now) _ refl refl (λ content all. all)
    (c.in-Err.ensures.reason_is_right clean (stands Games tt has))

pub returns-in-Err-clause-torn : goal.returns-in-Err-clause-torn
returns-in-Err-clause-torn g c clean t is has version content holds any =
    c.in-Err.ensures.apart clean t is (stands Games tt has)
    (stores_of (games 10) 5 refl refl holds).apart

pub returns-in-Err-show_all-clause-reason_is_right : goal.returns-in-Err-show_all-clause-reason_is_right
returns-in-Err-show_all-clause-reason_is_right g c clean has =
    let clean1 = clean_before c.show_all.ensures.reads clean in
    let same = (c.in-Ok.ensures.counted clean1 (stands Games tt has)).same in
    inl (c.fault_of.ensures.store (c.in-Err-show_all.ensures.known clean (stands Games tt (still same has))))

pub returns-in-Ok-games_of-clause-reads : goal.returns-in-Ok-games_of-clause-reads
returns-in-Ok-games_of-clause-reads g c = reads_on c.in-Ok.ensures.reads c.in-Ok-show_all.ensures.reads

pub returns-in-Ok-games_of-clause-rows : goal.returns-in-Ok-games_of-clause-rows
returns-in-Ok-games_of-clause-rows g c clean typed has =
    let s0 = state g.S.Store c.args.conn.now in
    let s1 = state g.S.Store c.count_of.new.conn in
    let s2 = state g.S.Store c.show_all.new.conn in
    let clean1 = clean_before c.show_all.ensures.reads clean in
    let counted = c.in-Ok.ensures.counted clean1 (stands Games tt has) in
    let tells = c.in-Ok-show_all.ensures.rows clean (stands Games tt (still counted.same has)) in
    read_shown s0 s1 s2 c.in-Ok.field-0 c.in-Ok-show_all.shown.items counted tells c.deref.result.now _
    c.deref.ensures.value (c.in-Ok-games_of.ensures.typed typed)

pub returns-in-Ok-games_of-clause-known : goal.returns-in-Ok-games_of-clause-known
returns-in-Ok-games_of-clause-known g c clean other has =
    let s0 = state g.S.Store c.args.conn.now in
    let s1 = state g.S.Store c.count_of.new.conn in
    let s2 = state g.S.Store c.show_all.new.conn in
    let clean1 = clean_before c.show_all.ensures.reads clean in
    let counted = c.in-Ok.ensures.counted clean1 (stands Games tt has) in
    let tells = c.in-Ok-show_all.ensures.rows clean (stands Games tt (still counted.same has)) in
    let (untyped, (seats, are)) = c.in-Ok-games_of.ensures.known other in
    known_shown s0 s1 s2 c.in-Ok.field-0 c.in-Ok-show_all.shown.items counted tells c.deref.result.now
    c.in-Ok-games_of.found.games.items c.in-Ok-games_of.found.judged.items c.deref.ensures.value untyped seats are
