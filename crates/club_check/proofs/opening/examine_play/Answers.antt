use Rattle.store_tables.proofs.Proved.{clean_before, reads_on}
use Rattle.std.proofs.Common.{inl, refl}
use Rattle.sqlite.specs.Held.{state}
use Rattle.club_check.proofs.ExaminedLemmas.{blamed_before, both_same, club_counted, moves_number, play_examined}
use Rattle.club_check.proofs.ExaminedLemmas.{seen_number, still_counted}
use Rattle.club_check.specs.internal.RightTables.{NamesPlayed}
use Rattle.store_tables.specs.Cells.{IsMove, IsSeen}
use Rattle.store_tables.specs.Tables.{moves, seen}
use Rattle.store_tables.specs.declared.names.Table.TheVariants.{Moves, Seen}
use Rattle.club_check.proofs.StoredLemmas.{stands}
use Rattle.club_check.proofs.ClubLemmas.{before, names_both, still}
use Rattle.club_check.proofs.FirstWrong.{moves_types_wrong, seen_torn_wrong}
use Rattle.club_check.proofs.opening.examine_play.Goals as goal

pub returns-in-Ok-examine_games-clause-found : goal.returns-in-Ok-examine_games-clause-found
returns-in-Ok-examine_games-clause-found g c clean version has =
    let clean2 = clean_before c.examine_games.ensures.reads clean in
    let clean1 = clean_before c.count_of-2.ensures.reads clean2 in
    let club = club_counted has in
    let moves = c.in-Ok.ensures.counted clean1 (stands Moves tt club) in
    let seen = c.in-Ok-count_of.ensures.counted clean2 (stands Seen tt (still moves.same club)) in
    let same = both_same moves seen in
    let (own, found) = c.in-Ok-examine_games.ensures.found clean version
    (still_counted version c.args.rulings same has) same.0.is_open (moves_number moves seen) (seen_number moves seen) in
    play_examined moves seen c.args.rows.now c.args.last c.in-Ok-examine_games.wrong version own found

pub returns-in-Err-examine_games-clause-reason_is_right : goal.returns-in-Err-examine_games-clause-reason_is_right
returns-in-Err-examine_games-clause-reason_is_right g c clean version has =
    let clean2 = clean_before c.examine_games.ensures.reads clean in
    let clean1 = clean_before c.count_of-2.ensures.reads clean2 in
    let club = club_counted has in
    let moves = c.in-Ok.ensures.counted clean1 (stands Moves tt club) in
    let seen = c.in-Ok-count_of.ensures.counted clean2 (stands Seen tt (still moves.same club)) in
    let same = both_same moves seen in
    blamed_before c.args.rows.now version c.in-Err-examine_games.fault same
    (c.in-Err-examine_games.ensures.reason_is_right clean version (still_counted version c.args.rulings same has)
    same.0.is_open (moves_number moves seen) (seen_number moves seen))

pub returns-in-Err-clause-later_fault : goal.returns-in-Err-clause-later_fault
returns-in-Err-clause-later_fault g c clean version has =
    moves_types_wrong c.args.rows.now version (state g.S.Store c.args.conn.now) c.in-Err.fault
    (c.in-Err.ensures.reason_is_right clean (stands Moves tt (club_counted has)))

pub returns-in-Err-count_of-clause-later_fault : goal.returns-in-Err-count_of-clause-later_fault
returns-in-Err-count_of-clause-later_fault g c clean version has =
    let s1 = state g.S.Store c.count_of.new.conn in
    let clean1 = clean_before c.count_of-2.ensures.reads clean in
    let club = club_counted has in
    let counted = c.in-Ok.ensures.counted clean1 (stands Moves tt club) in
    before (λ d. NamesPlayed c.args.rows.now version d c.in-Err-count_of.fault) counted.same
    (seen_torn_wrong c.args.rows.now version s1 c.in-Err-count_of.fault
    (c.in-Err-count_of.ensures.reason_is_right clean (stands Seen tt (still counted.same club)))
    (λ t is. c.in-Err-count_of.ensures.apart clean t is (stands Seen tt (still counted.same club))))

pub returns-in-Err-examine_games-clause-later_fault : goal.returns-in-Err-examine_games-clause-later_fault
returns-in-Err-examine_games-clause-later_fault g c clean version has =
    let clean2 = clean_before c.examine_games.ensures.reads clean in
    let clean1 = clean_before c.count_of-2.ensures.reads clean2 in
    let club = club_counted has in
    let moves = c.in-Ok.ensures.counted clean1 (stands Moves tt club) in
    let seen = c.in-Ok-count_of.ensures.counted clean2 (stands Seen tt (still moves.same club)) in
    let same = both_same moves seen in
    before (λ d. NamesPlayed c.args.rows.now version d c.in-Err-examine_games.fault) same
    (c.in-Err-examine_games.ensures.later_fault clean version (still_counted version c.args.rulings same has)
    same.0.is_open (moves_number moves seen) (seen_number moves seen))

pub returns-in-Ok-examine_games-clause-reads : goal.returns-in-Ok-examine_games-clause-reads
returns-in-Ok-examine_games-clause-reads g c =
    reads_on c.in-Ok.ensures.reads
    (reads_on c.in-Ok-count_of.ensures.reads c.in-Ok-examine_games.ensures.reads)

pub returns-in-Err-clause-reason_is_right : goal.returns-in-Err-clause-reason_is_right
returns-in-Err-clause-reason_is_right g c clean version has =
    inl (names_both Moves (moves 8) 4 IsMove (state g.S.Store c.args.conn.now) _ refl refl (λ content all. all)
    (c.in-Err.ensures.reason_is_right clean (stands Moves tt (club_counted has))))

pub returns-in-Err-count_of-clause-reason_is_right : goal.returns-in-Err-count_of-clause-reason_is_right
returns-in-Err-count_of-clause-reason_is_right g c clean version has =
    let s1 = state g.S.Store c.count_of.new.conn in
    let clean1 = clean_before c.count_of-2.ensures.reads clean in
    let club = club_counted has in
    let one = c.in-Ok.ensures.counted clean1 (stands Moves tt club) in
    blamed_before c.args.rows.now version c.in-Err-count_of.fault one.same
    (inl (names_both Seen (seen 12) 6 IsSeen s1 _ refl refl (λ content all. all)
    (c.in-Err-count_of.ensures.reason_is_right clean (stands Seen tt (still one.same club)))))
