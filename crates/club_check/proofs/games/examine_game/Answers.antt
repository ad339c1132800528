use Rattle.std.proofs.Common.{◌≡◌, Some, ap, inl, inr, length, refl, sym, subst, ◌∙◌, arith}
use Rattle.std.specs.List.{AllByRecursion}
use Rattle.sqlite.specs.Held.{state}
use Rattle.store_sql.specs.Read.{beginning_with}
use Rattle.store_tables.specs.Cells.{IsMove, IsRuling}
use Rattle.store_tables.specs.Placed.{club_trees}
use Rattle.store_tables.specs.Tables.{moves}
use Rattle.store_tables.specs.declared.names.Table.TheVariants.{Moves, Rulings, Seen}
use Rattle.store_tables.proofs.Proved.{clean_before, reads_on}
use Rattle.club_check.specs.internal.Examined.{IsGameFound}
use Rattle.club_check.specs.internal.RightMoves.{rulings_at}
use Rattle.club_check.specs.internal.RightTables.{IsLater, IsUntyped}
use Rattle.club_check.proofs.ClubLemmas.{names_both, stays, still, unnamed}
use Rattle.club_check.proofs.ExaminedLemmas.{club_counted, still_counted}
use Rattle.club_check.proofs.FirstWrong.{either_later, moves_types_wrong, some_later, wrong_later}
use Rattle.club_check.proofs.FoundGames.{AreReadFor, all_first, game_found, numbers_found, unruled_found, untyped_found}
use Rattle.club_check.proofs.RulingLemmas.{ruled_after, ruled_unchanged}
use Rattle.club_check.proofs.StoredLemmas.{stands}
use Rattle.club_check.proofs.games.examine_game.Goals as goal

-- ---- moves

pub returns-in-Err-clause-later_fault : goal.returns-in-Err-clause-later_fault
returns-in-Err-clause-later_fault g c clean version has =
    moves_types_wrong c.args.rows.now version (state g.S.Store c.args.conn.now) c.in-Err.fault
    (c.in-Err.ensures.reason_is_right clean (stands Moves tt (club_counted has)))

pub returns-in-Err-clause-reason_is_right : goal.returns-in-Err-clause-reason_is_right
returns-in-Err-clause-reason_is_right g c clean version has =
    inl (names_both Moves (moves 8) 4 IsMove (state g.S.Store c.args.conn.now) _ refl refl (λ content all. all)
    (c.in-Err.ensures.reason_is_right clean (stands Moves tt (club_counted has))))

-- ---- rulings

pub returns-in-Err-read_rulings-clause-reads : goal.returns-in-Err-read_rulings-clause-reads
returns-in-Err-read_rulings-clause-reads g c = reads_on c.in-Ok.ensures.reads c.in-Err-read_rulings.ensures.reads

pub returns-in-Err-read_rulings-clause-reason_is_right : goal.returns-in-Err-read_rulings-clause-reason_is_right
returns-in-Err-read_rulings-clause-reason_is_right g c clean version has =
    let early = clean_before c.read_rulings.ensures.reads clean in
    let one = c.in-Ok.ensures.rows early (stands Moves tt (club_counted has)) in
    elim (c.in-Err-read_rulings.ensures.reason_is_right clean version (still_counted version c.args.all one.same has)) [
      | inl store ↦ inl (inl store)
      | inr memory ↦ inl (inr (inl memory))
    ]

pub returns-in-Err-read_rulings-clause-later_fault : goal.returns-in-Err-read_rulings-clause-later_fault
returns-in-Err-read_rulings-clause-later_fault g c clean version has t is =
    let early = clean_before c.read_rulings.ensures.reads clean in
    let one = c.in-Ok.ensures.rows early (stands Moves tt (club_counted has)) in
    absurd
    (unnamed _
    (c.in-Err-read_rulings.ensures.reason_is_right clean version (still_counted version c.args.all one.same has)) t is)

pub returns-in-Ok-None-clause-reads : goal.returns-in-Ok-None-clause-reads
returns-in-Ok-None-clause-reads g c = reads_on c.in-Ok.ensures.reads c.in-Ok-None.ensures.reads

pub returns-in-Ok-None-clause-found : goal.returns-in-Ok-None-clause-found
returns-in-Ok-None-clause-found g c clean version has =
    let s0 = state g.S.Store c.args.conn.now in
    let s1 = state g.S.Store c.read_of.new.conn in
    let early = clean_before c.read_rulings.ensures.reads clean in
    let one = c.in-Ok.ensures.rows early (stands Moves tt (club_counted has)) in
    let (same, untyped) = c.in-Ok-None.ensures.untyped clean c.in-Ok-None.field-0-is version
    (still_counted version c.args.all one.same has) in
    let rows = c.args.rows.now in
    let game = c.args.game.now in
    let last = c.args.last.now in
    let ms = c.in-Ok.moves.items in
    let many : length ms ≡ c.untyped_rulings.result.own.moves =
    omega (arith, c.in-Ok.moves.ok.0, c.len.ensures, c.untyped_rulings.ensures.moves) in
    let wrong = c.untyped_rulings.result.wrong in (
      stays one.same same,
      numbers_found rows last c.args.place game wrong version s0.now _ _ _ _ _ _ many
          (sym c.untyped_rulings.ensures.rulings) (sym c.untyped_rulings.ensures.seen)
          (subst (λ w. IsGameFound rows last c.args.place game (length ms) 0 0 w version s0.now)
          (sym c.untyped_rulings.ensures.wrong)
          (unruled_found rows c.args.place game version s0
          (subst (λ d. ¬ AllByRecursion IsRuling (beginning_with game.id (rulings_at version (club_trees d))))
          one.same.0.now_is untyped) last ms s1 one)),
    )

pub returns-in-Ok-None-clause-later : goal.returns-in-Ok-None-clause-later
returns-in-Ok-None-clause-later g c s people =
    subst IsLater (sym c.untyped_rulings.ensures.wrong) (some_later Rulings (inl (omega arith, omega arith)))

-- ---- positions

pub returns-clause-reads : goal.returns-clause-reads
returns-clause-reads g c =
    reads_on c.in-Ok.ensures.reads (reads_on c.in-Ok-Some.ensures.reads c.in-Err-read_seen.ensures.reads)

pub returns-clause-reason_is_right : goal.returns-clause-reason_is_right
returns-clause-reason_is_right g c clean version has =
    let clean2 = clean_before c.read_seen.ensures.reads clean in
    let clean1 = clean_before c.read_rulings.ensures.reads clean2 in
    let one = c.in-Ok.ensures.rows clean1 (stands Moves tt (club_counted has)) in
    let ruled = (rw c.in-Ok-Some.field-0-is at (c.in-Ok-Some.ensures.rows clean2)) version
    (still_counted version c.args.all one.same has) one.same.0.is_open in
    let same = stays one.same (ruled_unchanged version c.args.game.now.id c.in-Ok-Some.rulings.items _ _ ruled) in
    elim (c.in-Err-read_seen.ensures.reason_is_right clean (still same (club_counted has))) [
      | inl store ↦ inl (inl store)
      | inr memory ↦ inl (inr (inl memory))
    ]

pub returns-clause-later_fault : goal.returns-clause-later_fault
returns-clause-later_fault g c clean version has t is =
    let clean2 = clean_before c.read_seen.ensures.reads clean in
    let clean1 = clean_before c.read_rulings.ensures.reads clean2 in
    let one = c.in-Ok.ensures.rows clean1 (stands Moves tt (club_counted has)) in
    let ruled = (rw c.in-Ok-Some.field-0-is at (c.in-Ok-Some.ensures.rows clean2)) version
    (still_counted version c.args.all one.same has) one.same.0.is_open in
    let same = stays one.same (ruled_unchanged version c.args.game.now.id c.in-Ok-Some.rulings.items _ _ ruled) in
    absurd (unnamed _ (c.in-Err-read_seen.ensures.reason_is_right clean (still same (club_counted has))) t is)

-- ---- all rows

pub returns-in-Ok-found_of-clause-reads : goal.returns-in-Ok-found_of-clause-reads
returns-in-Ok-found_of-clause-reads g c =
    reads_on c.in-Ok.ensures.reads (reads_on c.in-Ok-Some.ensures.reads c.in-Ok-Some-read_seen.ensures.reads)

pub returns-in-Ok-found_of-2-clause-reads : goal.returns-in-Ok-found_of-2-clause-reads
returns-in-Ok-found_of-2-clause-reads g c =
    reads_on c.in-Ok.ensures.reads (reads_on c.in-Ok-Some.ensures.reads c.in-Ok-None-read_seen.ensures.reads)

pub returns-in-Ok-found_of-clause-found : goal.returns-in-Ok-found_of-clause-found
returns-in-Ok-found_of-clause-found g c clean version has =
    let s0 = state g.S.Store c.args.conn.now in
    let s1 = state g.S.Store c.read_of.new.conn in
    let s2 = state g.S.Store c.read_rulings.new.conn in
    let s3 = state g.S.Store c.read_seen.new.conn in
    let clean2 = clean_before c.read_seen.ensures.reads clean in
    let clean1 = clean_before c.read_rulings.ensures.reads clean2 in
    let rows = c.args.rows.now in
    let game = c.args.game.now in
    let last = c.args.last.now in
    let ms = c.in-Ok.moves.items in
    let rs = c.in-Ok-Some.rulings.items in
    let ss = c.in-Ok-Some-read_seen.seen.items in
    let one = c.in-Ok.ensures.rows clean1 (stands Moves tt (club_counted has)) in
    let ruled = (rw c.in-Ok-Some.field-0-is at (c.in-Ok-Some.ensures.rows clean2)) version
    (still_counted version c.args.all one.same has) one.same.0.is_open in
    let both = ruled_unchanged version game.id rs s1 s2 ruled in
    let same = stays one.same both in
    let two = (rw c.in-Ok-Some-read_seen.field-0-is at (c.in-Ok-Some-read_seen.ensures.rows clean)) (still same (club_counted has)) in
    let read : AreReadFor version game ms rs s0 s1 s2 =
    record { moves_are = one; rulings_are = ruled_after version game.id rs s2 one.same ruled } in
    let wrong = c.in-Ok-found_of.found.wrong in
    let many_moves = c.in-Ok-found_of.ensures.moves ∙ ap length c.deref.ensures.value in
    let many_rulings = c.in-Ok-found_of.ensures.rulings ∙ ap length c.deref-in-Ok-Some-read_seen.ensures.value in
    let many_seen = c.in-Ok-found_of.ensures.seen ∙ ap length c.deref-in-Ok-Some-read_seen-2.ensures.value in
    let first =
    all_first rows c.args.place game last wrong _ _ _ _ _ _ c.deref.ensures.value
    c.deref-in-Ok-Some-read_seen.ensures.value c.deref-in-Ok-Some-read_seen-2.ensures.value c.in-Ok-found_of.ensures.first in (
      stays same two.same,
      numbers_found rows last c.args.place game wrong version s0.now _ _ _ _ _ _ (sym many_moves) (sym many_rulings)
          (sym many_seen)
          (game_found rows c.args.place game ms rs ss last version s0 s1 s2 read wrong first c.requires.at s3 two
          c.requires.last),
    )

pub returns-in-Ok-found_of-2-clause-found : goal.returns-in-Ok-found_of-2-clause-found
returns-in-Ok-found_of-2-clause-found g c clean version has =
    let s0 = state g.S.Store c.args.conn.now in
    let s1 = state g.S.Store c.read_of.new.conn in
    let s2 = state g.S.Store c.read_rulings.new.conn in
    let clean2 = clean_before c.read_seen.ensures.reads clean in
    let clean1 = clean_before c.read_rulings.ensures.reads clean2 in
    let rows = c.args.rows.now in
    let game = c.args.game.now in
    let last = c.args.last.now in
    let ms = c.in-Ok.moves.items in
    let rs = c.in-Ok-Some.rulings.items in
    let one = c.in-Ok.ensures.rows clean1 (stands Moves tt (club_counted has)) in
    let ruled = (rw c.in-Ok-Some.field-0-is at (c.in-Ok-Some.ensures.rows clean2)) version
    (still_counted version c.args.all one.same has) one.same.0.is_open in
    let both = ruled_unchanged version game.id rs s1 s2 ruled in
    let same = stays one.same both in
    let (own, untyped) = c.in-Ok-None-read_seen.ensures.untyped clean c.in-Ok-None-read_seen.field-0-is (still same (club_counted has)) in
    let read : AreReadFor version game ms rs s0 s1 s2 =
    record { moves_are = one; rulings_are = ruled_after version game.id rs s2 one.same ruled } in
    let wrong = c.in-Ok-found_of-2.found.wrong in
    let none = c.deref-in-Ok-None-read_seen-3.ensures.value ∙ c.new-none.ensures.items in
    let many_moves = c.in-Ok-found_of-2.ensures.moves ∙ ap length c.deref-in-Ok-None-read_seen.ensures.value in
    let many_rulings = c.in-Ok-found_of-2.ensures.rulings ∙ ap length c.deref-in-Ok-None-read_seen-2.ensures.value in
    let many_seen = c.in-Ok-found_of-2.ensures.seen ∙ ap length none in
    let first =
    all_first rows c.args.place game last wrong _ _ _ _ _ _ c.deref-in-Ok-None-read_seen.ensures.value
    c.deref-in-Ok-None-read_seen-2.ensures.value none c.in-Ok-found_of-2.ensures.first in (
      stays same own,
      numbers_found rows last c.args.place game c.first_of.result version s0.now _ _ _ _ _ _ (sym many_moves)
          (sym many_rulings) (sym many_seen)
          (untyped_found rows c.args.place game ms rs last version s0 s1 s2 read
          (subst (IsUntyped Seen) same.0.now_is untyped) wrong c.first_of.result first c.first_of.ensures
          c.requires.at),
    )

pub returns-in-Ok-found_of-clause-later : goal.returns-in-Ok-found_of-clause-later
returns-in-Ok-found_of-clause-later g c s people =
    wrong_later s c.args.rows.now c.args.place c.args.game.now _ _ _ c.args.last.now c.in-Ok-found_of.found.wrong
    (c.in-Ok-found_of.ensures.first s people)

pub returns-in-Ok-found_of-2-clause-later : goal.returns-in-Ok-found_of-2-clause-later
returns-in-Ok-found_of-2-clause-later g c s people =
    either_later c.in-Ok-found_of-2.found.wrong (Some Seen) c.first_of.result c.first_of.ensures.some
    (wrong_later s c.args.rows.now c.args.place c.args.game.now _ _ _ c.args.last.now c.in-Ok-found_of-2.found.wrong
    (c.in-Ok-found_of-2.ensures.first s people)) (some_later Seen (inl (omega arith, omega arith)))
