use Rattle.std.proofs.Common.{◌≡◌, ◌+◌, ◌-◌, length, Some, refl, sym, ap, subst, subst₂, ◌∙◌, arith, true}
use Rattle.club_check.specs.internal.RightTables.{NamesPlayed}
use Rattle.std.specs.Prelude.{slice_get}
use Rattle.std.proofs.lemmas.Option.{slice_get_read}
use Rattle.sqlite.specs.Held.{state}
use Rattle.sqlite.proofs.StateLemmas.{unchanged}
use Rattle.store_tables.proofs.Proved.{read_nothing, read_then, clean_before}
use Rattle.club_check.specs.internal.Examined.{AreLeftAfter, IsGameFound}
use Rattle.club_check.proofs.ExaminedLemmas.{blamed_before, both_after, left_all, left_more, left_start, still_counted}
use Rattle.store_tables.specs.declared.names.Table.TheVariants.{Moves, Rulings, Seen}
use Rattle.club_check.proofs.ClubLemmas.{stays, before}
use Rattle.club_check.proofs.FirstWrong.{either_later, left_later}
use Rattle.club_check.proofs.games.examine_games.Goals as goal

pub loop-place-init : goal.loop-place-init
loop-place-init g c =
    let s0 = state g.S.Store c.args.conn.now in
    record {
      items = c.deref-game-items.ensures.value;
      reads = read_nothing true s0;
      kept = λ none. none;
      later = λ s people known. known;
      free = λ u after. after;
      left = λ clean version has is_open one two. (
        unchanged s0 is_open,
        left_start c.args.rows.now c.args.last c.args.all.moves c.args.all.rulings c.args.all.seen c.args.known version
            s0.now c.requires.known c.requires.known_moves c.requires.known_rulings c.requires.known_games
            c.requires.known_seen one has.number two,
      );
    }

pub loop-place-preserved : goal.loop-place-preserved
loop-place-preserved g c =
    let rows = c.args.rows.now in
    let k = c.loop-place.place in
    let items = c.deref-game-items.result.now in
    let game = c.game-item.result in
    let at : slice_get items k ≡ Some game =
    slice_get_read items (length items) k game refl c.loop-place-test.true c.game-item.is in
    let stands : slice_get rows.games.items k ≡ Some game = sym (ap (λ xs. slice_get xs k) c.loop-place.invariant.items)
    ∙ at in
    let s0 = state g.S.Store c.args.conn.now in
    let mid = state g.S.Store c.loop-place.conn in
    let new = state g.S.Store c.examine_game.new.conn in
    let found = c.in-Ok.found in
    let one_of = c.first_of-wrong.ensures in
    record {
      items = c.loop-place.invariant.items;
      reads = read_then true s0 mid new c.loop-place.invariant.reads c.in-Ok.ensures.reads;
      kept = λ none. c.loop-place.invariant.kept (one_of.none none).0;
      later = λ s people known. either_later c.loop-place.wrong found.wrong c.first_of-wrong.result one_of.some
          (c.loop-place.invariant.later s people known) (c.in-Ok.ensures.later s people);
      free = λ u after. c.loop-place.invariant.free u
          (both_after u c.loop-place.wrong found.wrong c.first_of-wrong.result one_of after).0;
      left = λ clean version has is_open one two.
          let early = clean_before c.examine_game.ensures.reads clean in
          let (same, was) = c.loop-place.invariant.left early version has is_open one two in
          let (own_same, is) = c.in-Ok.ensures.found clean version (still_counted version c.args.all.rulings same has) in
          let more = left_more rows c.args.last k game c.loop-place.moves c.loop-place.rulings c.loop-place.seen
          found.own.moves found.own.rulings found.own.seen c.loop-place.wrong found.wrong c.first_of-wrong.result version
          s0.now stands was
          (before (IsGameFound rows c.args.last k game found.own.moves found.own.rulings found.own.seen found.wrong version)
          same is)
          one_of in (
            stays same own_same,
            subst₂ (λ a b. AreLeftAfter rows c.args.last (k + 1) a c.saturating_sub-rulings.result b
                c.first_of-wrong.result version s0.now)
                (sym c.saturating_sub-moves.ensures) (sym c.saturating_sub-seen.ensures)
                (subst (λ r. AreLeftAfter rows c.args.last (k + 1) (c.loop-place.moves - found.own.moves) r
                (c.loop-place.seen - found.own.seen) c.first_of-wrong.result version s0.now)
                (sym c.saturating_sub-rulings.ensures) more),
          );
    }

pub returns-in-Err-clause-reason_is_right : goal.returns-in-Err-clause-reason_is_right
returns-in-Err-clause-reason_is_right g c clean version has is_open one two =
    let early = clean_before c.examine_game.ensures.reads clean in
    let (same, was) = c.loop-place.invariant.left early version has is_open one two in
    blamed_before c.args.rows.now version c.in-Err.fault same
    (c.in-Err.ensures.reason_is_right clean version (still_counted version c.args.all.rulings same has))

pub returns-clause-found : goal.returns-clause-found
returns-clause-found g c clean version has is_open one two =
    let rows = c.args.rows.now in
    let l = c.loop-place in
    let s0 = state g.S.Store c.args.conn.now in
    let items = ap length l.invariant.items in
    let all : l.place ≡ length rows.games.items = omega (arith, items, c.loop-place-test.false) in
    let (same, was) = l.invariant.left clean version has is_open one two in (
      same,
      left_all rows c.args.last c.requires.last l.place l.moves l.rulings l.seen l.wrong c.left_over.result
          c.first_of-with_moves.result c.left_over-2.result c.first_of-with_rulings.result c.left_over-3.result
          c.first_of.result version s0.now was all c.left_over.ensures c.left_over-2.ensures c.left_over-3.ensures
          c.first_of-with_moves.ensures c.first_of-with_rulings.ensures c.first_of.ensures,
    )

pub returns-clause-later : goal.returns-clause-later
returns-clause-later g c s people known =
    either_later c.first_of-with_rulings.result c.left_over-3.result c.first_of.result c.first_of.ensures.some
    (either_later c.first_of-with_moves.result c.left_over-2.result c.first_of-with_rulings.result
    c.first_of-with_rulings.ensures.some
    (either_later c.loop-place.wrong c.left_over.result c.first_of-with_moves.result
    c.first_of-with_moves.ensures.some (c.loop-place.invariant.later s people known)
    (left_later Moves c.loop-place.moves c.left_over.result (omega arith, omega arith) c.left_over.ensures.some))
    (left_later Rulings c.loop-place.rulings c.left_over-2.result (omega arith, omega arith) c.left_over-2.ensures.some))
    (left_later Seen c.loop-place.seen c.left_over-3.result (omega arith, omega arith) c.left_over-3.ensures.some)

pub returns-in-Err-clause-later_fault : goal.returns-in-Err-clause-later_fault
returns-in-Err-clause-later_fault g c clean version has is_open one two =
    let early = clean_before c.examine_game.ensures.reads clean in
    let (same, was) = c.loop-place.invariant.left early version has is_open one two in
    before (λ d. NamesPlayed c.args.rows.now version d c.in-Err.fault) same
    (c.in-Err.ensures.later_fault clean version (still_counted version c.args.all.rulings same has))

pub returns-clause-known_after : goal.returns-clause-known_after
returns-clause-known_after g c u after =
    let third = (both_after u c.first_of-with_rulings.result c.left_over-3.result c.first_of.result c.first_of.ensures
    after).0 in
    let early = (both_after u c.first_of-with_moves.result c.left_over-2.result c.first_of-with_rulings.result
    c.first_of-with_rulings.ensures third).0 in
    c.loop-place.invariant.free u
    (both_after u c.loop-place.wrong c.left_over.result c.first_of-with_moves.result c.first_of-with_moves.ensures
    early).0
