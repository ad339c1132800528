use Rattle.std.proofs.Common.{◌<◌, ◌≤◌, ◌∙◌, refl, ap, subst, sym, arith}
use Rattle.std.specs.Prelude.{ℕ, ◌+◌, []}
use Rattle.std.proofs.lemmas.Option.{slice_get_read}
use Rattle.squares.specs.declared.sides.Side.TheVariants.{First, Second}
use Rattle.club_rules.specs.Line.{position_after}
use Rattle.club_rows.specs.internal.Replay.{IsReplayed, game_from, terms_given}
use Rattle.club_rows.specs.internal.Rulings.{rulings_given}
use Rattle.club_rows.specs.Tables.{with_entry}
use Rattle.club_rows.proofs.GrantLemmas.{budget-most, granted-first, granted-fits, granted-left, granted-replays}
use Rattle.club_rows.proofs.GrantLemmas.{increment-most, left-fits}
use Rattle.club_rows.proofs.ReplayLemmas.{replayed-clocks}
use Rattle.club_rows.proofs.WholeLemmas.{was-start, was-more, was-none, played-count}
use Rattle.club_rows.proofs.replay.replay.Goals as goal

pub with_row-requires-clause-room : goal.with_row-requires-clause-room
with_row-requires-clause-room g c = omega
    (arith, c.loop-row.invariant.0.plies_are, c.loop-row-test.true, c.if-rows.false)

pub with_row-requires-clause-left : goal.with_row-requires-clause-left
with_row-requires-clause-left g c =
    let low : c.loop-row.row-index ≤ 600 = omega (arith, c.loop-row-test.true, c.if-rows.false) in
    let first = left-fits c.loop-row.row-index _ low c.loop-row.invariant.1.first in
    let second = left-fits c.loop-row.row-index _ low c.loop-row.invariant.1.second in
    omega (arith, first, second)

pub with_row-requires-clause-game : goal.with_row-requires-clause-game
with_row-requires-clause-game g c =
    subst (λ (n : ℕ). IsReplayed g.R.Rules.rules n c.loop-row.game)
    (sym c.loop-row.invariant.0.plies_are) c.loop-row.invariant.0

pub granted-game-requires-clause-first : goal.granted-game-requires-clause-first
granted-game-requires-clause-first g c =
    let budget = budget-most c.args.opening.terms.budget (sym c.is_budget.ensures ∙ c.if-not-is_budget.false) in
    let clocks = ap (λ x. x.left_first) c.in_ok-begun.ensures.clocks in
    granted-fits First (rulings_given c.args.rulings.now) c.requires _ _ (omega (arith, clocks, budget))

pub granted-game-requires-clause-second : goal.granted-game-requires-clause-second
granted-game-requires-clause-second g c =
    let budget = budget-most c.args.opening.terms.budget (sym c.is_budget.ensures ∙ c.if-not-is_budget.false) in
    let clocks = ap (λ x. x.left_second) c.in_ok-begun.ensures.clocks in
    granted-fits Second (rulings_given c.args.rulings.now) c.requires _ _ (omega (arith, clocks, budget))

pub granted-more-requires-clause-first : goal.granted-more-requires-clause-first
granted-more-requires-clause-first g c =
    let low : c.loop-row.row-index ≤ 600 = omega (arith, c.loop-row-test.true, c.if-rows.false) in
    let left = left-fits c.loop-row.row-index _ low c.loop-row.invariant.1.first in
    let more = rw c.in-Some.is at c.in_ok-next.ensures.first in
    let most = increment-most c.args.opening.terms.increment
    (sym c.is_increment.ensures ∙ c.if-not-is_increment.false) in
    granted-fits First (rulings_given c.args.rulings.now) c.requires _ _ (omega (arith, left, more, most))

pub granted-more-requires-clause-second : goal.granted-more-requires-clause-second
granted-more-requires-clause-second g c =
    let low : c.loop-row.row-index ≤ 600 = omega (arith, c.loop-row-test.true, c.if-rows.false) in
    let left = left-fits c.loop-row.row-index _ low c.loop-row.invariant.1.second in
    let more = rw c.in-Some.is at c.in_ok-next.ensures.second in
    let most = increment-most c.args.opening.terms.increment
    (sym c.is_increment.ensures ∙ c.if-not-is_increment.false) in
    granted-fits Second (rulings_given c.args.rulings.now) c.requires _ _ (omega (arith, left, more, most))

pub returns-then-rows-clause-none : goal.returns-then-rows-clause-none
returns-then-rows-clause-none g c = λ none budget increment game rulings is.
    let opening = c.args.opening in
    let count = played-count g.R.Rules.rules (terms_given opening.terms) opening.id opening.start c.args.rows.now game is
    in
    omega (arith, count, is.plies, c.if-rows.true)

pub loop-row-init : goal.loop-row-init
loop-row-init g c =
    let rules = g.R.Rules.rules in
    let opening = c.args.opening in
    let rs = rulings_given c.args.rulings.now in
    let start = c.in_ok-begun.ensures in
    let given = c.granted-game.ensures in
    let budget = budget-most opening.terms.budget (sym c.is_budget.ensures ∙ c.if-not-is_budget.false) in
    let replays = granted-replays rules (terms_given opening.terms) (game_from rs opening.start []) c.in_ok-begun.begun
    c.granted-game.result
    (record {
      line = start.line;
      position = start.safe.position ∙ ap (position_after rules rules.start) start.line;
      clocks_are = start.clocks;
    })
    given.first given.second given.others in (
      replayed-clocks rules 0 c.in_ok-begun.begun c.granted-game.result start.safe given.others,
      record {
        first = granted-first First rs c.requires _ _ _
            (omega (arith, budget, ap (λ x. x.left_first) start.clocks)) given.first;
        second = granted-first Second rs c.requires _ _ _
            (omega (arith, budget, ap (λ x. x.left_second) start.clocks)) given.second;
      },
      was-start rules (terms_given opening.terms) opening.id (assumption (g.met.R.Rules)) rs opening.start
          c.args.rows.now c.granted-game.result replays,
    )

pub returns-in-None-clause-none : goal.returns-in-None-clause-none
returns-in-None-clause-none g c = λ none budget increment game rulings is.
    let opening = c.args.opening in
    let rs = rulings_given c.args.rulings.now in
    let was = c.loop-row.invariant.2 in
    let at = slice_get_read c.args.rows.now _ c.loop-row.row-index _ refl c.loop-row-test.true c.row-item.is in
    was-none g.R.Rules.rules (terms_given opening.terms) opening.id (assumption (g.met.R.Rules)) rs opening.start
    c.args.rows.now c.loop-row.row-index c.loop-row.game c.row-item.result was at
    (λ e follows. c.in_ok-next.ensures.none c.in-None.is opening.terms.budget opening.terms.declares
    (game_from rs opening.start was.entries) was.replays e follows) game rulings is

pub loop-row-preserved : goal.loop-row-preserved
loop-row-preserved g c =
    let rules = g.R.Rules.rules in
    let opening = c.args.opening in
    let terms = terms_given opening.terms in
    let rs = rulings_given c.args.rulings.now in
    let (old, left, was) = c.loop-row.invariant in
    let k = c.loop-row.row-index in
    let moved = c.in-Some.next in
    let new = c.granted-more.result in
    let given = c.granted-more.ensures in
    let at = slice_get_read c.args.rows.now _ k _ refl c.loop-row-test.true c.row-item.is in
    let kept = rw c.in-Some.is at c.in_ok-next.ensures.safe in
    let first = rw c.in-Some.is at c.in_ok-next.ensures.first in
    let second = rw c.in-Some.is at c.in_ok-next.ensures.second in
    let some = rw c.in-Some.is at c.in_ok-next.ensures.some in
    let (e, follows, replays) = some opening.terms.budget opening.terms.declares
    (game_from rs opening.start was.entries) was.replays in
    let increment = increment-most opening.terms.increment (sym c.is_increment.ensures ∙ c.if-not-is_increment.false) in
    let room : k < 600 = omega (arith, c.loop-row-test.true, c.if-rows.false) in
    let all = granted-replays rules terms (with_entry (game_from rs opening.start was.entries) e) moved new replays
    given.first given.second given.others in (
      replayed-clocks rules (k + 1) moved new
          (subst (λ (n : ℕ). IsReplayed rules (n + 1) moved) old.plies_are kept) given.others,
      record {
        first = granted-left First rs c.requires k _ _ _ opening.terms.increment _ left.first increment first
            given.first;
        second = granted-left Second rs c.requires k _ _ _ opening.terms.increment _ left.second increment second
            given.second;
      },
      was-more rules terms opening.id (assumption (g.met.R.Rules)) rs opening.start c.args.rows.now
          g.met.R.Rules.reads_back k c.loop-row.game new c.row-item.result e was room at follows all,
    )

pub returns-clause-room : goal.returns-clause-room
returns-clause-room g c =
    let low : c.loop-row.row-index ≤ 600 = omega (arith, c.loop-row-test.false, c.if-rows.false) in
    record {
      first = left-fits c.loop-row.row-index _ low c.loop-row.invariant.1.first;
      second = left-fits c.loop-row.row-index _ low c.loop-row.invariant.1.second;
    }
