use Rattle.std.proofs.Common.{◌≡◌, Some, ap, length, refl, sym, ◌∙◌}
use Rattle.std.specs.Prelude.{slice_get}
use Rattle.std.proofs.lemmas.Option.{slice_get_read}
use Rattle.store_tables.proofs.Proved.{reads_on}
use Rattle.club_answers.specs.AnswerTexts.{rulings_at}
use Rattle.club_answers.proofs.CallLemmas.{between}
use Rattle.club_answers.proofs.GameRulings.{entry_game, orders_all, orders_more, orders_passed}
use Rattle.club_answers.proofs.rulings.orders_of.Goals as goal

pub loop-game-preserved-then-not-is_ruled : goal.loop-game-preserved-then-not-is_ruled
loop-game-preserved-then-not-is_ruled g c =
    let rows = c.as_slice-game-items.result.now in
    let games = c.args.club.now.games.items in
    let k = c.loop-game.game-index in
    let game = c.game-item.result in
    let at = rw c.as_slice-game-items.ensures.value
    at (slice_get_read rows (length rows) k game refl c.loop-game-test.true c.game-item.is) in
    record {
      reads = c.loop-game.invariant.reads;
      orders = λ clean s moment is_club version stores read.
          let named = rw (c.deref.ensures.value, c.deref-in-loop-game.ensures.value, read.members_are, read.events_are)
          at c.is_ruled.ensures in
          orders_passed s games read.games_are k game at c.args.bulk.now _
          (c.loop-game.invariant.orders clean s moment is_club version stores read)
          (sym named ∙ c.if-not-is_ruled.true);
    }

pub loop-game-preserved : goal.loop-game-preserved
loop-game-preserved g c =
    let rows = c.as_slice-game-items.result.now in
    let games = c.args.club.now.games.items in
    let k = c.loop-game.game-index in
    let game = c.game-item.result in
    let at = rw c.as_slice-game-items.ensures.value
    at (slice_get_read rows (length rows) k game refl c.loop-game-test.true c.game-item.is) in
    record {
      reads = reads_on c.loop-game.invariant.reads c.in_ok-count.ensures.reads;
      orders = λ clean s moment is_club version stores read.
          let (early, kept) = between s c.loop-game.invariant.reads c.in_ok-count.ensures.reads clean stores in
          let named = rw (c.deref.ensures.value, c.deref-in-loop-game.ensures.value, read.members_are, read.events_are)
          at c.is_ruled.ensures in
          let (any, here) = entry_game s games read.games_are k game at in
          let count = c.in_ok-count.ensures.count clean s any is_club version kept here ∙ sym (ap rulings_at here) in
          let added = rw (c.deref-in-loop-game-2.ensures.value, read.members_are, count)
          at c.in_ok-push_ruling_orders.ensures in
          orders_more s games read.games_are k game at c.args.bulk.now _
          (c.loop-game.invariant.orders early s moment is_club version stores read)
          (sym named ∙ c.if-not-is_ruled.false) _ added;
    }

pub returns-clause-orders : goal.returns-clause-orders
returns-clause-orders g c clean s moment is_club version k read =
    let past = rw c.as_slice-game-items.ensures.value at c.loop-game-test.false in
    orders_all s c.args.club.now.games.items read.games_are c.loop-game.game-index past c.args.bulk.now _
    (c.loop-game.invariant.orders clean s moment is_club version k read)
