use Rattle.std.proofs.Common.{◌+◌, drop, get_or, ap, ◌∙◌, arith}
use Rattle.std.proofs.lemmas.List.{drop_more}
use Rattle.pairings.specs.declared.table.BoardPairing.{BoardPairing}
use Rattle.club_core.specs.Answer.{request_of}
use Rattle.club_core.specs.State.{Command, Request, officer}
use Rattle.club_batches.specs.internal.Orders.{order_at}
use Rattle.club_batches.specs.Seats.{seat_request}
use Rattle.club_batches.proofs.SeatLemmas.{one_more, one_number}
use Rattle.club_batches.proofs.seats.seated.Goals as goal

pub loop-game-preserved : goal.loop-game-preserved
loop-game-preserved c =
    let games = c.args.games.now in
    let k = c.loop-game.game-index in
    let none : BoardPairing = record { round = 0; board = 0; first = 0; second = 0 } in
    let given : Command → Request = λ command.
    record { who = officer; command = command; moment = c.args.moment } in
    record {
      count = omega (arith, c.loop-game.invariant.count);
      questions = c.in_ok-push_order.ensures.questions ∙ c.loop-game.invariant.questions;
      numbers = one_number c.loop-game.batch.numbers.items c.push_order.new.batch.numbers.items k
          (c.loop-game.number + 1) c.in_ok-push_order.ensures.numbers c.loop-game.invariant.numbers
          (omega (arith, c.loop-game.invariant.count));
      requests = one_more request_of (seat_request c.args.robin.now c.args.moment) c.loop-game.batch.requests.items
          c.push_order.new.batch.requests.items (order_at c.in_ok-seat_of.field-0 c.args.moment) (drop k games)
          (drop (k + 1) games) games (get_or games k none) c.in_ok-push_order.ensures.requests
          (drop_more games k none c.loop-game-test.true) (ap given c.in_ok-seat_of.ensures)
          c.loop-game.invariant.requests;
    }
