use Rattle.std.proofs.Common.{◌≡◌, ◌++◌, drop, map}
use Rattle.club_core.specs.Answer.{request_of}
use Rattle.club_batches.specs.Seats.{numbers_to, seat_request}
use Rattle.club_batches.proofs.seats.seated.Given as goal

abbrev pub invariant-loop-game : goal.invariant-loop-game
invariant-loop-game l =
    record {
      count : l.number ≡ l.game-index;
      questions : l.batch.questions ≡ l.fn.questions;
      numbers : l.batch.numbers.items ≡ numbers_to l.game-index;
      requests : map request_of l.batch.requests.items ++ map (seat_request l.robin l.moment)
          (drop l.game-index l.games)
          ≡ map (seat_request l.robin l.moment) l.games;
    }
