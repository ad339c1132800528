use Rattle.std.proofs.Common.{◌≡◌, true, arith}
use Rattle.club_requests.specs.Limits.{is_challenge_number}
use Rattle.club_audit.proofs.challenges.is_challenge.Goals as goal

pub returns-clause-sound : goal.returns-clause-sound
returns-clause-sound c = λ yes.
    let rows = c.args.rows.now in
    let challenge = c.args.challenge.now in
    let number : is_challenge_number challenge.number ≡ true = cc in
    record {
      number = number;
      member = rw c.as_slice.ensures.value at (c.is_id.ensures.sound c.if-not-is_id.false);
      other = rw c.as_slice-2.ensures.value at (c.is_id-2.ensures.sound c.if-not-is_id-2.false);
      apart = λ same. absurd (omega (arith, c.if-challenge.false, same));
      event = rw c.as_slice-3.ensures.value at (c.is_id-3.ensures.sound c.if-not-is_id-3.false);
      game = rw c.as_slice-4.ensures.value at (c.has_its_game.ensures.sound yes);
    }

pub returns-clause-complete : goal.returns-clause-complete
returns-clause-complete c = λ among.
    c.has_its_game.ensures.complete (rw c.as_slice-4.ensures.value among.game)
