use Rattle.std.proofs.Common.{arith}
use Rattle.club_core.specs.Answer.{request_of}
use Rattle.store.proofs.LegalLemmas.{club_stays, taken_by}
use Rattle.store.proofs.club.Club.serve.Goals as goal

pub returns-clause-legal : goal.returns-clause-legal
returns-clause-legal g c answered usable s is_club arbiter =
    club_stays s (request_of c.args.request.now)
    (omega (arith, c.seconds-within.ensures.value, c.seconds-within.ensures.range))
    (taken_by s _ arbiter (λ none needs. answered (c.apply.ensures.schema usable none needs).0)) is_club
