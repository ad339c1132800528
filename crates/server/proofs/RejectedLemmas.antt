-- The replies to requests that the club does not see.
use Rattle.std.proofs.Common.{◌≡◌, ℕ, List, Result, Ok, Err, IfOk, inl, inr}
use Rattle.http_bodies.specs.Reply.{refusal_reply}
use Rattle.http_bodies.specs.declared.refusals.HttpRefusal.TheVariants.{Head}
use Rattle.http_bodies.specs.declared.reply.Caching.TheVariants.{Unspecified}
use Rattle.http_desk.specs.declared.faults.ClubFault.TheVariants.{Clock}
use Rattle.http_desk.specs.declared.faults.DeskFault.{DeskFault}
use Rattle.http_head.specs.Request.{asks_head}
use Rattle.http_head.specs.declared.refusals.HeadRefusal.TheVariants.{BadHost}
use Rattle.server.specs.declared.serve.Exchange.{Exchange}
use Rattle.server.specs.Visits.{HasShutReply, IsForeign, IsRejection}

-- a reply that refuses the host of the bytes that were received
pub host_refused : (heard : List ℕ) (result : Result Exchange DeskFault) → IsForeign heard
    → IfOk result (λ done. done.bytes.items ≡ heard)
    → IfOk result (λ done. done.reply.items ≡ refusal_reply (Head BadHost) Unspecified (asks_head heard))
    → IsRejection result
host_refused heard (Ok done) foreign bytes reply = inl (rw bytes foreign, rw bytes reply)
host_refused heard (Err fault) foreign bytes reply = tt

-- a reply without a timestamp
pub untimed : (result : Result Exchange DeskFault) → HasShutReply Clock result → IsRejection result
untimed (Ok done) shut = inr shut
untimed (Err fault) shut = tt
