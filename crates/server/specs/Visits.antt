-- The effect of connections and of control socket orders on a club, and their replies, whatever bytes the clients send.
use Rattle.std.specs.Prelude.{◌≡◌, ◌⊎◌, ◌≤◌, ◌++◌, ⊤, ℕ, Bool, true, List, [], ◌∷◌, Option, Some, None, Result, Ok}
use Rattle.std.specs.Prelude.{Err}
use Rattle.club_requests.specs.Limits.{last_moment}
use Rattle.http_desk.specs.declared.faults.DeskFault.{DeskFault}
use Rattle.http_desk.specs.declared.faults.DeskFault.TheVariants.{Write}
use Rattle.http_desk.specs.declared.faults.ClubFault.{ClubFault}
use Rattle.http_desk.specs.declared.faults.ClubFault.TheVariants.{Clock}
use Rattle.http_desk.specs.Hosts.{is_foreign}
use Rattle.http_desk.specs.Desk.{next_state, IsShutReply}
use Rattle.http_desk.specs.Served.{Club}
use Rattle.http_bodies.specs.Reply.{refusal_reply}
use Rattle.http_bodies.specs.declared.refusals.HttpRefusal.TheVariants.{Head}
use Rattle.http_bodies.specs.declared.reply.Caching.TheVariants.{Unspecified}
use Rattle.http_head.specs.Head.{NamedHost}
use Rattle.http_head.specs.Request.{ParseState, Sees, NamesHost, asks_head}
use Rattle.http_head.specs.declared.refusals.HeadRefusal.TheVariants.{BadHost}
use Rattle.server.specs.declared.connections.Served.{Served}
use Rattle.server.specs.declared.connections.Served.TheVariants.{Request, Order, Rejected}
use Rattle.server.specs.declared.serve.Exchange.{Exchange}
use Rattle.server.specs.Serving.{IsReplyTo}
use Rattle.control_socket.specs.declared.orders.Operation.{Operation}
use Rattle.control_socket.specs.declared.orders.OrderFault.{OrderFault}
use Rattle.control_socket.specs.declared.orders.OrderFault.TheVariants.{NotDone, ReplyLost}
use Rattle.control_socket.specs.Orders.{HasRunOperation, IsPrinted, state_after}
use Rattle.control_socket.specs.Printed.{print_of}

-- The request in these bytes was not executed, or once: the club is in the next state, or a crash leaves that one or
-- the one before.
abbrev pub HasActed : {S : Type 0} → Club S → (S → Type 0) → (S → S → Type 0) → S → ℕ → List ℕ → Type 0
HasActed club stands leaves s moment bytes =
    stands s
    ⊎ ((seen : ParseState) × Sees bytes seen
    × (stands (next_state club s moment seen) ⊎ leaves s (next_state club s moment seen)))

-- the same for the bytes received before and any further ones
abbrev pub HasActedOn : {S : Type 0} → Club S → (S → Type 0) → (S → S → Type 0) → S → ℕ → List ℕ → Type 0
HasActedOn club stands leaves s moment heard =
    (further : List ℕ) × HasActed club stands leaves s moment (heard ++ further)

-- The reply is the one to the received bytes, also if only a prefix of it was sent; if nothing was sent, the request
-- was executed once or not at all.
abbrev pub IsAnswered : {S : Type 0} → Club S → (S → Type 0) → (S → S → Type 0) → S → ℕ → Result Exchange DeskFault
    → Type 0
IsAnswered club stands leaves s moment (Ok done) =
    IsReplyTo club stands leaves s moment done.bytes.items done.reply.items
IsAnswered club stands leaves s moment (Err Write) =
    (bytes : List ℕ) × (reply : List ℕ) × IsReplyTo club stands leaves s moment bytes reply
IsAnswered club stands leaves s moment (Err _) = (bytes : List ℕ) × HasActed club stands leaves s moment bytes

-- The answer to an order is its outcome in the state `s`, and the club is in the next state, also if only a prefix of
-- the answer was sent; if nothing was sent, the order was executed once or not at all.
abbrev pub IsOrderAnswered : {S : Type 0} → Club S → (S → Type 0) → (S → S → Type 0) → S → ℕ → Operation
    → Result Bool OrderFault → Type 0
IsOrderAnswered club stands leaves s moment operation (Ok done) = stands (state_after club s moment operation)
    × ((text : List ℕ) × IsPrinted club s moment operation (print_of done text))
IsOrderAnswered club stands leaves s moment operation (Err ReplyLost) = stands (state_after club s moment operation)
    × ((done : Bool) × (text : List ℕ) × IsPrinted club s moment operation (print_of done text))
IsOrderAnswered club stands leaves s moment operation (Err NotDone) =
    HasRunOperation club stands leaves s moment operation

-- ---- requests that the club does not see

-- these bytes of a request are for a host for which the server does not answer, by some list of names
abbrev pub IsForeign : List ℕ → Type 0
IsForeign bytes =
    (names : List (List ℕ)) × (named : Option NamedHost) × NamesHost bytes named × (is_foreign names named ≡ true)

-- the reply refuses a request for another host
abbrev pub IsForeignReply : List ℕ → List ℕ → Type 0
IsForeignReply bytes reply = IsForeign bytes × (reply ≡ refusal_reply (Head BadHost) Unspecified (asks_head bytes))

-- the reply, if there is one, refuses a request for another host, or says that there is no timestamp
abbrev pub IsRejection : Result Exchange DeskFault → Type 0
IsRejection (Ok done) = IsForeignReply done.bytes.items done.reply.items
    ⊎ IsShutReply Clock done.bytes.items done.reply.items
IsRejection (Err _) = ⊤

-- ---- connections and orders

-- the effect of one connection or order, at a valid timestamp, and its reply
abbrev pub IsServedBy : {S : Type 0} → Club S → (S → Type 0) → (S → S → Type 0) → S → Served → Type 0
IsServedBy club stands leaves s (Request moment done) =
    (moment ≤ last_moment) × IsAnswered club stands leaves s moment done
IsServedBy club stands leaves s (Order moment operation done) =
    (moment ≤ last_moment) × IsOrderAnswered club stands leaves s moment operation done
IsServedBy club stands leaves s (Rejected done) = stands s × IsRejection done

-- the same if there may be none
abbrev pub IsNextServed : {S : Type 0} → Club S → (S → Type 0) → (S → S → Type 0) → S → Option Served → Type 0
IsNextServed club stands leaves s None = stands s
IsNextServed club stands leaves s (Some item) = IsServedBy club stands leaves s item

-- ---- an unavailable club

-- the reply to a request, if there is one, needs no club or reports the fault
abbrev pub HasShutReply : ClubFault → Result Exchange DeskFault → Type 0
HasShutReply fault (Ok done) = IsShutReply fault done.bytes.items done.reply.items
HasShutReply fault (Err _) = ⊤

-- a request got such a reply or none, and an order no answer
abbrev pub IsShutServed : ClubFault → Served → Type 0
IsShutServed fault (Request moment done) = HasShutReply fault done
IsShutServed fault (Order moment operation done) = done ≡ Err NotDone
IsShutServed fault (Rejected done) = IsRejection done

-- each of these was served so
abbrev pub AreShutServed : ClubFault → List Served → Type 0
AreShutServed fault [] = ⊤
AreShutServed fault (item ∷ items) = IsShutServed fault item × AreShutServed fault items

-- ---- the list

-- what one call adds to the list of what was served
abbrev pub listed : Option Served → List Served
listed None = []
listed (Some item) = item ∷ []
