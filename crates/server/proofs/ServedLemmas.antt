-- What was served, by its effect alone, and by the states to which it leads.
use Rattle.std.proofs.Common.{◌≡◌, ◌⊎◌, ◌≤◌, ◌++◌, ℕ, List, [], ◌∷◌, Bool, Option, Some, None, Result, Ok, Err}
use Rattle.std.proofs.Common.{arith, refl, sym, subst, inl, inr}
use Rattle.club_requests.specs.Limits.{last_moment}
use Rattle.http_desk.specs.declared.faults.DeskFault.{DeskFault}
use Rattle.http_desk.specs.declared.faults.DeskFault.TheVariants.{Memory, Read, Write}
use Rattle.http_desk.specs.Desk.{IsReply, next_state}
use Rattle.http_desk.specs.Served.{Club}
use Rattle.http_head.specs.Request.{ParseState, unfinished, refused, whole, asks_head}
use Rattle.control_socket.specs.declared.orders.Operation.{Operation}
use Rattle.control_socket.specs.declared.orders.OrderFault.{OrderFault}
use Rattle.control_socket.specs.declared.orders.OrderFault.TheVariants.{NotDone, ReplyLost}
use Rattle.control_socket.specs.Orders.{HasRunOperation}
use Rattle.server.specs.declared.connections.Served.{Served}
use Rattle.server.specs.declared.connections.Served.TheVariants.{Request, Order, Rejected}
use Rattle.server.specs.declared.serve.Exchange.{Exchange}
use Rattle.server.specs.Acknowledged.{LeadsTo, LeadTo}
use Rattle.server.specs.Serving.{IsReplyTo}
use Rattle.server.specs.Visits.{HasActed, HasActedOn, IsAnswered, IsOrderAnswered, IsServedBy, IsNextServed, listed}
use Rattle.server.proofs.ActedLemmas.{answered_acted}

-- out of memory behind the reading, whether the request was executed or not
pub lost_answered : {S : Type 0} (club : Club S) (stands : S → Type 0) (leaves : S → S → Type 0) (s : S) (moment : ℕ)
    (heard : List ℕ) (fault : DeskFault) → fault ≡ Memory → HasActedOn club stands leaves s moment heard
    → IsAnswered club stands leaves s moment (Err fault)
lost_answered club stands leaves s moment heard fault is acted =
    subst (λ (f : DeskFault). IsAnswered club stands leaves s moment (Err f)) (sym is) (heard ++ acted.0, acted.1)

-- ---- the effect alone

-- one request or one order was executed, once or not at all, at some valid timestamp
abbrev pub HasServed : {S : Type 0} → Club S → (S → Type 0) → (S → S → Type 0) → S → Type 0
HasServed club stands leaves s =
    (moment : ℕ) × (moment ≤ last_moment)
    × (((bytes : List ℕ) × HasActed club stands leaves s moment bytes)
    ⊎ ((operation : Operation) × HasRunOperation club stands leaves s moment operation))

module _ {S : Type 0} (club : Club S) (stands : S → Type 0) (leaves : S → S → Type 0) (s : S) where
  reply_acted : (moment : ℕ) (bytes reply : List ℕ) → IsReplyTo club stands leaves s moment bytes reply
      → HasActed club stands leaves s moment bytes
  reply_acted moment bytes reply replies =
      let given : Result (List ℕ) DeskFault = Ok reply in
      answered_acted club stands leaves (λ b. b) s moment bytes given replies

  was_acted : (moment : ℕ) (result : Result Exchange DeskFault) → IsAnswered club stands leaves s moment result
      → (bytes : List ℕ) × HasActed club stands leaves s moment bytes
  was_acted moment (Ok done) answered =
      (done.bytes.items, reply_acted moment done.bytes.items done.reply.items answered)
  was_acted moment (Err Write) answered = (answered.0, reply_acted moment answered.0 answered.1 answered.2)
  was_acted moment (Err Memory) answered = answered
  was_acted moment (Err Read) answered = answered

  was_run : (moment : ℕ) (operation : Operation) (result : Result Bool OrderFault)
      → IsOrderAnswered club stands leaves s moment operation result
      → HasRunOperation club stands leaves s moment operation
  was_run moment operation (Ok done) answered = inr (inl answered.0)
  was_run moment operation (Err ReplyLost) answered = inr (inl answered.0)
  was_run moment operation (Err NotDone) answered = answered

  pub was_served : (next : Option Served) → IsNextServed club stands leaves s next → HasServed club stands leaves s
  was_served None stood = (0, search arith, inl ([], inl stood))
  was_served (Some (Request moment result)) it = (moment, it.0, inl (was_acted moment result it.1))
  was_served (Some (Order moment operation result)) it =
      (moment, it.0, inr (operation, was_run moment operation result it.1))
  was_served (Some (Rejected done)) it = (0, search arith, inl ([], inl it.0))

-- ---- the states to which it leads

pub lead_on : {S : Type 0} (club : Club S) (s u t : S) (items more : List Served) → LeadTo club s items u
    → LeadTo club u more t → LeadTo club s (items ++ more) t
lead_on club s u t [] more leads on = subst (λ from. LeadTo club from more t) leads on
lead_on club s u t (item ∷ items) more (next, first, leads) on =
    (next, first, lead_on club next u t items more leads on)

-- Where what is present or left has a property in one of the states, there is a state with that property to which it
-- leads.
module _ {S : Type 0} (club : Club S) (stands : S → Type 0) (leaves : S → S → Type 0) (Holds : S → Type 0)
    (settled : (u : S) → stands u → Holds u) (left : (u v : S) → leaves u v → Holds u ⊎ Holds v) where
  abbrev IsAt : S → S → Type 0
  IsAt t u = t ≡ u

  abbrev IsOneOf : S → S → S → Type 0
  IsOneOf t u v = (t ≡ u) ⊎ (t ≡ v)

  some_reply : (s : S) (moment : ℕ) (without_body : Bool) (seen : ParseState) (reply : List ℕ)
      → IsReply club stands leaves s moment without_body seen reply
      → (t : S) × IsReply club (IsAt t) (IsOneOf t) s moment without_body seen reply × Holds t
  some_reply s moment without_body unfinished reply it = (s, (it.0, refl), settled s it.1)
  some_reply s moment without_body (refused r) reply it = (s, (it.0, refl), settled s it.1)
  some_reply s moment without_body (whole request) reply (inl shows) = (_, inl (shows.0, refl), settled _ shows.1)
  some_reply s moment without_body (whole request) reply (inr reports) = elim (left _ _ reports.3) [
    | inl holds ↦ (s, inr (reports.0, reports.1, reports.2, inl refl), holds)
    | inr holds ↦ (_, inr (reports.0, reports.1, reports.2, inr refl), holds)
  ]

  some_reply_to : (s : S) (moment : ℕ) (bytes reply : List ℕ) → IsReplyTo club stands leaves s moment bytes reply
      → (t : S) × IsReplyTo club (IsAt t) (IsOneOf t) s moment bytes reply × Holds t
  some_reply_to s moment bytes reply (seen, sees, is) =
      let (t, same, holds) = some_reply s moment (asks_head bytes) seen reply is in
      (t, (seen, sees, same), holds)

  some_act : (s : S) (moment : ℕ) (bytes : List ℕ) → HasActed club stands leaves s moment bytes
      → (t : S) × HasActed club (IsAt t) (IsOneOf t) s moment bytes × Holds t
  some_act s moment bytes (inl stood) = (s, inl refl, settled s stood)
  some_act s moment bytes (inr (seen, sees, inl stood)) =
      (next_state club s moment seen, inr (seen, sees, inl refl), settled _ stood)
  some_act s moment bytes (inr (seen, sees, inr either)) = elim (left _ _ either) [
    | inl holds ↦ (s, inl refl, holds)
    | inr holds ↦ (next_state club s moment seen, inr (seen, sees, inl refl), holds)
  ]

  some_answer : (s : S) (moment : ℕ) (result : Result Exchange DeskFault)
      → IsAnswered club stands leaves s moment result
      → (t : S) × IsAnswered club (IsAt t) (IsOneOf t) s moment result × Holds t
  some_answer s moment (Ok done) it = some_reply_to s moment done.bytes.items done.reply.items it
  some_answer s moment (Err Write) (bytes, reply, it) =
      let (t, same, holds) = some_reply_to s moment bytes reply it in
      (t, (bytes, reply, same), holds)
  some_answer s moment (Err Memory) (bytes, it) =
      let (t, same, holds) = some_act s moment bytes it in
      (t, (bytes, same), holds)
  some_answer s moment (Err Read) (bytes, it) =
      let (t, same, holds) = some_act s moment bytes it in
      (t, (bytes, same), holds)

  some_run : (s : S) (moment : ℕ) (operation : Operation) → HasRunOperation club stands leaves s moment operation
      → (t : S) × HasRunOperation club (IsAt t) (IsOneOf t) s moment operation × Holds t
  some_run s moment operation (inl stood) = (s, inl refl, settled s stood)
  some_run s moment operation (inr (inl stood)) = (_, inr (inl refl), settled _ stood)
  some_run s moment operation (inr (inr either)) = elim (left _ _ either) [
    | inl holds ↦ (s, inl refl, holds)
    | inr holds ↦ (_, inr (inl refl), holds)
  ]

  some_order : (s : S) (moment : ℕ) (operation : Operation) (result : Result Bool OrderFault)
      → IsOrderAnswered club stands leaves s moment operation result
      → (t : S) × IsOrderAnswered club (IsAt t) (IsOneOf t) s moment operation result × Holds t
  some_order s moment operation (Ok done) it = (_, (refl, it.1), settled _ it.0)
  some_order s moment operation (Err ReplyLost) it = (_, (refl, it.1), settled _ it.0)
  some_order s moment operation (Err NotDone) it = some_run s moment operation it

  some_item : (s : S) (item : Served) → IsServedBy club stands leaves s item
      → (t : S) × LeadsTo club s item t × Holds t
  some_item s (Request moment result) (within, it) =
      let (t, same, holds) = some_answer s moment result it in
      (t, (within, same), holds)
  some_item s (Order moment operation result) (within, it) =
      let (t, same, holds) = some_order s moment operation result it in
      (t, (within, same), holds)
  some_item s (Rejected done) (stood, it) = (s, (refl, it), settled s stood)

  pub some_state : (s : S) (next : Option Served) → IsNextServed club stands leaves s next
      → (t : S) × LeadTo club s (listed next) t × Holds t
  some_state s None stood = (s, refl, settled s stood)
  some_state s (Some item) it =
      let (t, leads, holds) = some_item s item it in
      (t, (t, leads, refl), holds)
