-- The reply to what was read is the reply to all that the reader has to give.
use Rattle.std.proofs.Common.{◌≡◌, ◌⊎◌, inl, inr, ℕ, List, [], ◌++◌, Option, Some, None, Bool, Result, Ok, Err, OnOk}
use Rattle.std.proofs.Common.{OnErr, IfErr, take, subst, sym, ◌∙◌, ap, refl, append-nil}
use Rattle.std.specs.Io.KnownBytes.{Consumes, IsAtEnd, Appends}
use Rattle.http_desk.specs.declared.faults.DeskFault.{DeskFault}
use Rattle.http_desk.specs.declared.faults.DeskFault.TheVariants.{Memory, Write}
use Rattle.http_head.specs.Request.{ParseState, Sees, IsDecided, asks_head}
use Rattle.http_desk.specs.Served.{Club}
use Rattle.http_desk.specs.declared.faults.ClubFault.{ClubFault}
use Rattle.http_desk.specs.Desk.{IsReply, next_state, shut_reply, IsShutReply}
use Rattle.server.specs.Serving.{HasRead, IsReplyTo, Serving, ShutServing}
use Rattle.http_head.proofs.Proved.{sees_more, sees_once, asks_more}

-- what holds of the bytes that were read holds of all of them
pub record Lifts (input taken : List ℕ) (seen : ParseState) : Type 0 where
  pub sees : Sees input seen
  pub asks : asks_head taken ≡ asks_head input

lifts : (taken rest : List ℕ) (seen : ParseState) → ((rest ≡ []) ⊎ IsDecided taken) → Sees taken seen
    → Lifts (taken ++ rest) taken seen
lifts taken rest seen (inl e) sees =
    let same : taken ++ rest ≡ taken = ap (λ (r : List ℕ). taken ++ r) e ∙ append-nil taken in
    record { sees = subst (λ (b : List ℕ). Sees b seen) (sym same) sees; asks = ap asks_head (sym same) }
lifts taken rest seen (inr d) sees =
    let once : d.0 ≡ seen = sees_once taken d.0 seen d.1 sees in
    record {
      sees = sees_more taken rest seen sees (λ h. d.2 (once ∙ h));
      asks = sym (asks_more taken rest d.0 d.1 d.2);
    }

lifted : (input taken rest : List ℕ) (seen : ParseState) → input ≡ taken ++ rest → ((rest ≡ []) ⊎ IsDecided taken)
    → Sees taken seen → Lifts input taken seen
lifted input taken rest seen e end sees =
    subst (λ (b : List ℕ). Lifts b taken seen) (sym e) (lifts taken rest seen end sees)

pub reply_lifts : {S : Type 0} (club : Club S) (stands : S → Type 0) (leaves : S → S → Type 0) (s : S) (moment : ℕ)
    (input taken rest reply : List ℕ) → input ≡ taken ++ rest → ((rest ≡ []) ⊎ IsDecided taken)
    → IsReplyTo club stands leaves s moment taken reply → IsReplyTo club stands leaves s moment input reply
reply_lifts club stands leaves s moment input taken rest reply e end r =
    let h = lifted input taken rest r.0 e end r.1 in
    (r.0, h.sees, subst (λ (b : Bool). IsReply club stands leaves s moment b r.0 reply) h.asks r.2)

-- the bytes that were read are a beginning
pub has_read : (input taken : List ℕ) (left : Option (List ℕ)) → Consumes (Some input) left taken
    → (IsAtEnd left ⊎ IsDecided taken) → HasRead input left
has_read input taken None c d = absurd c
has_read input taken (Some rest) c (inl e) = (taken, rest, c, refl, inl e)
has_read input taken (Some rest) c (inr d) = (taken, rest, c, refl, inr d)

reply_to_all : {S : Type 0} (club : Club S) (stands : S → Type 0) (leaves : S → S → Type 0) (s : S) (moment : ℕ)
    (input taken reply : List ℕ) (left : Option (List ℕ)) → Consumes (Some input) left taken
    → (IsAtEnd left ⊎ IsDecided taken) → IsReplyTo club stands leaves s moment taken reply
    → IsReplyTo club stands leaves s moment input reply
reply_to_all club stands leaves s moment input taken reply None c d r = absurd c
reply_to_all club stands leaves s moment input taken reply (Some rest) c d r =
    reply_lifts club stands leaves s moment input taken rest reply c d r

appended : (before more : List ℕ) (written : Option (List ℕ)) → Appends (Some before) written more
    → written ≡ Some (before ++ more)
appended before more None a = absurd a
appended before more (Some bytes) a = ap (λ (b : List ℕ). Some b) a

-- a reply that was written, or a beginning of it
pub serving_ends : {S U : Type 0} (club : Club S) (stands : S → Type 0) (leaves : S → S → Type 0) (s : S) (moment : ℕ)
    (input before taken reply : List ℕ) (left written : Option (List ℕ)) (result : Result U DeskFault)
    → Consumes (Some input) left taken → (IsAtEnd left ⊎ IsDecided taken)
    → IsReplyTo club stands leaves s moment taken reply
    → OnOk result (Appends (Some before) written reply)
    → OnErr result ((n : ℕ) × Appends (Some before) written (take n reply)) → IfErr result (λ e. e ≡ Write)
    → Serving club stands leaves s moment input before left written result
serving_ends club stands leaves s moment input before taken reply left written (Ok u) c d r ok err fault = (
  has_read input taken left c d,
  (
    reply,
    reply_to_all club stands leaves s moment input taken reply left c d r,
    appended before reply written ok,
  ),
)
serving_ends club stands leaves s moment input before taken reply left written (Err e) c d r ok err fault =
    rw fault (
      reply,
      err.0,
      reply_to_all club stands leaves s moment input taken reply left c d r,
      appended before (take err.0 reply) written err.1,
    )

-- memory that was refused behind the reading
pub serving_stops : {S : Type 0} (U : Type 0) (club : Club S) (stands : S → Type 0) (leaves : S → S → Type 0) (s : S)
    (moment : ℕ)
    (input before taken : List ℕ) (left : Option (List ℕ)) (e : DeskFault)
    → Consumes (Some input) left taken → (IsAtEnd left ⊎ IsDecided taken) → e ≡ Memory
    → ((seen : ParseState) × Sees taken seen × leaves s (next_state club s moment seen))
    → Serving {U = U} club stands leaves s moment input before left (Some before) (Err e)
serving_stops U club stands leaves s moment input before taken None e c d fault a = absurd c
serving_stops U club stands leaves s moment input before taken (Some rest) e c d fault a =
    rw fault (inr (a.0, (lifted input taken rest a.0 c d a.1).sees, a.2), refl)

-- the same as the calls tell it
pub served : {S U : Type 0} (club : Club S) (stands : S → Type 0) (leaves : S → S → Type 0) (s : S) (moment : ℕ)
    (input before taken shown reply sent : List ℕ) (reader left writer written : Option (List ℕ))
    (result : Result U DeskFault)
    → reader ≡ Some input → writer ≡ Some before → shown ≡ taken → sent ≡ reply
    → Consumes reader left taken → (IsAtEnd left ⊎ IsDecided taken) → IsReplyTo club stands leaves s moment shown reply
    → OnOk result (Appends writer written sent) → OnErr result ((n : ℕ) × Appends writer written (take n sent))
    → IfErr result (λ e. e ≡ Write)
    → Serving club stands leaves s moment input before left written result
served {S} {U} club stands leaves s moment input before taken shown reply sent reader left writer written result er ew
    et ep c d r ok err fault =
    serving_ends club stands leaves s moment input before taken reply left written result
    (subst (λ (o : Option (List ℕ)). Consumes o left taken) er c) d
    (subst (λ (b : List ℕ). IsReplyTo club stands leaves s moment b reply) et r)
    (subst (λ (o : Option (List ℕ)). OnOk result (Appends o written reply)) ew
    (subst (λ (b : List ℕ). OnOk result (Appends writer written b)) ep ok))
    (subst (λ (o : Option (List ℕ)). OnErr result ((n : ℕ) × Appends o written (take n reply))) ew
    (subst (λ (b : List ℕ). OnErr result ((n : ℕ) × Appends writer written (take n b))) ep err))
    fault

pub stopped : {S : Type 0} (U : Type 0) (club : Club S) (stands : S → Type 0) (leaves : S → S → Type 0) (s : S)
    (moment : ℕ)
    (input before taken shown : List ℕ) (reader left writer : Option (List ℕ)) (e : DeskFault)
    → reader ≡ Some input → writer ≡ Some before → shown ≡ taken
    → Consumes reader left taken → (IsAtEnd left ⊎ IsDecided taken) → e ≡ Memory
    → ((seen : ParseState) × Sees shown seen × leaves s (next_state club s moment seen))
    → Serving {U = U} club stands leaves s moment input before left writer (Err e)
stopped {S} U club stands leaves s moment input before taken shown reader left writer e er ew et c d fault a =
    subst (λ (o : Option (List ℕ)). Serving {U = U} club stands leaves s moment input before left o (Err e))
    (sym ew)
    (serving_stops U club stands leaves s moment input before taken left e
    (subst (λ (o : Option (List ℕ)). Consumes o left taken) er c) d fault
    (subst (λ (b : List ℕ). (seen : ParseState) × Sees b seen × leaves s (next_state club s moment seen)) et a))

-- ---- a club that is shut

shut_lifts : (fault : ClubFault) (input taken rest reply : List ℕ) → input ≡ taken ++ rest
    → ((rest ≡ []) ⊎ IsDecided taken) → IsShutReply fault taken reply → IsShutReply fault input reply
shut_lifts fault input taken rest reply e end r =
    let h = lifted input taken rest r.0 e end r.1 in
    (r.0, h.sees, r.2 ∙ ap (λ (b : Bool). shut_reply fault b r.0) h.asks)

shut_to_all : (fault : ClubFault) (input taken reply : List ℕ) (left : Option (List ℕ))
    → Consumes (Some input) left taken → (IsAtEnd left ⊎ IsDecided taken) → IsShutReply fault taken reply
    → IsShutReply fault input reply
shut_to_all fault input taken reply None c d r = absurd c
shut_to_all fault input taken reply (Some rest) c d r = shut_lifts fault input taken rest reply c d r

shut_ends : {U : Type 0} (fault : ClubFault) (before reply : List ℕ) (input : List ℕ) (written : Option (List ℕ))
    (result : Result U DeskFault)
    → IsShutReply fault input reply
    → OnOk result (Appends (Some before) written reply)
    → OnErr result ((n : ℕ) × Appends (Some before) written (take n reply)) → IfErr result (λ e. e ≡ Write)
    → ShutServing fault input before written result
shut_ends fault before reply input written (Ok u) r ok err is = (reply, r, appended before reply written ok)
shut_ends fault before reply input written (Err e) r ok err is =
    rw is (reply, err.0, r, appended before (take err.0 reply) written err.1)

pub shut_served : {U : Type 0} (fault : ClubFault) (input before taken shown reply sent : List ℕ)
    (reader left writer written : Option (List ℕ)) (result : Result U DeskFault)
    → reader ≡ Some input → writer ≡ Some before → shown ≡ taken → sent ≡ reply
    → Consumes reader left taken → (IsAtEnd left ⊎ IsDecided taken) → IsShutReply fault shown reply
    → OnOk result (Appends writer written sent) → OnErr result ((n : ℕ) × Appends writer written (take n sent))
    → IfErr result (λ e. e ≡ Write)
    → ShutServing fault input before written result
shut_served {U} fault input before taken shown reply sent reader left writer written result er ew et ep c d r ok err
    is =
    shut_ends fault before reply input written result
    (shut_to_all fault input taken reply left (subst (λ (o : Option (List ℕ)). Consumes o left taken) er c) d
    (subst (λ (b : List ℕ). IsShutReply fault b reply) et r))
    (subst (λ (o : Option (List ℕ)). OnOk result (Appends o written reply)) ew
    (subst (λ (b : List ℕ). OnOk result (Appends writer written b)) ep ok))
    (subst (λ (o : Option (List ℕ)). OnErr result ((n : ℕ) × Appends o written (take n reply))) ew
    (subst (λ (b : List ℕ). OnErr result ((n : ℕ) × Appends writer written (take n b))) ep err))
    is
