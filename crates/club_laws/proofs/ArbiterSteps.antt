-- What an accepted new key or closing found and what it leaves.
use Rattle.std.proofs.Common.{◌≡◌, ℕ, zero, suc, ◌+◌, ◌-◌, ◌≤◌, List, [], ◌∷◌, ◌++◌, length, Option, Some, None, Bool}
use Rattle.std.proofs.Common.{true}
use Rattle.std.proofs.Common.{false, not, ◌&&◌, refl, ap, sym, ◌∙◌, arith}
use Rattle.std.specs.Prelude.{is_some, nat_le, slice_get, slice_set, if◌then◌else◌}
use Rattle.std.proofs.lemmas.Bool.Decides.{nat_tests}
use Rattle.std.proofs.lemmas.Bool.{not-false}
use Rattle.club_requests.specs.Limits.{is_member_key}
use Rattle.club_requests.specs.Outcome.{Reply, key_given, event_closed, Outcome, accepted, repeated}
use Rattle.club_core.specs.Members.{Member, find_id}
use Rattle.club_core.specs.Seats.{has_member_name}
use Rattle.club_core.specs.Keys.{key_under, is_given, is_key_number, with_key, repeat_of_key, key_tests, key_refusal}
use Rattle.club_core.specs.Keys.{give_key, key_found, key_step}
use Rattle.club_core.specs.Events.{Event, has_event_name}
use Rattle.club_core.specs.Closings.{closed_at, close, close_found, close_step}
use Rattle.club_core.proofs.Proved.{NoneHolds, none-holds}
use Rattle.club_laws.proofs.Accepts.{unless-accepted, accepted-same}
use Rattle.club_laws.proofs.GameSteps.{Begins}
use Rattle.club_laws.proofs.LaterParts.{IsLaterMember, IsLaterEvent}
use Rattle.club_laws.proofs.Lists.{at-last, both-true, bytes_eq-same, get-append}

-- a key that was given found its member, and passed all tests
pub record WasKeyed (all : List Member) (name : List ℕ) (number : ℕ) (key : List ℕ) (new : List Member)
    (reply : Reply) : Type 0 where
  pub id : ℕ
  pub member : Member
  pub found : find_id (has_member_name name) all ≡ Some id
  pub stood : slice_get all (id - 1) ≡ Some member
  pub tests : NoneHolds (key_tests all member number key)
  pub stands : slice_set all (id - 1) (with_key member key) ≡ new
  pub answer : key_given number ≡ reply

module _ (all : List Member) (name : List ℕ) (number : ℕ) (key : List ℕ) (new : List Member) (reply : Reply) where
  key-of-member : (id : ℕ) (m : Option Member) → find_id (has_member_name name) all ≡ Some id
      → slice_get all (id - 1) ≡ m → give_key all id m number key ≡ accepted new reply
      → WasKeyed all name number key new reply
  key-of-member id None found stood is = cc
  key-of-member id (Some m) found stood is =
      let parts = unless-accepted (repeat_of_key m number key) (key_refusal all m number key) _ new reply is in
      let same = accepted-same (slice_set all (id - 1) (with_key m key)) new (key_given number) reply parts.2 in
      record {
        id = id;
        member = m;
        found = found;
        stood = stood;
        tests = none-holds (key_tests all m number key) parts.1;
        stands = same.0;
        answer = same.1;
      }

  key-by-name : (id : Option ℕ) → find_id (has_member_name name) all ≡ id
      → key_found all id number key ≡ accepted new reply → WasKeyed all name number key new reply
  key-by-name None found is = cc
  key-by-name (Some id) found is = key-of-member id (slice_get all (id - 1)) found refl is

  pub was-keyed : key_step all name number key ≡ accepted new reply → WasKeyed all name number key new reply
  was-keyed is = key-by-name (find_id (has_member_name name) all) refl is

pub none-past : {A : Type 0} (xs : List A) (n : ℕ) → is_some (slice_get xs n) ≡ false → length xs ≤ n
none-past [] n is = omega arith
none-past (x ∷ xs) zero is = cc
none-past (x ∷ xs) (suc n) is = let rest = none-past xs n is in omega (arith, rest)

pub next-number : (n count : ℕ) → count ≤ n → (nat_le 1 (suc n) && nat_le (suc n) (count + 1)) ≡ true → n ≡ count
next-number n count past is = grind (arith, nat_tests)

-- a fresh number is the next one
pub number-is : (m : Member) (number : ℕ) → is_some (key_under m number) ≡ false → is_key_number m number ≡ true
    → number ≡ suc (length m.later)
number-is m zero fresh good = cc
number-is m (suc n) fresh good = ap suc (next-number n (length m.later) (none-past m.later n fresh) good)

-- the key that was given has its number in each later member
pub key-there : (m new : Member) (number : ℕ) (key : List ℕ) → is_some (key_under m number) ≡ false
    → is_key_number m number ≡ true → IsLaterMember (with_key m key) new
    → repeat_of_key new number key ≡ Some (key_given number)
key-there m new number key fresh good later =
    let next = number-is m number fresh good in
    let at : slice_get new.later (length m.later) ≡ Some key =
    rw later.later.1 (get-append (m.later ++ key ∷ []) later.later.0 (length m.later) key (at-last m.later key)) in
    rw (next, at, bytes_eq-same key key refl) refl

-- an event that was closed was found, and not closed before
pub record WasClosed (all : List Event) (name : List ℕ) (moment : ℕ) (new : List Event) (reply : Reply) : Type 0 where
  pub id : ℕ
  pub event : Event
  pub found : find_id (has_event_name name) all ≡ Some id
  pub stood : slice_get all (id - 1) ≡ Some event
  pub was_open : is_some event.closed ≡ false
  pub stands : slice_set all (id - 1) (closed_at event moment) ≡ new
  pub answer : event_closed ≡ reply

unless-closed : {S : Type 0} (b : Bool) (new after : S) (reply : Reply)
    → (if b then repeated event_closed else accepted new event_closed) ≡ accepted after reply → (b ≡ false)
    × (new ≡ after) × (event_closed ≡ reply)
unless-closed true new after reply is = cc
unless-closed false new after reply is = (refl, cc, cc)

module _ (all : List Event) (name : List ℕ) (moment : ℕ) (new : List Event) (reply : Reply) where
  closed-event : (id : ℕ) (e : Option Event) → find_id (has_event_name name) all ≡ Some id
      → slice_get all (id - 1) ≡ e → close all id e moment ≡ accepted new reply → WasClosed all name moment new reply
  closed-event id None found stood is = cc
  closed-event id (Some e) found stood is =
      let parts = unless-closed (is_some e.closed) (slice_set all (id - 1) (closed_at e moment)) new reply is in
      record {
        id = id;
        event = e;
        found = found;
        stood = stood;
        was_open = parts.0;
        stands = parts.1;
        answer = parts.2;
      }

  closed-by-name : (id : Option ℕ) → find_id (has_event_name name) all ≡ id
      → close_found all id moment ≡ accepted new reply → WasClosed all name moment new reply
  closed-by-name None found is = cc
  closed-by-name (Some id) found is = closed-event id (slice_get all (id - 1)) found refl is

  pub was-closed : close_step all name moment ≡ accepted new reply → WasClosed all name moment new reply
  was-closed is = closed-by-name (find_id (has_event_name name) all) refl is

-- a member with one more key and a closed event are later ones
pub with_key-later : (m : Member) (key : List ℕ) → IsLaterMember m (with_key m key)
with_key-later m key = record { name = refl; key = refl; later = (key ∷ [], refl) }

pub closed_at-later : (e : Event) (moment : ℕ) → is_some e.closed ≡ false → IsLaterEvent e (closed_at e moment)
closed_at-later e moment was_open =
    record { same = refl; closed = λ is. let both : false ≡ true = sym was_open ∙ is in absurd cc }
