-- What stands after an outcome, and what an accepted one was not.
use Rattle.std.proofs.Common.{◌≡◌, List, Option, Some, None, Bool, true, false, refl, ap}
use Rattle.std.specs.Prelude.{if◌then◌else◌}
use Rattle.club_requests.specs.declared.requests.Caller.{Caller}
use Rattle.club_requests.specs.declared.requests.Caller.TheVariants.{Officer, Member}
use Rattle.club_requests.specs.declared.refusals.Refusal.{Refusal}
use Rattle.club_requests.specs.Outcome.{Reply, Outcome, accepted, repeated, refused, map_outcome, by_officer, unless}
use Rattle.club_requests.specs.Outcome.{unless_repeat, first_refusal}
use Rattle.club_core.specs.State.{state_after}
use Rattle.club_core.proofs.Proved.{NoneHolds, none-holds}

-- whatever stands after an outcome is so, where what stood before is so and what each accepted one leaves
pub outcome-later : {S T : Type 0} (Is : S → Type 0) (s : S) (f : T → S) (o : Outcome T) → Is s
    → ((t : T) (reply : Reply) → o ≡ accepted t reply → Is (f t)) → Is (state_after s (map_outcome f o))
outcome-later Is s f (accepted t reply) stays new = new t reply refl
outcome-later Is s f (repeated reply) stays new = stays
outcome-later Is s f (refused refusal) stays new = stays

pub officer-later : {S T : Type 0} (Is : S → Type 0) (s : S) (f : T → S) (who : Caller) (o : Outcome T) → Is s
    → ((t : T) (reply : Reply) → o ≡ accepted t reply → Is (f t))
    → Is (state_after s (by_officer who (map_outcome f o)))
officer-later Is s f Officer o stays new = outcome-later Is s f o stays new
officer-later Is s f (Member id) o stays new = stays

-- an accepted outcome was no repeat and not refused
pub unless-accepted : {T : Type 0} (o : Option Reply) (refusal : Option Refusal) (x : Outcome T) (t : T) (reply : Reply)
    → unless_repeat o (unless refusal x) ≡ accepted t reply → (o ≡ None) × (refusal ≡ None) × (x ≡ accepted t reply)
unless-accepted (Some r) refusal x t reply is = cc
unless-accepted None (Some refusal) x t reply is = cc
unless-accepted None None x t reply is = (refl, refl, is)

pub accepted-same : {T : Type 0} (t u : T) (a b : Reply) → accepted t a ≡ accepted u b → (t ≡ u) × (a ≡ b)
accepted-same t u a b is = (cc, cc)

-- the officer adds something, where it was not there already and nothing is refused
pub officer-adds : {S T : Type 0} (Is : S → Type 0) (s : S) (f : T → S) (who : Caller) (same : Option Reply)
    (tests : List (Bool × Refusal)) (t : T) (answer : Reply) → Is s → (NoneHolds tests → Is (f t)) → Is
    (state_after s
    (by_officer who (map_outcome f (unless_repeat same (unless (first_refusal tests) (accepted t answer))))))
officer-adds Is s f who same tests t answer stays new =
    officer-later Is s f who (unless_repeat same (unless (first_refusal tests) (accepted t answer))) stays
    (λ u reply is.
    let added = unless-accepted same (first_refusal tests) (accepted t answer) u reply is in
    rw (← (accepted-same t u answer reply added.2).0) (new (none-holds tests added.1)))

-- an accepted outcome passed its test
pub if-accepted : {T : Type 0} (b : Bool) (o : Outcome T) (refusal : Refusal) (t : T) (reply : Reply)
    → (if b then o else refused refusal) ≡ accepted t reply → (b ≡ true) × (o ≡ accepted t reply)
if-accepted true o refusal t reply is = (refl, is)
if-accepted false o refusal t reply is = cc

-- an accepted outcome of what was made of another
pub map-accepted : {S T : Type 0} (f : T → S) (o : Outcome T) (after : S) (reply : Reply)
    → map_outcome f o ≡ accepted after reply → (t : T) × (o ≡ accepted t reply) × (f t ≡ after)
map-accepted f (accepted t r) after reply is =
    let e : r ≡ reply = cc in
    let same : f t ≡ after = cc in
    (t, ap (accepted t) e, same)
map-accepted f (repeated r) after reply is = cc
map-accepted f (refused refusal) after reply is = cc

pub officer-accepted : {S : Type 0} (who : Caller) (o : Outcome S) (after : S) (reply : Reply)
    → by_officer who o ≡ accepted after reply → (who ≡ Officer) × (o ≡ accepted after reply)
officer-accepted Officer o after reply is = (refl, is)
officer-accepted (Member id) o after reply is = cc
