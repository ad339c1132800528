-- Keys of members and closings of events, as the code finds them.
use Rattle.std.proofs.Common.{◌≡◌, ◌≤◌, ◌<◌, ℕ, zero, suc, ◌-◌, List, [], ◌∷◌, length, map, Option, Some, None, Bool}
use Rattle.std.proofs.Common.{true}
use Rattle.std.proofs.Common.{false, refl, ap, sym, ◌∙◌, arith}
use Rattle.std.specs.Prelude.{get_or, is_some, slice_get}
use Rattle.std.specs.Option.{option_map}
use Rattle.std.proofs.lemmas.List.{length-map}
use Rattle.std.proofs.lemmas.Option.{slice_get-map, slice_get_read}
use Rattle.club_requests.specs.declared.requests.Caller.{Caller}
use Rattle.club_requests.specs.declared.requests.Caller.TheVariants.{Officer}
use Rattle.club_requests.specs.Outcome.{by_officer}
use Rattle.club_core.specs.Answer.{answered}
use Rattle.club_core.specs.Members.{Member, find_id, last_key}
use Rattle.club_core.specs.Seats.{has_member_name}
use Rattle.club_core.specs.Keys.{give_key, key_step, key_under}
use Rattle.club_core.specs.Events.{Event, has_event_name, is_closed}
use Rattle.club_core.specs.Closings.{close, close_step}

before : (k : ℕ) → suc k - 1 ≡ k
before k = omega arith

-- what has a place in a list has it in the list of images
pub get-map : {A B : Type 0} (f : A → B) (xs : List A) (k : ℕ) (x : A) → k < length xs → x ≡ get_or xs k x
    → slice_get (map f xs) k ≡ Some (f x)
get-map f xs k x within is =
    slice_get-map f xs k ∙ ap (option_map f) (slice_get_read xs (length xs) k x refl within is)

pub get-past : {A B : Type 0} (f : A → B) (xs : List A) (k : ℕ) → length xs ≤ k → slice_get (map f xs) k ≡ None
get-past f [] k past = refl
get-past f (x ∷ xs) zero past = absurd (omega (arith, past))
get-past f (x ∷ xs) (suc k) past = get-past f xs k (omega (arith, past))

-- the last key has the last place
pub last_key-at : (key : List ℕ) (keys : List (List ℕ)) → slice_get (key ∷ keys) (length keys)
    ≡ Some (last_key key keys)
last_key-at key [] = refl
last_key-at key (k ∷ ks) = last_key-at k ks

pub newest : {A : Type 0} (f : A → List ℕ) (key : List ℕ) (xs : List A) (x : A)
    → slice_get xs (length xs - 1) ≡ Some x → last_key key (map f xs) ≡ f x
newest f key [] x at = cc
newest f key (y ∷ ys) x at =
    let there : slice_get (y ∷ ys) (length ys) ≡ Some x = ap (slice_get (y ∷ ys)) (sym (before (length ys))) ∙ at in
    let mapped : slice_get (map f (y ∷ ys)) (length ys) ≡ Some (f x) =
    slice_get-map f (y ∷ ys) (length ys) ∙ ap (option_map f) there in
    let count : length (map f (y ∷ ys)) ≡ suc (length ys) = simp length-map in
    let both : Some (last_key key (map f (y ∷ ys))) ≡ Some (f x) =
    sym (last_key-at key (map f (y ∷ ys))) ∙ (ap (slice_get (key ∷ map f (y ∷ ys))) count ∙ mapped) in
    cc

-- the key under a number that is not 0
pub key_under-at : (m : Member) (number : ℕ) → (number ≡ 0 → ⊥) → key_under m number ≡ slice_get m.later (number - 1)
key_under-at m zero some = absurd (some refl)
key_under-at m (suc n) some = ap (slice_get m.later) (sym (before n))

pub some-number : (m : Member) (number : ℕ) → is_some (key_under m number) ≡ true → number ≡ 0 → ⊥
some-number m zero has is = cc
some-number m (suc n) has is = cc

-- a new key for a member that was looked up
pub key-answered : (who : Caller) (members : List Member) (found name : List ℕ) (k : ℕ) (m : Member) (number : ℕ)
    (key : List ℕ) → who ≡ Officer → found ≡ name → find_id (has_member_name found) members ≡ Some (suc k)
    → slice_get members k ≡ Some m → answered (by_officer who (key_step members name number key))
    ≡ answered (give_key members (suc k) (Some m) number key)
key-answered who members found name k m number key officer same is at =
    let there : slice_get members (suc k - 1) ≡ Some m = ap (slice_get members) (before k) ∙ at in
    rw (officer, ← same, is, there) refl

-- ---- closings

pub closed-at : {A : Type 0} (f : A → Event) (xs : List A) (id : ℕ) (x : A) → (id ≡ 0 → ⊥) → id - 1 < length xs
    → x ≡ get_or xs (id - 1) x → is_closed (map f xs) id ≡ is_some (f x).closed
closed-at f xs zero x some within is = absurd (some refl)
closed-at f xs (suc k) x some within is =
    let at : slice_get (map f xs) k ≡ Some (f x) =
    get-map f xs k x (omega (arith, within)) (is ∙ ap (λ j. get_or xs j x) (before k)) in
    rw at refl

pub closed-past : {A : Type 0} (f : A → Event) (xs : List A) (id : ℕ) → (id ≡ 0 → ⊥) → length xs ≤ id - 1
    → is_closed (map f xs) id ≡ false
closed-past f xs zero some past = absurd (some refl)
closed-past f xs (suc k) some past = rw (get-past f xs k (omega (arith, past))) refl

-- a closing of an event that was looked up
pub close-answered : (who : Caller) (events : List Event) (found name : List ℕ) (k : ℕ) (e : Event) (moment : ℕ)
    → who ≡ Officer → found ≡ name → find_id (has_event_name found) events ≡ Some (suc k) → slice_get events k ≡ Some e
    → answered (by_officer who (close_step events name moment)) ≡ answered (close events (suc k) (Some e) moment)
close-answered who events found name k e moment officer same is at =
    let there : slice_get events (suc k - 1) ≡ Some e = ap (slice_get events) (before k) ∙ at in
    rw (officer, ← same, is, there) refl
