-- The transition that gives a member another key.
use Rattle.std.specs.Prelude.{ℕ, zero, suc, ◌+◌, ◌-◌, List, [], ◌∷◌, ◌++◌, length, Option, Some, None, Bool, false}
use Rattle.std.specs.Prelude.{not, ◌&&◌, nat_le, is_some, if◌then◌else◌, slice_get, slice_set}
use Rattle.std.specs.Str.{bytes_eq}
use Rattle.std.specs.List.{list_any}
use Rattle.club_requests.specs.declared.refusals.Refusal.{Refusal}
use Rattle.club_requests.specs.declared.refusals.Refusal.TheVariants.{BadValue, Conflict, Full, NameTaken}
use Rattle.club_requests.specs.Limits.{is_member_key, most_keys}
use Rattle.club_requests.specs.Outcome.{Reply, key_given, Outcome, accepted, refused, first_refusal, unless}
use Rattle.club_requests.specs.Outcome.{unless_repeat}
use Rattle.club_core.specs.Members.{Member, find_id, had_key}
use Rattle.club_core.specs.Seats.{has_member_name}

-- the later key under a number, which counts from 1
abbrev pub key_under : Member → ℕ → Option (List ℕ)
key_under m zero = None
key_under m (suc n) = slice_get m.later n

-- the key exists and is this one
abbrev pub is_given : List ℕ → Option (List ℕ) → Bool
is_given key None = false
is_given key (Some k) = bytes_eq k key

-- the number is that of a later key, or the next one
abbrev pub is_key_number : Member → ℕ → Bool
is_key_number m number = nat_le 1 number && nat_le number (length m.later + 1)

-- the member with one more key
abbrev pub with_key : Member → List ℕ → Member
with_key m key = record m { later = m.later ++ key ∷ [] }

-- the reply if this key was given to the member under this number
abbrev pub repeat_of_key : Member → ℕ → List ℕ → Option Reply
repeat_of_key m number key = if is_given key (key_under m number) then Some (key_given number) else None

module _ (members : List Member) (m : Member) (number : ℕ) (key : List ℕ) where
  -- the refusals of a new key with their tests, in the order in which they apply
  abbrev pub key_tests : List (Bool × Refusal)
  key_tests =
      (is_some (key_under m number), Conflict)
      ∷ (list_any (had_key key) members, NameTaken)
      ∷ (not (is_member_key key && is_key_number m number), BadValue)
      ∷ (nat_le most_keys (length m.later), Full)
      ∷ []

  -- the first refusal of a new key that applies, if any
  abbrev pub key_refusal : Option Refusal
  key_refusal = first_refusal key_tests

-- gives another key to the member with this id, after the member is looked up
abbrev pub give_key : List Member → ℕ → Option Member → ℕ → List ℕ → Outcome (List Member)
give_key members id None number key = refused BadValue
give_key members id (Some m) number key =
    unless_repeat (repeat_of_key m number key)
    (unless (key_refusal members m number key)
    (accepted (slice_set members (id - 1) (with_key m key)) (key_given number)))

-- the transition after the id of the member is looked up by name
abbrev pub key_found : List Member → Option ℕ → ℕ → List ℕ → Outcome (List Member)
key_found members None number key = refused BadValue
key_found members (Some id) number key = give_key members id (slice_get members (id - 1)) number key

-- gives another key to the member with this name; an unknown member is refused first
abbrev pub key_step : List Member → List ℕ → ℕ → List ℕ → Outcome (List Member)
key_step members name number key = key_found members (find_id (has_member_name name) members) number key
