-- Members, and the transition that adds one.
use Rattle.std.specs.Prelude.{ℕ, suc, ◌+◌, List, [], ◌∷◌, ◌++◌, length, Option, Some, None, Bool, not, ◌&&◌, ◌||◌}
use Rattle.std.specs.Prelude.{nat_le, if◌then◌else◌}
use Rattle.std.specs.Str.{bytes_eq}
use Rattle.std.specs.Option.{option_map}
use Rattle.std.specs.List.{list_any}
use Rattle.club_requests.specs.declared.refusals.Refusal.{Refusal}
use Rattle.club_requests.specs.declared.refusals.Refusal.TheVariants.{NameTaken, BadValue, Full}
use Rattle.club_requests.specs.Limits.{most_members, is_name, is_member_key}
use Rattle.club_requests.specs.Outcome.{Reply, member_added, Outcome, accepted, first_refusal, unless, unless_repeat}

-- a member with the first secret key and the keys that were given later, the newest last
pub record Member : Type 0 where
  pub name : List ℕ
  pub key : List ℕ
  pub later : List (List ℕ)

-- all keys that a member has or had, the first one first
abbrev pub keys_of : Member → List (List ℕ)
keys_of m = m.key ∷ m.later

-- the last of these keys, or the given one if there is none
abbrev pub last_key : List ℕ → List (List ℕ) → List ℕ
last_key key [] = key
last_key key (k ∷ ks) = last_key k ks

-- the key that the member has now
abbrev pub present_key : Member → List ℕ
present_key m = last_key m.key m.later

-- the member has or had this key
abbrev pub had_key : List ℕ → Member → Bool
had_key key m = list_any (λ k. bytes_eq k key) (keys_of m)

-- ids are indices from 1: the id of the first element that passes the test
abbrev pub find_id : {A : Type 0} → (A → Bool) → List A → Option ℕ
find_id test [] = None
find_id test (x ∷ xs) = if test x then Some 1 else option_map suc (find_id test xs)

-- the member has this name, and this key is the first one
abbrev pub is_member : List ℕ → List ℕ → Member → Bool
is_member name key m = bytes_eq m.name name && bytes_eq m.key key

-- the member has this name, or has or had this key
abbrev pub has_name_or_key : List ℕ → List ℕ → Member → Bool
has_name_or_key name key m = bytes_eq m.name name || had_key key m

module _ (members : List Member) (name key : List ℕ) where
  -- the reply if a member with this name and this first key already exists
  abbrev pub same_member : Option Reply
  same_member = option_map member_added (find_id (is_member name key) members)

  -- the refusals of a new member with their tests, in the order in which they apply
  abbrev pub member_tests : List (Bool × Refusal)
  member_tests =
      (list_any (has_name_or_key name key) members, NameTaken)
      ∷ (not (is_name name && is_member_key key), BadValue)
      ∷ (nat_le most_members (length members), Full)
      ∷ []

  -- the first refusal of a new member that applies, if any
  abbrev pub member_refusal : Option Refusal
  member_refusal = first_refusal member_tests

  -- the transition that adds a member
  abbrev pub member_step : Outcome (List Member)
  member_step =
      unless_repeat same_member
      (unless member_refusal
      (accepted (members ++ record { name = name; key = key; later = [] } ∷ []) (member_added (length members + 1))))
