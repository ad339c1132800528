-- The member with a secret key.
use Rattle.std.specs.Prelude.{ℕ, List, Option, Some, None, option_map}
use Rattle.club_requests.specs.declared.requests.Caller.{Caller}
use Rattle.club_requests.specs.declared.requests.Caller.TheVariants.{Officer, Member as CalledMember}
use Rattle.club_core.specs.Members.{Member}
use Rattle.club_core.specs.State.{place, key_holder, caller_of}
use Rattle.club_rows.specs.Club.{ClubState}

-- the name of a caller who is a member
abbrev pub caller_name : List Member → Option Caller → Option (List ℕ)
caller_name members None = None
caller_name members (Some Officer) = None
caller_name members (Some (CalledMember id)) = option_map (λ (m : Member). m.name) (place members id)

-- the name of the member with this key, if there is one
abbrev pub member_by_key : ClubState → List ℕ → Option (List ℕ)
member_by_key s key = caller_name s.members (caller_of s.members (key_holder key))
