use Rattle.std.proofs.Common.{◌≡◌, ◌++◌, drop, map}
use Rattle.serde_json.specs.Data.{string}
use Rattle.serde_json.specs.View.{view}
use Rattle.club_core.specs.Members.{Member}
use Rattle.club_core.specs.internal.Answer.{members_of}
use Rattle.club_lists.proofs.club_json.member_names.Given as goal

abbrev pub invariant-loop-member : goal.invariant-loop-member
invariant-loop-member l =
    map view l.values.items ++ map string (map (λ (m : Member). m.name) (members_of (drop l.member-index l.members)))
    ≡ map string (map (λ (m : Member). m.name) (members_of l.members))
