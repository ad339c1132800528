use Rattle.std.proofs.Common.{◌≡◌, ◌++◌, drop, map}
use Rattle.serde_json.specs.View.{view}
use Rattle.club_core.specs.internal.Answer.{members_of}
use Rattle.club_lists.specs.Shows.{other_names}
use Rattle.club_lists.proofs.member_json.other_names.Given as goal

abbrev pub invariant-loop-member : goal.invariant-loop-member
invariant-loop-member l =
    map view l.values.items ++ other_names l.key (members_of (drop l.member-index l.members))
    ≡ other_names l.key (members_of l.members)
