use Rattle.std.proofs.Common.{◌≡◌, drop}
use Rattle.club_core.specs.internal.Answer.{members_of}
use Rattle.club_lists.specs.Shows.{member_name_by_key}
use Rattle.club_lists.proofs.member_json.member_name_by_key.Given as goal

abbrev pub invariant-loop-member : goal.invariant-loop-member
invariant-loop-member l =
    member_name_by_key l.key (members_of (drop l.member-index l.members)) ≡ member_name_by_key l.key (members_of l.members)
