use Rattle.std.proofs.Common.{◌≡◌, ◌+◌, ◌++◌, drop}
use Rattle.std.specs.Prelude.{string_bytes}
use Rattle.club_core.specs.internal.Answer.{members_of}
use Rattle.club_lists.specs.Lines.{numbered, member_line}
use Rattle.club_lists.proofs.lines.members_text.Given as goal

abbrev pub invariant-loop-member : goal.invariant-loop-member
invariant-loop-member l = record {
  count : l.id ≡ l.member-index;
  lines : string_bytes l.text ++ numbered member_line (l.member-index + 1) (members_of (drop l.member-index l.members))
      ≡ numbered member_line 1 (members_of l.members);
}
