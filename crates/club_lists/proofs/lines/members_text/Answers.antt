use Rattle.std.proofs.Common.{◌+◌, ap, ◌∙◌, rules}
use Rattle.std.specs.Prelude.{string_bytes}
use Rattle.club_core.specs.internal.Answer.{member_of}
use Rattle.club_lists.specs.Lines.{member_line}
use Rattle.club_lists.proofs.Numbered.{numbered_more}
use Rattle.club_lists.proofs.lines.members_text.Goals as goal

pub loop-member-preserved : goal.loop-member-preserved
loop-member-preserved c =
    let id_is = c.loop-member.invariant.count in
    record {
      count = ap (λ n. n + 1) id_is;
      lines = numbered_more member_line member_of c.args.members.now c.loop-member.member-index c.member-item.result
          (string_bytes c.loop-member.text) (string_bytes c.in_ok-line.line) _ _ c.loop-member-test.true
          c.loop-member.invariant.lines
          (c.in_ok-line.ensures ∙ (λ i. member_line (id_is i + 1) (member_of (c.member-item.is i)))) (search rules);
    }
