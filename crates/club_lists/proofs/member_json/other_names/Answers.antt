use Rattle.std.proofs.Common.{ap, sym, ◌∙◌}
use Rattle.serde_json.specs.Data.{string}
use Rattle.serde_json.specs.View.{view}
use Rattle.club_core.specs.internal.Answer.{member_of}
use Rattle.club_lists.specs.Shows.{is_other}
use Rattle.club_lists.proofs.Picked.{one_left, one_picked}
use Rattle.club_lists.proofs.member_json.other_names.Goals as goal

pub loop-member-preserved : goal.loop-member-preserved
loop-member-preserved c =
    one_picked view (λ m. string m.name) (is_other c.args.key.now) member_of c.args.members.now
    c.loop-member.member-index c.member-item.result c.loop-member-test.true
    c.member-item.is c.loop-member.values.items c.push.new.self.items _ c.loop-member.invariant
    (sym c.is_other.ensures ∙ c.if-not-is_other.false) (c.in_ok-try_from_str.ensures ∙ ap string c.as_str.ensures.value)
    c.in_ok-push.ensures.items

pub loop-member-preserved-then-not-is_other : goal.loop-member-preserved-then-not-is_other
loop-member-preserved-then-not-is_other c =
    one_left view (λ m. string m.name) (is_other c.args.key.now) member_of c.args.members.now
    c.loop-member.member-index c.member-item.result c.loop-member-test.true
    c.member-item.is c.loop-member.values.items c.loop-member.invariant (sym c.is_other.ensures ∙ c.if-not-is_other.true)
