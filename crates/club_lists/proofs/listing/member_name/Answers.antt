use Rattle.std.proofs.Common.{◌-◌, sym, length, ap, ◌∙◌}
use Rattle.std.proofs.lemmas.Bool.{ltb-true, ltb-false}
use Rattle.club_core.specs.internal.Answer.{member_of}
use Rattle.club_lists.specs.Listing.{member_name}
use Rattle.club_lists.proofs.Lists.{told_at, told_none}
use Rattle.club_lists.proofs.listing.member_name.Goals as goal

pub returns-in-Some : goal.returns-in-Some
returns-in-Some c =
    let found = c.in-Some.ensures.lookup in
    let stands = told_at member_of c.args.members.now c.args.id c.in-Some.member.now c.if-id-eq0.false
    (ltb-true (c.args.id - 1) (length c.args.members.now) (sym found.0)) found.1 in
    c.as_str.ensures.value ∙ sym (ap member_name stands)

pub returns-in-None : goal.returns-in-None
returns-in-None c =
    let past = ltb-false (c.args.id - 1) (length c.args.members.now) (sym c.in-None.ensures.lookup.0) in
    sym (ap member_name (told_none member_of c.args.members.now c.args.id c.if-id-eq0.false past))
