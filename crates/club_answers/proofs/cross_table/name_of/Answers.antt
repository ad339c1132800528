use Rattle.std.proofs.Common.{◌-◌, sym, length, ap, ◌∙◌}
use Rattle.std.proofs.lemmas.Bool.{ltb-true}
use Rattle.club_core.specs.internal.Answer.{member_of}
use Rattle.club_answers.specs.CrossTable.{name_in}
use Rattle.club_changes.proofs.Proved.{placed}
use Rattle.club_answers.proofs.cross_table.name_of.Goals as goal

pub returns-in-Some : goal.returns-in-Some
returns-in-Some c =
    let found = c.in-Some.ensures.lookup in
    let stands = placed member_of c.args.members.now c.args.id c.in-Some.member.now c.if-id-eq0.false
    (ltb-true (c.args.id - 1) (length c.args.members.now) (sym found.0)) found.1 in
    c.as_str.ensures.value ∙ sym (ap name_in stands)
