use Rattle.std.proofs.Common.{suc, ap, sym, ◌∙◌, rules, tests}
use Rattle.std.specs.Option.{option_map}
use Rattle.std.proofs.lemmas.Iterator.{YieldsList-from_slice}
use Rattle.std.proofs.lemmas.Iterator.Search.{position_from_yields_List}
use Rattle.club_core.specs.internal.Answer.{member_of}
use Rattle.club_core.specs.Members.{is_member}
use Rattle.club_core.proofs.Finds.{find_id-map}
use Rattle.club_core.proofs.members.find_member.Goals as goal

pub returns : goal.returns
returns c =
    c.id_at.ensures
    ∙
    (ap (option_map suc)
    (position_from_yields_List (λ m. is_member c.args.name.now c.args.key.now (member_of m)) _ _ _
    c.position.ensures.ran (YieldsList-from_slice c.args.members.now cc) (λ x b q k. search (rules, tests)))
    ∙ sym (find_id-map (is_member c.args.name.now c.args.key.now) _ c.args.members.now))
