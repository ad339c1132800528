use Rattle.std.proofs.Common.{suc, ap, sym, ◌∙◌, rules, tests}
use Rattle.std.specs.Option.{option_map}
use Rattle.std.proofs.lemmas.Iterator.{YieldsList-from_slice}
use Rattle.std.proofs.lemmas.Iterator.Search.{position_from_yields_List}
use Rattle.club_core.specs.internal.Answer.{member_of}
use Rattle.club_core.specs.Seats.{has_member_name}
use Rattle.club_core.proofs.Finds.{find_id-map}
use Rattle.club_core.proofs.seats.find_member.Goals as goal

pub returns : goal.returns
returns c =
    c.id_at.ensures
    ∙
    (ap (option_map suc)
    (position_from_yields_List (λ m. has_member_name c.args.name.now (member_of m)) _ _ _ c.position.ensures.ran
    (YieldsList-from_slice c.args.members.now cc) (λ x b q k. search (rules, tests)))
    ∙ sym (find_id-map (has_member_name c.args.name.now) _ c.args.members.now))
