use Rattle.std.proofs.Common.{sym, ◌∙◌, rules, tests}
use Rattle.std.proofs.lemmas.Iterator.{YieldsList-from_slice}
use Rattle.std.proofs.lemmas.Iterator.Search.{any_from_yields_List}
use Rattle.club_core.specs.internal.Answer.{member_of}
use Rattle.club_core.specs.Seats.{has_member_name}
use Rattle.club_lists.proofs.Lists.{any_told}
use Rattle.club_lists.proofs.listing.is_member.Goals as goal

pub returns : goal.returns
returns c =
    any_from_yields_List (λ m. has_member_name c.args.name.now (member_of m)) _ _ _ c.any.ensures.ran
    (YieldsList-from_slice c.args.members.now cc) (λ x b q k. search (rules, tests))
    ∙ sym (any_told (has_member_name c.args.name.now) _ c.args.members.now)
