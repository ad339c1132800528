use Rattle.std.proofs.Common.{sym, ◌∙◌, rules, tests}
use Rattle.std.proofs.lemmas.Iterator.{YieldsList-from_slice}
use Rattle.std.proofs.lemmas.Iterator.Search.{any_from_yields_List}
use Rattle.club_core.specs.internal.Answer.{member_of}
use Rattle.club_core.specs.Members.{had_key}
use Rattle.club_core.proofs.Finds.{list_any-map}
use Rattle.club_core.proofs.keys.is_known.Goals as goal

pub returns : goal.returns
returns c =
    any_from_yields_List (λ m. had_key c.args.key.now (member_of m)) _ _ _ c.any.ensures.ran
    (YieldsList-from_slice c.args.members.now cc) (λ x b q k. search (rules, tests))
    ∙ sym (list_any-map (had_key c.args.key.now) _ c.args.members.now)
