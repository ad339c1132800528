use Rattle.std.proofs.Common.{◌≡◌, ◌+◌, suc, Some, ap, sym, ◌∙◌, arith, rules, tests}
use Rattle.std.specs.Option.{option_map}
use Rattle.std.proofs.lemmas.Iterator.{YieldsList-from_slice}
use Rattle.std.proofs.lemmas.Iterator.Search.{position_from_yields_List}
use Rattle.club_core.specs.internal.Answer.{member_of}
use Rattle.club_core.specs.State.{has_member_key}
use Rattle.club_lists.proofs.Finds.{find_id-position}
use Rattle.club_lists.proofs.member_json.member_id_by_key.Goals as goal

pub returns-in-Some : goal.returns-in-Some
returns-in-Some c =
    let found = position_from_yields_List (λ m. has_member_key c.args.key.now (member_of m)) _ _ _
    c.position.ensures.ran (YieldsList-from_slice c.args.members.now cc) (λ x b q k. search (rules, tests)) in
    let next : c.in-Some.before + 1 ≡ suc c.in-Some.before = omega arith in
    ap Some next
    ∙ (ap (option_map suc) (sym c.in-Some.is ∙ found)
    ∙ sym (find_id-position (has_member_key c.args.key.now) _ c.args.members.now))

pub returns-in-None : goal.returns-in-None
returns-in-None c =
    let found = position_from_yields_List (λ m. has_member_key c.args.key.now (member_of m)) _ _ _
    c.position.ensures.ran (YieldsList-from_slice c.args.members.now cc) (λ x b q k. search (rules, tests)) in
    ap (option_map suc) (sym c.in-None.is ∙ found)
    ∙ sym (find_id-position (has_member_key c.args.key.now) _ c.args.members.now)
