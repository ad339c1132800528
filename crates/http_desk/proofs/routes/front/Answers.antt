use Rattle.std.proofs.Common.{◌∙◌, ◌==◌, sym, rules, tests}
use Rattle.std.proofs.lemmas.Iterator.{YieldsList-from_slice}
use Rattle.std.proofs.lemmas.Iterator.Search.{position_from_yields_List}
use Rattle.http_desk.proofs.CutLemmas.{before_found, before_none}
use Rattle.http_desk.proofs.routes.front.Goals as goal

pub returns-in-Some : goal.returns-in-Some
returns-in-Some c =
    before_found c.args.byte c.in-Some.i c.args.bytes.now
    (sym (position_from_yields_List (λ x. x == c.args.byte) _ _ _ c.position.ensures.ran
    (YieldsList-from_slice c.args.bytes.now cc) (λ x b q k. search (rules, tests))) ∙ c.in-Some.is)

pub returns-in-None : goal.returns-in-None
returns-in-None c =
    before_none c.args.byte c.args.bytes.now
    (sym (position_from_yields_List (λ x. x == c.args.byte) _ _ _ c.position.ensures.ran
    (YieldsList-from_slice c.args.bytes.now cc) (λ x b q k. search (rules, tests))) ∙ c.in-None.is)
