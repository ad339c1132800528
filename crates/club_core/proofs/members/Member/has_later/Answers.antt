use Rattle.std.proofs.Common.{sym, ◌∙◌, rules, tests, string_bytes}
use Rattle.std.specs.Str.{bytes_eq}
use Rattle.std.proofs.lemmas.Iterator.{YieldsList-from_slice}
use Rattle.std.proofs.lemmas.Iterator.Search.{any_from_yields_List}
use Rattle.club_core.proofs.Finds.{list_any-map}
use Rattle.club_core.proofs.members.Member.has_later.Goals as goal

pub returns : goal.returns
returns c =
    any_from_yields_List (λ k. bytes_eq (string_bytes k) c.args.key.now) _ _ _ c.any.ensures.ran
    (YieldsList-from_slice c.args.self.now.later.items cc) (λ x b q k. search (rules, tests))
    ∙ sym (list_any-map (λ k. bytes_eq k c.args.key.now) (λ k. string_bytes k) c.args.self.now.later.items)
