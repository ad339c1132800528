use Rattle.std.proofs.Common.{◌≡◌, ap, length, rules, sym, ◌∙◌}
use Rattle.std.proofs.lemmas.List.{length-map}
use Rattle.club_lists.specs.internal.RulingViews.{given_by}
use Rattle.club_answers.proofs.rulings.count_in.Goals as goal

pub returns-clause-count : goal.returns-clause-count
returns-clause-count g c clean s any is_club version k at =
    let items = c.in_ok-rulings.rulings.items in
    let len : c.len.result ≡ length items = search rules in
    len ∙ (sym (length-map items given_by)
    ∙ ap length (c.in_ok-rulings.ensures.rulings clean s any is_club version k at))
