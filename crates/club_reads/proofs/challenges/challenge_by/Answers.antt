use Rattle.std.proofs.Common.{map, ap, sym, ◌∙◌, arith}
use Rattle.club_core.specs.Challenges.{challenge_by}
use Rattle.store_tables.specs.internal.Cells.{challenge_cells}
use Rattle.club_rows.specs.Club.{tables}
use Rattle.club_changes.proofs.Proved.{asked, found_some, found_none, past_numbers, first_mapped, none_mapped}
use Rattle.club_reads.proofs.challenges.challenge_by.Goals as goal

pub returns-in_default-question_of-clause-found : goal.returns-in_default-question_of-clause-found
returns-in_default-question_of-clause-found g c clean s is_club k =
    past_numbers s is_club c.in-Some.member c.args.number
    (λ low. omega (arith, low, c.in_default-question_of.ensures.none))
    ∙ ap (λ o. challenge_by s.challenges o c.args.number) (sym c.in-Some.is)

pub returns-in_ok-challenge_in-in-Some-first-clause-found : goal.returns-in_ok-challenge_in-in-Some-first-clause-found
returns-in_ok-challenge_in-in-Some-first-clause-found g c clean s is_club k =
    let rows = c.in_ok-find.field-0.items in
    let key = asked _ _ c.in-Some.member c.args.number c.in-Some-question_of.ensures.member
    c.in-Some-question_of.ensures.number in
    found_some s is_club c.in-Some.member c.args.number _ (map challenge_cells rows) c.in-Some-first.row _ key
    (c.in_ok-find.ensures.rows clean (tables s) k)
    (first_mapped challenge_cells rows c.in-Some-first.row (sym c.first.ensures ∙ c.in-Some-first.is))
    c.in_ok-challenge_in-in-Some-first.ensures
    ∙ ap (λ o. challenge_by s.challenges o c.args.number) (sym c.in-Some.is)

pub returns-in-None-clause-found : goal.returns-in-None-clause-found
returns-in-None-clause-found g c clean s is_club k =
    let rows = c.in_ok-find.field-0.items in
    let key = asked _ _ c.in-Some.member c.args.number c.in-Some-question_of.ensures.member
    c.in-Some-question_of.ensures.number in
    found_none s is_club c.in-Some.member c.args.number _ (map challenge_cells rows) key
    (c.in_ok-find.ensures.rows clean (tables s) k)
    (none_mapped challenge_cells rows (sym c.first.ensures ∙ c.in-None.is))
    ∙ ap (λ o. challenge_by s.challenges o c.args.number) (sym c.in-Some.is)
