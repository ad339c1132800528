use Rattle.std.proofs.Common.{◌≡◌, refl, sym, ◌∙◌}
use Rattle.club_rows.proofs.ColumnLemmas.{same-pos}
use Rattle.club_rows.proofs.LineLemmas.{one-text}
use Rattle.club_rows.proofs.row_view.asked_in.Goals as goal

pub returns-clause-shows : goal.returns-clause-shows
returns-clause-shows g c = λ made left legal text left_is.
    let rules = g.R.Rules.rules in
    let mine = rw c.in-Some-2.is at c.in_ok-made.ensures.legal in
    let written = rw c.in-Some-2.is at c.in_ok-made.ensures.text in
    let made_is : c.in-Some-2.made ≡ made = one-text rules g.met.R.Rules.reads_back c.args.before c.in-Some-2.made made
    mine legal (sym written ∙ (c.as_str.ensures.value ∙ text)) in
    let seconds : c.in-Some.left ≡ left = same-pos c.in-Some.left left (sym c.in-Some.ensures.some ∙ left_is) in (
      _,
      refl,
      record { ply_is = refl; made_is = made_is; left_is = seconds; before_is = refl },
    )
