use Rattle.std.proofs.Common.{subst, sym}
use Rattle.club_lists.specs.Dates.{IsDate}
use Rattle.club_lists.specs.internal.RulingViews.{given_by}
use Rattle.club_lists.proofs.RulingLemmas.{line_is}
use Rattle.club_lists.proofs.ruling_texts.ruling_line.Goals as goal

pub returns : goal.returns
returns c =
    line_is c.args.number (given_by c.args.given.now) c.as_str.result.now c.line_of.result
    (subst (IsDate c.args.given.now.moment) (sym c.as_str.ensures.value) c.in_ok-date.ensures) c.line_of.ensures
