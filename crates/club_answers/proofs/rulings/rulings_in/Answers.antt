use Rattle.std.proofs.Common.{ap, subst, sym, ◌∙◌}
use Rattle.club_core.specs.State.{rulings_of}
use Rattle.club_lists.specs.internal.RulingViews.{rulings_by}
use Rattle.club_rows.specs.Club.{tables}
use Rattle.club_rows.specs.Rulings.{ArePossible}
use Rattle.club_reads.proofs.Proved.{no_first}
use Rattle.club_answers.proofs.GameRulings.{none_given, none_possible, rulings_found}
use Rattle.club_answers.proofs.rulings.rulings_in.Goals as goal

pub returns-in-V1-clause-possible : goal.returns-in-V1-clause-possible
returns-in-V1-clause-possible g c = rw c.new.ensures.items none_possible

pub returns-in-V1-clause-rulings : goal.returns-in-V1-clause-rulings
returns-in-V1-clause-rulings g c clean s any is_club version k at = absurd (no_first s (rw c.in-V1.is at version))

pub returns-in-V2-clause-possible : goal.returns-in-V2-clause-possible
returns-in-V2-clause-possible g c = rw c.new-in-V2.ensures.items none_possible

pub returns-in-V2-clause-rulings : goal.returns-in-V2-clause-rulings
returns-in-V2-clause-rulings g c clean s any is_club version k at =
    ap rulings_by c.new-in-V2.ensures.items ∙ none_given s is_club c.args.game any at (rw c.in-V2.is at version)

pub returns-in_ok-read-in-V3-clause-rulings : goal.returns-in_ok-read-in-V3-clause-rulings
returns-in_ok-read-in-V3-clause-rulings g c clean s any is_club version k at =
    let (outside, finds) = rulings_found s is_club c.args.game any at (rw c.in-V3.is at version) _ k in
    (c.in_ok-read-in-V3.ensures.found clean (tables s) (rulings_of any) outside finds).0
