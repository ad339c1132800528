use Rattle.std.proofs.Common.{◌≡◌, rules, get_or}
use Rattle.store_tables.specs.internal.Cells.{IsMeta}
use Rattle.club_check.proofs.ClubLemmas.{one_is_meta}
use Rattle.club_check.proofs.read.one_meta.Goals as goal

pub returns-in-Err-WrongType-clause-none : goal.returns-in-Err-WrongType-clause-none
returns-in-Err-WrongType-clause-none c _ one =
    let row = c.index-shown-0.result in
    let at : row ≡ get_or c.args.shown.now 0 row = search rules in
    let wrong : ¬ IsMeta row = search rules in
    wrong (one_is_meta c.args.shown.now row at one)
