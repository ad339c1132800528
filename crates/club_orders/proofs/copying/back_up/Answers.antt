use Rattle.std.proofs.Common.{inr}
use Rattle.club_orders.proofs.copying.back_up.Goals as goal

pub returns-in-Err-Copy-clause-unchanged : goal.returns-in-Err-Copy-clause-unchanged
returns-in-Err-Copy-clause-unchanged g c clean is = c.copy_tables.ensures.unchanged clean cc

pub returns-in-Ok-clause-copied : goal.returns-in-Ok-clause-copied
returns-in-Ok-clause-copied g c clean sure is = c.in-Ok.ensures.stored clean sure

pub returns-in-Ok-clause-after_crash : goal.returns-in-Ok-clause-after_crash
returns-in-Ok-clause-after_crash g c clean sure served content at empty db left =
    inr ((c.in-Ok.ensures.stored clean sure served content at empty).may_leave db left)
