use Rattle.std.proofs.Common.{◌<◌, ◌≤ℤ◌, ◌-◌, get_or, length, arith, rules, pos}
use Rattle.store_tables.proofs.IdLemmas.{rising, fallen}
use Rattle.store_tables.proofs.ids.rise.Goals as goal

pub returns-clause-all : goal.returns-clause-all
returns-clause-all c _ = rising c.args.ids.now (λ k j d next h. rw next (c.ids.invariant k d (omega arith)))

pub returns-then-ids-i-clause-none : goal.returns-then-ids-i-clause-none
returns-then-ids-i-clause-none c _ =
    let xs = c.args.ids.now in
    let i = c.ids.i in
    let within : i < length xs = omega arith in
    let test : get_or xs i (pos 0) ≤ℤ get_or xs (i - 1) (pos 0) = search rules in
    fallen xs (i - 1) i (pos 0) (omega arith) within test
