use Rattle.std.proofs.lemmas.Result.{IfErr-weaker, IfOk-weaker}
use Rattle.std.proofs.Common.{inl, inr}
use Rattle.clap.specs.Words.{found_of}
use Rattle.cli.proofs.SaidLemmas.{entered_at, none_mapped, told_for, told_weaker}
use Rattle.cli.proofs.batches.parsed.Goals as goal

pub returns-in-Some-clause-ok : goal.returns-in-Some-clause-ok
returns-in-Some-clause-ok c =
    let entered = c.in-Some.entered in
    let enters = entered_at _ _ _ entered.0.now _ (rw c.in-Some.is at c.subcommand.ensures.name)
    (rw c.in-Some.is at c.subcommand.ensures.rows) in
    IfOk-weaker c.line_of.result _ _
    (λ said asked. record { name = entered.0.now; found = found_of entered.1.now; enters = enters; asked = asked })
    c.line_of.ensures.ok

pub returns-in-Some-clause-err : goal.returns-in-Some-clause-err
returns-in-Some-clause-err c =
    let entered = c.in-Some.entered in
    let enters = entered_at _ _ _ entered.0.now _ (rw c.in-Some.is at c.subcommand.ensures.name)
    (rw c.in-Some.is at c.subcommand.ensures.rows) in
    IfErr-weaker c.line_of.result _ _
    (λ told is. told_weaker _ _ told
    (λ none. inr (record { name = entered.0.now; found = found_of entered.1.now; enters = enters; is = none })) is)
    c.line_of.ensures.err

pub returns-in-None-clause-err : goal.returns-in-None-clause-err
returns-in-None-clause-err c =
    told_for _ _ c.unknown.ensures (inl (none_mapped _ _ (rw c.in-None.is at c.subcommand.ensures.rows)))
