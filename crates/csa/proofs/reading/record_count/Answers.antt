use Rattle.std.proofs.Common.{◌≡◌, ◌-◌, suc, true, false, length, map, take, sym, ap, ◌∙◌, arith}
use Rattle.csa.proofs.RecordLemmas.{records-are}
use Rattle.csa.proofs.reading.record_count.Goals as goal

pub returns-then-has_statement-clause-records : goal.returns-then-has_statement-clause-records
returns-then-has_statement-clause-records c =
    let given = c.args.parts.now in
    let long : length given ≡ suc (length given - 1) = omega arith in
    ap (λ n. take n (map (λ x. x.now) given)) long
    ∙ records-are given (λ x. x.now) (length given - 1) c.index-parts-count.result true long c.index-parts-count.is
    (sym c.has_statement.ensures ∙ c.if-has_statement.true)

pub returns-clause-records : goal.returns-clause-records
returns-clause-records c =
    let given = c.args.parts.now in
    records-are given (λ x. x.now) (length given - 1) c.index-parts-count.result false (omega arith)
    c.index-parts-count.is (sym c.has_statement.ensures ∙ c.if-has_statement.false)
