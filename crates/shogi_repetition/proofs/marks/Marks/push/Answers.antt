use Rattle.std.proofs.Common.{refl, sym, ◌∙◌, ap, is_ok, arith}
use Rattle.shogi_repetition.proofs.MarkLemmas.{unlimited, next-checks, after-end, not-legal, next-follows}
use Rattle.shogi_repetition.proofs.marks.Marks.push.Goals as goal

pub returns-in-Some-clause-fault : goal.returns-in-Some-clause-fault
returns-in-Some-clause-fault c = λ start moves follows.
    after-end start moves c.args.played.now c.args.self.now follows c.in-Some.field-0
    (sym c.end_by_tail.ensures ∙ c.in-Some.is)

pub returns-in-Err-clause-fault : goal.returns-in-Err-clause-fault
returns-in-Err-clause-fault c = λ start moves follows.
    not-legal start moves c.args.played.now c.args.self.now follows c.in-Err.cause
    (sym c.end_by_tail.ensures ∙ c.in-None.is) ((c.check.ensures.refused c.in-Err.cause).0 c.in-Err.is)

pub invariant_of-self-2 : goal.invariant_of-self-2
invariant_of-self-2 c =
    let self = c.args.self.now in
    let before = unlimited self.tail self.last self.plies self.stood.times self.stood.first
    (sym c.end_by_tail.ensures ∙ c.in-None.is) in
    let checks = next-checks self.tail c.play-next.result self.plies self.few_first_checks self.few_second_checks in
    let tail = c.next-self.ensures in
    record {
      within = omega (arith, before, self.within);
      few_first_checks = rw tail checks.0;
      few_second_checks = rw tail checks.1;
    }

pub returns-clause-follows : goal.returns-clause-follows
returns-clause-follows c = λ start moves follows.
    next-follows start moves c.args.played.now c.args.self.now follows c.play-next.result c.play-next.ensures _
    c.args.self.now.within (sym c.end_by_tail.ensures ∙ c.in-None.is)
    (c.check.ensures.legal.0 (ap is_ok c.in-Ok.is)) refl refl c.next-self.ensures c.stood_again-stood.ensures (λ q.
    rw c.copy.ensures at (c.in_ok-insert.ensures.updates.0 q))
