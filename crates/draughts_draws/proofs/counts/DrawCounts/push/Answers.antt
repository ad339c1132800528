use Rattle.std.proofs.Common.{refl, sym, ◌∙◌, ap, is_ok, arith}
use Rattle.draughts_draws.proofs.CountLemmas.{unlimited, next-king_plies, next-class_positions, after-end, not-legal}
use Rattle.draughts_draws.proofs.CountLemmas.{few, next-follows}
use Rattle.draughts_draws.proofs.counts.DrawCounts.push.Goals as goal

pub returns-in-Some-clause-fault : goal.returns-in-Some-clause-fault
returns-in-Some-clause-fault c = λ start moves follows.
    after-end start moves c.args.played.now c.args.self.now follows c.in-Some.field-0
    (sym c.end_by_tail.ensures ∙ c.in-Some.is)

pub returns-in-Err-clause-fault : goal.returns-in-Err-clause-fault
returns-in-Err-clause-fault c = λ start moves follows.
    not-legal start moves c.args.played.now c.args.self.now follows c.in-Err.cause
    (sym c.end_by_tail.ensures ∙ c.in-None.is) (sym c.check.ensures.value ∙ c.in-Err.is)

pub invariant_of-self-2 : goal.invariant_of-self-2
invariant_of-self-2 c =
    let self = c.args.self.now in
    let before = unlimited self.tail self.last self.plies self.times (sym c.end_by_tail.ensures ∙ c.in-None.is) in
    let within = self.within in
    let kings = next-king_plies self.tail self.last c.args.played.now c.play-next.result self.plies self.few_king_plies
    in
    let positions = next-class_positions self.tail self.last c.args.played.now c.play-next.result self.plies
    self.few_positions in
    let tail = c.next-self.ensures in
    record {
      within = omega (arith, before, within);
      few_king_plies = rw tail kings;
      few_positions = rw tail positions;
    }

pub returns-clause-follows : goal.returns-clause-follows
returns-clause-follows c = λ start moves follows.
    let is_few = few start moves c.args.played.now c.args.self.now follows c.play-next.result c.play-next.ensures
    c.args.self.now.within in
    let sum = c.saturating_add-times.ensures in
    let times = c.times_of.ensures in
    next-follows start moves c.args.played.now c.args.self.now follows c.play-next.result c.play-next.ensures _
    (sym c.end_by_tail.ensures ∙ c.in-None.is) (c.check.ensures.legal.0 (ap is_ok c.in-Ok.is)) refl refl
    c.next-self.ensures (omega (arith, is_few, sum, times)) c.in_ok-insert.ensures.updates.0
