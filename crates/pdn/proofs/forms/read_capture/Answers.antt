use Rattle.std.proofs.Common.{◌≤◌, ◌<◌, length, sym, ap, ◌∙◌, arith}
use Rattle.pdn.proofs.FormLemmas.{past_cross-shorter, goes_on, goes_on-start, goes_on-bad, goes_on-last, goes_on-stops}
use Rattle.pdn.proofs.FormLemmas.{goes_on-more}
use Rattle.pdn.proofs.forms.read_capture.Goals as goal

pub returns-in-Err-clause-fault : goal.returns-in-Err-clause-fault
returns-in-Err-clause-fault c =
    goes_on-start c.args.from c.args.total c.args.text.now ∙ c.loop-front.invariant.same
    ∙ goes_on-bad c.args.from c.args.total c.loop-front.middle.items c.loop-front.rest.now c.loop-front.invariant.within
    c.in-Err.bytes c.in-Err.ensures.bytes

pub returns-then-front-eq0-clause-form : goal.returns-then-front-eq0-clause-form
returns-then-front-eq0-clause-form c =
    goes_on-start c.args.from c.args.total c.args.text.now ∙ c.loop-front.invariant.same
    ∙ goes_on-last c.args.from c.args.total c.loop-front.middle.items c.loop-front.rest.now
    c.loop-front.invariant.within c.in-Ok.front.square c.in-Ok.front.rest.now c.in-Ok.ensures.front
    c.in-Ok.ensures.rest c.if-front-eq0.true

pub loop-front-preserved : goal.loop-front-preserved
loop-front-preserved c =
    let more = c.in-Some.more.now in
    let shorter : length more < length c.in-Ok.front.rest.now =
    past_cross-shorter c.in-Ok.front.rest.now more c.in-Some.ensures in
    let rest : length c.in-Ok.front.rest.now < length c.loop-front.rest.now = c.in-Ok.ensures.rest in
    let within : length c.loop-front.rest.now ≤ c.args.total = c.loop-front.invariant.within in
    record {
      within = omega arith;
      same =
          c.loop-front.invariant.same
          ∙ goes_on-more c.args.from c.args.total c.loop-front.middle.items c.loop-front.rest.now within
          c.in-Ok.front.square c.in-Ok.front.rest.now c.in-Ok.ensures.front rest more c.in-Some.ensures
          (omega arith)
          ∙ ap (λ m. goes_on c.args.from c.args.total m more) (sym c.in_ok-push-in-Some.ensures.items);
    }

pub returns-in-None-clause-fault : goal.returns-in-None-clause-fault
returns-in-None-clause-fault c =
    goes_on-start c.args.from c.args.total c.args.text.now ∙ c.loop-front.invariant.same
    ∙ goes_on-stops c.args.from c.args.total c.loop-front.middle.items c.loop-front.rest.now
    c.loop-front.invariant.within c.in-Ok.front.square c.in-Ok.front.rest.now c.in-Ok.ensures.front
    c.in-Ok.ensures.rest (omega arith) c.in-None.ensures
