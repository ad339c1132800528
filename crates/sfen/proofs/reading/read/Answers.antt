use Rattle.std.proofs.Common.{◌≡◌, true, false, refl, sym, ap, ◌∙◌, List, ℕ, subst}
use Rattle.sfen.specs.internal.Reading.{run, take_byte, beginning, StopsAt}
use Rattle.sfen.proofs.OneLemmas.{stopped, unfinished, exceeding, text-of, without-kings}
use Rattle.sfen.proofs.reading.read.Goals as goal

pub returns-in-Err-clause-fault : goal.returns-in-Err-clause-fault
returns-in-Err-clause-fault c =
    let h = subst (λ (bytes : List ℕ). StopsAt bytes c.in-Err.offset) c.as_bytes.ensures.value c.in-Err.ensures.stopped
    in
    stopped c.args.text.now c.in-Err.offset h

pub returns-in-None-clause-fault : goal.returns-in-None-clause-fault
returns-in-None-clause-fault c =
    let read = ap (run take_byte beginning) (sym c.as_bytes.ensures.value) ∙ c.in-Ok.ensures.read in
    unfinished c.args.text.now c.in-Ok.reading read (sym c.number_at_end.ensures ∙ c.in-None.is)

pub returns-then-exceeds_sets-clause-fault : goal.returns-then-exceeds_sets-clause-fault
returns-then-exceeds_sets-clause-fault c =
    let read = ap (run take_byte beginning) (sym c.as_bytes.ensures.value) ∙ c.in-Ok.ensures.read in
    exceeding c.args.text.now c.in-Ok.reading c.in-Some.number read (sym c.number_at_end.ensures ∙ c.in-Some.is)
    (c.if-exceeds_sets.ensures.0 refl)

pub returns-in-Some-new-clause-read : goal.returns-in-Some-new-clause-read
returns-in-Some-new-clause-read c =
    let read = ap (run take_byte beginning) (sym c.as_bytes.ensures.value) ∙ c.in-Ok.ensures.read in
    text-of c.args.text.now c.in-Ok.reading c.in-Some.number read (sym c.number_at_end.ensures ∙ c.in-Some.is)
    c.in-Some-new.position (c.in-Some-new.ensures.some.0 refl) c.in-Some-new.ensures.value

pub returns-in-None-new-clause-fault : goal.returns-in-None-new-clause-fault
returns-in-None-new-clause-fault c =
    let read = ap (run take_byte beginning) (sym c.as_bytes.ensures.value) ∙ c.in-Ok.ensures.read in
    without-kings c.args.text.now c.in-Ok.reading c.in-Some.number read (sym c.number_at_end.ensures ∙ c.in-Some.is)
    (λ w. let never : false ≡ true = c.if-exceeds_sets.ensures.1 w in cc)
    (λ is. let never : false ≡ true = c.in-None-new.ensures.some.1 is in cc)
