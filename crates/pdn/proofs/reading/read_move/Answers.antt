use Rattle.std.proofs.Common.{ℕ, List, Ok, sym, ap, ◌∙◌, subst}
use Rattle.std.specs.Prelude.{IfOk, IfErr}
use Rattle.pdn.specs.Forms.{capture, quiet, read_form}
use Rattle.pdn.specs.internal.ReadForms.{form_of}
use Rattle.pdn.specs.ReadMove.{StandsFor}
use Rattle.pdn.specs.internal.ReadMove.{IsFormFault}
use Rattle.pdn.proofs.ReadingLemmas.{read-form, read-fault}
use Rattle.pdn.proofs.reading.read_move.Goals as goal

pub returns-in-Quiet-clause-read : goal.returns-in-Quiet-clause-read
returns-in-Quiet-clause-read c =
    let form = ap read_form (sym c.as_bytes.ensures.value) ∙ c.in-Ok.ensures.form
    ∙ ap (λ f. Ok (form_of f)) c.in-Quiet.is in
    read-form c.args.position.now c.args.text.now (quiet c.in-Quiet.from c.in-Quiet.to) form c.read_quiet.result
    c.read_quiet.ensures.read

pub returns-in-Quiet-clause-fault : goal.returns-in-Quiet-clause-fault
returns-in-Quiet-clause-fault c =
    let form = ap read_form (sym c.as_bytes.ensures.value) ∙ c.in-Ok.ensures.form
    ∙ ap (λ f. Ok (form_of f)) c.in-Quiet.is in
    read-fault c.args.position.now c.args.text.now (quiet c.in-Quiet.from c.in-Quiet.to) form c.read_quiet.result
    c.read_quiet.ensures.fault

pub returns-in-Capture-clause-read : goal.returns-in-Capture-clause-read
returns-in-Capture-clause-read c =
    let p = c.args.position.now in
    let from = c.in-Capture.from in
    let to = c.in-Capture.to in
    let form = ap read_form (sym c.as_bytes.ensures.value) ∙ c.in-Ok.ensures.form
    ∙ ap (λ f. Ok (form_of f)) c.in-Capture.is in
    read-form p c.args.text.now (capture from c.in-Capture.middle.items to) form c.read_capture.result
    (subst (λ (middle : List ℕ). IfOk c.read_capture.result (λ m. StandsFor p (capture from middle to) m))
    c.as_slice.ensures.value c.read_capture.ensures.read)

pub returns-in-Capture-clause-fault : goal.returns-in-Capture-clause-fault
returns-in-Capture-clause-fault c =
    let p = c.args.position.now in
    let from = c.in-Capture.from in
    let to = c.in-Capture.to in
    let form = ap read_form (sym c.as_bytes.ensures.value) ∙ c.in-Ok.ensures.form
    ∙ ap (λ f. Ok (form_of f)) c.in-Capture.is in
    read-fault p c.args.text.now (capture from c.in-Capture.middle.items to) form c.read_capture.result
    (subst (λ (middle : List ℕ). IfErr c.read_capture.result (λ e. IsFormFault p (capture from middle to) e))
    c.as_slice.ensures.value c.read_capture.ensures.fault)
