use Rattle.std.proofs.Common.{◌≡◌, Ok, sym, subst}
use Rattle.std.specs.Prelude.{IfOk, IfErr}
use Rattle.pdn.specs.Forms.{FormReading}
use Rattle.pdn.specs.internal.ReadForms.{form_of, IsBadForm}
use Rattle.pdn.proofs.FormLemmas.{read_form-quiet, read_form-capture, read_form-stops, read_form-bad}
use Rattle.pdn.proofs.forms.read_form.Goals as goal

pub returns-in-Err-clause-fault : goal.returns-in-Err-clause-fault
returns-in-Err-clause-fault c = read_form-bad c.args.text.now c.in-Err.bytes c.in-Err.ensures.bytes

pub returns-in-Some-clause-form : goal.returns-in-Some-clause-form
returns-in-Some-clause-form c =
    subst (λ (r : FormReading). IfOk c.read_quiet.result (λ form. r ≡ Ok (form_of form)))
    (sym
    (read_form-quiet c.args.text.now c.in-Ok.front.square c.in-Ok.front.rest.now c.in-Ok.ensures.front
    c.in-Some.rest.now c.in-Some.ensures)) c.read_quiet.ensures.form

pub returns-in-Some-clause-fault : goal.returns-in-Some-clause-fault
returns-in-Some-clause-fault c =
    subst (λ (r : FormReading). IfErr c.read_quiet.result (λ fault. IsBadForm r fault))
    (sym
    (read_form-quiet c.args.text.now c.in-Ok.front.square c.in-Ok.front.rest.now c.in-Ok.ensures.front
    c.in-Some.rest.now c.in-Some.ensures)) c.read_quiet.ensures.fault

pub returns-in-Some-past_cross-clause-form : goal.returns-in-Some-past_cross-clause-form
returns-in-Some-past_cross-clause-form c =
    subst (λ (r : FormReading). IfOk c.read_capture.result (λ form. r ≡ Ok (form_of form)))
    (sym
    (read_form-capture c.args.text.now c.in-Ok.front.square c.in-Ok.front.rest.now c.in-Ok.ensures.front
    c.in-Some-past_cross.rest.now c.in-None.ensures c.in-Some-past_cross.ensures)) c.read_capture.ensures.form

pub returns-in-Some-past_cross-clause-fault : goal.returns-in-Some-past_cross-clause-fault
returns-in-Some-past_cross-clause-fault c =
    subst (λ (r : FormReading). IfErr c.read_capture.result (λ fault. IsBadForm r fault))
    (sym
    (read_form-capture c.args.text.now c.in-Ok.front.square c.in-Ok.front.rest.now c.in-Ok.ensures.front
    c.in-Some-past_cross.rest.now c.in-None.ensures c.in-Some-past_cross.ensures)) c.read_capture.ensures.fault

pub returns-in-None-past_cross-clause-fault : goal.returns-in-None-past_cross-clause-fault
returns-in-None-past_cross-clause-fault c =
    read_form-stops c.args.text.now c.in-Ok.front.square c.in-Ok.front.rest.now c.in-Ok.ensures.front c.in-None.ensures
    c.in-None-past_cross.ensures
