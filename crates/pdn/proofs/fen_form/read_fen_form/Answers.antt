use Rattle.std.proofs.Common.{length, Ok, Err}
use Rattle.pdn.specs.FenForm.{Header, ReadsLists, ReadsForm, bad_header, lists}
use Rattle.pdn.specs.internal.FenValues.{form_value}
use Rattle.pdn.proofs.FenFormLemmas.{IsBadAt-map}
use Rattle.pdn.proofs.fen_form.read_fen_form.Goals as goal

pub returns-in-Err-clause-fault : goal.returns-in-Err-clause-fault
returns-in-Err-clause-fault c = bad_header c.in-Err.offset c.in-Err.ensures.offset

pub returns-in-Ok-read_lists-clause-form : goal.returns-in-Ok-read_lists-clause-form
returns-in-Ok-read_lists-clause-form c =
    let header : Header = record {
      turn = c.in-Ok.header.turn;
      first = c.in-Ok.header.first;
      rest = c.in-Ok.header.rest.now;
    } in
    lists header (Ok (form_value c.in-Ok-read_lists.form)) c.in-Ok.ensures.header c.in-Ok-read_lists.ensures.form

pub returns-in-Err-read_lists-clause-fault : goal.returns-in-Err-read_lists-clause-fault
returns-in-Err-read_lists-clause-fault c =
    let header : Header = record {
      turn = c.in-Ok.header.turn;
      first = c.in-Ok.header.first;
      rest = c.in-Ok.header.rest.now;
    } in
    IsBadAt-map (λ offset. ReadsLists (length c.args.text.now) header (Err offset))
    (λ offset. ReadsForm c.args.text.now (Err offset))
    (λ offset h. lists header (Err offset) c.in-Ok.ensures.header h) c.in-Err-read_lists.fault
    c.in-Err-read_lists.ensures.fault
