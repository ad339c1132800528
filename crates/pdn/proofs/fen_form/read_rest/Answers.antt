use Rattle.std.proofs.Common.{Err, sym, ◌∙◌}
use Rattle.pdn.specs.FenItems.{ReadsList}
use Rattle.pdn.specs.FenForm.{ReadsRest, bad_second, bad_end, ended}
use Rattle.pdn.proofs.FenFormLemmas.{IsBadAt-map}
use Rattle.pdn.proofs.fen_form.read_rest.Goals as goal

pub returns-in-Err-clause-fault : goal.returns-in-Err-clause-fault
returns-in-Err-clause-fault c =
    IsBadAt-map (λ offset. ReadsList c.args.total c.args.second c.args.before.items c.args.text.now (Err offset))
    (λ offset. ReadsRest c.args.total c.args.turn c.args.second c.args.before.items c.args.text.now (Err offset))
    (λ offset h. bad_second offset h) c.in-Err.fault c.in-Err.ensures.fault

pub returns-in-Some-clause-fault : goal.returns-in-Some-clause-fault
returns-in-Some-clause-fault c =
    bad_end (record { items = c.read_list.new.items.items; rest = c.in-Ok.rest.now }) c.in-Some.offset
    c.in-Ok.ensures.rest (sym c.past_end.ensures ∙ c.in-Some.is)

pub returns-in-None-clause-form : goal.returns-in-None-clause-form
returns-in-None-clause-form c =
    ended (record { items = c.read_list.new.items.items; rest = c.in-Ok.rest.now }) c.in-Ok.ensures.rest
    (sym c.past_end.ensures ∙ c.in-None.is)
