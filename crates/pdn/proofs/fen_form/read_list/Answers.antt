use Rattle.std.proofs.Common.{Err, sym, ◌∙◌}
use Rattle.pdn.specs.FenItems.{ReadsItems, ReadsList, no_item, some_items}
use Rattle.pdn.proofs.FenFormLemmas.{IsBadAt-map}
use Rattle.pdn.proofs.fen_form.read_list.Goals as goal

pub returns-then-ends_list-clause-rest : goal.returns-then-ends_list-clause-rest
returns-then-ends_list-clause-rest c = no_item c.args.items.now.items c.args.text.now
    (sym c.ends_list.ensures ∙ c.if-ends_list.true)

pub returns-in-Ok-clause-rest : goal.returns-in-Ok-clause-rest
returns-in-Ok-clause-rest c = some_items c.args.items.now.items c.args.text.now _
    (sym c.ends_list.ensures ∙ c.if-ends_list.false) c.in-Ok.ensures.rest

pub returns-in-Err-clause-fault : goal.returns-in-Err-clause-fault
returns-in-Err-clause-fault c =
    IsBadAt-map (λ offset. ReadsItems c.args.total c.args.side c.args.items.now.items c.args.text.now (Err offset))
    (λ offset. ReadsList c.args.total c.args.side c.args.items.now.items c.args.text.now (Err offset))
    (λ offset h. some_items c.args.items.now.items c.args.text.now (Err offset)
    (sym c.ends_list.ensures ∙ c.if-ends_list.false) h) c.in-Err.fault c.in-Err.ensures.fault
