use Rattle.std.proofs.Common.{◌≡◌, ℕ, List, [], Ok, Err, subst}
use Rattle.squares.specs.declared.sides.Side.{Side}
use Rattle.pdn.specs.declared.items.Item.{Item}
use Rattle.pdn.specs.FenItems.{Items, ItemsReading, ReadsList}
use Rattle.pdn.specs.FenForm.{FenReading, ReadsRest, ReadsLists, bad_first, bad_between, both}
use Rattle.pdn.specs.internal.FenValues.{form_value}
use Rattle.pdn.proofs.FenFormLemmas.{IsBadAt-map}
use Rattle.pdn.proofs.fen_form.read_lists.Goals as goal

-- a list that is read after no items, and the rest that is read after a list of the other side
after-none : {total : ℕ} {side : Side} {text : List ℕ} {reading : ItemsReading} {items : List Item} → items ≡ []
    → ReadsList total side items text reading → ReadsList total side [] text reading
after-none {total} {side} {text} {reading} e h =
    subst (λ (xs : List Item). ReadsList total side xs text reading) e h

after-other : {total : ℕ} {turn second side : Side} {before : List Item} {text : List ℕ} {reading : FenReading}
    → second ≡ side → ReadsRest total turn second before text reading → ReadsRest total turn side before text reading
after-other {total} {turn} {before = before} {text} {reading} e h =
    subst (λ (x : Side). ReadsRest total turn x before text reading) e h

pub returns-in-Err-clause-fault : goal.returns-in-Err-clause-fault
returns-in-Err-clause-fault c =
    IsBadAt-map (λ offset. ReadsList c.args.total c.args.first c.new-items.result.items c.args.text.now (Err offset))
    (λ offset. ReadsLists c.args.total (record { turn = c.args.turn; first = c.args.first; rest = c.args.text.now })
    (Err offset)) (λ offset h. bad_first offset (after-none c.new-items.ensures.items h)) c.in-Err.fault
    c.in-Err.ensures.fault

pub returns-in-Err-read_between-clause-fault : goal.returns-in-Err-read_between-clause-fault
returns-in-Err-read_between-clause-fault c =
    bad_between (record { items = c.read_list.new.items.items; rest = c.in-Ok.rest.now }) c.in-Err-read_between.offset
    (after-none c.new-items.ensures.items c.in-Ok.ensures.rest) c.in-Err-read_between.ensures.offset

pub returns-in-Ok-read_rest-clause-form : goal.returns-in-Ok-read_rest-clause-form
returns-in-Ok-read_rest-clause-form c =
    both (record { items = c.read_list.new.items.items; rest = c.in-Ok.rest.now }) c.in-Ok-read_between.rest.now
    (Ok (form_value c.in-Ok-read_rest.form)) (after-none c.new-items.ensures.items c.in-Ok.ensures.rest)
    c.in-Ok-read_between.ensures.rest (after-other c.other.ensures c.in-Ok-read_rest.ensures.form)

pub returns-in-Err-read_rest-clause-fault : goal.returns-in-Err-read_rest-clause-fault
returns-in-Err-read_rest-clause-fault c =
    let list : Items = record { items = c.read_list.new.items.items; rest = c.in-Ok.rest.now } in
    let rest : List ℕ = c.in-Ok-read_between.rest.now in
    IsBadAt-map (λ offset. ReadsRest c.args.total c.args.turn c.other.result list.items rest (Err offset))
    (λ offset. ReadsLists c.args.total (record { turn = c.args.turn; first = c.args.first; rest = c.args.text.now })
    (Err offset))
    (λ offset h. both list rest (Err offset) (after-none c.new-items.ensures.items c.in-Ok.ensures.rest)
    c.in-Ok-read_between.ensures.rest (after-other c.other.ensures h)) c.in-Err-read_rest.fault
    c.in-Err-read_rest.ensures.fault
