use Rattle.std.proofs.Common.{◌≤◌, ◌<◌, List, length, Ok, sym, subst, arith}
use Rattle.pdn.specs.declared.items.Item.{Item}
use Rattle.pdn.specs.FenItems.{ReadsItems, bad_item, last_item, more_items}
use Rattle.pdn.proofs.fen_form.read_items.Goals as goal

pub returns-in-Err-clause-fault : goal.returns-in-Err-clause-fault
returns-in-Err-clause-fault c = c.loop-front.invariant.onward _
    (bad_item c.loop-front.items.items c.loop-front.left.now c.in-Err.offset c.in-Err.ensures.offset)

pub loop-front-preserved : goal.loop-front-preserved
loop-front-preserved c =
    let total = c.args.total in
    let side = c.args.side in
    let more = c.in-Some.more.now in
    let within : length c.loop-front.left.now ≤ length c.args.text.now = c.loop-front.invariant.within in
    let shorter : length c.in-Ok.front.rest.now < length c.loop-front.left.now = c.in-Ok.ensures.rest in
    let past : length more < length c.in-Ok.front.rest.now = c.in-Some.ensures.shorter in
    record {
      within = omega arith;
      onward = λ reading h.
          c.loop-front.invariant.onward reading
          (more_items c.loop-front.items.items c.loop-front.left.now c.in-Ok.front.item c.in-Ok.front.rest.now more
          reading c.in-Ok.ensures.front c.in-Some.ensures.past
          (subst (λ (items : List Item). ReadsItems total side items more reading) c.in_ok-push.ensures.items h));
    }

pub returns-in-None-clause-rest : goal.returns-in-None-clause-rest
returns-in-None-clause-rest c =
    let total = c.args.total in
    let side = c.args.side in
    let text = c.args.text.now in
    let rest = c.in-Ok.front.rest.now in
    subst
    (λ (items : List Item). ReadsItems total side c.args.items.now.items text
    (Ok (record { items = items; rest = rest }))) (sym c.in_ok-push.ensures.items)
    (c.loop-front.invariant.onward _
    (last_item c.loop-front.items.items c.loop-front.left.now c.in-Ok.front.item rest c.in-Ok.ensures.front
    c.in-None.ensures.past))
