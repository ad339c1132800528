use Rattle.std.proofs.Common.{subst}
use Rattle.pdn.specs.internal.Choice.{IsChoice}
use Rattle.pdn.specs.ReadMove.{Fits}
use Rattle.pdn.proofs.ReadingLemmas.{chosen, none-chosen, choice-fault}
use Rattle.pdn.proofs.reading.read_capture.Goals as goal

pub returns-in-Err-clause-fault : goal.returns-in-Err-clause-fault
returns-in-Err-clause-fault c =
    choice-fault c.args.position.now c.args.from c.args.middle.now c.args.to c.as_slice.result.now
    c.in_ok-moves.moves.items c.as_slice.ensures.value c.in_ok-moves.ensures.members c.in-Err.fault
    c.in-Err.ensures.fault

pub returns-in-Some-clause-read : goal.returns-in-Some-clause-read
returns-in-Some-clause-read c =
    chosen c.args.position.now c.args.from c.args.middle.now c.args.to c.as_slice.result.now c.in_ok-moves.moves.items
    c.as_slice.ensures.value c.in_ok-moves.ensures.members c.in-Some.m
    (subst (IsChoice (Fits c.args.position.now c.args.from c.args.middle.now c.args.to) c.as_slice.result.now)
    c.in-Some.is c.in-Ok.ensures.choice)

pub cause_of-requires : goal.cause_of-requires
cause_of-requires c =
    none-chosen c.args.position.now c.args.from c.args.middle.now c.args.to c.as_slice.result.now
    c.in_ok-moves.moves.items c.as_slice.ensures.value c.in_ok-moves.ensures.members
    (subst (IsChoice (Fits c.args.position.now c.args.from c.args.middle.now c.args.to) c.as_slice.result.now)
    c.in-None.is c.in-Ok.ensures.choice)
