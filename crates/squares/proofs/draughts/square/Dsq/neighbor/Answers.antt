use Rattle.std.proofs.Common.{◌≡◌, ◌+◌, ◌∙◌, rules}
use Rattle.std.specs.List.{slice_index}
use Rattle.squares.specs.declared.draughts.square.TheConstants.{NEIGHBORS}
use Rattle.squares.specs.internal.DraughtsGeometry.{OnBoard}
use Rattle.squares.specs.internal.DraughtsTable.{place_of}
use Rattle.squares.proofs.DraughtsTables.{no_entry, some_entry}
use Rattle.squares.proofs.draughts.square.Dsq.neighbor.Goals as goal

pub returns-then-number-eq0-clause-value : goal.returns-then-number-eq0-clause-value
returns-then-number-eq0-clause-value c =
    let on : OnBoard c.args.self = search rules in
    let is : c.entry-number.result ≡ slice_index NEIGHBORS (place_of c.args.toward + c.args.self) =
    c.entry-number.ensures
    ∙ (λ i. slice_index NEIGHBORS (c.place_of.ensures i + (c.from.ensures ∙ c.self.view_is) i)) in
    no_entry c.args.toward c.args.self c.entry-number.result on is c.if-number-eq0.true

pub invariant_of-result : goal.invariant_of-result
invariant_of-result c =
    let on : OnBoard c.args.self = search rules in
    let is : c.entry-number.result ≡ slice_index NEIGHBORS (place_of c.args.toward + c.args.self) =
    c.entry-number.ensures
    ∙ (λ i. slice_index NEIGHBORS (c.place_of.ensures i + (c.from.ensures ∙ c.self.view_is) i)) in
    let w = some_entry c.args.toward c.args.self c.entry-number.result on is c.if-number-eq0.false in (w.1, w.2)

pub returns-clause-value : goal.returns-clause-value
returns-clause-value c =
    let on : OnBoard c.args.self = search rules in
    let is : c.entry-number.result ≡ slice_index NEIGHBORS (place_of c.args.toward + c.args.self) =
    c.entry-number.ensures
    ∙ (λ i. slice_index NEIGHBORS (c.place_of.ensures i + (c.from.ensures ∙ c.self.view_is) i)) in
    (some_entry c.args.toward c.args.self c.entry-number.result on is c.if-number-eq0.false).0
