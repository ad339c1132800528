use Rattle.std.proofs.Common.{◌≡◌, ◌≢◌, Bool, false, sym, ap, ◌∙◌}
use Rattle.std.specs.FinSet as set
use Rattle.std.specs.Prelude.{slice_get, IsTrue, ◌↔◌}
use Rattle.squares.specs.DraughtsSets.{Squares}
use Rattle.pdn.specs.MoveText.{capture_text, long}
use Rattle.pdn.proofs.WritingLemmas.{has-first, first-is}
use Rattle.pdn.proofs.moves.write_move.Goals as goal

takes : (b : Bool) (s : Squares) → IsTrue b ↔ (s ≡ set.empty) → b ≡ false → s ≢ set.empty
takes b s is none = λ e. let found = is.1 e in cc

pub unreachable-requires : goal.unreachable-requires
unreachable-requires c =
    has-first c.args.position.now c.args.played.now c.in_ok-found.found.items c.in_ok-found.ensures.members c.requires
    (takes c.is_empty.result _ c.is_empty.ensures c.if-is_empty.false)
    (ap (λ vs. slice_get vs 0) (sym c.as_slice.ensures.value) ∙ sym c.in-None.ensures.value)

pub returns : goal.returns
returns c =
    let first = first-is c.args.position.now c.args.played.now c.in_ok-found.found.items c.in_ok-found.ensures.members
    c.in_ok-found.ensures.in_order c.in-Some.landings.now
    (ap (λ vs. slice_get vs 0) (sym c.as_slice.ensures.value) ∙ sym c.in-Some.ensures.value) in
    long (takes c.is_empty.result _ c.is_empty.ensures c.if-is_empty.false)
    (c.in_ok-has_rival.ensures.0 c.if-not-branch.false) c.in-Some.landings.now.items first
    (c.in_ok-write_capture-in-Some.ensures ∙ ap (capture_text c.args.played.now.from) c.as_slice-in-Some.ensures.value)
