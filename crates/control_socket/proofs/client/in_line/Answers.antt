use Rattle.std.proofs.Common.{arith, sym}
use Rattle.control_socket.proofs.JoinLemmas.{join_step}
use Rattle.control_socket.proofs.client.in_line.Goals as goal

pub loop-place-preserved : goal.loop-place-preserved
loop-place-preserved c =
    join_step c.args.words.now c.loop-place.place c.index-words-place.result _ _ (omega arith)
    (sym c.index-words-place.is) (λ e. rw c.as_str.ensures.value at (c.in_ok-add_word.ensures.first e))
    (λ e. rw c.as_str.ensures.value at (c.in_ok-add_word.ensures.next e)) c.loop-place.invariant
