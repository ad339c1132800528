use Rattle.control_socket.proofs.AnswerLemmas.{hears}
use Rattle.control_socket.proofs.answers.hear_answer.Goals as goal

pub returns : goal.returns
returns g c said known =
    let read = rw known at c.in_ok-read_to_end.ensures.bytes in
    hears said c.in_ok-answer.answer
    (rw (c.as_slice.ensures.value, read, c.new-said.ensures.items) at c.in_ok-answer.ensures)
