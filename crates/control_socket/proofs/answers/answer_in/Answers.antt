use Rattle.control_socket.proofs.AnswerLemmas.{other_length}
use Rattle.control_socket.proofs.answers.answer_in.Goals as goal

pub returns-then-length-rest : goal.returns-then-length-rest
returns-then-length-rest c =
    other_length c.in-Some.read.0 c.in-Some-number_before.read.0 c.args.said.now c.in-Some.read.1.now
    c.in-Some-number_before.read.1.now c.in-Some.ensures c.in-Some-number_before.ensures.0
    c.in-Some-number_before.ensures.1 c.if-length-rest.true
