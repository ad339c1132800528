use Rattle.control_socket.proofs.SaidLemmas.{says_order, says_part}
use Rattle.control_socket.proofs.frames.decode_frame.Goals as goal

pub returns : goal.returns
returns c = record {
  is = c.parse_frame.ensures;
  whole = says_order c.args.said.now c.parse_frame.result c.parse_frame.ensures;
  part = says_part c.args.said.now c.parse_frame.result c.parse_frame.ensures;
}
