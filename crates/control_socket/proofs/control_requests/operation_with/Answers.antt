use Rattle.control_socket.proofs.control_requests.operation_with.Goals as goal

pub returns : goal.returns
returns c = (
  c.in_ok-given.given,
  c.set_record.new.self.task,
  c.in_ok-given.ensures,
  c.set_record.ensures.task,
  c.operation_in.ensures,
)
