use Rattle.std.proofs.Common.{◌∙◌, ap}
use Rattle.control_socket.specs.internal.Asking.{parted}
use Rattle.control_socket.proofs.JoinLemmas.{parted_joined}
use Rattle.control_socket.proofs.client.joined.Goals as goal

pub returns : goal.returns
returns c = record {
  joined = c.in_ok-all.ensures;
  parted = λ are. ap parted c.in_ok-all.ensures ∙ parted_joined _ are;
}
