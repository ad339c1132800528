use Rattle.std.proofs.Common.{◌≡◌, map, string_bytes, take}
use Rattle.control_socket.specs.internal.Asking.{joined}
use Rattle.control_socket.proofs.client.in_line.Given as goal

-- the words so far stand one behind the other
abbrev pub invariant-loop-place : goal.invariant-loop-place
invariant-loop-place l = string_bytes l.all ≡ joined (map string_bytes (take l.place l.words))
