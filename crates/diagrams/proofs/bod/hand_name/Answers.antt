use Rattle.std.proofs.Common.{rules}
use Rattle.std.proofs.Math.Utf8.{encode}
use Rattle.diagrams.proofs.bod.hand_name.Goals as goal

pub returns-in-First : goal.returns-in-First
returns-in-First c = unfold encode in search rules

pub returns-in-Second : goal.returns-in-Second
returns-in-Second c = unfold encode in search rules
