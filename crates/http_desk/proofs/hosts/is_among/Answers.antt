use Rattle.std.proofs.Common.{◌∙◌}
use Rattle.std.specs.Prelude.{string_bytes}
use Rattle.http_head.specs.Head.{is_name}
use Rattle.http_desk.proofs.HostLemmas.{any_map}
use Rattle.http_desk.proofs.hosts.is_among.Goals as goal

pub returns : goal.returns
returns c = c.has_name.ensures ∙ any_map (is_name c.args.host.now) string_bytes c.args.names.now
