use Rattle.std.proofs.Common.{sym, ◌∙◌}
use Rattle.std.specs.Prelude.{string_bytes}
use Rattle.std.proofs.lemmas.List.Folds.{list_all-map}
use Rattle.cli.specs.Asked.{is_host_name}
use Rattle.cli.proofs.hosts.are_host_names.Goals as goal

pub returns : goal.returns
returns c = c.are_all_names.ensures ∙ sym (list_all-map is_host_name string_bytes c.args.hosts.now)
