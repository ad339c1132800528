use Rattle.std.proofs.Common.{◌∙◌}
use Rattle.draughts_draws.proofs.CountLemmas.{end-is}
use Rattle.draughts_draws.proofs.counts.DrawCounts.end.Goals as goal

pub returns : goal.returns
returns c = λ start moves follows. c.end_by_tail.ensures ∙ end-is start moves c.args.self.now follows
