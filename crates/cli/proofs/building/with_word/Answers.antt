use Rattle.std.proofs.lemmas.Result.{IfOk-weaker}
use Rattle.cli.proofs.AppLemmas.{arg_added}
use Rattle.cli.proofs.building.with_word.Goals as goal

pub returns : goal.returns
returns c app rule before word =
    IfOk-weaker c.arg.result _ _ (λ new adds. arg_added app rule _ new _ before word adds) c.arg.ensures
