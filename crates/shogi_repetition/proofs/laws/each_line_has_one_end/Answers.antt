use Rattle.std.proofs.Common.{sym, subst}
use Rattle.shogi_repetition.specs.Ends.{EndsSo}
use Rattle.shogi_repetition.specs.internal.Computed.{end_of}
use Rattle.shogi_repetition.proofs.EndLemmas.{end_of-is, one-end}
use Rattle.shogi_repetition.proofs.laws.each_line_has_one_end.Goals as goal

pub returns-clause-some : goal.returns-clause-some
returns-clause-some c = λ start ms. (end_of start ms, end_of-is start ms)

pub returns-clause-one : goal.returns-clause-one
returns-clause-one c = one-end

pub returns-clause-computed : goal.returns-clause-computed
returns-clause-computed c = λ start ms end. (
  λ x. one-end start ms end (end_of start ms) x (end_of-is start ms),
  λ e. subst (λ o. EndsSo start ms o) (sym e) (end_of-is start ms),
)
