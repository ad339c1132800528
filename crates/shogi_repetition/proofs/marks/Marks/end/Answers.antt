use Rattle.shogi_repetition.proofs.MarkLemmas.{tells-end}
use Rattle.shogi_repetition.proofs.marks.Marks.end.Goals as goal

pub returns : goal.returns
returns c = λ start moves follows. tells-end start moves c.args.self.now _ follows c.end_by_tail.ensures
