use Rattle.std.proofs.Common.{decimal, sym, ◌∙◌}
use Rattle.control_socket.proofs.ReadingLemmas.{cut_unique, decimal_lacks, lacks_cut}
use Rattle.control_socket.proofs.reading.number_before.Goals as goal

pub returns-in-None : goal.returns-in-None
returns-in-None c n rest fits = lacks_cut c.args.byte c.args.bytes.now (decimal n) rest c.in-None.ensures

pub returns-in-None-number_in : goal.returns-in-None-number_in
returns-in-None-number_in c n more fits is =
    let cut = c.in-Some.ensures in
    c.in-None-number_in.ensures n fits
    (cut_unique c.args.byte _ _ (decimal n) more cut.first (decimal_lacks n _ fits c.requires) (sym cut.is ∙ is)).0

pub returns-in-Some-number_in : goal.returns-in-Some-number_in
returns-in-Some-number_in c =
    (rw c.in-Some-number_in.ensures.0 at c.in-Some.ensures.is, c.in-Some-number_in.ensures.1)
