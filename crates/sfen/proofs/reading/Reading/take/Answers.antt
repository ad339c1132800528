use Rattle.std.proofs.Common.{sym, ap, ◌∙◌}
use Rattle.sfen.specs.internal.Places.{next}
use Rattle.sfen.proofs.OneLemmas.{takes}
use Rattle.sfen.proofs.reading.Reading.take.Goals as goal

pub returns-in-Some : goal.returns-in-Some
returns-in-Some c =
    takes c.args.self.now c.act.new.self c.args.byte c.in-Some.place c.in-Some.action c.requires
    (ap (next c.args.self.now.place) (sym c.sign_of.ensures.value) ∙ sym c.next.ensures ∙ c.in-Some.is) c.act.ensures
