use Rattle.std.proofs.Common.{◌∙◌, ◌==◌, sym}
use Rattle.std.proofs.lemmas.Bool.{eqb-true}
use Rattle.std.proofs.lemmas.List.Quantifiers.{position-Some}
use Rattle.cross_tables.specs.declared.standings.Standing.{Standing}
use Rattle.cross_tables.proofs.Adding.{position-none}
use Rattle.cross_tables.proofs.FieldLemmas.{totals-at, totals-none}
use Rattle.cross_tables.proofs.field.totals_of.Goals as goal

abbrev nobody : Standing
nobody = record { member = 0; sums = record { points = 0; wins = 0; draws = 0; losses = 0 } }

pub returns-in-Some : goal.returns-in-Some
returns-in-Some c rows t =
    let xs = c.args.standings.now in
    let (low, is, _) = position-Some (λ s. s.member == c.args.member) xs c.in-Some.place nobody
    (sym c.place_of.ensures ∙ c.in-Some.is) in
    rw c.as_slice.ensures (totals-at xs rows t c.args.member c.in-Some.place nobody low (eqb-true _ _ is))

pub returns-in-None : goal.returns-in-None
returns-in-None c rows t =
    totals-none c.args.standings.now rows t c.args.member
    (position-none (λ s. s.member == c.args.member) c.args.standings.now (sym c.place_of.ensures ∙ c.in-None.is))
