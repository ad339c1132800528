use Rattle.std.proofs.Common.{◌∙◌, ◌++◌, ◌∷◌, [], ◌==◌, List, sym, subst}
use Rattle.std.proofs.lemmas.Bool.{eqb-true}
use Rattle.std.proofs.lemmas.List.Quantifiers.{position-Some}
use Rattle.std.proofs.lemmas.Result.{IfErr-at_err, on_ok_weaker}
use Rattle.cross_tables.specs.Totals.{AreTotals}
use Rattle.cross_tables.specs.declared.standings.Standing.{Standing}
use Rattle.cross_tables.specs.declared.sums.OpponentScore.{OpponentScore}
use Rattle.cross_tables.proofs.Adding.{AreTotals-raised, Fit-raised, position-none, AreTotals-entered}
use Rattle.cross_tables.proofs.standings.Standings.add.Goals as goal

pub returns-in-Some : goal.returns-in-Some
returns-in-Some c =
    let xs : List Standing = c.args.self.now in
    let row : OpponentScore = c.args.scored.now in
    let own : Standing = record { member = row.member; sums = row.sums } in
    let (low, is, _) = position-Some (λ s. s.member == row.member) xs c.in-Some.place own
    (sym c.place_of.ensures ∙ c.in-Some.is) in
    let same = eqb-true _ _ is in
    record {
      adds =
          on_ok_weaker c.raise.result
          (λ e rows t.
          subst (λ ys. AreTotals ys (rows ++ row ∷ [])) (sym (e own))
          (AreTotals-raised xs rows row c.in-Some.place own low same t))
          c.raise.ensures.ok;
      kept = c.raise.ensures.err;
      too_many = λ is rows t fit.
          IfErr-at_err _ is c.raise.ensures.fault own
          (Fit-raised xs rows row c.in-Some.place own low same t fit);
    }

pub returns-in-None : goal.returns-in-None
returns-in-None c =
    let xs : List Standing = c.args.self.now in
    let row : OpponentScore = c.args.scored.now in
    record {
      adds =
          on_ok_weaker c.enter.result
          (λ e rows t.
          subst (λ ys. AreTotals ys (rows ++ row ∷ [])) (sym e)
          (AreTotals-entered xs rows row (position-none _ xs (sym c.place_of.ensures ∙ c.in-None.is)) t))
          c.enter.ensures.ok;
      kept = c.enter.ensures.err;
      too_many = λ is _ _ _. c.enter.ensures.fault is;
    }
