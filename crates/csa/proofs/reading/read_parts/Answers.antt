use Rattle.std.proofs.Common.{◌≡◌, ℕ, List, take, map, sym, ap, subst, ◌∙◌}
use Rattle.std.specs.Prelude.{IfOk, IfErr}
use Rattle.std.specs.List.{slice_split}
use Rattle.std.proofs.lemmas.List.{take-map}
use Rattle.csa.specs.declared.lines.NumberedStatement.{NumberedStatement}
use Rattle.csa.specs.Reading.{is_parting, records_of, without_bare_last}
use Rattle.csa.specs.internal.Reading.{AreRecordsOf, FailsOrMemory}
use Rattle.csa.proofs.reading.read_parts.Goals as goal

-- the first of the parts are the records
taken : {A : Type 0} (f : A → List NumberedStatement) (all xs ys : List A) (n : ℕ) (placed : List NumberedStatement) → xs ≡ all → ys ≡ all
    → map f all ≡ slice_split (λ each. is_parting each.statement) placed
    → take n (map f xs) ≡ without_bare_last (map f xs) → map f (take n ys) ≡ records_of placed
taken f all xs ys n placed a b parts first =
    sym (take-map f n ys) ∙ ap (λ zs. take n (map f zs)) (b ∙ sym a) ∙ first
    ∙ ap without_bare_last (ap (map f) a ∙ parts)

pub returns-clause-games : goal.returns-clause-games
returns-clause-games c =
    subst (λ (rs : List (List NumberedStatement)). IfOk c.read_records.result (λ games. AreRecordsOf rs games.items))
    (taken (λ x. x.now) _ _ _ _ c.args.placed.now c.deref.ensures.value c.deref-2.ensures.value c.in_ok-parts.ensures
    c.record_count-records.ensures.records) c.read_records.ensures.games

pub returns-clause-fault : goal.returns-clause-fault
returns-clause-fault c =
    subst (λ (rs : List (List NumberedStatement)). IfErr c.read_records.result (FailsOrMemory rs))
    (taken (λ x. x.now) _ _ _ _ c.args.placed.now c.deref.ensures.value c.deref-2.ensures.value c.in_ok-parts.ensures
    c.record_count-records.ensures.records) c.read_records.ensures.fault
