use Rattle.std.proofs.Common.{◌∙◌, ap, map, rules, subst}
use Rattle.std.specs.List.Sorted.{IsPermutation}
use Rattle.std.proofs.lemmas.List.Sorted.{answers_always}
use Rattle.cross_tables.specs.Field.{is_placed_above, line_of}
use Rattle.cross_tables.proofs.FieldLemmas.{above_is_order, one-field}
use Rattle.cross_tables.proofs.field.field_lines.Goals as goal

pub returns-clause-field : goal.returns-clause-field
returns-clause-field c =
    let lines = c.in_ok-lines.ensures.lines c.in_ok-standings.ensures.totals
    ∙ ap (λ l. map (line_of c.args.rows.now c.args.games.now) l)
    (c.deref.ensures.value ∙ c.in_ok-members.ensures.members) in
    record {
      lines_of = subst (λ xs. IsPermutation xs c.sort_unstable_by.new.self.items) lines
          c.sort_unstable_by.ensures.permutation;
      ranked = c.sort_unstable_by.ensures.sorted is_placed_above above_is_order
          (answers_always _ _ _ (λ f a r g h. search rules));
    }

pub returns-clause-only : goal.returns-clause-only
returns-clause-only c others field =
    one-field c.args.last c.args.rows.now c.args.games.now others c.sort_unstable_by.new.self.items field
    (returns-clause-field c)
