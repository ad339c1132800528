use Rattle.std.proofs.Common.{Some, ap, sym, ◌∙◌}
use Rattle.std.specs.Prelude.{is_some, string_bytes}
use Rattle.std.specs.Option.{option_map}
use Rattle.club_rows.proofs.ColumnLemmas.{no-name, verdict-tested}
use Rattle.club_rows.proofs.rulings.has_verdict.Goals as goal

pub returns-in-Some : goal.returns-in-Some
returns-in-Some g c = λ terms id game is.
    c.is_verdict_name.ensures
    ∙ verdict-tested g.R.Rules.rules terms id game c.args.row.now is _
    (ap (option_map (λ s. string_bytes s)) c.in-Some.is ∙ ap Some (sym c.as_str.ensures.value))

pub returns-in-None : goal.returns-in-None
returns-in-None g c = λ terms id game is.
    sym (ap is_some (no-name g.R.Rules.rules terms id game c.args.row.now is
    (ap (option_map (λ s. string_bytes s)) c.in-None.is)))
