use Rattle.std.proofs.Common.{◌≡◌, ◌++◌, ap, inl, subst, sym, ◌∙◌}
use Rattle.std.specs.Prelude.{codes}
use Rattle.cli.specs.declared.words.BadWords.TheVariants.{Text}
use Rattle.club_batches.specs.internal.Orders.{IsErrorWith, IsParserMessage, SaysOfLine, line_error}
use Rattle.club_batches.proofs.OrderLemmas.{error_with}
use Rattle.club_batches.proofs.orders.bad_words.Goals as goal

pub returns-in-Some : goal.returns-in-Some
returns-in-Some c =
    let (n, found, is, len) = c.in-Some.ensures.cases in
    subst (λ bad. IsErrorWith (SaysOfLine c.args.number (IsParserMessage bad)) c.bad_line.result) (sym c.in-Text.is)
    (error_with (λ message. message ≡ line_error c.args.number c.in-Some.why.now)
    (SaysOfLine c.args.number (IsParserMessage (Text c.in-Text.text))) c.bad_line.result
    (λ message says. (c.in-Some.why.now, says, inl (sym c.as_str.ensures.value ∙ found.1 ∙ ap (λ rest. codes "error: " ++ rest) (sym is))))
    c.bad_line.ensures)
