use Rattle.std.proofs.Common.{◌≡◌, map, ap, inl, inr, refl, subst, sym, ◌∙◌}
use Rattle.std.specs.Prelude.{codes}
use Rattle.cli.specs.internal.Said.{AreRefusedInLine, AreSaidInLine}
use Rattle.club_batches.specs.internal.Orders.{IsNoOrder, IsParserMessage, Line, SaysOfLine, line_error}
use Rattle.club_batches.proofs.OrderLemmas.{error_with}
use Rattle.club_batches.proofs.orders.order_of.Goals as goal

pub returns-in-Err-clause-err : goal.returns-in-Err-clause-err
returns-in-Err-clause-err c =
    let line : Line = record { number = c.args.number; text = c.args.line.now } in
    let words = ap (map (λ word. word.now)) c.as_slice.ensures.value ∙ c.in_ok-words.ensures in
    error_with (SaysOfLine c.args.number (IsParserMessage c.in-Err.bad)) (SaysOfLine c.args.number (IsNoOrder line))
    c.bad_words.result
    (λ message (why, says, parser). (
      why,
      says,
      inl (record {
        said = c.in-Err.bad;
        refused = subst (λ ws. AreRefusedInLine ws c.in-Err.bad) words c.in-Err.ensures.err;
        message = parser;
      }),
    ))
    c.bad_words.ensures

pub returns-then-reads_input-clause-err : goal.returns-then-reads_input-clause-err
returns-then-reads_input-clause-err c =
    let line : Line = record { number = c.args.number; text = c.args.line.now } in
    let words = ap (map (λ word. word.now)) c.as_slice.ensures.value ∙ c.in_ok-words.ensures in
    let why = codes "a line of a batch reads no standard input\n" in
    error_with (λ message. message ≡ line_error c.args.number why) (SaysOfLine c.args.number (IsNoOrder line))
    c.bad_line.result
    (λ message says. (
      why,
      says,
      inr (record {
        order = c.in-Ok.order;
        states = subst (λ ws. AreSaidInLine ws c.in-Ok.order) words c.in-Ok.ensures.ok;
        is_input = sym c.reads_input.ensures ∙ c.if-reads_input.true;
        message = refl;
      }),
    ))
    c.bad_line.ensures
