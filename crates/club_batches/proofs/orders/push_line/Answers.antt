use Rattle.std.proofs.Common.{◌≡◌, length, arith, inl, inr, refl}
use Rattle.std.specs.Prelude.{codes}
use Rattle.club_batches.specs.internal.Orders.{IsBadLine, IsNoOrder, Line, SaysOfLine, line_error}
use Rattle.club_batches.proofs.OrderLemmas.{error_with}
use Rattle.club_batches.proofs.orders.push_line.Goals as goal

pub returns-then-as_slice-ge-MOST_ORDERS-clause-err : goal.returns-then-as_slice-ge-MOST_ORDERS-clause-err
returns-then-as_slice-ge-MOST_ORDERS-clause-err c =
    let line : Line = record { number = c.args.number; text = c.args.line.now } in
    let why = codes "a batch has at most 10000 orders\n" in
    error_with (λ message. message ≡ line_error c.args.number why)
    (SaysOfLine c.args.number (IsBadLine (length c.args.orders.now.items) line)) c.bad_line.result
    (λ message says. (why, says, inl (omega (arith, c.if-as_slice-ge-MOST_ORDERS.true, c.requires.few), refl)))
    c.bad_line.ensures

pub returns-in-Err-clause-err : goal.returns-in-Err-clause-err
returns-in-Err-clause-err c =
    let line : Line = record { number = c.args.number; text = c.args.line.now } in
    error_with (SaysOfLine c.args.number (IsNoOrder line))
    (SaysOfLine c.args.number (IsBadLine (length c.args.orders.now.items) line)) c.in-Err.bad
    (λ message (why, says, no_order). (why, says, inr (omega (arith, c.if-as_slice-ge-MOST_ORDERS.false), no_order)))
    c.in-Err.ensures.err
