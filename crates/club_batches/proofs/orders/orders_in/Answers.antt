use Rattle.std.proofs.Common.{◌≡◌, ◌∷◌, [], ◌+◌, false, arith, length, length-append, refl, subst, sym, ◌∙◌}
use Rattle.std.specs.Str.Lines.{lines}
use Rattle.std.proofs.lemmas.Iterator.Consumers.{YieldsList-at, YieldsList-end, YieldsList-turn}
use Rattle.std.proofs.lemmas.Iterator.Splits.{YieldsList-from_lines}
use Rattle.club_batches.specs.internal.Orders.{HasBadLine, IsAdded, IsBadLine, IsErrorWith, SaysOfLine, is_passed_over}
use Rattle.club_batches.proofs.OrderLemmas.{AreRead, IsAt, all_read, bad_line_found, error_with, few_lines, line_read}
use Rattle.club_batches.proofs.orders.orders_in.Goals as goal

pub loop-line-preserved : goal.loop-line-preserved
loop-line-preserved c =
    let text = c.args.text.now in
    let count = length c.loop-line.yielded in
    let all = YieldsList-at c.into_iter-line-iterator.ensures.into_iter_gives
    (YieldsList-from_lines text c.lines-line-items.ensures.rest) in
    let at : IsAt (lines text) count c.in-Some.line.now = YieldsList-turn all c.loop-line.yielded
    _ c.loop-line.yielded_by _ _ c.in-Some.line c.in-Some.is c.next.ensures.steps in
    let more = length-append c.loop-line.yielded (c.in-Some.line ∷ []) in
    let next : c.saturating_add-number.result ≡ count + 1 =
    omega (arith, c.saturating_add-number.ensures, c.loop-line.invariant.count, at.0, few_lines text, c.requires) in
    record {
      count = next ∙ sym more;
      few = c.in-Ok.ensures.few;
      read = subst (λ n. AreRead (lines text) n c.push_line.new.orders.items) (sym more)
          (line_read (lines text) count c.loop-line.orders.items c.push_line.new.orders.items c.in-Some.line.now
          (is_passed_over c.in-Some.line.now) refl c.loop-line.invariant.read at
          c.in-Ok.ensures.passed
          (subst (λ n. is_passed_over c.in-Some.line.now ≡ false
          → IsAdded (record { number = n; text = c.in-Some.line.now }) c.loop-line.orders.items c.push_line.new.orders.items)
          next c.in-Ok.ensures.order));
    }

pub returns-in-Err-clause-err : goal.returns-in-Err-clause-err
returns-in-Err-clause-err c =
    let text = c.args.text.now in
    let count = length c.loop-line.yielded in
    let all = YieldsList-at c.into_iter-line-iterator.ensures.into_iter_gives
    (YieldsList-from_lines text c.lines-line-items.ensures.rest) in
    let at : IsAt (lines text) count c.in-Some.line.now = YieldsList-turn all c.loop-line.yielded
    _ c.loop-line.yielded_by _ _ c.in-Some.line c.in-Some.is c.next.ensures.steps in
    let next : c.saturating_add-number.result ≡ count + 1 =
    omega (arith, c.saturating_add-number.ensures, c.loop-line.invariant.count, at.0, few_lines text, c.requires) in
    error_with (SaysOfLine (count + 1) (IsBadLine (length c.loop-line.orders.items)
    (record { number = count + 1; text = c.in-Some.line.now }))) (HasBadLine text) c.in-Err.bad
    (λ message says. bad_line_found text message count c.loop-line.orders.items c.in-Some.line.now
    c.loop-line.invariant.read at c.in-Err.ensures.not_passed says)
    (subst (λ n. IsErrorWith (SaysOfLine n (IsBadLine (length c.loop-line.orders.items)
    (record { number = n; text = c.in-Some.line.now }))) c.in-Err.bad) next c.in-Err.ensures.err)

pub returns-clause-orders : goal.returns-clause-orders
returns-clause-orders c =
    let text = c.args.text.now in
    let all = YieldsList-at c.into_iter-line-iterator.ensures.into_iter_gives
    (YieldsList-from_lines text c.lines-line-items.ensures.rest) in
    let end = YieldsList-end all c.loop-line.yielded _ c.loop-line.yielded_by _ _ c.in-None.is c.next.ensures.steps in
    all_read (lines text) (length c.loop-line.yielded) c.loop-line.orders.items c.loop-line.invariant.read
    (omega (arith, end.1))
