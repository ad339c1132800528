use Rattle.std.proofs.Common.{arith}
use Rattle.http_head.proofs.Numbers.{has_room, one_digit_more, few_digits, next_digit, one_more_value}
use Rattle.http_head.proofs.head.value_of.Goals as goal

pub overflow_mul-n : goal.overflow_mul-n
overflow_mul-n c =
    let few = few_digits c.args.text.now c.requires in
    omega (arith, has_room c.loop-byte.n c.loop-byte.byte-index c.loop-byte.invariant.small (omega (arith, few)))

pub overflow_add-n : goal.overflow_add-n
overflow_add-n c =
    let few = few_digits c.args.text.now c.requires in
    let digit = next_digit c.args.text.now c.loop-byte.byte-index c.loop-byte-test.true c.loop-byte.invariant.digits in
    omega (arith, has_room c.loop-byte.n c.loop-byte.byte-index c.loop-byte.invariant.small (omega (arith, few)))

pub loop-byte-preserved : goal.loop-byte-preserved
loop-byte-preserved c =
    let digit = next_digit c.args.text.now c.loop-byte.byte-index c.loop-byte-test.true c.loop-byte.invariant.digits in
    record {
      value = one_more_value c.args.text.now c.loop-byte.byte-index c.loop-byte.n c.from.result _ c.loop-byte-test.true
          digit.0 digit.1 c.from.ensures c.loop-byte.invariant.value;
      digits = digit.2;
      small = one_digit_more c.loop-byte.n c.loop-byte.byte-index c.from.result c.loop-byte.invariant.small
          (omega (arith, digit));
    }
