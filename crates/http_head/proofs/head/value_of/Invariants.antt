use Rattle.std.proofs.Common.{◌≡◌, ◌<◌, ◌^◌, true, drop}
use Rattle.std.specs.List.{list_all}
use Rattle.std.specs.Char.{is_ascii_digit}
use Rattle.std.specs.Str.Parse.{digits_value_after, digits_value}
use Rattle.http_head.proofs.head.value_of.Given as goal

abbrev pub invariant-loop-byte : goal.invariant-loop-byte
invariant-loop-byte l = record {
  value : digits_value_after 10 l.n (drop l.byte-index l.text) ≡ digits_value 10 l.text;
  digits : list_all is_ascii_digit (drop l.byte-index l.text) ≡ true;
  small : l.n < 10 ^ l.byte-index;
}
