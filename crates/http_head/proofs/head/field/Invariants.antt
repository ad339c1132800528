use Rattle.std.proofs.Common.{◌≡◌, ◌++◌, drop, map}
use Rattle.httparse.specs.Spans.{header_bytes}
use Rattle.http_head.specs.Head.{values}
use Rattle.http_head.specs.internal.HeadViews.{listed, IsNotTwice}
use Rattle.http_head.proofs.head.field.Given as goal

abbrev pub invariant-loop-span : goal.invariant-loop-span
invariant-loop-span l = record {
  all : listed l.found ++ values l.name (map (header_bytes l.head) (drop l.span-index l.spans))
      ≡ values l.name (map (header_bytes l.head) l.spans);
  few : IsNotTwice l.found;
}
