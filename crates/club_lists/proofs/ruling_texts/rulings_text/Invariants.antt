use Rattle.std.proofs.Common.{◌≡◌, ◌+◌, drop}
use Rattle.std.specs.Prelude.{string_bytes}
use Rattle.club_lists.specs.internal.RulingViews.{rulings_by}
use Rattle.club_lists.proofs.RulingLemmas.{Ahead}
use Rattle.club_lists.proofs.ruling_texts.rulings_text.Given as goal

abbrev pub invariant-loop-given : goal.invariant-loop-given
invariant-loop-given l = record {
  count : l.number ≡ l.given-index;
  lines : Ahead (rulings_by l.rulings) (l.given-index + 1) (rulings_by (drop l.given-index l.rulings))
      (string_bytes l.text);
}
