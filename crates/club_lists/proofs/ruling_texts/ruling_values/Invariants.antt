use Rattle.std.proofs.Common.{◌≡◌, ◌+◌, ◌++◌, drop, length, map}
use Rattle.serde_json.specs.View.{view}
use Rattle.club_lists.specs.RulingTexts.{rulings_from}
use Rattle.club_lists.specs.internal.RulingViews.{rulings_by}
use Rattle.club_lists.proofs.ruling_texts.ruling_values.Given as goal

abbrev pub invariant-loop-given : goal.invariant-loop-given
invariant-loop-given l = record {
  count : length l.values.items ≡ l.given-index;
  values : map view l.values.items ++ rulings_from (l.given-index + 1) (rulings_by (drop l.given-index l.rulings))
      ≡ rulings_from 1 (rulings_by l.rulings);
}
