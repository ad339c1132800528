use Rattle.std.proofs.Common.{◌≡◌, ◌++◌, map, drop}
use Rattle.serde_json.specs.Data.{string}
use Rattle.serde_json.specs.View.{view}
use Rattle.club_lists.specs.ShownViews.{texts_view}
use Rattle.club_lists.proofs.values.text_array.Given as goal

abbrev pub invariant-loop-text : goal.invariant-loop-text
invariant-loop-text l =
    map view l.values.items ++ map string (texts_view (drop l.text-index l.texts)) ≡ map string (texts_view l.texts)
