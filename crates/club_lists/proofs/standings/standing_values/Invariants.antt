use Rattle.std.proofs.Common.{◌≡◌, ◌+◌, ◌++◌, drop, length, map}
use Rattle.serde_json.specs.View.{view}
use Rattle.club_core.specs.internal.Answer.{members_of}
use Rattle.club_lists.specs.Standings.{standings_from}
use Rattle.club_lists.proofs.standings.standing_values.Given as goal

abbrev pub invariant-loop-line : goal.invariant-loop-line
invariant-loop-line l = record {
  count : length l.values.items ≡ l.line-index;
  values : map view l.values.items
      ++ standings_from (members_of l.members) (l.line-index + 1) (drop l.line-index l.lines)
      ≡ standings_from (members_of l.members) 1 l.lines;
}
