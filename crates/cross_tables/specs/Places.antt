-- The order of places.
use Rattle.std.specs.Prelude.{◌==◌, ◌&&◌, ◌||◌, nat_lt, Bool, List}
use Rattle.std.specs.List.Sorted.{IsSortedBy}
use Rattle.cross_tables.specs.declared.standings.Standing.{Standing}

-- More points, then more wins, then the lower member number.
abbrev pub precedes : Standing → Standing → Bool
precedes a b =
    nat_lt b.sums.points a.sums.points
    || (a.sums.points == b.sums.points
    && (nat_lt b.sums.wins a.sums.wins || (a.sums.wins == b.sums.wins && nat_lt a.member b.member)))

-- The standings are in the order of places.
abbrev pub AreRanked : List Standing → Type 0
AreRanked standings = IsSortedBy precedes standings
