use Rattle.std.proofs.Common.{◌≡◌, ◌≤◌, false, length}
use Rattle.sqlite.specs.State.{HasCleanDisk}
use Rattle.sqlite.specs.Held.{state}
use Rattle.sqlite_trees.specs.View.{doubt}
use Rattle.store_tables.specs.Over.{Neighbours}
use Rattle.club_rows.specs.Club.{ClubState}
use Rattle.store.specs.Clubs.{Serves}
use Rattle.store.proofs.RunLemmas.{Served, first_of}
use Rattle.store.proofs.club.Club.run.Given as goal

-- as many requests were served as there are outcomes
abbrev pub invariant-loop-request : goal.invariant-loop-request
invariant-loop-request g l =
    (l.self.needs_reopening ≡ false)
    × (l.self.has_arbiter ≡ l.fn.self.has_arbiter)
    × (doubt (state g.S.Store l.fn.self.connection).is_clean ≤ doubt (state g.S.Store l.self.connection).is_clean)
    × (length l.outcomes.items ≡ l.request-index)
    × (HasCleanDisk (state g.S.Store l.self.connection) → (them : Neighbours) (s : ClubState)
    → Serves l.fn.self.has_arbiter (state g.S.Store l.fn.self.connection) them s →
    Served l.self.has_arbiter them s (first_of l.requests l.request-index) l.outcomes.items
    (state g.S.Store l.self.connection))
