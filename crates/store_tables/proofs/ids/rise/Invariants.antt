use Rattle.std.proofs.Common.{◌<◌, ℕ, ℤ, ◌+◌, get_or, ◌<ℤ◌}
use Rattle.store_tables.proofs.ids.rise.Given as goal

abbrev pub invariant-ids : goal.invariant-ids
invariant-ids l = (k : ℕ) (d : ℤ) → k + 1 < l.i → get_or l.ids k d <ℤ get_or l.ids (k + 1) d
