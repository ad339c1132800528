-- Whether a route contains given squares before its last one. No promise of the program rests on these definitions.
use Rattle.std.specs.Prelude.{ℕ, ◌-◌, ◌&&◌, nat_lt, List, length, take, Bool}
use Rattle.pdn.specs.internal.Subsequence.{is_subsequence}

-- whether the route contains the squares of `middle`, in this order, before its last square
abbrev pub passes : List ℕ → List ℕ → Bool
passes middle route = nat_lt 0 (length route) && is_subsequence middle (take (length route - 1) route)
