-- Definitions by description: the only value that has a property. No promise of the program rests on these definitions.
use Rattle.std.specs.Prelude.{Bool}
use Rattle.std.specs.Cmp.{both_ways}
use Rattle.squares.specs.TheOnly.{TheOnly, IsTruthOf}

-- A Boolean that is true exactly if the proposition holds is the only one.
abbrev pub only_truth : {P : Type 0} (b : Bool) → IsTruthOf P b → TheOnly (IsTruthOf P)
only_truth b is = record {
  value = b;
  is = is;
  only = λ other other_is. both_ways other b (λ e. is.1 (other_is.0 e)) (λ e. other_is.1 (is.0 e));
}
