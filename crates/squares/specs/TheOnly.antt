-- Definitions by description: the only value that has a property.
use Rattle.std.specs.Prelude.{◌≡◌, ◌↔◌, Bool, IsTrue}

-- Exactly one value has the property.
pub record TheOnly {A : Type 0} (Is : A → Type 0) : Type 0 where
  pub value : A
  pub is : Is value
  pub only : (other : A) → Is other → other ≡ value

-- The Boolean is true exactly if the proposition holds.
abbrev pub IsTruthOf : Type 0 → Bool → Type 0
IsTruthOf P b = IsTrue b ↔ P
