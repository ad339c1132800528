-- The first wrong table, in the order of the checks. No promise of the program rests on these definitions.
use Rattle.std.specs.Prelude.{◌<◌, Option, Some, None, IfSome}
use Rattle.store_tables.specs.declared.names.Table.{Table}
use Rattle.club_audit.specs.FirstWrong.{order}

-- the table is before the named one; every table is, if none is named
abbrev pub Precedes : Table → Option Table → Type 0
Precedes t None = Unit {0}
Precedes t (Some named) = order t < order named

-- The named table is wrong, and each table before it is right; if none is named, all are right.
pub record IsFirstWrong (IsRight : Table → Type 0) (wrong : Option Table) : Type 0 where
  pub before : (t : Table) → Precedes t wrong → IsRight t
  pub named : IfSome wrong (λ t. ¬ IsRight t)
