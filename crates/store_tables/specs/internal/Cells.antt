-- The column values of a row of each table, in the order of its columns. No promise of the program rests on these
-- definitions.
use Rattle.std.specs.Prelude.{◌≡◌, ℤ, ◌<ℤ◌, List, [], ◌∷◌, string_bytes, IsTrue, length}
use Rattle.sqlite_value.specs.declared.value.Value.TheVariants.{Int, Text}
use Rattle.sqlite.specs.Values.{IsInt, or_null}
use Rattle.sqlite.specs.Order.{Row, column}
use Rattle.sqlite_trees.specs.Tree.{IsAscending}
use Rattle.sqlite_trees.specs.View.{is_int}
pub use Rattle.store_tables.specs.declared.rows.MetaRow.{MetaRow}
pub use Rattle.store_tables.specs.declared.rows.MemberRow.{MemberRow}
pub use Rattle.store_tables.specs.declared.rows.EventRow.{EventRow}
pub use Rattle.store_tables.specs.declared.rows.EventRuleRow.{EventRuleRow}
pub use Rattle.store_tables.specs.declared.rows.ChallengeRow.{ChallengeRow}
pub use Rattle.store_tables.specs.declared.rows.MoveRow.{MoveRow}
pub use Rattle.store_tables.specs.declared.rows.GameTableRow.{GameTableRow}
pub use Rattle.store_tables.specs.declared.rows.SeenRow.{SeenRow}
pub use Rattle.store_tables.specs.declared.rows.ScoreRow.{ScoreRow}
pub use Rattle.store_tables.specs.declared.rows.KeyRow.{KeyRow}
pub use Rattle.store_tables.specs.declared.rows.RulingRow.{RulingRow}
pub use Rattle.store_tables.specs.declared.rows.ClosingRow.{ClosingRow}

-- the column values of a row of `meta`
abbrev pub meta_cells : MetaRow → Row
meta_cells r = Int r.id ∷ Int r.schema ∷ Int r.last ∷ []

-- the column values of a row of `members`
abbrev pub member_cells : MemberRow → Row
member_cells r = Int r.id ∷ Text (string_bytes r.name) ∷ Text (string_bytes r.key) ∷ []

-- the column values of a row of `event_rules`
abbrev pub event_rule_cells : EventRuleRow → Row
event_rule_cells r = Int r.event ∷ Int r.declares ∷ []

-- the column values of a row of `challenges`
abbrev pub challenge_cells : ChallengeRow → Row
challenge_cells r = Int r.member ∷ Int r.number ∷ Int r.event ∷ Int r.other ∷ Int r.first ∷ Int r.state
    ∷ or_null Int r.game ∷ []

-- the column values of a row of `scores`
abbrev pub score_cells : ScoreRow → Row
score_cells r = Int r.event ∷ Int r.member ∷ Int r.opponent ∷ Int r.points ∷ Int r.wins ∷ Int r.draws ∷ Int r.losses
    ∷ []

-- the column values of a row of `keys`
abbrev pub key_cells : KeyRow → Row
key_cells r = Int r.member ∷ Int r.number ∷ Text (string_bytes r.key) ∷ []

-- the column values of a row of `closings`
abbrev pub closing_cells : ClosingRow → Row
closing_cells r = Int r.event ∷ Int r.moment ∷ []

-- the row has the columns of `meta`, each with a value of its type
pub record IsMeta (row : Row) : Type 0 where
  pub width : length row ≡ 3
  pub id : IsInt (column row 0)
  pub schema : IsInt (column row 1)
  pub last : IsInt (column row 2)

-- strictly ascending
abbrev pub Rises : List ℤ → Type 0
Rises ids = IsAscending (λ a b. a <ℤ b) ids

-- the first column is an integer
abbrev pub BeginsWithInteger : Row → Type 0
BeginsWithInteger row = IsTrue (is_int (column row 0))
