-- The column values of a row of each table, in the order of its columns.
use Rattle.std.specs.Prelude.{◌≡◌, ◌⊎◌, ℕ, List, [], ◌∷◌, string_bytes, IsUtf8, length}
use Rattle.sqlite_value.specs.declared.value.Value.{Value}
use Rattle.sqlite_value.specs.declared.value.Value.TheVariants.{Null, Int, Text}
use Rattle.sqlite.specs.Values.{IsInt, or_null}
use Rattle.sqlite.specs.Order.{Row, column}
pub use Rattle.store_tables.specs.declared.rows.MetaRow.{MetaRow}
pub use Rattle.store_tables.specs.declared.rows.MemberRow.{MemberRow}
pub use Rattle.store_tables.specs.declared.rows.EventRow.{EventRow}
pub use Rattle.store_tables.specs.declared.rows.EventRuleRow.{EventRuleRow}
pub use Rattle.store_tables.specs.declared.rows.ChallengeRow.{ChallengeRow}
pub use Rattle.store_tables.specs.declared.rows.MoveRow.{MoveRow}
pub use Rattle.store_tables.specs.declared.rows.GameTableRow.{GameTableRow}
pub use Rattle.store_tables.specs.declared.rows.SeenRow.{SeenRow}
pub use Rattle.store_tables.specs.declared.rows.ScoreRow.{ScoreRow}
pub use Rattle.store_tables.specs.declared.rows.KeyRow.{KeyRow}
pub use Rattle.store_tables.specs.declared.rows.RulingRow.{RulingRow}
pub use Rattle.store_tables.specs.declared.rows.ClosingRow.{ClosingRow}

-- the column values of a row of `events`
abbrev pub event_cells : EventRow → Row
event_cells r = Int r.id ∷ Text (string_bytes r.name) ∷ Int r.game ∷ Int r.budget ∷ Int r.increment ∷ []

-- the column values of a row of `moves`
abbrev pub move_cells : MoveRow → Row
move_cells r = Int r.game ∷ Int r.ply ∷ Text (string_bytes r.text) ∷ Int r.moment ∷ Int r.left
    ∷ Text (string_bytes r.position) ∷ []

-- the column values of a row of `games`
abbrev pub game_cells : GameTableRow → Row
game_cells r =
    Int r.id ∷ or_null (λ s. Text (string_bytes s)) r.key ∷ Int r.event ∷ Int r.first ∷ Int r.second ∷ Int r.start
    ∷ Int r.since ∷ Int r.plies ∷ Int r.left1 ∷ Int r.left2
    ∷ or_null Int r.offer_side ∷ or_null Int r.offer_ply ∷ or_null (λ s. Text (string_bytes s)) r.end
    ∷ or_null (λ s. Text (string_bytes s)) r.result ∷ Text (string_bytes r.position) ∷ Int r.track_a ∷ Int r.track_b
    ∷ []

-- the column values of a row of `seen`
abbrev pub seen_cells : SeenRow → Row
seen_cells r = Int r.game ∷ Text (string_bytes r.position) ∷ Int r.count ∷ Int r.first_ply ∷ []

-- the column values of a row of `rulings`
abbrev pub ruling_cells : RulingRow → Row
ruling_cells r =
    Int r.game ∷ Int r.number ∷ Int r.moment ∷ Int r.ply ∷ Int r.kind ∷ Int r.seconds
    ∷ or_null (λ s. Text (string_bytes s)) r.result ∷ or_null (λ s. Text (string_bytes s)) r.beneath
    ∷ or_null (λ s. Text (string_bytes s)) r.beneath_result ∷ []

-- ---- values of the right types

-- a text in UTF-8
abbrev pub IsText : Value → Type 0
IsText v = (t : List ℕ) × (v ≡ Text t) × IsUtf8 t

-- NULL, or a value with this property
abbrev pub OrNull : (Value → Type 0) → Value → Type 0
OrNull Is v = (v ≡ Null) ⊎ Is v

-- the row has the columns of `members`, each with a value of its type
pub record IsMember (row : Row) : Type 0 where
  pub width : length row ≡ 3
  pub id : IsInt (column row 0)
  pub name : IsText (column row 1)
  pub key : IsText (column row 2)

-- the row has the columns of `events`, each with a value of its type
pub record IsEvent (row : Row) : Type 0 where
  pub width : length row ≡ 5
  pub id : IsInt (column row 0)
  pub name : IsText (column row 1)
  pub game : IsInt (column row 2)
  pub budget : IsInt (column row 3)
  pub increment : IsInt (column row 4)

-- the row has the columns of `event_rules`, each with a value of its type
pub record IsEventRule (row : Row) : Type 0 where
  pub width : length row ≡ 2
  pub event : IsInt (column row 0)
  pub declares : IsInt (column row 1)

-- the row has the columns of `challenges`, each with a value of its type
pub record IsChallenge (row : Row) : Type 0 where
  pub width : length row ≡ 7
  pub member : IsInt (column row 0)
  pub number : IsInt (column row 1)
  pub event : IsInt (column row 2)
  pub other : IsInt (column row 3)
  pub first : IsInt (column row 4)
  pub state : IsInt (column row 5)
  pub game : OrNull IsInt (column row 6)

-- the row has the columns of `moves`, each with a value of its type
pub record IsMove (row : Row) : Type 0 where
  pub width : length row ≡ 6
  pub game : IsInt (column row 0)
  pub ply : IsInt (column row 1)
  pub text : IsText (column row 2)
  pub moment : IsInt (column row 3)
  pub left : IsInt (column row 4)
  pub position : IsText (column row 5)

-- the row has the columns of `games`, each with a value of its type
pub record IsGame (row : Row) : Type 0 where
  pub width : length row ≡ 17
  pub id : IsInt (column row 0)
  pub key : OrNull IsText (column row 1)
  pub event : IsInt (column row 2)
  pub first : IsInt (column row 3)
  pub second : IsInt (column row 4)
  pub start : IsInt (column row 5)
  pub since : IsInt (column row 6)
  pub plies : IsInt (column row 7)
  pub left1 : IsInt (column row 8)
  pub left2 : IsInt (column row 9)
  pub offer_side : OrNull IsInt (column row 10)
  pub offer_ply : OrNull IsInt (column row 11)
  pub end : OrNull IsText (column row 12)
  pub result : OrNull IsText (column row 13)
  pub position : IsText (column row 14)
  pub track_a : IsInt (column row 15)
  pub track_b : IsInt (column row 16)

-- the row has the columns of `seen`, each with a value of its type
pub record IsSeen (row : Row) : Type 0 where
  pub width : length row ≡ 4
  pub game : IsInt (column row 0)
  pub position : IsText (column row 1)
  pub count : IsInt (column row 2)
  pub first_ply : IsInt (column row 3)

-- the row has the columns of `scores`, each with a value of its type
pub record IsScore (row : Row) : Type 0 where
  pub width : length row ≡ 7
  pub event : IsInt (column row 0)
  pub member : IsInt (column row 1)
  pub opponent : IsInt (column row 2)
  pub points : IsInt (column row 3)
  pub wins : IsInt (column row 4)
  pub draws : IsInt (column row 5)
  pub losses : IsInt (column row 6)

-- the row has the columns of `keys`, each with a value of its type
pub record IsKey (row : Row) : Type 0 where
  pub width : length row ≡ 3
  pub member : IsInt (column row 0)
  pub number : IsInt (column row 1)
  pub key : IsText (column row 2)

-- the row has the columns of `rulings`, each with a value of its type
pub record IsRuling (row : Row) : Type 0 where
  pub width : length row ≡ 9
  pub game : IsInt (column row 0)
  pub number : IsInt (column row 1)
  pub moment : IsInt (column row 2)
  pub ply : IsInt (column row 3)
  pub kind : IsInt (column row 4)
  pub seconds : IsInt (column row 5)
  pub result : OrNull IsText (column row 6)
  pub beneath : OrNull IsText (column row 7)
  pub beneath_result : OrNull IsText (column row 8)

-- the row has the columns of `closings`, each with a value of its type
pub record IsClosing (row : Row) : Type 0 where
  pub width : length row ≡ 2
  pub event : IsInt (column row 0)
  pub moment : IsInt (column row 1)
