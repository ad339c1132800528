use Rattle.std.proofs.Common.{◌≡◌, ◌<◌, ◌+◌, ℕ, length, map, take, pos, Some, string_bytes}
use Rattle.std.specs.Prelude.{slice_get}
use Rattle.store_tables.specs.declared.rows.MoveRow.{MoveRow}
use Rattle.club_answers.proofs.viewed.texts.Given as goal

abbrev pub invariant-loop-row : goal.invariant-loop-row
invariant-loop-row l = record {
  count : length l.texts.items ≡ l.row-index;
  order : (n : ℕ) (row : MoveRow) → n < l.row-index → slice_get l.rows n ≡ Some row → row.ply ≡ pos (1 + n);
  texts : map (λ t. string_bytes t) l.texts.items ≡ map (λ r. string_bytes r.text) (take l.row-index l.rows);
}
