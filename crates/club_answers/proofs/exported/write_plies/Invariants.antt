use Rattle.std.proofs.Common.{◌≡◌, List, [], ℕ, Option, true, length, take}
use Rattle.sqlite.specs.Held.{state}
use Rattle.sqlite.specs.State.{HasCleanDisk}
use Rattle.club_core.specs.Events as core
use Rattle.club_core.specs.Game.{Game}
use Rattle.club_core.specs.Legal.{IsLegalGame}
use Rattle.club_exports.specs.Title.{Title}
use Rattle.club_exports.specs.internal.Exported.{IsWritten, IsUnderWay}
use Rattle.store_tables.specs.internal.Over.{HasRows}
use Rattle.store_tables.specs.Contents.{Content}
use Rattle.store_tables.specs.Reading.{Reads}
use Rattle.club_changes.specs.internal.Steps.{FindsMoveRows}
use Rattle.club_answers.proofs.exported.write_plies.Given as goal

abbrev pub invariant-loop-ply : goal.invariant-loop-ply
invariant-loop-ply g l = record {
  under_way : IsUnderWay g.R.Rules.rules g.R.WriteRecord.HasWritten (g.W.Write.contents l.writer) l.export;
  reads : Reads true (state g.S.Store l.fn.conn) (state g.S.Store l.conn);
  written : HasCleanDisk (state g.S.Store l.conn)
      → (content : Content) (terms : core.Terms) (game : Game g.row.R-Move.Denot) (title : Title g.row.R-End.Denot)
      (before : Option (List ℕ)) → HasRows content (state g.S.Store l.fn.conn)
      → FindsMoveRows g.R.Rules.rules terms l.stored.id game content → IsLegalGame g.R.Rules.rules terms game
      → l.plies ≡ length game.entries → IsWritten g.R.Rules.rules g.R.WriteRecord.HasWritten title [] before
      (g.W.Write.contents l.fn.writer) l.fn.export
      → IsWritten g.R.Rules.rules g.R.WriteRecord.HasWritten title (take l.ply game.entries) before
      (g.W.Write.contents l.writer) l.export;
}
