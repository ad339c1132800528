use Rattle.club_exports.proofs.ExportLemmas.{entries-begin}
use Rattle.club_exports.proofs.laws.written_entries_begin_games.Goals as goal

pub returns : goal.returns
returns g c title entries more before now export is = entries-begin is g.R.WriteRecord.IsText c.begins_games.ensures more
