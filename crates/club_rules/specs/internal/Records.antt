-- The games in texts of records. No promise of the program rests on these definitions.
use Rattle.club_rules.specs.declared.records.RecordedGame as given_game
use Rattle.club_rules.specs.declared.records.RecordReading as given_reading
use Rattle.club_rules.specs.declared.records.RecordReading.TheVariants as given
use Rattle.club_rules.specs.Records.{Recorded, Reading, game, no_part, refused}

-- the mathematical values of the program's results
module _ {M : Type 0} where
  abbrev pub recorded_of : given_game.RecordedGame M → Recorded M
  recorded_of g = record { moves = g.moves.items; score = g.score; declared = g.declared }

  abbrev pub reading_of : given_reading.RecordReading M → Reading M
  reading_of (given.Game g) = game (recorded_of g)
  reading_of given.NoPart = no_part
  reading_of (given.Refused refusal) = refused refusal
