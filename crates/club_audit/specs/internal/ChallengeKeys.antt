-- The key of a challenge's row. No promise of the program rests on these definitions.
use Rattle.std.specs.Prelude.{Bool, ◌&&◌}
use Rattle.std.specs.Ordering.{int_eq}
use Rattle.store_tables.specs.declared.rows.ChallengeRow.{ChallengeRow}
use Rattle.club_audit.specs.declared.challenges.ChallengeKey.{ChallengeKey}

-- the challenger and the challenger's number for it
abbrev pub key_in : ChallengeRow → ChallengeKey
key_in row = record { member = row.member; number = row.number }

abbrev pub same_number : ChallengeKey → ChallengeKey → Bool
same_number one other = int_eq one.member other.member && int_eq one.number other.number
