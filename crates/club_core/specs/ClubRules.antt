-- The rules of the two games of a club, and the formats of their records.
use Rattle.club_rules.specs.GameRules.{GameRules}
use Rattle.club_rules.specs.Records.{GameRecords}

-- the rules and record formats of a club's two games
pub record ClubRules (DP DM DE DT SP SM SE ST : Type 0) : Type 0 where
  pub draughts : GameRules DP DM DE DT
  pub shogi : GameRules SP SM SE ST
  pub draughts_records : GameRecords DM
  pub shogi_records : GameRecords SM

-- the rules of a club that plays these two games
abbrev pub both : {DP DM DE DT SP SM SE ST : Type 0} → GameRules DP DM DE DT → GameRules SP SM SE ST → GameRecords DM
    → GameRecords SM → ClubRules DP DM DE DT SP SM SE ST
both draughts shogi draughts_records shogi_records =
    record {
      draughts = draughts;
      shogi = shogi;
      draughts_records = draughts_records;
      shogi_records = shogi_records;
    }
