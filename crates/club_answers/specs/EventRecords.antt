-- The records of all games of an event.
use Rattle.std.specs.Prelude.{◌≡◌, ℕ, List, [], ◌∷◌, ◌++◌, Bool, true, false, Option, codes, take}
use Rattle.record_writer.specs.Pieces.{AppendsSome}
use Rattle.club_rules.specs.declared.names.GameKind.{GameKind}
use Rattle.club_rules.specs.declared.names.GameKind.TheVariants as kind
use Rattle.club_core.specs.Events.{event_kind}
use Rattle.club_rows.specs.Club.{ClubState}
use Rattle.club_lists.specs.EventRecords.{event_game_ids}
use Rattle.club_answers.specs.Games.{game_summaries}
use Rattle.club_answers.specs.Records.{IsRecordAt}

-- the separator of records: an empty line in PDN, the line `/` in CSA
abbrev pub parting : GameKind → List ℕ
parting kind.Draughts = codes "\n"
parting kind.Shogi = codes "/\n"

-- the separator in front of a record; none before the first
abbrev pub opening : Bool → GameKind → List ℕ
opening true kind = []
opening false kind = parting kind

-- the records of the games with these ids, one after another
abbrev pub AreRecords : ClubState → GameKind → (is_first : Bool) → List ℕ → List ℕ → Type 0
AreRecords s kind is_first [] text = text ≡ []
AreRecords s kind is_first (id ∷ ids) text =
    (record' : List ℕ) × (rest : List ℕ) × IsRecordAt s id record' × AreRecords s kind false ids rest
    × (text ≡ opening is_first kind ++ (record' ++ rest))

-- the ids of the games of the event with this name
abbrev pub ids_in : ClubState → List ℕ → List ℕ
ids_in s name = event_game_ids s.events name (game_summaries s)

-- all records of the event with this name
abbrev pub AreEventRecords : ClubState → List ℕ → List ℕ → Type 0
AreEventRecords s name text = AreRecords s (event_kind s.events name) true (ids_in s name) text

-- The writer has a prefix of the first records and a separator.
abbrev pub BeginsRecords : ClubState → GameKind → List ℕ → Option (List ℕ) → Option (List ℕ) → Type 0
BeginsRecords s kind ids before now =
    (count : ℕ) × (text : List ℕ) × AreRecords s kind true (take count ids) text
    × AppendsSome before now (text ++ parting kind)
