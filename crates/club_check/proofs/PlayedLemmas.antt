-- The club that the tables of a file are, and what is named where they are those of none.
use Rattle.std.proofs.Common.{◌≡◌, ◌≢◌, ◌⊎◌, ℕ, ◌≤◌, false, true, true≢false, List, [], ◌∷◌, length, map, Option, Some}
use Rattle.std.proofs.Common.{None, ◌+◌, pos, refl, ap, sym, subst, ◌∙◌, arith, inl, inr, ◌<◌}
use Rattle.std.proofs.lemmas.List.{take_all}
use Rattle.std.proofs.lemmas.Option.{same_Some}
use Rattle.sqlite.specs.Effect.{Database}
use Rattle.sqlite.specs.Order.{Row}
use Rattle.sqlite.specs.Schema.{Schema}
use Rattle.sqlite.specs.State.{State, IsUnchanged}
use Rattle.sqlite_rules.proofs.ListLemmas.{all_has}
use Rattle.store_tables.specs.Placed.{club_trees}
use Rattle.store_tables.specs.Cells.{IsScore, game_cells}
use Rattle.store_tables.specs.internal.Cells.{challenge_cells, closing_cells, key_cells, meta_cells, score_cells}
use Rattle.store_tables.specs.Content.{Keeps, cells}
use Rattle.store_tables.specs.Contents.{Content, Stores, AreStored}
use Rattle.store_tables.specs.Tables.{challenges, events, games, members, moves, schema_of, scores, seen, meta}
use Rattle.store_tables.specs.declared.names.Table.{Table}
use Rattle.store_tables.specs.declared.names.Table.TheVariants.{Members, Events, EventRules, Challenges, Moves, Games}
use Rattle.store_tables.specs.declared.names.Table.TheVariants.{Seen, Scores, Meta, Keys, Rulings, Closings}
use Rattle.store_tables.specs.declared.names.Version.{Version}
use Rattle.store_tables.specs.declared.names.Version.TheVariants.{V1, V2, V3}
use Rattle.store_tables.specs.declared.rows.ClosingRow.{ClosingRow}
use Rattle.store_tables.specs.declared.rows.KeyRow.{KeyRow}
use Rattle.store_tables.specs.declared.rows.Rows.{Rows}
use Rattle.store_tables.specs.declared.rows.ScoreRow.{ScoreRow}
use Rattle.store_tables.proofs.Proved.{same_by, same_then}
use Rattle.store_sql.specs.Read.{beginning_with}
use Rattle.store_sql.specs.internal.Read.{IsReadAs}
use Rattle.club_core.specs.declared.challenges.Challenge.{Challenge}
use Rattle.club_core.specs.State.{rulings_of}
use Rattle.club_rows.specs.Club.{both_games, ClubGame, ClubState, IsClub}
use Rattle.club_rows.specs.EachOnce.{AreEachOnce}
use Rattle.club_rows.specs.FirstSchema.{IsClubOf, tables_at}
use Rattle.club_rows.specs.Scores.{scores_in}
use Rattle.club_rows.specs.Tables.{gathered_from, rows_of_closing, rows_of_keys, rows_of_moves, rows_of_rulings}
use Rattle.club_rows.specs.Tables.{rows_of_seen}
use Rattle.club_rows.specs.Tables.{tables_of}
use Rattle.club_rows.proofs.Proved.{rulings_begin, scores_typed}
use Rattle.club_audit.specs.internal.Audit.{AreApartGames, HasPeople}
use Rattle.club_audit.specs.internal.ChallengeAudit.{AreChallenges}
use Rattle.club_audit.specs.internal.ClosingAudit.{AreClosingsOf}
use Rattle.club_audit.specs.internal.KeyAudit.{AreKeysOf}
use Rattle.club_core.specs.LegalState.{Each}
use Rattle.club_audit.specs.FirstWrong.{order}
use Rattle.club_audit.specs.internal.Standings.{AreGamesOf}
use Rattle.club_audit.proofs.Proved.{challenges-of, game-elsewhere, keys-of, ClosedBy}
use Rattle.club_check.proofs.NumberedLemmas.{◌&◌, moves_had, moved}
use Rattle.club_check.specs.ReasonIsRight.{IsRightFault, HoldsNone, HoldsOnly}
use Rattle.club_check.specs.internal.ReasonIsRight.{AreClosingsRead, AreKeysRead, AreRead}
use Rattle.club_check.specs.internal.ReasonIsRight.{HoldsIn, ReasonIsRight}
use Rattle.club_check.specs.internal.Examined.{AreScoresExamined, AreSeenOf, IsAfter, IsPlayExamined, IsPlayed}
use Rattle.club_check.specs.internal.Examined.{WerePlayed}
use Rattle.club_check.specs.internal.Examined.{past, NamesPlay}
use Rattle.club_check.specs.internal.Places.{last_moment, IsRegisterOf}
use Rattle.club_check.specs.RightTables.{AreOfClub, HasTable}
use Rattle.club_check.specs.internal.RightTables.{ArePlayed, AreRightBefore, AreScored, AreSeated, HasScores, IsOfPlay}
use Rattle.club_check.specs.RightTables.{rows_in, IsFirstIn, IsRight}
use Rattle.club_check.specs.internal.RightTables.{NamesScores, IsWrongOfPlay, NamesExamined}
use Rattle.club_check.specs.RightTables.{NamesFirstDamaged}
use Rattle.club_check.specs.Versions.{HasClub, HoldsRows}
use Rattle.club_check.specs.declared.fault.OpenFault.{OpenFault}
use Rattle.club_check.specs.declared.fault.OpenFault.TheVariants.{Damaged}
use Rattle.store_tables.specs.internal.Rows.{HaveIds}
use Rattle.club_check.proofs.StoredLemmas.{unique_of, club_of_version}
use Rattle.club_check.proofs.ExaminedLemmas.{played_after}
use Rattle.club_check.proofs.ClubLemmas.{before, typed_at, keeps_same, none_declared, games_kept, one_row}
use Rattle.club_check.proofs.FirstWrong.{held_same}
use Rattle.club_check.proofs.KeptLemmas.{closings_kept, keys_kept}
use Rattle.club_check.proofs.PeopleLemmas.{HasAllPeople, closings_absent, closings_none, closings_same, is_third}
use Rattle.club_check.proofs.PeopleLemmas.{keys_absent, keys_none, keys_same, none_said, of_either, rules_same}
use Rattle.club_check.proofs.PeopleLemmas.{without_arbiter}
use Rattle.club_check.proofs.FirstWrong.{stores_of, types_none, types_same, rows_at}
use Rattle.club_check.proofs.FirstWrong.{shown_held, keeps_held, all_upto, club_has, club_rows, events_told, legal_of}
use Rattle.club_check.proofs.ClubLemmas.{among_game}
use Rattle.club_check.proofs.FirstWrong.{closings_in, keys_in, members_told, people_upto, right_upto, rules_told}
use Rattle.club_check.proofs.ToldLemmas.{club_told, in_version}
use Rattle.club_check.proofs.ClubLemmas.{challenges_once, game_among}
use Rattle.club_check.proofs.FirstWrong.{JudgesChallenges, judged_among}
use Rattle.sqlite.specs.Tree.{Trees}
use Rattle.sqlite_trees.proofs.ListLemmas.{all_both}
use Rattle.club_check.specs.internal.RightMoves.{HaveGamesOf, HaveSeenOf, moves_in, rulings_at, seen_in}
use Rattle.store_tables.specs.Changes.{HaveSame}
use Rattle.club_check.proofs.RowLemmas.{seen_had, same_back, each_once, score_key, table_gathered}
use Rattle.club_check.proofs.RulingLemmas.{no_rows, none_ruled, rulings_absent, rulings_held}
use Rattle.club_check.proofs.JudgedPlay.{play_told, JudgesPlay}
use Rattle.store_tables.specs.internal.Changes as changes

-- ---- scores

pub score_types_wrong : (rows : Rows) (old : State) (e : OpenFault) → ReasonIsRight Scores (scores 14) IsScore old e
    → NamesScores rows old.now e
score_types_wrong rows old e = types_none Scores (scores 14) IsScore (λ version content. HasScores rows content) old e
    (λ version content holds has. (
      stores_of (scores 14) 7 refl refl holds,
      types_same IsScore (content 14) (tables_of both_games has.state 14) has.same.there
          (scores_typed both_games has.state.games),
    ))

-- rows of scores that were judged to be other ones are those of no club with these games
pub scores_none : (rows : Rows) (scored_rows : List ScoreRow) (old new : State)
    → IsReadAs (scores 14) 3 (map score_cells scored_rows) old new
    → ((s : ClubState) → AreGamesOf s rows.games.items
    → AreEachOnce (map score_cells scored_rows) (scores_in both_games s.games) → false ≡ true)
    → HoldsNone old.now (λ version content. HasScores rows content)
scores_none rows scored_rows old new read complete version content holds has =
    let s = has.state in
    let made = tables_of both_games s 14 in
    let stored : Stores (scores 14) (club_trees old.now) content = stores_of (scores 14) 7 refl refl holds in
    let keyed = score_key (club_trees old.now) (unique_of version old.now content holds)
    (λ r h. all_has IsScore made (cells (scores 14) r) (scores_typed both_games s.games)
    (has.same.there (cells (scores 14) r) (stored.rows.only r h))) in
    let once = each_once (scores 14) 3 (1 ∷ 2 ∷ 3 ∷ []) (map score_cells scored_rows) made old new keyed
    (keeps_same (scores 14) (club_trees old.now) (content 14) made has.same stored.rows) read in
    true≢false (sym (complete s (record { few = has.legal.game_count; rows_are = has.games }) once))

-- nor those of a club whose register the rows are
pub scores_blamed : (rows : Rows) (version : Version) (db : Database)
    → HoldsNone db (λ version content. HasScores rows content) → NamesPlay rows version db (Damaged Scores)
scores_blamed rows version db none = (
  Scores,
  refl,
  λ s own register holds. none version (tables_at version s) holds (record {
    state = s;
    legal = club_of_version version s own;
    games = register.games;
    same = same_by _ _ (rows_at version s Scores (omega arith) tt);
  }),
)

-- ---- what was examined

pub none_played : (o : Option Table) → o ≡ None → IsPlayed o
none_played o none t is = cc

pub meta_played : (o : Option Table) → (o ≡ None) ⊎ (o ≡ Some Meta) → IsPlayed o
meta_played o (inl none) = none_played o none
meta_played o (inr last) = λ t is. same_Some t Meta (sym is ∙ last)

-- what was examined of the games, the moves and the rulings, where no table up to the games is wrong
pub are_seated : {rows : Rows} {last : Option ℕ} {wrong : Option Table} {version : Version} {old new : State}
    → IsPlayExamined rows last wrong version old new → IsAfter Games wrong → HaveIds rows → (s : ClubState)
    → HasPeople s rows → AreApartGames rows.games.items → AreSeated rows version old.now
are_seated play after ids s people apart = record {
  moves = play.games.moves_right (λ t is. let later = after t is in omega (arith, later)) ids s people;
  rulings = play.games.rulings_right (λ t is. let later = after t is in omega (arith, later)) ids s people;
  apart = apart;
  found = play.games.seated after;
  none_left = play.games.moves_end after;
  none_ruled = play.games.rulings_end after;
}

pub are_played : {rows : Rows} {last : Option ℕ} {wrong : Option Table} {version : Version} {old new : State}
    → IsPlayExamined rows last wrong version old new → IsPlayed wrong → HaveIds rows → (s : ClubState)
    → HasPeople s rows → AreApartGames rows.games.items → ArePlayed rows version old.now
are_played {wrong} play played ids s people apart = record {
  seated = record {
    moves = play.games.moves_right (played_after Moves (omega arith) wrong played) ids s people;
    rulings = play.games.rulings_right (played_after Rulings (omega arith) wrong played) ids s people;
    apart = apart;
    found = λ t its. (play.games.played played t its).played;
    none_left = λ t its. (play.games.none_rests played t its).moves;
    none_ruled = λ t its. (play.games.none_rests played t its).rulings;
  };
  seen_are = λ t its. (play.games.played played t its).seen_are;
  none_seen = λ t its. (play.games.none_rests played t its).seen;
}

pub are_scored : {rows : Rows} {old mid new : State} → IsUnchanged old mid → AreScoresExamined rows mid new
    → AreScored rows old.now
are_scored same scored = record {
  scored = scored.rows_of;
  keeps = before (λ d. Keeps (scores 14) (club_trees d) scored.rows_of) same scored.read.keeps;
  are = scored.are;
}

-- a table that is named before the scores is one of play
pub before_last : (wrong before : Option Table) (t : Table) → wrong ≡ Some t → before ≡ Some t
    → (wrong ≡ Some Meta → before ≡ None) → IsOfPlay t ⊎ (t ≡ Meta) → IsOfPlay t
before_last wrong before t is first none (inl play) = play
before_last wrong before t is first none (inr last) = absurd (cc (none (is ∙ ap Some last)))

-- ---- the club of what was read

-- What was read of a club, with its games and their moves.
pub record IsClubRead (rows : Rows) (version : Version) (old mid : State) : Type 0 where
  pub read : AreRead version rows old mid
  pub state : ClubState
  pub arbiter : state.has_arbiter ≡ is_third version
  pub people : HasPeople state rows
  pub keys : AreKeysOf state.members rows.keys.items
  pub closings : AreClosingsOf state.events rows.closings.items
  pub closed_by : Each (ClosedBy state.last) state.events
  pub within : state.last ≤ last_moment
  pub challenges : AreChallenges state.challenges rows
  pub apart : AreApartGames rows.games.items
  pub found : WerePlayed state rows.games.items version (club_trees old.now) (length rows.games.items)
  pub none_left : length (past (length rows.games.items) (moves_in (club_trees old.now))) ≡ 0
  pub none_ruled : length (past (length rows.games.items) (rulings_at version (club_trees old.now))) ≡ 0

module _ {rows : Rows} {version : Version} {old mid : State} (it : IsClubRead rows version old mid) where
  abbrev pub club_of_read : ClubState
  club_of_read = record it.state { games = it.found.games }

  pub rows_of_read : map game_cells rows.games.items ≡ tables_of both_games club_of_read 10
  rows_of_read = ap (map game_cells) (sym (take_all (length rows.games.items) rows.games.items (omega arith)))
      ∙ it.found.rows_are

  -- before schema 3 no game has a ruling
  unruled_of : (v : Version) → is_third v ≡ false → (n : ℕ) (any : ClubGame)
      → HaveSame (beginning_with (pos (1 + n)) (rulings_at v (club_trees old.now))) (rows_of_rulings (1 + n) any)
      → rulings_of any ≡ []
  unruled_of V1 other n any same = none_ruled (1 + n) any (no_rows (rows_of_rulings (1 + n) any) (λ z h. same.back z h))
  unruled_of V2 other n any same = none_ruled (1 + n) any (no_rows (rows_of_rulings (1 + n) any) (λ z h. same.back z h))
  unruled_of V3 other n any same = absurd (true≢false other)

  few : length it.found.games ≤ 5000
  few = let count = it.found.number_of in let low = it.apart.few in omega (arith, count, low)

  legal_read : IsClub club_of_read
  legal_read = record {
    last = it.within;
    members = it.people.members.legal;
    member_count = it.people.members.count;
    member_names = it.people.members.names;
    member_keys = it.keys.apart;
    events = it.people.events.legal;
    event_count = it.people.events.count;
    event_names = it.people.events.names;
    closings = it.closed_by;
    games = λ n any at. game-elsewhere it.state it.found.games any (it.found.legal n any at);
    game_count = few;
    game_keys = keys-of it.state it.found.games rows.games.items rows_of_read it.apart.keys;
    challenges = challenges-of it.state rows it.people it.found.games rows_of_read it.challenges.legal;
    challenge_numbers = it.challenges.numbers;
    without_arbiter = λ none.
        let other = sym it.arbiter ∙ none in
        without_arbiter club_of_read rows.keys.items rows.closings.items it.keys it.closings
        (keys_none version rows.keys.items old mid it.read.keys other)
        (closings_none version rows.closings.items old mid it.read.closings other)
        (λ n any at. unruled_of version other n any (it.found.rulings_are n any at));
  }

  pub version_read : IsClubOf version club_of_read
  version_read = of_either version club_of_read legal_read it.arbiter
      (λ is. none_declared 1 it.state.events rows.events.items
      (sym (none_said version rows.events.items rows.event_rules.items old mid it.read.rules is) ∙ it.people.rules))

  pub moves_same : HaveSame (moves_in (club_trees old.now)) (tables_of both_games club_of_read 8)
  moves_same = table_gathered (rows_of_moves both_games it.state.events)
      (λ id g z h. moves_had both_games it.state.events id g z h) (moves_in (club_trees old.now)) it.found.games
      (subst (λ n. length (past n (moves_in (club_trees old.now))) ≡ 0) (sym it.found.number_of) it.none_left)
      it.found.moves_are

  pub ruled_same_club : HaveSame (rulings_at version (club_trees old.now)) (tables_of both_games club_of_read 20)
  ruled_same_club = table_gathered rows_of_rulings (λ id g z h. rulings_begin id g z h)
      (rulings_at version (club_trees old.now)) it.found.games
      (subst (λ n. length (past n (rulings_at version (club_trees old.now))) ≡ 0) (sym it.found.number_of)
      it.none_ruled) it.found.rulings_are

  pub seen_same : AreSeenOf it.found.games (club_trees old.now)
      → length (past (length rows.games.items) (seen_in (club_trees old.now))) ≡ 0
      → HaveSame (seen_in (club_trees old.now)) (tables_of both_games club_of_read 12)
  seen_same seen_are none = table_gathered (rows_of_seen both_games) (λ id g z h. seen_had id g z h)
      (seen_in (club_trees old.now)) it.found.games
      (subst (λ n. length (past n (seen_in (club_trees old.now))) ≡ 0) (sym it.found.number_of) none) seen_are

  pub scores_same : (scored : List Row)
      → ((s : ClubState) → AreGamesOf s rows.games.items → AreEachOnce scored (scores_in both_games s.games))
      → HaveSame scored (tables_of both_games club_of_read 14)
  scores_same scored are = (are club_of_read (record { few = few; rows_are = rows_of_read })).same

  -- the rulings of the content are the club's
  rulings_upto : (v : Version) (content : Content) → HoldsRows v content old.now
      → HaveSame (rulings_at v (club_trees old.now)) (tables_of both_games club_of_read 20) → HasTable Rulings v
      → HaveSame (content 20) (tables_of both_games club_of_read 20)
  rulings_upto V1 content holds same there = absurd there
  rulings_upto V2 content holds same there = absurd there
  rulings_upto V3 content holds same there =
      same_then (content 20) (rulings_at V3 (club_trees old.now)) (tables_of both_games club_of_read 20)
      (same_back _ _ (rulings_held V3 old.now content holds)) same

  module _ (content : Content) (holds : HoldsRows version content old.now) where
    same_upto : (u : Table) → order u ≤ order Scores
        → (order Games < order u → HaveSame (content 12) (tables_of both_games club_of_read 12))
        → (order Seen < order u → HaveSame (content 14) (tables_of both_games club_of_read 14)) → HasTable u version
        → HaveSame (rows_in u content) (rows_in u (tables_of both_games club_of_read))
    same_upto Members low ss ps there = subst (HaveSame (content 1)) it.people.members.rows_are
        (held_same (members 1) 1 refl refl holds it.read.members.keeps)
    same_upto Keys low ss ps there =
        keys_same version old mid there holds rows.keys.items it.read.keys it.state.members it.keys
    same_upto Events low ss ps there = subst (HaveSame (content 4)) it.people.events.rows_are
        (held_same (events 4) 2 refl refl holds it.read.events.keeps)
    same_upto EventRules low ss ps there = rules_same version old mid there holds rows.events.items
        rows.event_rules.items it.read.rules it.state.events it.people.rules
    same_upto Closings low ss ps there =
        closings_same version old mid there holds rows.closings.items it.read.closings it.state.events it.closings
    same_upto Challenges low ss ps there =
        same_then (content 6) (map challenge_cells rows.challenges.items) (tables_of both_games club_of_read 6)
        (held_same (challenges 6) 3 refl refl holds it.read.challenges.keeps) it.challenges.rows_are.same
    same_upto Moves low ss ps there =
        same_then (content 8) (moves_in (club_trees old.now)) (tables_of both_games club_of_read 8)
        (same_back _ _ (shown_held (moves 8) 4 refl refl holds)) moves_same
    same_upto Rulings low ss ps there = rulings_upto version content holds ruled_same_club there
    same_upto Games low ss ps there =
        subst (HaveSame (content 10)) rows_of_read (held_same (games 10) 5 refl refl holds it.read.games.keeps)
    same_upto Seen low ss ps there = ss (omega arith)
    same_upto Scores low ss ps there = ps (omega arith)
    same_upto Meta low ss ps there = absurd (omega (arith, low))

    -- the club has the rows of each table up to one of play, or to the scores
    club_upto : (t : Table) → order t ≤ order Scores
        → (order Games < order t → HaveSame (content 12) (tables_of both_games club_of_read 12))
        → (order Seen < order t → HaveSame (content 14) (tables_of both_games club_of_read 14))
        → AreOfClub version t content
    club_upto t last ss ps = record {
      state = club_of_read;
      legal = version_read;
      same = λ u there low.
          subst (HaveSame (rows_in u content))
          (sym (rows_at version club_of_read u (omega (arith, last, low)) there))
          (same_upto u (omega (arith, last, low)) (λ later. ss (omega (arith, low, later)))
          (λ later. ps (omega (arith, low, later))) there);
    }

-- the club of games that were read, whatever the last moment is
abbrev seated_read : {rows : Rows} {version : Version} {old mid : State} → AreRead version rows old mid
    → (s : ClubState) → HasAllPeople s rows → (cs : List Challenge) → AreChallenges cs rows
    → AreSeated rows version old.now
    → IsClubRead rows version old mid
seated_read {rows} {version} read s all cs are_cs seated =
    let known : ClubState = record s { has_arbiter = is_third version; last = last_moment; challenges = cs } in
    let own : HasPeople known rows =
    record { members = all.people.members; events = all.people.events; rules = all.people.rules } in
    record {
      read = read;
      state = known;
      arbiter = refl;
      people = own;
      keys = all.keys;
      closings = all.closings;
      closed_by = all.closings.moments;
      within = omega arith;
      challenges = are_cs;
      apart = seated.apart;
      found = seated.found known own;
      none_left = seated.none_left known own;
      none_ruled = seated.none_ruled known own;
    }

-- with their positions, and with the scores
pub played_club : {rows : Rows} {version : Version} {old mid : State} → AreRead version rows old mid → (s : ClubState)
    → HasAllPeople s rows → (cs : List Challenge) → AreChallenges cs rows → ArePlayed rows version old.now
    → (content : Content) → HoldsRows version content old.now → (t : Table) → order t ≤ order Scores
    → (order Seen < order t → AreScored rows old.now) → AreOfClub version t content
played_club {old} read s all cs are_cs played content holds t last scored =
    let it = seated_read read s all cs are_cs played.seated in
    let made = tables_of both_games (club_of_read it) in
    club_upto it content holds t last
    (λ later. same_then (content 12) (seen_in (club_trees old.now)) (made 12)
    (same_back _ _ (shown_held (seen 12) 6 refl refl holds))
    (seen_same it (played.seen_are it.state it.people) (played.none_seen s all.people)))
    (λ later.
    let its = scored later in
    same_then (content 14) its.scored (made 14) (held_same (scores 14) 7 refl refl holds its.keeps)
    (scores_same it its.scored its.are))

stored_same : (schema : Schema) (db : Trees) (one other : Content) → changes.AreSame schema one other
    → AreStored schema db one → AreStored schema db other
stored_same schema db one other =
    all_both (λ t. HaveSame (one t.tree) (other t.tree)) (λ t. Stores t db one) (λ t. Stores t db other)
    (λ t same stores. record {
      rows = keeps_same t db (one t.tree) (other t.tree) same stores.rows;
      apart = stores.apart;
    }) schema.tables

-- no table of a database with the tables of a legal club is called damaged
good_undamaged : (oldest version : Version) (s : ClubState) → IsClubOf version s → (db : Database)
    → HasClub version db s → (e : OpenFault) → IsRightFault oldest db e → (t : Table) → e ≢ Damaged t
good_undamaged oldest version s own db holds e (inl (inl store)) t is = cc
good_undamaged oldest version s own db holds e (inl (inr (inl memory))) t is = cc
good_undamaged oldest version s own db holds e (inl (inr (inr (u, named, wrong)))) t is =
    wrong version (tables_at version s) holds (typed_at version s (club_of_version version s own) u)
good_undamaged oldest version s own db holds e (inr (inl (n, named, other, has))) t is = cc
good_undamaged oldest version s own db holds e (inr (inr (inl (named, none)))) t is = cc
good_undamaged oldest version s own db holds e (inr (inr (inr (u, named, none)))) t is = none version s own holds

-- a club with all rows is what the database holds, and that is blamed for no table
pub whole_unblamed : (oldest : Version) (old : State) (e : OpenFault) → IsRightFault oldest old.now e → (v : Version)
    (content : Content) → HoldsRows v content old.now → AreOfClub v Meta content → (t : Table)
    → e ≢ Damaged t
whole_unblamed oldest old e names v content holds club =
    let all : HasClub v old.now club.state = record {
      schema = holds.schema;
      told = club_told v club.state club.legal old.now.schema;
      sound = holds.sound;
      tables = stored_same (schema_of v) (club_trees old.now) content (tables_at v club.state)
          (same_all v club) holds.tables;
    } in
    good_undamaged oldest v club.state club.legal old.now all e names
  where
    same_all : (v : Version) (club : AreOfClub v Meta content)
        → changes.AreSame (schema_of v) content (tables_at v club.state)
    same_all V1 club =
        club.same Meta tt (omega arith)
        & club.same Members tt (omega arith)
        & club.same Events tt (omega arith)
        & club.same Challenges tt (omega arith)
        & club.same Moves tt (omega arith)
        & club.same Games tt (omega arith)
        & club.same Seen tt (omega arith)
        & club.same Scores tt (omega arith) & tt
    same_all V2 club =
        club.same Meta tt (omega arith)
        & club.same Members tt (omega arith)
        & club.same Events tt (omega arith)
        & club.same Challenges tt (omega arith)
        & club.same Moves tt (omega arith)
        & club.same Games tt (omega arith)
        & club.same Seen tt (omega arith)
        & club.same Scores tt (omega arith)
        & club.same EventRules tt (omega arith) & tt
    same_all V3 club =
        club.same Meta tt (omega arith)
        & club.same Members tt (omega arith)
        & club.same Events tt (omega arith)
        & club.same Challenges tt (omega arith)
        & club.same Moves tt (omega arith)
        & club.same Games tt (omega arith)
        & club.same Seen tt (omega arith)
        & club.same Scores tt (omega arith)
        & club.same EventRules tt (omega arith)
        & club.same Keys tt (omega arith)
        & club.same Rulings tt (omega arith)
        & club.same Closings tt (omega arith) & tt

-- ---- a legal club that has the rows of a file up to the games has the people and the games that were read of it

-- its rulings are those that are shown
rulings_told_of : (v : Version) (db : Database) (content : Content) → HoldsRows v content db → {t : Table}
    (club : AreOfClub v t content) → order Rulings ≤ order t
    → HaveSame (rulings_at v (club_trees db)) (tables_of both_games club.state 20)
rulings_told_of V1 db content holds club upto =
    same_by _ _ (sym (rulings_absent club.state (legal_of club) club.legal.no_arbiter))
rulings_told_of V2 db content holds club upto =
    same_by _ _ (sym (rulings_absent club.state (legal_of club) club.legal.1))
rulings_told_of V3 db content holds club upto = same_then (rulings_at V3 (club_trees db)) (content 20)
    (tables_of both_games club.state 20) (rulings_held V3 db content holds)
    (club_rows club Rulings (omega arith) upto tt)

module _ (rows : Rows) (version : Version) (old new : State) (read : AreRead version rows old new)
    (one : HoldsIn version old.now) (v : Version) (content : Content) (holds : HoldsRows v content old.now) where
  read_as : AreRead v rows old new
  read_as = subst (λ w. AreRead w rows old new) (sym (one v content holds)) read

  people_told : {t : Table} (club : AreOfClub v t content) → order EventRules ≤ order t → HasPeople club.state rows
  people_told club upto =
      let es_are = events_told holds club (omega (arith, upto)) rows.events.items read.events in
      record {
        members = members_told holds club rows.members.items read.members;
        events = es_are;
        rules = rules_told v old new holds club upto rows.events.items rows.event_rules.items es_are.rows_are
            read_as.rules;
      }

  games_are : {t : Table} (club : AreOfClub v t content) → order Games ≤ order t
      → map game_cells rows.games.items ≡ tables_of both_games club.state 10
  games_are club upto = games_kept club.state
      (keeps_held (games 10) 5 refl refl holds (club_rows club Games (omega arith) upto tt)) read.games

  pub games_told : {t : Table} (club : AreOfClub v t content) → order Games ≤ order t
      → HaveGamesOf rows (moves_in (club_trees old.now)) (rulings_at v (club_trees old.now))
  games_told club upto = record {
    state = club.state;
    legal = legal_of club;
    people = people_told club (omega (arith, upto));
    games = games_are club upto;
    same = same_then (moves_in (club_trees old.now)) (content 8) (tables_of both_games club.state 8)
        (shown_held (moves 8) 4 refl refl holds) (club_rows club Moves (omega arith) (omega (arith, upto)) tt);
    ruled = rulings_told_of v old.now content holds club (omega (arith, upto));
  }

  -- and one that has those up to the positions has these, too
  seen_told : AreOfClub v Seen content
      → HaveSeenOf rows (moves_in (club_trees old.now)) (rulings_at v (club_trees old.now)) (seen_in (club_trees old.now))
  unfolding games_told
  seen_told club = record {
    games = games_told club (omega arith);
    same = same_then (seen_in (club_trees old.now)) (content 12) (tables_of both_games club.state 12)
        (shown_held (seen 12) 6 refl refl holds) (club_rows club Seen (omega arith) (omega arith) tt);
  }

  -- a club with the rows up to the scores has these games
  has_scores : AreOfClub v Scores content → HasScores rows content
  has_scores club = record {
    state = club.state;
    legal = legal_of club;
    games = games_are club (omega arith);
    same = club_rows club Scores (omega arith) (omega arith) tt;
  }

-- the rows of keys and of closings that were read of a legal club are its own
keys_are : (v : Version) (s : ClubState) → IsClubOf v s → (old new : State) → HasClub v old.now s → (rows : List KeyRow)
    → AreKeysRead v rows old new → map key_cells rows ≡ gathered_from rows_of_keys 1 s.members
keys_are V1 s own old new holds rows read = keys_absent s own.club own.no_arbiter read.1
keys_are V2 s own old new holds rows read = keys_absent s own.0 own.1 read.1
keys_are V3 s own old new holds rows read =
    keys_kept s own.0 holds (keys_in old.now (tables_at V3 s) holds).rows read

closings_are : (v : Version) (s : ClubState) → IsClubOf v s → (old new : State) → HasClub v old.now s
    → (rows : List ClosingRow) → AreClosingsRead v rows old new
    → map closing_cells rows ≡ gathered_from rows_of_closing 1 s.events
closings_are V1 s own old new holds rows read = closings_absent s own.club own.no_arbiter read.1
closings_are V2 s own old new holds rows read = closings_absent s own.0 own.1 read.1
closings_are V3 s own old new holds rows read =
    closings_kept s (closings_in old.now (tables_at V3 s) holds).rows read

-- The rows that were read of a legal club are its own.
pub club_read : (version other : Version) (s : ClubState) → IsClubOf other s → (rows : Rows) (old new : State)
    → HoldsIn version old.now → HasClub other old.now s → AreRead version rows old new → IsRegisterOf s rows
club_read version other s own rows old new one holds read =
    let content = tables_at other s in
    let club = club_has other s Meta own in
    let people = people_told rows version old new read one other content holds club (omega arith) in
    let as_other = read_as rows version old new read one other content holds in
    record {
      last = elim read.meta [
        | inl only ↦ (one_row other s own rows.meta.id rows.meta.schema rows.meta.last
            (moved (meta 0) (club_trees old.now) (meta_cells rows.meta ∷ []) (content 0) only.0.keeps
            (stores_of (meta 0) 0 refl refl holds).rows (meta_cells rows.meta) (inl refl))).1
        | inr (assumed, never, none, shown) ↦ absurd (none other content holds (typed_at other s (legal_of club) Meta))
      ];
      members = people.members.rows_are;
      keys = keys_are other s own old new holds rows.keys.items as_other.keys;
      events = people.events.rows_are;
      rules = people.rules;
      closings = closings_are other s own old new holds rows.closings.items as_other.closings;
      challenges = challenges_once other content (map challenge_cells rows.challenges.items) old new holds
          (stores_of (challenges 6) 3 refl refl holds) s.challenges
          (club_rows club Challenges (omega arith) (omega arith) tt) read.challenges;
      games = games_are rows version old new read one other content holds club (omega arith);
    }

-- ---- what is named of what was examined

module _ (rows : Rows) (version : Version) (old mid : State) (read : AreRead version rows old mid)
    (one : HoldsIn version old.now) (s : ClubState) (all : HasAllPeople s rows)
    (right : HoldsOnly old.now (λ v content. AreOfClub v Closings content)) where
  module _ (content : Content) (holds : HoldsRows version content old.now) where
    same_games : HaveSame (content 10) (map game_cells rows.games.items)
    same_games = held_same (games 10) 5 refl refl holds read.games.keeps

    judges : JudgesChallenges rows content
    judges = judged_among rows s all.people read.members.keeps read.events.keeps read.challenges version content holds
        (game_among rows.games.items (content 10) same_games) (among_game rows.games.items (content 10) same_games)

    judged : JudgesPlay version content rows old.now
    judged = play_told rows version old mid read s all.people content holds

    games_of : (cs : List Challenge) → AreChallenges cs rows → AreSeated rows version old.now
        → AreOfClub version Games content
    games_of cs are seated = club_upto (seated_read read s all cs are seated) content holds Games (omega arith)
        (λ later. absurd (omega (arith, later))) (λ later. absurd (omega (arith, later)))

    played_of : (cs : List Challenge) → AreChallenges cs rows → ArePlayed rows version old.now → (t : Table)
        → order t ≤ order Scores → (order Seen < order t → AreScored rows old.now) → AreOfClub version t content
    played_of cs are played = played_club read s all cs are played content holds

    -- where it is one of play
    before_of : {t : Table} → IsWrongOfPlay rows version old.now t → AreRightBefore rows version old.now t
    before_of wrong = elim wrong.before [
      | inl unheld ↦ absurd (unheld version content holds tt)
      | inr before ↦ before
    ]

    play_named : (t : Table) → IsWrongOfPlay rows version old.now t → ¬ IsRight t version content
    unfolding games_told seen_told
    play_named Moves wrong its = wrong.moves refl content holds (judged.moves.0 its)
    play_named Rulings wrong its = wrong.rulings refl content holds (judged.rulings.0 its)
    play_named Games wrong club = wrong.games refl content holds
        (games_told rows version old mid read one version content holds club (omega arith))
    play_named Seen wrong club = wrong.seen refl content holds
        (seen_told rows version old mid read one version content holds club)
    play_named _ wrong its = let (low, high) = wrong.play in absurd (omega (arith, low, high))

    play_first : (t : Table) → IsWrongOfPlay rows version old.now t → (cs : List Challenge) → AreChallenges cs rows
        → IsFirstIn version content t
    play_first t wrong cs are =
        let before = before_of wrong in
        let high = wrong.play.1 in
        record {
          before = λ u low. right_upto version content (right version content holds) u (omega (arith, low, high))
              (λ later. judges.0 cs are)
              (λ later. judged.moves.1 (before.moves (omega (arith, low, later)) content holds))
              (λ later. judged.rulings.1 (before.rulings (omega (arith, low, later)) content holds))
              (λ later. games_of cs are (before.games (omega (arith, low, later))));
          named = play_named t wrong;
        }

    -- what is right before the scores or `meta`, where the games were played
    played_upto : (cs : List Challenge) → AreChallenges cs rows → ArePlayed rows version old.now → (top : Table)
        → order top ≤ order Scores → (order Seen < order top → AreScored rows old.now) → (u : Table)
        → order u ≤ order top → IsRight u version content
    played_upto cs are played top last scored = all_upto version content top (played_of cs are played top last scored)
        (judges.0 cs are) (judged.moves.1 (played.seated.moves content holds))
        (judged.rulings.1 (played.seated.rulings content holds))

  pub first_examined : (e : OpenFault) (oldest : Version) → IsRightFault oldest old.now e
      → NamesExamined rows version old.now e → NamesFirstDamaged old.now e
  first_examined e oldest blamed names t is =
      in_version version old.now one (λ v content. IsFirstIn v content t) (λ content holds. elim (names t is) [
        | inl (named, none) ↦ subst (IsFirstIn version content) (sym named) (record {
          before = λ u low.
              people_upto version Closings content (omega arith) (right version content holds) u (omega (arith, low));
          named = λ its. let (cs, are) = (judges content holds).1 its in none cs are;
        })
        | inr ((cs, are), inl wrong) ↦ play_first content holds t wrong cs are
        | inr ((cs, are), inr (inl (named, played, none))) ↦ subst (IsFirstIn version content) (sym named) (record {
          before = λ u low. played_upto content holds cs are played Seen (omega arith)
              (λ later. absurd (omega (arith, later))) u (omega (arith, low));
          named = λ club.
              none version content holds (has_scores rows version old mid read one version content holds club);
        })
        | inr ((cs, are), inr (inr (named, played, scored))) ↦ subst (IsFirstIn version content) (sym named) (record {
          before = λ u low. played_upto content holds cs are played Scores (omega arith) (λ later. scored) u
              (omega (arith, low));
          named = λ club. whole_unblamed oldest old e blamed version content holds club t is;
        })
      ])
