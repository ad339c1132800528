-- Challenges are judged alike by a file and by what is known of its games, where a value of theirs is of another type than
-- its column; and the table that is named then.
use Rattle.std.proofs.Common.{◌≡◌, ℕ, ℤ, pos, ◌+◌, ◌≤◌, List, [], ◌∷◌, ◌++◌, map, take, None, Some, Option, refl}
use Rattle.std.proofs.Common.{ap, sym, subst, subst₂, ◌∙◌, arith, inl, inr, ◌⊎◌, ◌≢◌, negsuc, true≢false}
use Rattle.std.specs.Prelude.{slice_get, All, IsTrue, string_bytes}
use Rattle.std.specs.List.{AllByRecursion}
use Rattle.std.specs.declared.cmp.Ordering.TheVariants.{Equal}
use Rattle.std.proofs.lemmas.Str.{IsUtf8-string_bytes}
use Rattle.sqlite_value.specs.Order.{value_cmp}
use Rattle.sqlite_value.specs.declared.value.Value.{Value}
use Rattle.sqlite_value.specs.declared.value.Value.TheVariants.{Int}
use Rattle.sqlite.specs.Effect.{Database}
use Rattle.sqlite.specs.Order.{Row, column}
use Rattle.sqlite.specs.State.{State, IsUnchanged}
use Rattle.sqlite.specs.Values.{IsInt, or_null}
use Rattle.sqlite_rules.specs.Lists.{Has}
use Rattle.sqlite_rules.proofs.ListLemmas.{all_has, has_got}
use Rattle.sqlite_trees.specs.Tree.{IsAscending}
use Rattle.sqlite_trees.specs.View.{is_int}
use Rattle.club_core.specs.declared.challenges.Challenge.{Challenge}
use Rattle.club_core.specs.declared.seats.Pairing.{Pairing}
use Rattle.club_rows.specs.Club.{ClubState}
use Rattle.club_rows.specs.FirstSchema.{tables_at}
use Rattle.club_rows.specs.Tables.{number}
use Rattle.club_audit.specs.FirstWrong.{order}
use Rattle.club_audit.specs.internal.Audit.{HasPeople}
use Rattle.club_audit.specs.internal.ChallengeAudit.{AreChallenges, IsGameAmong}
use Rattle.store_tables.specs.Cells.{IsGame, OrNull, event_cells, game_cells}
use Rattle.store_tables.specs.internal.Cells.{challenge_cells, member_cells}
use Rattle.store_tables.specs.Changes.{HaveSame}
use Rattle.store_tables.specs.Content.{AreApart, Keeps}
use Rattle.store_tables.specs.Contents.{Content}
use Rattle.store_tables.specs.Placed.{club_trees}
use Rattle.store_tables.specs.Tables.{challenges, events, games, members}
use Rattle.store_tables.specs.internal.Reading.{ReturnsRows, AreIds}
use Rattle.store_tables.specs.internal.Rows.{HaveIds}
use Rattle.store_tables.specs.declared.names.Table.{Table}
use Rattle.store_tables.specs.declared.names.Table.TheVariants.{Closings, Games, Meta, Moves, Rulings, Seen}
use Rattle.store_tables.specs.declared.names.Version.{Version}
use Rattle.store_tables.specs.declared.rows.GameTableRow.{GameTableRow}
use Rattle.store_tables.specs.declared.rows.Rows.{Rows}
use Rattle.store_tables.proofs.Proved.{all_alike, ids_of}
use Rattle.store_sql.specs.internal.Read.{AreCounted, IsReadAs}
use Rattle.club_check.specs.ReasonIsRight.{HoldsOnly, IsRightFault, NamesTable}
use Rattle.club_check.specs.RightMoves.{HaveMoves, HaveRulings}
use Rattle.club_check.specs.RightTables.{AreOfClub, HasGame, HaveChallenges, NamesFirstDamaged}
use Rattle.club_check.specs.Versions.{HoldsRows}
use Rattle.club_check.specs.declared.fault.OpenFault.{OpenFault}
use Rattle.club_check.specs.declared.fault.OpenFault.TheVariants.{Damaged, Memory, Store}
use Rattle.club_check.specs.internal.Examined.{IsPlayExamined, NamesPlay}
use Rattle.club_check.specs.internal.KnownGames.{AreGamesKnown, AreJudged, IsJudged, IsWrongBy, NamesUntyped, game_seat}
use Rattle.club_check.specs.internal.KnownGames.{known, row_seat}
use Rattle.club_check.specs.internal.ReasonIsRight.{HoldsIn}
use Rattle.club_check.specs.internal.RightMoves.{HoldsOnlyOf}
use Rattle.club_check.specs.internal.RightTables.{IsLater, IsOfPlay, IsUntyped, NamesPlayed}
use Rattle.club_check.proofs.ClubLemmas.{mapped_at, before, stays, read_after, typed_at}
use Rattle.club_check.proofs.ExaminedLemmas.{some_after}
use Rattle.club_check.proofs.FirstWrong.{JudgesChallenges, first_games, first_known, first_moves, first_rulings, held_same}
use Rattle.club_check.proofs.FirstWrong.{judged_among, stores_of}
use Rattle.club_check.proofs.JudgedPlay.{AreGamesIn, JudgesPlay}
use Rattle.club_check.proofs.NumberedLemmas.{take_next}
use Rattle.club_check.proofs.RowLemmas.{had_place}
use Rattle.club_check.proofs.RulingLemmas.{text_typed}
use Rattle.club_check.proofs.StoredLemmas.{club_of_version}
use Rattle.club_check.proofs.ToldLemmas.{in_version}

-- ---- what is known of the games where a value of theirs is of another type than its column, and what is named then

-- only the number itself is known to be it
known_number : (v : Value) (n : ℕ) → known v ≡ pos n → v ≡ number n
known_number (Int m) n is = ap Int is
known_number _ n is = cc

-- equal lists of four
seat_parts : (game : GameTableRow) (row : Row) → row_seat row ≡ game_seat game
    → (known (column row 0) ≡ game.id) × (known (column row 2) ≡ game.event) × (known (column row 3) ≡ game.first)
    × (known (column row 4) ≡ game.second)
seat_parts game row is = (cc, cc, cc, cc)

module _ (games : List GameTableRow) (rows shown : List Row) (same : HaveSame rows shown)
    (seats : map game_seat games ≡ map row_seat shown) where
  known_among : (id : ℕ) (p : Pairing) → HasGame rows id p → IsGameAmong games id p
  known_among id p has =
      let (n, there) = had_place shown has.row (same.there has.row has.there) in
      let (game, at, is) = mapped_at row_seat game_seat shown games (sym seats) n has.row there in
      let (id_is, event, first, second) = seat_parts game has.row is in
      record {
        place = n;
        row = game;
        at = at;
        id_is = sym id_is ∙ ap known has.id_is;
        of = record {
          event = sym event ∙ ap known has.event_is;
          first = sym first ∙ ap known has.first_is;
          second = sym second ∙ ap known has.second_is;
        };
      }

  among_known : (id : ℕ) (p : Pairing) → IsGameAmong games id p → HasGame rows id p
  among_known id p among =
      let (row, there, is) = mapped_at game_seat row_seat games shown seats among.place among.row among.at in
      let (id_is, event, first, second) = seat_parts among.row row (sym is) in
      record {
        row = row;
        there = same.back row (has_got shown among.place row there);
        id_is = known_number (column row 0) id (id_is ∙ among.id_is);
        event_is = known_number (column row 2) p.event (event ∙ among.of.event);
        first_is = known_number (column row 3) p.first (first ∙ among.of.first);
        second_is = known_number (column row 4) p.second (second ∙ among.of.second);
      }

-- what the audit lets pass of the rows that were read and of what is known of the games is right in whatever content
-- the database may hold, and back
module _ (rows : Rows) (old two : State) (s : ClubState) (people : HasPeople s rows)
    (kept_ms : Keeps (members 1) (club_trees old.now) (map member_cells rows.members.items))
    (kept_es : Keeps (events 4) (club_trees old.now) (map event_cells rows.events.items))
    (read_cs : IsReadAs (challenges 6) 2 (map challenge_cells rows.challenges.items) old two)
    (shown : List Row) (kept_games : Keeps (games 10) (club_trees old.now) shown)
    (seats : map game_seat rows.games.items ≡ map row_seat shown) (v : Version) (content : Content)
    (holds : HoldsRows v content old.now) where
  same_games : HaveSame (content 10) shown
  same_games = held_same (games 10) 5 refl refl holds kept_games

  pub judged_known : JudgesChallenges rows content
  judged_known = judged_among rows s people kept_ms kept_es read_cs v content holds
      (known_among rows.games.items (content 10) shown same_games seats)
      (among_known rows.games.items (content 10) shown same_games seats)

-- ---- what was shown

module _ (old mid new : State) (count : ℕ) (shown : List Row) (counted : AreCounted 10 count old mid)
    (tells : ReturnsRows (games 10) 1 shown (club_trees mid.now) mid new) where
  kept_shown : Keeps (games 10) (club_trees old.now) shown
  kept_shown = subst (λ (d : Database). Keeps (games 10) (club_trees d) shown) counted.same.0.now_is tells.keeps

  -- rows of games that have the types of their columns were read
  pub read_shown : (slice rows : List Row) → slice ≡ shown → slice ≡ rows → IsReadAs (games 10) 1 rows old new
  read_shown slice rows is same = subst (λ l. IsReadAs (games 10) 1 l old new) (sym is ∙ same)
      (read_after counted.same (record {
        keeps = tells.keeps;
        once = tells.once;
        apart = subst (λ (d : Database). AreApart (club_trees d 10)) (sym counted.same.0.now_is) counted.apart;
        sorted = tells.sorted;
        same = tells.same;
      }))

  -- of others their ids, events and players are known
  pub known_shown : (slice : List Row) (known_rows judged_rows : List GameTableRow) → slice ≡ shown → ¬ All IsGame slice
      → map game_seat known_rows ≡ map row_seat slice → AreJudged slice judged_rows
      → AreGamesKnown known_rows judged_rows old new
  known_shown slice known_rows judged_rows is other seats are = record {
    shown = shown;
    keeps = kept_shown;
    ids = ids_of (games 10) (club_trees mid.now 10) shown (λ r. refl) tells.once
        (subst (λ (d : Database). AreApart (club_trees d 10)) (sym counted.same.0.now_is) counted.apart);
    seats = seats ∙ ap (map row_seat) is;
    judged = subst (λ l. AreJudged l judged_rows) is are;
    untyped = λ version content holds typed. other (subst (All IsGame) (sym is)
        (all_alike (games 10) (club_trees old.now) IsGame shown (content 10) kept_shown
        (stores_of (games 10) 5 refl refl holds).rows typed));
    same = stays counted.same tells.same;
  }

-- a database that did not change has the same games
pub known_before : {known_rows judged_rows : List GameTableRow} {old mid new : State} → IsUnchanged old mid
    → AreGamesKnown known_rows judged_rows mid new → AreGamesKnown known_rows judged_rows old new
known_before same it = record {
  shown = it.shown;
  keeps = before (λ d. Keeps (games 10) (club_trees d) it.shown) same it.keeps;
  ids = it.ids;
  seats = it.seats;
  judged = it.judged;
  untyped = before (IsUntyped Games) same it.untyped;
  same = stays same it.same;
}

-- what is named where games are untyped, of a legal club
pub untyped_blamed : (oldest : Version) (db : Database) (e : OpenFault) → IsUntyped Games db
    → (e ≡ Store) ⊎ ((e ≡ Memory) ⊎ ((t : Table) × (e ≡ Damaged t))) → IsRightFault oldest db e
untyped_blamed oldest db e untyped (inl store) = inl (inl store)
untyped_blamed oldest db e untyped (inr (inl memory)) = inl (inr (inl memory))
untyped_blamed oldest db e untyped (inr (inr (t, named))) = inr (inr (inr (
  t,
  named,
  λ version s own holds.
      untyped version (tables_at version s) holds (typed_at version s (club_of_version version s own) Games),
)))

-- and of which table it is said
pub first_untyped : (known_rows judged_rows : Rows) (version : Version) (db : Database) (e : OpenFault)
    → HoldsIn version db → IsUntyped Games db
    → HoldsOnly db (λ v content. AreOfClub v Closings content)
    → HoldsOnly db (λ v content. JudgesChallenges known_rows content)
    → HoldsOnlyOf version db (λ content. JudgesPlay version content judged_rows db)
    → NamesUntyped known_rows judged_rows version db e → NamesFirstDamaged db e
first_untyped known_rows judged_rows version db e one untyped right judges play (inl store) = λ t is. absurd (cc)
first_untyped known_rows judged_rows version db e one untyped right judges play (inr (inl memory)) = λ t is. absurd (cc)
first_untyped known_rows judged_rows version db e one untyped right judges play (inr (inr (inl (named, none)))) =
    subst (NamesFirstDamaged db) (sym named)
    (first_known db known_rows none right (λ v content holds. (judges v content holds).1))
first_untyped known_rows judged_rows version db e one untyped right judges play
    (inr (inr (inr ((cs, are), (t, named, wrong))))) =
    subst (NamesFirstDamaged db) (sym named) (of t wrong)
  where
    challenges_right : HoldsOnly db (λ v content. HaveChallenges content)
    challenges_right v content holds = (judges v content holds).0 cs are

    of : (t : Table) → IsWrongBy judged_rows version db t → NamesFirstDamaged db (Damaged t)
    of Moves wrong = first_moves db right challenges_right
        (in_version version db one (λ v content. ¬ HaveMoves v content) (λ content holds have.
        wrong.moves refl content holds ((play content holds).moves.0 have)))
    of Rulings wrong = first_rulings db right challenges_right
        (in_version version db one HaveMoves (λ content holds.
        (play content holds).moves.1 (wrong.moves_right (omega arith) content holds)))
        (in_version version db one (λ v content. ¬ HaveRulings v content) (λ content holds have.
        wrong.rulings refl content holds ((play content holds).rulings.0 have)))
    of Games wrong = first_games db untyped right challenges_right
        (in_version version db one HaveMoves (λ content holds.
        (play content holds).moves.1 (wrong.moves_right (omega arith) content holds)))
        (in_version version db one HaveRulings (λ content holds.
        (play content holds).rulings.1 (wrong.rulings_right (omega arith) content holds)))
    of _ wrong = elim wrong.named [
      | inl is ↦ cc
      | inr (inl is) ↦ cc
      | inr (inr is) ↦ cc
    ]

-- ---- moves are judged alike by the games of a content and by those that were read of it, where some have values of
-- other types

-- ---- the rows of games that were read have the types of their columns

number_typed : (o : Option ℤ) → OrNull IsInt (or_null Int o)
number_typed None = inl refl
number_typed (Some n) = inr (n, refl)

cells_typed : (g : GameTableRow) → IsGame (game_cells g)
cells_typed g = record {
  width = refl;
  id = (g.id, refl);
  key = text_typed g.key;
  event = (g.event, refl);
  first = (g.first, refl);
  second = (g.second, refl);
  start = (g.start, refl);
  since = (g.since, refl);
  plies = (g.plies, refl);
  left1 = (g.left1, refl);
  left2 = (g.left2, refl);
  offer_side = number_typed g.offer_side;
  offer_ply = number_typed g.offer_ply;
  end = text_typed g.end;
  result = text_typed g.result;
  position = (string_bytes g.position, refl, IsUtf8-string_bytes g.position);
  track_a = (g.track_a, refl);
  track_b = (g.track_b, refl);
}

-- ---- the game of a row

known_int : (v : Value) → IsTrue (is_int v) → v ≡ Int (known v)
known_int (Int n) is = refl
known_int _ is = absurd (true≢false (sym is))

judged_id : (row : Row) (game : GameTableRow) → IsTrue (is_int (column row 0)) → IsJudged row game
    → column row 0 ≡ Int game.id
judged_id row game int (inl is) = ap (λ r. column r 0) is
judged_id row game int (inr (other, id, event)) = known_int (column row 0) int ∙ ap Int (sym id)

never_named : (game : GameTableRow) → game.event ≡ negsuc 0 → (n : ℕ) → game.event ≢ pos n
never_named game is n other = cc

game_for : (shown : List Row) (judged : List GameTableRow) → AreJudged shown judged → (row : Row) → Has shown row
    → (game : GameTableRow) × Has judged game × IsJudged row game
game_for [] judged are row has = absurd has
game_for (r ∷ shown) [] are row has = absurd are
game_for (r ∷ shown) (g ∷ judged) are row (inl is) = (g, inl refl, subst (λ x. IsJudged x g) (sym is) are.0)
game_for (r ∷ shown) (g ∷ judged) are row (inr has) =
    let (game, there, is) = game_for shown judged are.1 row has in (game, inr there, is)

row_for : (shown : List Row) (judged : List GameTableRow) → AreJudged shown judged → (game : GameTableRow)
    → Has judged game → (row : Row) × Has shown row × IsJudged row game
row_for shown [] are game has = absurd has
row_for [] (g ∷ judged) are game has = absurd are
row_for (r ∷ shown) (g ∷ judged) are game (inl is) = (r, inl refl, subst (IsJudged r) (sym is) are.0)
row_for (r ∷ shown) (g ∷ judged) are game (inr has) =
    let (row, there, is) = row_for shown judged are.1 game has in (row, inr there, is)

-- what the games are by which moves are judged
pub judged_in : (rows shown : List Row) (judged : List GameTableRow) → HaveSame rows shown → AreIds shown
    → AreJudged shown judged → AreGamesIn judged rows
judged_in rows shown judged same ids are = record {
  there = λ game has.
      let (other, there, is) = game_for shown judged are (game_cells game) (same.there (game_cells game) has) in
      (other, there, own game other is);
  owner = λ row has.
      let shows = same.there row has in
      let (game, there, is) = game_for shown judged are row shows in
      (game, there, judged_id row game (all_has _ shown row ids.ints shows) is);
  back = λ game has. let (row, shows, is) = row_for shown judged are game has in from row game (same.back row shows) is;
  owned = λ game has.
      let (row, shows, is) = row_for shown judged are game has in
      (row, same.back row shows, judged_id row game (all_has _ shown row ids.ints shows) is);
}
  where
    own : (game other : GameTableRow) → IsJudged (game_cells game) other → game_cells game ≡ game_cells other
    own game other (inl is) = is
    own game other (inr (untyped, id, event)) = absurd (untyped (cells_typed game))

    from : (row : Row) (game : GameTableRow) → Has rows row → IsJudged row game
        → Has rows (game_cells game) ⊎ ((n : ℕ) → game.event ≢ pos n)
    from row game has (inl is) = inl (subst (Has rows) is has)
    from row game has (inr (untyped, id, event)) = inr (never_named game event)

-- ---- their ids

abbrev Differ : Row → Row → Type 0
Differ a b = value_cmp (column a 0) (column b 0) ≢ Equal

all_differ : (row : Row) (game : GameTableRow) → column row 0 ≡ Int game.id → (shown : List Row)
    (judged : List GameTableRow) → AllByRecursion (λ x. IsTrue (is_int (column x 0))) shown → AreJudged shown judged
    → AllByRecursion (Differ row) shown → AllByRecursion (Differ (game_cells game)) (map game_cells judged)
all_differ row game same [] [] ints are all = tt
all_differ row game same (r ∷ shown) (g ∷ judged) ints are all = (
  λ equal. all.0 (subst₂ (λ a b. value_cmp a b ≡ Equal) (sym same) (sym (judged_id r g ints.0 are.0)) equal),
  all_differ row game same shown judged ints.1 are.1 all.1,
)
all_differ row game same _ _ ints are all = absurd are

judged_rise : (shown : List Row) (judged : List GameTableRow)
    → AllByRecursion (λ x. IsTrue (is_int (column x 0))) shown → AreJudged shown judged → IsAscending Differ shown
    → IsAscending Differ (map game_cells judged)
judged_rise [] [] ints are rise = tt
judged_rise (r ∷ shown) (g ∷ judged) ints are rise = (
  all_differ r g (judged_id r g ints.0 are.0) shown judged ints.1 are.1 rise.0,
  judged_rise shown judged ints.1 are.1 rise.1,
)
judged_rise _ _ ints are rise = absurd are

all_ints : (judged : List GameTableRow) → AllByRecursion (λ x. IsTrue (is_int (column x 0))) (map game_cells judged)
all_ints [] = tt
all_ints (g ∷ judged) = (refl, all_ints judged)

pub judged_ids : (shown : List Row) (judged : List GameTableRow) → AreIds shown → AreJudged shown judged
    → AreIds (map game_cells judged)
judged_ids shown judged ids are =
    record { apart = judged_rise shown judged ids.ints are ids.apart; ints = all_ints judged }

-- ---- one after another

judged_more : (shown : List Row) (judged : List GameTableRow) (row : Row) (game : GameTableRow) → AreJudged shown judged
    → IsJudged row game → AreJudged (shown ++ row ∷ []) (judged ++ game ∷ [])
judged_more [] [] row game are is = (is, tt)
judged_more (r ∷ shown) (g ∷ judged) row game are is = (are.0, judged_more shown judged row game are.1 is)
judged_more _ _ row game are is = absurd are

pub judged_next : (shown : List Row) (i : ℕ) (judged : List GameTableRow) (row : Row) (game : GameTableRow)
    → AreJudged (take i shown) judged → slice_get shown i ≡ Some row → IsJudged row game
    → AreJudged (take (i + 1) shown) (judged ++ game ∷ [])
judged_next shown i judged row game are at is =
    subst (λ l. AreJudged l (judged ++ game ∷ [])) (sym (take_next shown i row at))
    (judged_more (take i shown) judged row game are is)

-- ---- what is named where rows of games have values of other types, by what reading the moves and rulings came to

-- the table that is named where this one would be
abbrev IsNamedBy : Table → Table → Type 0
IsNamedBy t named = (t ≡ Moves → named ≡ Moves) × (t ≡ Rulings → named ≡ Rulings)
    × (t ≢ Moves → t ≢ Rulings → named ≡ Games)

-- a table of play is not before the one that is named for it
pub record IsNamedOf (t named : Table) : Type 0 where
  pub upto : order named ≤ order t
  pub is : (named ≡ Moves) ⊎ ((named ≡ Rulings) ⊎ (named ≡ Games))
  pub moves : named ≡ Moves → t ≡ Moves
  pub rulings : named ≡ Rulings → t ≡ Rulings

named_of : (t : Table) → IsOfPlay t ⊎ (t ≡ Meta) → (named : Table) → IsNamedBy t named → IsNamedOf t named
named_of Moves later named (one, two, three) =
    subst (IsNamedOf Moves) (sym (one refl)) (record {
      upto = omega arith;
      is = inl refl;
      moves = λ same. refl;
      rulings = λ same. absurd (cc);
    })
named_of Rulings later named (one, two, three) =
    subst (IsNamedOf Rulings) (sym (two refl)) (record {
      upto = omega arith;
      is = inr (inl refl);
      moves = λ same. absurd (cc);
      rulings = λ same. refl;
    })
named_of Games later named (one, two, three) =
    subst (IsNamedOf Games) (sym (three (λ is. cc) (λ is. cc))) (record {
      upto = omega arith;
      is = inr (inr refl);
      moves = λ same. absurd (cc);
      rulings = λ same. absurd (cc);
    })
named_of Seen later named (one, two, three) =
    subst (IsNamedOf Seen) (sym (three (λ is. cc) (λ is. cc))) (record {
      upto = omega arith;
      is = inr (inr refl);
      moves = λ same. absurd (cc);
      rulings = λ same. absurd (cc);
    })
named_of Meta later named (one, two, three) =
    subst (IsNamedOf Meta) (sym (three (λ is. cc) (λ is. cc))) (record {
      upto = omega arith;
      is = inr (inr refl);
      moves = λ same. absurd (cc);
      rulings = λ same. absurd (cc);
    })
named_of t (inl (low, high)) named by = absurd (omega (arith, low, high))
named_of t (inr is) named by = cc

-- what is named where these are wrong
abbrev pub IsNamedIf : Option Table → OpenFault → Type 0
IsNamedIf wrong e = (wrong ≡ Some Moves → e ≡ Damaged Moves) × (wrong ≡ Some Rulings → e ≡ Damaged Rulings)
    × (wrong ≢ Some Moves → wrong ≢ Some Rulings → e ≡ Damaged Games)

table_named : (wrong : Option Table) (e : OpenFault) → IsNamedIf wrong e → (named : Table) × (e ≡ Damaged named)
    × ((t : Table) → wrong ≡ Some t → IsNamedBy t named)
    × (wrong ≡ None → named ≡ Games)
table_named None e (one, two, three) = (Games, three (λ is. cc) (λ is. cc), λ t is. absurd (cc), λ is. refl)
table_named (Some Moves) e (one, two, three) = (
  Moves,
  one refl,
  λ t is. (λ same. refl, λ same. absurd (cc), λ other. absurd (other (cc))),
  λ is. absurd (cc),
)
table_named (Some Rulings) e (one, two, three) = (
  Rulings,
  two refl,
  λ t is. (λ same. absurd (cc), λ same. refl, λ other more. absurd (more (cc))),
  λ is. absurd (cc),
)
table_named (Some u) e (one, two, three) = (
  Games,
  three (λ is. cc) (λ is. cc),
  λ t is. (λ same. absurd (cc), λ same. absurd (cc), λ other more. refl),
  λ is. absurd (cc),
)

pub named_right : (known judged : Rows) (last : Option ℕ) (wrong : Option Table) (version : Version) (old new : State)
    (e : OpenFault)
    → (cs : List Challenge) × AreChallenges cs known → IsPlayExamined judged last wrong version old new → IsLater wrong
    → (s : ClubState) → HasPeople s judged → HaveIds judged → IsNamedIf wrong e
    → NamesUntyped known judged version old.now e
named_right known judged last wrong version old new e right found later s people ids named_if =
    let (named, is, by, none) = table_named wrong e named_if in
    inr (inr (inr (right, (named, is, of wrong refl named by none))))
  where
    of : (o : Option Table) → o ≡ wrong → (named : Table) → ((t : Table) → wrong ≡ Some t → IsNamedBy t named)
        → (wrong ≡ None → named ≡ Games) → IsWrongBy judged version old.now named
    of None same named by none =
        let games : named ≡ Games = none (sym same) in record {
          named = inr (inr games);
          moves = λ is. absurd (cc);
          rulings = λ is. absurd (cc);
          moves_right = λ low. found.games.moves_right (λ t is. absurd (cc)) ids s people;
          rulings_right = λ low. found.games.rulings_right (λ t is. absurd (cc)) ids s people;
        }
    of (Some t) same named by none =
        let its = named_of t (later t (sym same)) named (by t (sym same)) in
        let upto = its.upto in
        record {
          named = its.is;
          moves = λ is. found.games.moves_wrong (sym same ∙ ap Some (its.moves is)) ids s people;
          rulings = λ is. found.games.rulings_wrong (sym same ∙ ap Some (its.rulings is)) ids s people;
          moves_right = λ low.
              found.games.moves_right (some_after Moves wrong t (sym same) (omega (arith, low, upto))) ids s people;
          rulings_right = λ low.
              found.games.rulings_right (some_after Rulings wrong t (sym same) (omega (arith, low, upto))) ids s people;
        }

pub named_damage : (wrong : Option Table) (e : OpenFault) → IsNamedIf wrong e → (t : Table) × (e ≡ Damaged t)
named_damage wrong e named_if = let (named, is, by, none) = table_named wrong e named_if in (named, is)

-- and where reading them failed
pub record IsNamedFor (fault e : OpenFault) : Type 0 where
  pub moves : fault ≡ Damaged Moves → e ≡ Damaged Moves
  pub rulings : fault ≡ Damaged Rulings → e ≡ Damaged Rulings
  pub games : (t : Table) → fault ≡ Damaged t → t ≢ Moves → t ≢ Rulings → e ≡ Damaged Games
  pub other : ((t : Table) → fault ≢ Damaged t) → e ≡ fault

table_for : (fault e : OpenFault) → IsNamedFor fault e → (t : Table) → fault ≡ Damaged t → (named : Table)
    × (e ≡ Damaged named) × IsNamedBy t named
table_for fault e for Moves is = (Moves, for.moves is, (λ same. refl, λ same. absurd (cc), λ other. absurd (other refl)))
table_for fault e for Rulings is =
    (Rulings, for.rulings is, (λ same. absurd (cc), λ same. refl, λ other more. absurd (more refl)))
table_for fault e for t is = (
  Games,
  for.games t is (λ same. absurd (cc)) (λ same. absurd (cc)),
  (λ same. absurd (cc), λ same. absurd (cc), λ other more. refl),
)

module _ (fault e : OpenFault) (for : IsNamedFor fault e) (version : Version) (db : Database) where
  pub named_failed : (known judged : Rows) → (cs : List Challenge) × AreChallenges cs known
      → NamesPlayed judged version db fault → NamesTable db fault ⊎ NamesPlay judged version db fault
      → NamesUntyped known judged version db e
  named_failed known judged right played blamed = go blamed
    where
      at : (t : Table) → fault ≡ Damaged t → NamesUntyped known judged version db e
      at t is =
          let wrong = played t is in
          let (named, e_is, by) = table_for fault e for t is in
          let its = named_of t (inl wrong.play) named by in
          let upto = its.upto in
          inr (inr (inr (
            right,
            (
              named,
              e_is,
              record {
                named = its.is;
                moves = λ same. wrong.moves (its.moves same);
                rulings = λ same. wrong.rulings (its.rulings same);
                moves_right = λ low content holds. elim wrong.before [
                  | inl unheld ↦ absurd (unheld version content holds tt)
                  | inr right_before ↦ right_before.moves (omega (arith, low, upto)) content holds
                ];
                rulings_right = λ low content holds. elim wrong.before [
                  | inl unheld ↦ absurd (unheld version content holds tt)
                  | inr right_before ↦ right_before.rulings (omega (arith, low, upto)) content holds
                ];
              },
            ),
          )))

      go : NamesTable db fault ⊎ NamesPlay judged version db fault → NamesUntyped known judged version db e
      go (inl (inl store)) = inl (for.other (λ t is. cc) ∙ store)
      go (inl (inr (inl memory))) = inr (inl (for.other (λ t is. cc) ∙ memory))
      go (inl (inr (inr (t, is, none)))) = at t is
      go (inr (t, is, none)) = at t is

  pub fault_failed : (judged : Rows) → NamesTable db fault ⊎ NamesPlay judged version db fault
      → (e ≡ Store) ⊎ ((e ≡ Memory) ⊎ ((t : Table) × (e ≡ Damaged t)))
  fault_failed judged blamed = go blamed
    where
      at : (t : Table) → fault ≡ Damaged t → (e ≡ Store) ⊎ ((e ≡ Memory) ⊎ ((t : Table) × (e ≡ Damaged t)))
      at t is = let (named, e_is, by) = table_for fault e for t is in inr (inr (named, e_is))

      go : NamesTable db fault ⊎ NamesPlay judged version db fault
          → (e ≡ Store) ⊎ ((e ≡ Memory) ⊎ ((t : Table) × (e ≡ Damaged t)))
      go (inl (inl store)) = inl (for.other (λ t is. cc) ∙ store)
      go (inl (inr (inl memory))) = inr (inl (for.other (λ t is. cc) ∙ memory))
      go (inl (inr (inr (t, is, none)))) = at t is
      go (inr (t, is, none)) = at t is
