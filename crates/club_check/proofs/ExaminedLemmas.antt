-- The games that were read of a database, one after another, what their rows show, and the club that they are.
use Rattle.std.proofs.Common.{◌≡◌, ◌≢◌, ◌⊎◌, ℕ, zero, suc, pos, ◌+◌, ◌-◌, ◌<◌, ◌≤◌, List, [], ◌∷◌, ◌++◌, length, map, take}
use Rattle.std.proofs.Common.{Some, None, Option, refl, ap, sym, subst, subst₂, ◌∙◌, arith, inl, inr, length-append, ℤ}
use Rattle.std.specs.Prelude.{IfSome, slice_get}
use Rattle.std.proofs.lemmas.List.{map-append, length-map}
use Rattle.std.proofs.lemmas.Option.{same_Some, slice_get_within}
use Rattle.sqlite.specs.Order.{Row}
use Rattle.sqlite.specs.Effect.{Database}
use Rattle.sqlite.specs.State.{State, IsUnchanged}
use Rattle.sqlite.specs.Tree.{Trees}
use Rattle.club_core.specs.LegalState.{IsLegalIn}
use Rattle.club_laws.proofs.Proved.{each-append, got-append}
use Rattle.store_tables.specs.Placed.{HasClubTables, HasTablesOf, club_trees}
use Rattle.store_tables.specs.Cells.{game_cells}
use Rattle.store_tables.specs.Content.{AreApart, cells}
use Rattle.store_tables.specs.internal.Rows.{HaveIds}
use Rattle.store_tables.specs.Tables.{moves, rulings, seen}
use Rattle.store_tables.specs.declared.names.Table.{Table}
use Rattle.store_tables.specs.declared.names.Table.TheVariants.{Moves, Games, Seen, Scores, Meta, Rulings}
use Rattle.store_tables.specs.declared.names.Version.{Version}
use Rattle.store_tables.specs.declared.names.Version.TheVariants.{V1, V2, V3}
use Rattle.store_tables.specs.declared.rows.GameTableRow.{GameTableRow}
use Rattle.store_tables.specs.declared.rows.Rows.{Rows}
use Rattle.store_sql.specs.Read.{beginning_with}
use Rattle.store_sql.specs.internal.Read.{AreCounted}
use Rattle.club_rows.specs.Club.{both_games, ClubGame, ClubState, IsClub}
use Rattle.club_rows.specs.FirstSchema.{IsClubOf}
use Rattle.club_rows.specs.Tables.{numbered_from, row_of_game, rows_of_moves, rows_of_rulings, rows_of_seen}
use Rattle.club_audit.specs.internal.Audit.{AreApartGames, HasPeople, until}
use Rattle.club_audit.proofs.Proved.{keys-in, id-told, numbered-append, numbered-length}
use Rattle.club_audit.specs.FirstWrong.{order}
use Rattle.club_audit.specs.internal.FirstWrong.{Precedes}
use Rattle.club_rows.proofs.Proved.{rulings_begin, same-pos}
use Rattle.club_check.specs.internal.Examined.{AreGamesFound, AreLeftAfter, IsFoundAs, IsGameFound, IsPlayExamined}
use Rattle.club_check.specs.internal.Examined.{NamesPlay}
use Rattle.club_check.specs.internal.Examined.{AreScoresExamined, IsAfter, IsGameOf, IsOf, IsOneOf, IsPlayed}
use Rattle.club_check.specs.internal.Examined.{NamesLeft}
use Rattle.club_check.specs.internal.Examined.{WereFound, WerePlayed, past, AreExamined}
use Rattle.club_check.specs.ReasonIsRight.{NamesTable}
use Rattle.club_check.specs.internal.ReasonIsRight.{AreRulingsCounted}
use Rattle.club_check.specs.internal.Places.{IsMomentOf, IsNoRegister, IsRegisterOf, last_moment}
use Rattle.club_check.specs.declared.fault.OpenFault.{OpenFault}
use Rattle.club_check.specs.declared.fault.OpenFault.TheVariants.{Damaged}
use Rattle.club_check.specs.Versions.{HasClub}
use Rattle.club_check.specs.internal.RightMoves.{HaveSeenOf, MovesRightOf, RulingsRightOf, beyond, id_at, moves_in}
use Rattle.club_check.specs.internal.RightMoves.{AreOwned, HasRulingCount}
use Rattle.club_check.specs.internal.RightMoves.{rulings_at, seen_in, without}
use Rattle.club_check.proofs.StoredLemmas.{club_of_version}
use Rattle.club_check.proofs.NumberedLemmas.{moves_had, take_next}
use Rattle.club_check.proofs.ClubLemmas.{before, stays, read_after, events_of, members_of}
use Rattle.club_check.proofs.FirstWrong.{rows_at}
use Rattle.club_check.proofs.FirstWrong.{shown_held}
use Rattle.club_check.proofs.RowLemmas.{seen_had, last_or, past_step, table_past, beyond_step, id_of_game, ids_apart}
use Rattle.club_check.proofs.RowLemmas.{moves_gathered, none_beyond, rulings_gathered, seen_owned}
use Rattle.club_check.proofs.RulingLemmas.{rulings_shown}
use Rattle.store_tables.specs.Changes.{HaveSame}
use Rattle.club_check.specs.internal.Faults.{told}

-- ---- wrong tables

-- where only `meta` is wrong, nothing is up to a table before it
pub played_after : (table : Table) → order table < order Meta → (wrong : Option Table) → IsPlayed wrong
    → IsAfter table wrong
played_after table low wrong played t is = subst (λ (u : Table). order table < order u) (sym (played t is)) low

pub some_after : (table : Table) (wrong : Option Table) (named : Table) → wrong ≡ Some named → order table < order named
    → IsAfter table wrong
some_after table wrong named is low t other =
    subst (λ (u : Table). order table < order u) (same_Some named t (sym is ∙ other)) low

pub after_precedes : (table : Table) (wrong : Option Table) → IsAfter table wrong → Precedes table wrong
after_precedes table None after = tt
after_precedes table (Some t) after = after t refl

-- tables by their places
only_rulings : (t : Table) → order t ≡ order Rulings → t ≡ Rulings
only_rulings Rulings is = refl
only_rulings _ is = absurd (omega (arith, is))

only_seen : (t : Table) → order t ≡ order Seen → t ≡ Seen
only_seen Seen is = refl
only_seen _ is = absurd (omega (arith, is))

equal_or_more : (m n : ℕ) → n ≤ m → (m ≡ n) ⊎ (n < m)
equal_or_more zero zero low = inl refl
equal_or_more (suc m) zero low = inr (omega arith)
equal_or_more zero (suc n) low = absurd (omega (arith, low))
equal_or_more (suc m) (suc n) low = elim (equal_or_more m n (omega (arith, low))) [
  | inl same ↦ inl (ap suc same)
  | inr more ↦ inr (omega (arith, more))
]

-- a table after the scores is `meta`
after_last : (t : Table) → order Scores < order t → t ≡ Meta
after_last Meta low = refl
after_last _ low = absurd (omega (arith, low))

-- ---- one game

pub people_of : (s : ClubState) (rows : Rows) → IsClub s → IsRegisterOf s rows → HasPeople s rows
people_of s rows club register = record {
  members = members_of s club rows.members.items register.members;
  events = events_of s club rows.events.items register.events;
  rules = register.rules;
}

-- the games of a club whose register these rows are, with its rows of moves, of rulings and of positions
abbrev pub club_games : (rows : Rows) (version : Version) (s : ClubState) (db : Database) → IsClubOf version s
    → IsRegisterOf s rows → HasClub version db s
    → HaveSeenOf rows (moves_in (club_trees db)) (rulings_at version (club_trees db)) (seen_in (club_trees db))
club_games rows version s db own register holds = record {
  games = record {
    state = s;
    legal = club_of_version version s own;
    people = people_of s rows (club_of_version version s own) register;
    games = register.games;
    same = subst (HaveSame (moves_in (club_trees db))) (rows_at version s Moves (omega arith) tt)
        (shown_held (moves 8) 4 refl refl holds);
    ruled = rulings_shown version s own db holds;
  };
  same = subst (HaveSame (seen_in (club_trees db))) (rows_at version s Seen (omega arith) tt)
      (shown_held (seen 12) 6 refl refl holds);
}

-- of such a club no row of moves, of rulings or of positions is another's than those of its games
none_over : (rows : Rows) (shown ruled positions : List Row) → HaveSeenOf rows shown ruled positions
    → (length (past (length rows.games.items) shown) ≡ 0) × (length (past (length rows.games.items) ruled) ≡ 0)
    × (length (past (length rows.games.items) positions) ≡ 0)
none_over rows shown ruled positions have =
    let s = have.games.state in
    let count = numbered-length game_cells (row_of_game both_games s.events) 1 rows.games.items s.games have.games.games
    in (
      ap (λ n. length (past n shown)) count
          ∙ table_past (rows_of_moves both_games s.events) (λ id g z h. moves_had both_games s.events id g z h) shown
          s.games have.games.same,
      ap (λ n. length (past n ruled)) count
          ∙ table_past rows_of_rulings (λ id g z h. rulings_begin id g z h) ruled s.games have.games.ruled,
      ap (λ n. length (past n positions)) count
          ∙ table_past (rows_of_seen both_games) (λ id g z h. seen_had id g z h) positions s.games have.same,
    )

-- what a moment was read of
pub moment_told : (stored : ℤ) (last : Option ℕ) → IfSome last (λ m. pos m ≡ stored)
    → IfSome last (λ m. m ≤ 253402300799) → (last ≡ None → (n : ℕ) → n ≤ 253402300799 → stored ≢ pos n)
    → IsMomentOf stored last
moment_told stored None some range none = none refl
moment_told stored (Some n) some range none = (sym some, range)

-- the last moment of a club is the one that its row tells
pub moment_of : (stored : ℤ) (last : Option ℕ) → IsMomentOf stored last → (m : ℕ) → stored ≡ pos m → m ≤ 253402300799
    → last ≡ Some m
moment_of stored None none m is low = absurd (none m low is)
moment_of stored (Some n) told m is low = ap (λ k. Some k) (same-pos n m (sym told.0 ∙ is))

pub club_of : (s : ClubState) (rows : Rows) (last : Option ℕ) → IsMomentOf rows.meta.last last → IsClub s
    → IsRegisterOf s rows → IsOf s rows last
club_of s rows last told club register = record {
  people = people_of s rows club register;
  moment = moment_of rows.meta.last last told s.last register.last club.last;
  within = club.last;
}

pub next : (n : ℕ) → 1 + n ≡ n + 1
next n = omega arith

next_suc : (n : ℕ) → suc n ≡ n + 1
next_suc n = omega arith

-- ---- one game after another

-- of no game all are found
nothing_at : {A B : Type 0} (n : ℕ) (x : A) → slice_get [] n ≡ Some x → B
nothing_at n x at = cc

abbrev none_seated : (s : ClubState) (rows : List GameTableRow) (version : Version) (db : Trees)
    → WerePlayed s rows version db 0
none_seated s rows version db = record {
  games = [];
  number_of = refl;
  legal = λ n x at. nothing_at n x at;
  rows_are = refl;
  moves_are = λ n g at. nothing_at n g at;
  rulings_are = λ n g at. nothing_at n g at;
}

none_found : (s : ClubState) (rows : List GameTableRow) (version : Version) (db : Trees) → WereFound s rows version db 0
none_found s rows version db = record { played = none_seated s rows version db; seen_are = λ n g at. cc }

pub left_start : (rows : Rows) (last : Option ℕ) (ms rs ss : ℕ) (known : Option Table) (version : Version)
    (db : Database) → ((t : Table) → known ≡ Some t → IsNoRegister rows) → (known ≡ Some Moves → ⊥)
    → (known ≡ Some Rulings → ⊥) → (known ≡ Some Games → ¬ AreApartGames rows.games.items) → (known ≡ Some Seen → ⊥)
    → ms ≡ length (moves_in (club_trees db)) → rs ≡ length (rulings_at version (club_trees db))
    → ss ≡ length (seen_in (club_trees db)) → AreLeftAfter rows last 0 ms rs ss known version db
left_start rows last ms rs ss known version db none other unruled apart unseen one ruled two = record {
  found = λ free s of. none_found s rows.games.items version (club_trees db);
  blamed = λ t is. (
    t,
    refl,
    λ s club register holds. none t is s (club_of_version version s club) register,
  );
  moves_left = λ free s of. one;
  rulings_left = λ free s of. ruled;
  seen_left = λ free s of. two;
  played = λ free s people. none_found (until last_moment s) rows.games.items version (club_trees db);
  seated = λ after s people. none_seated (until last_moment s) rows.games.items version (club_trees db);
  moves_rest = λ after s people. one;
  rulings_rest = λ after s people. ruled;
  seen_rest = λ free s people. two;
  moves_wrong = λ named. absurd (other named);
  rulings_wrong = λ named. absurd (unruled named);
  games_wrong = λ named content holds have.
      let s = have.state in
      let count = numbered-length game_cells _ 1 rows.games.items s.games have.games in
      let most = have.legal.game_count in
      apart named (record {
        few = omega (arith, count, most);
        keys = keys-in s s.games rows.games.items have.games have.legal.game_keys;
      });
  seen_wrong = λ named. absurd (unseen named);
  moves_right = λ after s people n game low. absurd (omega (arith, low));
  rulings_right = λ after s people n game low. absurd (omega (arith, low));
  moves_beyond = λ ids. one;
  rulings_beyond = λ after ids. ruled;
  seen_beyond = λ after ids. two;
}

-- one game more
abbrev seated_more : (s : ClubState) (rows : List GameTableRow) (version : Version) (db : Trees) (k : ℕ)
    (row : GameTableRow) → WerePlayed s rows version db k → slice_get rows k ≡ Some row → (g : ClubGame)
    → IsGameOf s (k + 1) row version db g → WerePlayed s rows version db (k + 1)
seated_more s rows version db k row was at g is =
    let place_is : 1 + length was.games ≡ k + 1 = ap (λ n. 1 + n) was.number_of ∙ next k in
    let id : row.id ≡ pos (k + 1) = id-told s (k + 1) row g is.row_is in
    record {
      games = was.games ++ g ∷ [];
      number_of = length-append was.games (g ∷ []) ∙ ap (λ n. n + 1) was.number_of;
      legal = each-append (IsLegalIn both_games s) was.games g was.legal is.legal;
      rows_are =
          ap (map game_cells) (take_next rows k row at)
          ∙ (map-append game_cells (take k rows) (row ∷ [])
          ∙ ((λ i. was.rows_are i ++ is.row_is i ∷ [])
          ∙ (ap (λ n. numbered_from (row_of_game both_games s.events) 1 was.games
          ++ row_of_game both_games s.events n g ∷ []) (sym place_is)
          ∙ sym (numbered-append (row_of_game both_games s.events) 1 was.games g))));
      moves_are = λ n x there. elim (got-append was.games g n x there) [
        | inl old ↦ was.moves_are n x old
        | inr (last, same) ↦
            let here : k + 1 ≡ 1 + n = sym place_is ∙ ap (λ m. 1 + m) (sym last) in
            subst₂ (λ z l. HaveSame (beginning_with z (moves_in db)) l) (id ∙ ap pos here)
            (λ i. rows_of_moves both_games s.events (here i) (same i)) is.moves_are
      ];
      rulings_are = λ n x there. elim (got-append was.games g n x there) [
        | inl old ↦ was.rulings_are n x old
        | inr (last, same) ↦
            let here : k + 1 ≡ 1 + n = sym place_is ∙ ap (λ m. 1 + m) (sym last) in
            subst₂ (λ z l. HaveSame (beginning_with z (rulings_at version db)) l) (id ∙ ap pos here)
            (λ i. rows_of_rulings (here i) (same i)) is.rulings_are
      ];
    }

found_more : (s : ClubState) (rows : List GameTableRow) (version : Version) (db : Trees) (k : ℕ) (row : GameTableRow)
    → WereFound s rows version db k → slice_get rows k ≡ Some row
    → (g : ClubGame) × IsFoundAs s (k + 1) row version db g → WereFound s rows version db (k + 1)
found_more s rows version db k row was at (g, is) =
    let games = was.played.games in
    let place_is : 1 + length games ≡ k + 1 = ap (λ n. 1 + n) was.played.number_of ∙ next k in
    let id : row.id ≡ pos (k + 1) = id-told s (k + 1) row g is.game_is.row_is in
    record {
      played = seated_more s rows version db k row was.played at g is.game_is;
      seen_are = λ n x there. elim (got-append games g n x there) [
        | inl old ↦ was.seen_are n x old
        | inr (last, same) ↦
            let here : k + 1 ≡ 1 + n = sym place_is ∙ ap (λ m. 1 + m) (sym last) in
            subst₂ (λ z l. HaveSame (beginning_with z (seen_in db)) l) (id ∙ ap pos here)
            (λ i. rows_of_seen both_games (here i) (same i)) is.seen_are
      ];
    }

taken : (m own k rest : ℕ) → m ≡ k → k ≡ own + rest → m - own ≡ rest
taken m own k rest is parts = omega (arith, is, parts)

-- where no table up to one is named, neither has one
pub both_after : (table : Table) (w v u : Option Table) → IsOneOf w v u → IsAfter table u → IsAfter table w
    × IsAfter table v
both_after table w v None one after = let (first, second) = one.none refl in (λ t is. absurd (cc), λ t is. absurd (cc))
both_after table w v (Some x) one after =
    let before = after x refl in (
      λ t is. let low = one.first x t refl (inl is) in omega (arith, before, low),
      λ t is. let low = one.first x t refl (inr is) in omega (arith, before, low),
    )

-- where no table before `meta` is named, neither has one
pub both_played : (w v u : Option Table) → IsOneOf w v u → IsPlayed u → IsPlayed w × IsPlayed v
both_played w v u one played =
    let (first, second) = both_after Scores w v u one (played_after Scores (omega arith) u played) in
    (λ t is. after_last t (first t is), λ t is. after_last t (second t is))

-- what follows where either table is named follows where the first of them is
pub either : {w v u : Option Table} {P : Type 0} → IsOneOf w v u → (t : Table) → u ≡ Some t → (w ≡ Some t → P)
    → (v ≡ Some t → P) → P
either one t named early here = elim (one.some t named) [
  | inl is ↦ early is
  | inr is ↦ here is
]

-- a table after one is the next, or after it
or_after : (table next_one : Table) (o : Option Table) → order next_one ≤ order table + 1
    → ((t : Table) → order t ≡ order next_one → t ≡ next_one) → IsAfter table o → (o ≡ Some next_one) ⊎ IsAfter next_one o
or_after table next_one None low only after = inr (λ t is. cc)
or_after table next_one (Some t) low only after = elim (equal_or_more (order t) (order next_one) (omega (arith, up, low))) [
  | inl same ↦ inl (ap Some (only t same))
  | inr more ↦ inr (some_after next_one (Some t) t refl more)
]
  where
    up : order table < order t
    up = after t refl

-- where what is left would name a table that is not after, nothing is left
none_after : (table named : Table) (o : Option Table) → IsAfter table o → ((t : Table) → o ≡ Some t → t ≡ named)
    → order named ≤ order table → o ≡ None
none_after table named None after other low = refl
none_after table named (Some t) after other low =
    let up = subst (λ (u : Table). order table < order u) (other t refl) (after t refl) in
    absurd (omega (arith, up, low))

-- with one game more, its rows are no longer left
module _ (rows : Rows) (last : Option ℕ) (k : ℕ) (game : GameTableRow) (ms rs ss a r b : ℕ) (w v u : Option Table)
    (version : Version) (db : Database) (at : slice_get rows.games.items k ≡ Some game)
    (was : AreLeftAfter rows last k ms rs ss w version db)
    (is : IsGameFound rows last k game a r b v version db) (one_of : IsOneOf w v u) where
  id_of : (s : ClubState) (g : ClubGame) → IsGameOf s (k + 1) game version (club_trees db) g → game.id ≡ pos (suc k)
  id_of s g is_game = id-told s (k + 1) game g is_game.row_is ∙ ap pos (sym (next_suc k))

  without_more : (ids : ℕ → ℤ) (n own : ℕ) (shown : List Row)
      → length (without ids k shown) ≡ length (beginning_with (ids k) shown) + length (without ids (suc k) shown)
      → own ≡ length (beginning_with game.id shown) → game.id ≡ ids k → n ≡ length (without ids k shown)
      → n - own ≡ length (without ids (k + 1) shown)
  without_more ids n own shown step owned id left =
      ap (λ m. n - m) (owned ∙ ap (λ z. length (beginning_with z shown)) id)
      ∙ (taken n _ _ _ left step ∙ ap (λ m. length (without ids m shown)) (next_suc k))

  past_more : (n own : ℕ) (shown : List Row) → own ≡ length (beginning_with game.id shown) → game.id ≡ pos (suc k)
      → n ≡ length (past k shown) → n - own ≡ length (past (k + 1) shown)
  past_more n own shown = without_more (λ m. pos (suc m)) n own shown (past_step k shown)

  beyond_more : HaveIds rows → (n own : ℕ) (shown : List Row) → own ≡ length (beginning_with game.id shown)
      → n ≡ length (beyond rows k shown) → n - own ≡ length (beyond rows (k + 1) shown)
  beyond_more ids n own shown owned = without_more (id_at rows) n own shown
      (beyond_step rows (ids_apart rows ids) k shown (slice_get_within rows.games.items k game at)) owned
      (sym (id_of_game rows k game at))

  -- what is right of each game before is so of one game more
  right_more : (IsSo : GameTableRow → Type 0)
      → ((n : ℕ) (other : GameTableRow) → n < k → slice_get rows.games.items n ≡ Some other → IsSo other) → IsSo game
      → (n : ℕ) (other : GameTableRow) → n < k + 1 → slice_get rows.games.items n ≡ Some other → IsSo other
  right_more IsSo each here n other low there = elim (last_or n k (omega (arith, low))) [
    | inr less ↦ each n other less there
    | inl same ↦
        let both : ◌≡◌ {A = Option GameTableRow} (Some game) (Some other) = sym at
        ∙ (ap (slice_get rows.games.items) (sym same) ∙ there) in
        subst IsSo (same_Some game other both) here
  ]

  pub left_more : AreLeftAfter rows last (k + 1) (ms - a) (rs - r) (ss - b) u version db
  left_more = record {
    found = λ none s of.
        let (early, here) = one_of.none none in
        found_more s rows.games.items version (club_trees db) k game (was.found early s of) at (is.found here s of);
    blamed = λ t named. either one_of t named (was.blamed t) (is.blamed t);
    moves_left = λ none s of.
        let (early, here) = one_of.none none in
        let (g, found) = is.found here s of in
        past_more ms a (moves_in (club_trees db)) is.moves_number (id_of s g found.game_is) (was.moves_left early s of);
    rulings_left = λ none s of.
        let (early, here) = one_of.none none in
        let (g, found) = is.found here s of in
        past_more rs r (rulings_at version (club_trees db)) (is.rulings_number (λ t named. absurd (cc)))
        (id_of s g found.game_is) (was.rulings_left early s of);
    seen_left = λ none s of.
        let (early, here) = one_of.none none in
        let (g, found) = is.found here s of in
        past_more ss b (seen_in (club_trees db)) (is.seen_number (λ t named. absurd (cc)))
        (id_of s g found.game_is) (was.seen_left early s of);
    played = λ free s people.
        let (early, here) = both_played w v u one_of free in
        found_more (until last_moment s) rows.games.items version (club_trees db) k game (was.played early s people) at
        (is.played here s people);
    seated = λ after s people.
        let (early, here) = both_after Games w v u one_of after in
        let (g, is_game) = is.seated here s people in
        seated_more (until last_moment s) rows.games.items version (club_trees db) k game
        (was.seated early s people) at g is_game;
    moves_rest = λ after s people.
        let (early, here) = both_after Games w v u one_of after in
        let (g, is_game) = is.seated here s people in
        past_more ms a (moves_in (club_trees db)) is.moves_number (id_of (until last_moment s) g is_game)
        (was.moves_rest early s people);
    rulings_rest = λ after s people.
        let (early, here) = both_after Games w v u one_of after in
        let (g, is_game) = is.seated here s people in
        past_more rs r (rulings_at version (club_trees db))
        (is.rulings_number (λ t named. let later = here t named in omega (arith, later)))
        (id_of (until last_moment s) g is_game) (was.rulings_rest early s people);
    seen_rest = λ free s people.
        let (early, here) = both_played w v u one_of free in
        let (g, found) = is.played here s people in
        past_more ss b (seen_in (club_trees db)) (is.seen_number (played_after Seen (omega arith) v here))
        (id_of (until last_moment s) g found.game_is) (was.seen_rest early s people);
    moves_wrong = λ named. either one_of Moves named was.moves_wrong is.moves_wrong;
    rulings_wrong = λ named. either one_of Rulings named was.rulings_wrong is.rulings_wrong;
    games_wrong = λ named. either one_of Games named was.games_wrong is.games_wrong;
    seen_wrong = λ named. either one_of Seen named was.seen_wrong is.seen_wrong;
    moves_right = λ after s people.
        let (early, here) = both_after Moves w v u one_of after in
        right_more (λ g. MovesRightOf rows g version db) (was.moves_right early s people) (is.moves_right here s people);
    rulings_right = λ after s people.
        let (early, here) = both_after Rulings w v u one_of after in
        right_more (λ g. RulingsRightOf rows g version db) (was.rulings_right early s people)
        (is.rulings_right here s people);
    moves_beyond = λ ids. beyond_more ids ms a (moves_in (club_trees db)) is.moves_number (was.moves_beyond ids);
    rulings_beyond = λ after ids.
        let (early, here) = both_after Rulings w v u one_of after in
        beyond_more ids rs r (rulings_at version (club_trees db)) (is.rulings_number here) (was.rulings_beyond early ids);
    seen_beyond = λ after ids.
        let (early, here) = both_after Seen w v u one_of after in
        beyond_more ids ss b (seen_in (club_trees db)) (is.seen_number here) (was.seen_beyond early ids);
  }

-- a table that was known to be wrong is not forgotten
abbrev pub IsKept : Option Table → Option Table → Type 0
IsKept known wrong = wrong ≡ None → known ≡ None

-- when the rows of all games were read
module _ (rows : Rows) (last : Option ℕ) (told : IsMomentOf rows.meta.last last) (k ms rs ss : ℕ)
    (w a u r x b v : Option Table) (version : Version) (db : Database)
    (was : AreLeftAfter rows last k ms rs ss w version db)
    (all : k ≡ length rows.games.items) (moves_left : NamesLeft Moves ms a) (rulings_left : NamesLeft Rulings rs r)
    (seen_left : NamesLeft Seen ss b) (one_of : IsOneOf w a u) (next_of : IsOneOf u r x) (then_of : IsOneOf x b v) where
  of_moves : (t : Table) → a ≡ Some t → t ≡ Moves
  of_moves t named = (moves_left.some t named).0

  of_rulings : (t : Table) → r ≡ Some t → t ≡ Rulings
  of_rulings t named = (rulings_left.some t named).0

  of_seen : (t : Table) → b ≡ Some t → t ≡ Seen
  of_seen t named = (seen_left.some t named).0

  over : (shown : List Row) (n : ℕ) → n ≡ length (past k shown) → n ≡ 0
      → length (past (length rows.games.items) shown) ≡ 0
  over shown n left none = ap (λ m. length (past m shown)) (sym all) ∙ (sym left ∙ none)

  -- where no table up to one is named, none of the parts has one
  all_after : (table : Table) → IsAfter table v → IsAfter table w × IsAfter table a × IsAfter table r × IsAfter table b
  all_after table after =
      let (third, from_seen) = both_after table x b v then_of after in
      let (second, from_rulings) = both_after table u r x next_of third in
      let (first, from_moves) = both_after table w a u one_of second in
      (first, from_moves, from_rulings, from_seen)

  all_none : v ≡ None → (w ≡ None) × (a ≡ None) × (r ≡ None) × (b ≡ None)
  all_none none =
      let (third, from_seen) = then_of.none none in
      let (second, from_rulings) = next_of.none third in
      let (first, from_moves) = one_of.none second in
      (first, from_moves, from_rulings, from_seen)

  all_played : IsPlayed v → IsPlayed w
  all_played played = λ t is. after_last t ((all_after Scores (played_after Scores (omega arith) v played)).0 t is)

  -- what follows where one of the parts is named
  any_named : {P : Type 0} (t : Table) → v ≡ Some t → (w ≡ Some t → P) → (a ≡ Some t → P) → (r ≡ Some t → P)
      → (b ≡ Some t → P) → P
  any_named t named early from_moves from_rulings from_seen = either then_of t named
      (λ third. either next_of t third (λ second. either one_of t second early from_moves) from_rulings) from_seen

  -- where no table was wrong before and a row is left, no club has the tables
  left_blames : (o : Option Table) → o ≡ w → (0 < ms) ⊎ ((0 < rs) ⊎ (0 < ss)) → (s : ClubState)
      → IsClubOf version s → IsRegisterOf s rows → ¬ HasClub version db s
  left_blames (Some t) is some s own register holds = (was.blamed t (sym is)).2 s own register holds
  left_blames None is some s own register holds =
      let of = club_of s rows last told (club_of_version version s own) register in
      let (moves_none, rulings_none, seen_none) =
      none_over rows _ _ _ (club_games rows version s db own register holds) in
      elim some [
        | inl here ↦
            let left = was.moves_left (sym is) s of ∙ ap (λ n. length (past n (moves_in (club_trees db)))) all in
            omega (arith, here, left, moves_none)
        | inr (inl here) ↦
            let left = was.rulings_left (sym is) s of
            ∙ ap (λ n. length (past n (rulings_at version (club_trees db)))) all in
            omega (arith, here, left, rulings_none)
        | inr (inr here) ↦
            let left = was.seen_left (sym is) s of ∙ ap (λ n. length (past n (seen_in (club_trees db)))) all in
            omega (arith, here, left, seen_none)
      ]

  -- a table that is named is that of a game, or has rows that are left
  left_blamed : (t : Table) → v ≡ Some t → NamesPlay rows version db (Damaged t)
  left_blamed t named = any_named t named (was.blamed t)
      (λ from_moves. (t, refl, left_blames w refl (inl ((moves_left.some t from_moves).1))))
      (λ from_rulings. (t, refl, left_blames w refl (inr (inl ((rulings_left.some t from_rulings).1)))))
      (λ from_seen. (t, refl, left_blames w refl (inr (inr ((seen_left.some t from_seen).1)))))

  -- no row of moves or of rulings is another's, if no table up to the games is
  moves_done : IsAfter Games v → (s : ClubState) → HasPeople s rows
      → length (past (length rows.games.items) (moves_in (club_trees db))) ≡ 0
  moves_done after s people =
      let (before, from_moves, from_rulings, from_seen) = all_after Games after in
      over (moves_in (club_trees db)) ms (was.moves_rest before s people)
      (moves_left.none (none_after Games Moves a from_moves of_moves (omega arith)))

  rulings_done : IsAfter Games v → (s : ClubState) → HasPeople s rows
      → length (past (length rows.games.items) (rulings_at version (club_trees db))) ≡ 0
  rulings_done after s people =
      let (before, from_moves, from_rulings, from_seen) = all_after Games after in
      over (rulings_at version (club_trees db)) rs (was.rulings_rest before s people)
      (rulings_left.none (none_after Games Rulings r from_rulings of_rulings (omega arith)))

  -- rows that are left belong to no game
  some_beyond : (shown : List Row) (n : ℕ) → 0 < n → n ≡ length (beyond rows k shown) → AreOwned rows shown → ⊥
  some_beyond shown n some left owned =
      let none = none_beyond rows shown owned in
      let is = left ∙ ap (λ m. length (beyond rows m shown)) all in
      omega (arith, some, is, none)

  -- all were found, if no table is named
  pub left_all : AreGamesFound rows last v version db
  left_all = record {
    found = λ none s of.
        subst (WereFound s rows.games.items version (club_trees db)) all (was.found (all_none none).0 s of);
    none_left = λ none s of.
        let (before, no_moves, no_rulings, no_seen) = all_none none in
        record {
          moves = over (moves_in (club_trees db)) ms (was.moves_left before s of) (moves_left.none no_moves);
          rulings = over (rulings_at version (club_trees db)) rs (was.rulings_left before s of)
              (rulings_left.none no_rulings);
          seen = over (seen_in (club_trees db)) ss (was.seen_left before s of) (seen_left.none no_seen);
        };
    played = λ free s people.
        subst (WereFound (until last_moment s) rows.games.items version (club_trees db)) all
        (was.played (all_played free) s people);
    seated = λ after s people.
        subst (WerePlayed (until last_moment s) rows.games.items version (club_trees db)) all
        (was.seated (all_after Games after).0 s people);
    moves_end = moves_done;
    rulings_end = rulings_done;
    moves_right = λ after ids s people content holds.
        let (before, from_moves, from_rulings, from_seen) = all_after Moves after in
        let none = moves_left.none (none_after Moves Moves a from_moves of_moves (omega arith)) in
        moves_gathered rows (moves_in (club_trees db)) (rulings_at version (club_trees db))
        (ap (λ n. length (beyond rows n (moves_in (club_trees db)))) (sym all) ∙ (sym (was.moves_beyond ids) ∙ none))
        (λ n game low at. was.moves_right before s people n game (omega (arith, all, low)) at content holds);
    rulings_right = λ after ids s people content holds.
        let (before, from_moves, from_rulings, from_seen) = all_after Rulings after in
        let none = rulings_left.none (none_after Rulings Rulings r from_rulings of_rulings (omega arith)) in
        rulings_gathered rows (moves_in (club_trees db)) (rulings_at version (club_trees db))
        (ap (λ n. length (beyond rows n (rulings_at version (club_trees db)))) (sym all)
        ∙ (sym (was.rulings_beyond before ids) ∙ none))
        (λ n game low at. was.rulings_right before s people n game (omega (arith, all, low)) at content holds);
    none_rests = λ free s people.
        let from_seen = (all_after Seen (played_after Seen (omega arith) v free)).3 in
        record {
          moves = moves_done (played_after Games (omega arith) v free) s people;
          rulings = rulings_done (played_after Games (omega arith) v free) s people;
          seen = over (seen_in (club_trees db)) ss (was.seen_rest (all_played free) s people)
              (seen_left.none (none_after Seen Seen b from_seen of_seen (omega arith)));
        };
    blamed = left_blamed;
    moves_wrong = λ named ids s people. any_named Moves named (λ before. was.moves_wrong before s people)
        (λ from_moves content holds have.
        some_beyond (moves_in (club_trees db)) ms (moves_left.some Moves from_moves).1 (was.moves_beyond ids) have.owned)
        (λ from_rulings. absurd (cc (of_rulings Moves from_rulings)))
        (λ from_seen. absurd (cc (of_seen Moves from_seen)));
    rulings_wrong = λ named ids s people. any_named Rulings named (λ before. was.rulings_wrong before s people)
        (λ from_moves. absurd (cc (of_moves Rulings from_moves)))
        (λ from_rulings. elim (or_after Moves Rulings w (omega arith) only_rulings
        (all_after Moves (some_after Moves v Rulings named (omega arith))).0) [
          | inl before ↦ was.rulings_wrong before s people
          | inr after ↦ λ content holds have.
              some_beyond (rulings_at version (club_trees db)) rs (rulings_left.some Rulings from_rulings).1
              (was.rulings_beyond after ids) have.owned
        ])
        (λ from_seen. absurd (cc (of_seen Rulings from_seen)));
    games_wrong = λ named. any_named Games named was.games_wrong
        (λ from_moves. absurd (cc (of_moves Games from_moves)))
        (λ from_rulings. absurd (cc (of_rulings Games from_rulings)))
        (λ from_seen. absurd (cc (of_seen Games from_seen)));
    seen_wrong = λ named ids. any_named Seen named was.seen_wrong
        (λ from_moves. absurd (cc (of_moves Seen from_moves)))
        (λ from_rulings. absurd (cc (of_rulings Seen from_rulings)))
        (λ from_seen. elim (or_after Games Seen w (omega arith) only_seen
        (all_after Games (some_after Games v Seen named (omega arith))).0) [
          | inl before ↦ was.seen_wrong before
          | inr after ↦ λ content holds have.
              some_beyond (seen_in (club_trees db)) ss (seen_left.some Seen from_seen).1 (was.seen_beyond after ids)
              (seen_owned rows _ _ _ have)
        ]);
  }

-- what a fault says of a database that did not change
pub blamed_before : (rows : Rows) (version : Version) {old mid : State} (fault : OpenFault) → IsUnchanged old mid
    → NamesTable mid.now fault ⊎ NamesPlay rows version mid.now fault
    → NamesTable old.now fault ⊎ NamesPlay rows version old.now fault
blamed_before rows version fault = before (λ d. NamesTable d fault ⊎ NamesPlay rows version d fault)

-- ---- the rowids of both tables, and then the games

module _ {old one two : State} {m n : ℕ} (moves_are : AreCounted 8 m old one) (seen_are : AreCounted 12 n one two) where
  pub both_same : IsUnchanged old two
  both_same = stays moves_are.same seen_are.same

  -- so many rows there are
  pub moves_number : m ≡ length (moves_in (club_trees two.now))
  moves_number = moves_are.number
      ∙ (sym (length-map (club_trees old.now 8) (cells (moves 8)))
      ∙ ap (λ (d : Database). length (moves_in (club_trees d))) (sym both_same.0.now_is))

  pub seen_number : n ≡ length (seen_in (club_trees two.now))
  seen_number = seen_are.number
      ∙ (sym (length-map (club_trees one.now 12) (cells (seen 12)))
      ∙ ap (λ (d : Database). length (seen_in (club_trees d))) (sym seen_are.same.0.now_is))

  pub play_examined : (rows : Rows) (last : Option ℕ) (wrong : Option Table) (version : Version) {new : State}
      → IsUnchanged two new → AreGamesFound rows last wrong version two.now
      → IsPlayExamined rows last wrong version old new
  play_examined rows last wrong version same found = record {
    games = before (AreGamesFound rows last wrong version) both_same found;
    same = stays both_same same;
    moves_apart = moves_are.apart;
    seen_apart = before (λ d. AreApart (club_trees d 12)) moves_are.same seen_are.apart;
  }

-- the scores that were examined of a database that did not change before it
pub scores_after : (rows : Rows) (old mid new : State) → IsUnchanged old mid → AreScoresExamined rows mid new
    → AreScoresExamined rows old new
scores_after rows old mid new same scores = record {
  rows_of = scores.rows_of;
  read = read_after same scores.read;
  are = scores.are;
}

-- what was examined of a database that did not change before it
pub examined_before : (rows : Rows) (version : Version) {old mid new : State} → IsUnchanged old mid
    → AreExamined rows version mid new → AreExamined rows version old new
examined_before rows version {old} {mid} {new} same all = record {
  moment = all.moment;
  last = all.last;
  closed_by = all.closed_by;
  challenges = all.challenges;
  games = all.games;
  play = record {
    games = before (AreGamesFound rows (Some all.moment) None version) same all.play.games;
    same = stays same all.play.same;
    moves_apart = before (λ d. AreApart (club_trees d 8)) same all.play.moves_apart;
    seen_apart = before (λ d. AreApart (club_trees d 12)) same all.play.seen_apart;
  };
  scores = scores_after rows old mid new same all.scores;
}

-- and after it
pub play_later : (rows : Rows) (last : Option ℕ) (version : Version) (old mid new : State)
    → IsPlayExamined rows last None version old mid → IsUnchanged mid new → IsPlayExamined rows last None version old new
play_later rows last version old mid new play same = record {
  games = play.games;
  same = stays play.same same;
  moves_apart = play.moves_apart;
  seen_apart = play.seen_apart;
}

-- a database that did not change has the same number of rulings
pub still_counted : {old mid : State} (version : Version) (count : ℕ) → IsUnchanged old mid
    → HasRulingCount version count old.now → HasRulingCount version count mid.now
still_counted version count same = subst (HasRulingCount version count) (sym same.0.now_is)

-- and its tables are those of a club
pub club_counted : {version : Version} {count : ℕ} {db : Database} → HasRulingCount version count db
    → HasClubTables db.schema
club_counted {version} has = (version, has.schema)

-- the rulings that were counted
pub ruling_count : (version : Version) (count : ℕ) (old new : State) → HasTablesOf version old.now.schema
    → AreRulingsCounted version count old new → HasRulingCount version count old.now
ruling_count version count old new has counted = record { schema = has; number = of version counted }
  where
    of : (v : Version) → AreRulingsCounted v count old new → count ≡ length (rulings_at v (club_trees old.now))
    of V1 counted = counted.1
    of V2 counted = counted.1
    of V3 counted = counted.number ∙ sym (length-map (club_trees old.now 20) (cells (rulings 20)))
