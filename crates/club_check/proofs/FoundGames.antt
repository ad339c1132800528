-- What the rows of one game that were read show of the tables, and what is found of the game.
use Rattle.std.proofs.Common.{◌≡◌, ◌⊎◌, ℕ, pos, ◌+◌, ◌<◌, ◌≤◌, List, [], ◌∷◌, length, map}
use Rattle.std.proofs.Common.{Some, None, Option, refl, ap, sym, subst, ◌∙◌, arith, inl, inr}
use Rattle.std.specs.Prelude.{slice_get, string_bytes}
use Rattle.std.proofs.lemmas.List.{length-map}
use Rattle.std.proofs.lemmas.Option.{same_Some, slice_get_within}
use Rattle.sqlite.specs.Effect.{Database}
use Rattle.sqlite.specs.Order.{Row}
use Rattle.sqlite.specs.State.{State}
use Rattle.sqlite.specs.Table.{Table as Definition}
use Rattle.sqlite.specs.Tree.{Trees}
use Rattle.store_tables.specs.Placed.{club_trees}
use Rattle.store_tables.specs.Cells.{game_cells, IsMove, IsRuling, move_cells, seen_cells, IsSeen, ruling_cells}
use Rattle.store_tables.specs.Content.{same_key}
use Rattle.store_tables.specs.Tables.{moves, seen}
use Rattle.store_tables.specs.declared.names.Table.{Table}
use Rattle.store_tables.specs.declared.names.Table.TheVariants.{Moves, Games, Seen, Meta, Rulings}
use Rattle.store_tables.specs.declared.names.Version.{Version}
use Rattle.store_tables.specs.declared.rows.GameTableRow.{GameTableRow}
use Rattle.store_tables.specs.declared.rows.Rows.{Rows}
use Rattle.store_sql.specs.Read.{beginning_with}
use Rattle.store_sql.specs.internal.Read.{AreReadOf, Blames as BlamesRead}
use Rattle.club_rows.specs.Club.{both_games, ClubGame, ClubState}
use Rattle.club_rows.specs.FirstSchema.{tables_at}
use Rattle.club_rows.specs.Tables.{row_of_game, rows_of_moves, rows_of_rulings, rows_of_seen, at_start, tables_of}
use Rattle.club_audit.specs.Audit.{terms_told}
use Rattle.club_audit.specs.internal.Audit.{HasPeople, until, AreAllOf, IsGameAt}
use Rattle.club_audit.proofs.Proved.{all-right, club-right, id-told, later-game, numbered-at, right-club}
use Rattle.club_audit.specs.FirstWrong.{order}
use Rattle.club_audit.specs.internal.FirstWrong.{IsFirstWrong}
use Rattle.club_rows.proofs.Proved.{rulings-typed, rulings_begin}
use Rattle.club_check.specs.internal.Examined.{IsFoundAs, IsGameFound, NamesPlay}
use Rattle.club_check.specs.internal.Examined.{IsAfter, IsGameOf, IsOneOf}
use Rattle.club_check.specs.internal.Places.{IsMomentOf, last_moment}
use Rattle.club_check.specs.declared.fault.OpenFault.{OpenFault}
use Rattle.club_check.specs.declared.fault.OpenFault.TheVariants.{Damaged, Memory, Store}
use Rattle.club_check.specs.Versions.{HoldsRows}
use Rattle.club_check.specs.RightMoves.{HasItsMoves, HasItsRulings}
use Rattle.club_check.specs.internal.ReasonIsRight.{AreRulingsRead}
use Rattle.club_check.specs.internal.RightMoves.{HaveGamesOf, HaveSeenOf, GamesWrong, MovesRightOf, MovesWrong}
use Rattle.club_check.specs.internal.RightMoves.{RulingsRightOf, RulingsWrong, SeenWrong, moves_in, rulings_at, seen_in}
use Rattle.club_check.proofs.StoredLemmas.{club_of_version, unique_of}
use Rattle.club_check.proofs.NumberedLemmas.{moves_had}
use Rattle.club_check.proofs.ClubLemmas.{typed_at}
use Rattle.club_check.proofs.FirstWrong.{stores_of, types_same, untyped_wrong}
use Rattle.club_check.proofs.RowLemmas.{Before, entries_rise, game_rise, seen_of_game, table_group, turned_same}
use Rattle.club_check.proofs.RulingLemmas.{game_rulings_rise, move_typed, read_rulings_same, read_same, ruled_number}
use Rattle.club_check.proofs.RulingLemmas.{ruled_same, ruled_unchanged, ruling_typed, rulings_rise}
use Rattle.std.specs.List.Sorted.{IsPermutation}
use Rattle.sqlite_value.specs.declared.value.Value.TheVariants.{Int}
use Rattle.sqlite_rules.proofs.ListLemmas.{all_from, all_has, has_filtered}
use Rattle.sqlite_trees.specs.Tree.{IsAscending}
use Rattle.store_tables.specs.Changes.{HaveSame}
use Rattle.store_tables.specs.declared.rows.MoveRow.{MoveRow}
use Rattle.store_tables.specs.declared.rows.RulingRow.{RulingRow}
use Rattle.store_tables.specs.declared.rows.SeenRow.{SeenRow}
use Rattle.store_tables.proofs.Proved.{has_mapped, same_by, same_then}
use Rattle.club_rules.specs.GameRules.{GameRules}
use Rattle.club_rules.specs.declared.names.GameKind.{GameKind}
use Rattle.club_rules.specs.declared.names.GameKind.TheVariants.{Draughts, Shogi}
use Rattle.club_core.specs.Events.{Terms}
use Rattle.club_core.specs.Game.{Game}
use Rattle.club_rows.specs.LegalRows.{AreMovesOf, AreRulingsOf, StartsAs}
use Rattle.club_rows.specs.Replay.{IsPlayedAs}
use Rattle.club_rows.specs.Rulings.{ArePossibleRows}
use Rattle.club_audit.specs.GameAudit.{IsRightIn, IsRightOf}
use Rattle.std.specs.List.{AllByRecursion}
use Rattle.std.specs.Option.{option_map}
use Rattle.club_audit.specs.internal.GameAudit.{IsRightAt}
use Rattle.club_rows.specs.EachOnce.{AreEachOnce}
use Rattle.store_tables.specs.Contents.{Content, Stores}
use Rattle.std.proofs.lemmas.List.Sorted.{length_permutation}
use Rattle.store_sql.specs.declared.fault.ReadFault.{ReadFault}
use Rattle.store_sql.specs.declared.fault.ReadFault.TheVariants.{WrongType}
use Rattle.club_check.specs.internal.Faults.{told}
use Rattle.club_check.specs.internal.RightTables.{IsUntyped}
use Rattle.club_check.proofs.ExaminedLemmas.{after_precedes, both_after, club_games, club_of, either}
use Rattle.club_check.proofs.ExaminedLemmas.{next, played_after}

-- ---- what the rows of one game that were read show of the tables

-- ---- moves and rulings that are shown alike

none_shown : {A : Type 0} (cells_of : A → Row) (rows : List A) → map cells_of rows ≡ [] → rows ≡ []
none_shown cells_of [] is = refl
none_shown cells_of (x ∷ rows) is = cc

-- rulings that are possible are so for each row with the id of its game
pub possible_alike : (game other : GameTableRow) (ruled others : List RulingRow) → other.id ≡ game.id
    → map ruling_cells others ≡ map ruling_cells ruled → ArePossibleRows game ruled → ArePossibleRows other others
possible_alike game other ruled others id same (inl none) =
    inl (none_shown ruling_cells others (same ∙ ap (map ruling_cells) none))
possible_alike game other ruled others id same (inr have) = inr (record {
  id = have.id;
  id_is = id ∙ have.id_is;
  short = have.short;
  rulings = have.rulings;
  are = record {
    outside = have.are.outside;
    rows_are = same ∙ have.are.rows_are;
    possible = have.are.possible;
  };
})

-- The rows of games have the same id, start and end.
pub record AreLike (game other : GameTableRow) : Type 0 where
  pub id : other.id ≡ game.id
  pub start : other.start ≡ game.start
  pub end : option_map (λ s. string_bytes s) other.end ≡ option_map (λ s. string_bytes s) game.end

pub like_itself : (game : GameTableRow) → AreLike game game
like_itself game = record { id = refl; start = refl; end = refl }

module _ {P M E T : Type 0} (rules : GameRules P M E T) (terms : Terms) (game other : GameTableRow)
    (rows others : List MoveRow) (ruled others_ruled : List RulingRow) (like : AreLike game other)
    (same : map move_cells others ≡ map move_cells rows)
    (same_ruled : map ruling_cells others_ruled ≡ map ruling_cells ruled) where
  starts_alike : {id start : ℕ} → StartsAs game id start → StartsAs other id start
  starts_alike starts = record {
    id_is = like.id ∙ starts.id_is;
    start_is = like.start ∙ starts.start_is;
    short = starts.short;
    within = starts.within;
  }

  played_alike : {id start : ℕ} {played : Game M} → IsPlayedAs rules terms id start rows played
      → IsPlayedAs rules terms id start others played
  played_alike played = record {
    line = played.line;
    plies = played.plies;
    timely = played.timely;
    start = played.start;
    moments = played.moments;
    moves = same ∙ played.moves;
  }

  -- moves of a game are those of each row with its id and its start, and of rows that are shown alike
  pub moves_alike : AreMovesOf rules terms game rows ruled → AreMovesOf rules terms other others others_ruled
  moves_alike (inl none) = inl (none_shown move_cells others (same ∙ ap (map move_cells) none))
  moves_alike (inr have) = inr (record {
    id = have.id;
    start = have.start;
    starts = starts_alike have.starts;
    game = have.game;
    played = played_alike have.played;
    rulings = record {
      outside = have.rulings.outside;
      rows_are = same_ruled ∙ have.rulings.rows_are;
      possible = have.rulings.possible;
    };
  })

  -- so are rulings
  pub rulings_alike : AreRulingsOf rules terms game rows ruled → AreRulingsOf rules terms other others others_ruled
  rulings_alike (inl none) = inl (none_shown ruling_cells others_ruled (same_ruled ∙ ap (map ruling_cells) none))
  rulings_alike (inr have) = inr (record {
    id = have.id;
    start = have.start;
    starts = starts_alike have.starts;
    game = have.game;
    played = played_alike have.played;
    legal = have.legal;
    moments = have.moments;
    rows = same_ruled ∙ have.rows;
    recorded = λ none verdict named. have.recorded none verdict (sym like.end ∙ named);
  })

  -- whether they are right knows no positions and no last moment
  pub right_moves_in : (last : Option ℕ) (ss : List SeenRow) (wanted : Option ℕ) (positions : List SeenRow)
      → IsRightIn rules terms last game rows ruled ss Moves
      → IsRightIn rules terms wanted other others others_ruled positions Moves
  right_moves_in last ss wanted positions right possible =
      moves_alike (right (possible_alike other game others_ruled ruled (sym like.id) (sym same_ruled) possible))

pub right_moves : (kind : GameKind) (terms : Terms) (game other : GameTableRow) (rows others : List MoveRow)
    (ruled others_ruled : List RulingRow) → AreLike game other → map move_cells others ≡ map move_cells rows
    → map ruling_cells others_ruled ≡ map ruling_cells ruled
    → (last : Option ℕ) (ss : List SeenRow) (wanted : Option ℕ) (positions : List SeenRow)
    → IsRightOf kind terms last game rows ruled ss Moves
    → IsRightOf kind terms wanted other others others_ruled positions Moves
right_moves Draughts terms = right_moves_in both_games.draughts terms
right_moves Shogi terms = right_moves_in both_games.shogi terms

pub right_rulings : (kind : GameKind) (terms : Terms) (game other : GameTableRow) (rows others : List MoveRow)
    (ruled others_ruled : List RulingRow) → AreLike game other → map move_cells others ≡ map move_cells rows
    → map ruling_cells others_ruled ≡ map ruling_cells ruled
    → (last : Option ℕ) (ss : List SeenRow) (wanted : Option ℕ) (positions : List SeenRow)
    → IsRightOf kind terms last game rows ruled ss Rulings
    → IsRightOf kind terms wanted other others others_ruled positions Rulings
right_rulings Draughts terms game other rows others ruled others_ruled like same same_ruled last ss wanted positions =
    rulings_alike both_games.draughts terms game other rows others ruled others_ruled like same same_ruled
right_rulings Shogi terms game other rows others ruled others_ruled like same same_ruled last ss wanted positions =
    rulings_alike both_games.shogi terms game other rows others ruled others_ruled like same same_ruled

-- ---- moves and rulings rise

played_rise : {P M E T : Type 0} (rules : GameRules P M E T) (terms : Terms) (id start : ℕ) (rows : List MoveRow)
    (played : Game M) → IsPlayedAs rules terms id start rows played → IsAscending Before (map move_cells rows)
played_rise rules terms id start rows played are =
    subst (IsAscending Before) (sym are.moves) (entries_rise rules terms id (at_start played) played.entries)

none_rise : {A : Type 0} (cells_of : A → Row) (rows : List A) → rows ≡ [] → IsAscending Before (map cells_of rows)
none_rise {A} cells_of rows none = subst (λ (l : List A). IsAscending Before (map cells_of l)) (sym none) tt

moves_rise : {P M E T : Type 0} (rules : GameRules P M E T) (terms : Terms) (game : GameTableRow) (rows : List MoveRow)
    (ruled : List RulingRow) → AreMovesOf rules terms game rows ruled → IsAscending Before (map move_cells rows)
moves_rise rules terms game rows ruled (inl none) = none_rise move_cells rows none
moves_rise rules terms game rows ruled (inr have) =
    played_rise rules terms have.id have.start rows have.game have.played

possible_rise : (game : GameTableRow) (ruled : List RulingRow) → ArePossibleRows game ruled
    → IsAscending Before (map ruling_cells ruled)
possible_rise game ruled (inl none) = none_rise ruling_cells ruled none
possible_rise game ruled (inr have) =
    subst (IsAscending Before) (sym have.are.rows_are) (rulings_rise have.id 1 have.are.outside have.rulings)

-- ---- rows that were read

-- The rows of moves and of rulings of a game were read.
pub record AreReadFor (version : Version) (game : GameTableRow) (ms : List MoveRow) (rs : List RulingRow)
    (old mid new : State) : Type 0 where
  pub moves_are : AreReadOf (moves 8) 2 game.id (map move_cells ms) old mid
  pub rulings_are : AreRulingsRead version game.id (map ruling_cells rs) old new

module _ (version : Version) (game : GameTableRow) (ms : List MoveRow) (rs : List RulingRow) (old mid mid2 : State)
    (read : AreReadFor version game ms rs old mid mid2) where
  same_moves : HaveSame (beginning_with game.id (moves_in (club_trees old.now))) (map move_cells ms)
  same_moves = turned_same _ (map move_cells ms) read.moves_are.once

  same_rulings : HaveSame (beginning_with game.id (rulings_at version (club_trees old.now))) (map ruling_cells rs)
  same_rulings = ruled_same version game.id rs old mid2 read.rulings_are

  module _ (content : Content) (holds : HoldsRows version content old.now) where
    -- where the table has moves that rise, those that were read are they
    moves_read : (made : List Row) → HaveSame (beginning_with game.id (moves_in (club_trees old.now))) made
        → IsAscending Before made → map move_cells ms ≡ made
    moves_read made = read_same version content game.id ms made old mid holds read.moves_are

    rulings_read : (made : List Row)
        → HaveSame (beginning_with game.id (rulings_at version (club_trees old.now))) made
        → IsAscending Before made → map ruling_cells rs ≡ made
    rulings_read made = read_rulings_same version content game.id rs made old mid2 holds read.rulings_are

    -- where the table has the moves of a legal game, they are it
    moves_of_kind : (kind : GameKind) (terms : Terms) (last : Option ℕ) (ss : List SeenRow)
        → HasItsMoves (moves_in (club_trees old.now)) (rulings_at version (club_trees old.now)) game kind terms
        → IsRightOf kind terms last game ms rs ss Moves
    moves_of_kind Draughts terms last ss its = λ possible.
        let are = its.are rs same_rulings possible in
        moves_alike both_games.draughts terms game game its.moves ms rs rs (like_itself game)
        (moves_read (map move_cells its.moves) its.same (moves_rise both_games.draughts terms game its.moves rs are)) refl
        are
    moves_of_kind Shogi terms last ss its = λ possible.
        let are = its.are rs same_rulings possible in
        moves_alike both_games.shogi terms game game its.moves ms rs rs (like_itself game)
        (moves_read (map move_cells its.moves) its.same (moves_rise both_games.shogi terms game its.moves rs are)) refl
        are

    -- where it has the rulings on a legal game, they are these
    rulings_in_rules : {P M E T : Type 0} (rules : GameRules P M E T) (terms : Terms) (moves_rows : List MoveRow)
        (ruled : List RulingRow)
        → HaveSame (beginning_with game.id (moves_in (club_trees old.now))) (map move_cells moves_rows)
        → HaveSame (beginning_with game.id (rulings_at version (club_trees old.now))) (map ruling_cells ruled)
        → AreRulingsOf rules terms game moves_rows ruled → AreRulingsOf rules terms game ms rs
    rulings_in_rules rules terms moves_rows ruled same also (inl none) =
        inl (none_shown ruling_cells rs
        (rulings_read (map ruling_cells ruled) also (none_rise ruling_cells ruled none) ∙ ap (map ruling_cells) none))
    rulings_in_rules rules terms moves_rows ruled same also (inr have) =
        rulings_alike rules terms game game moves_rows ms ruled rs (like_itself game)
        (moves_read (map move_cells moves_rows) same
        (played_rise rules terms have.id have.start moves_rows have.game have.played))
        (rulings_read (map ruling_cells ruled) also
        (subst (IsAscending Before) (sym have.rows) (rulings_rise have.id 1 have.game.outside have.game.rulings)))
        (inr have)

    rulings_of_kind : (kind : GameKind) (terms : Terms) (last : Option ℕ) (ss : List SeenRow)
        → HasItsRulings (moves_in (club_trees old.now)) (rulings_at version (club_trees old.now)) game kind terms
        → IsRightOf kind terms last game ms rs ss Rulings
    rulings_of_kind Draughts terms last ss its =
        rulings_in_rules both_games.draughts terms its.moves its.rulings its.same_moves its.same its.are
    rulings_of_kind Shogi terms last ss its =
        rulings_in_rules both_games.shogi terms its.moves its.rulings its.same_moves its.same its.are

    -- moves that are right with the rulings that were read are so with those that the table has
    moves_given : (kind : GameKind) (terms : Terms) (last : Option ℕ) (ss : List SeenRow)
        → IsRightOf kind terms last game ms rs ss Moves → (given : List RulingRow)
        → HaveSame (beginning_with game.id (rulings_at version (club_trees old.now))) (map ruling_cells given)
        → IsRightOf kind terms None game ms given [] Moves
    moves_given kind terms last ss right given same = of kind right
      where
        cells_are : ArePossibleRows game given → map ruling_cells given ≡ map ruling_cells rs
        cells_are possible =
            sym (rulings_read (map ruling_cells given) same (possible_rise game given possible))

        of : (k : GameKind) → IsRightOf k terms last game ms rs ss Moves → IsRightOf k terms None game ms given [] Moves
        of Draughts its = λ possible.
            right_moves_in both_games.draughts terms game game ms ms rs given (like_itself game) refl
            (cells_are possible) last ss None [] its possible
        of Shogi its = λ possible.
            right_moves_in both_games.shogi terms game game ms ms rs given (like_itself game) refl (cells_are possible)
            last ss None [] its possible

  -- rows that were judged to be all those of a legal game
  pub game_of : (place : ℕ) (s : ClubState) (g : ClubGame) → IsGameAt s (place + 1) game ms rs g
      → IsGameOf s (place + 1) game version (club_trees old.now) g
  game_of place s g at = record {
    legal = at.legal;
    row_is = at.row_is;
    moves_are = same_then _ (map move_cells ms) _ same_moves (same_by _ _ at.moves_are);
    rulings_are = same_then _ (map ruling_cells rs) _ same_rulings (same_by _ _ at.rulings_are);
  }

named_first : (P : Table → Type 0) (o : Option Table) (t : Table) → IsFirstWrong P o → o ≡ Some t → ¬ P t
named_first P None t first is right = cc
named_first P (Some u) t first is right = first.named (subst P (sym (same_Some u t is)) right)

-- The game of a club with these rows of games, of moves and of rulings.
record HasGameAt (s : ClubState) (place : ℕ) (game : GameTableRow) (ms : List MoveRow) (rs : List RulingRow) : Type 0
  where
    low : place < 5000
    it : ClubGame
    stands : slice_get s.games place ≡ Some it
    id : game.id ≡ pos (1 + place)
    at : IsGameAt s (place + 1) game ms rs it

module _ (rows : Rows) (place : ℕ) (game : GameTableRow) (ms : List MoveRow) (rs : List RulingRow) (ss : List SeenRow)
    (last : Option ℕ) (version : Version) (old mid mid2 : State) (read : AreReadFor version game ms rs old mid mid2)
    (wrong : Option Table)
    (first : (s : ClubState) → HasPeople s rows → IsFirstWrong (IsRightAt s rows place game ms rs ss last) wrong)
    (at : slice_get rows.games.items place ≡ Some game) where
  -- Moves that the rows of a game show to be wrong are so.
  pub game_moves_wrong : wrong ≡ Some Moves → (s : ClubState) → HasPeople s rows → MovesWrong rows version old.now
  game_moves_wrong is s people content holds have =
      let right : IsRightAt s rows place game ms rs ss last Moves =
      λ id event declares named ruled kind budget increment kind_is gives.
      moves_of_kind version game ms rs old mid mid2 read content holds kind (terms_told budget increment declares) last ss
      (have.played place game at id event declares named ruled kind budget increment kind_is gives) in
      named_first (IsRightAt s rows place game ms rs ss last) wrong Moves (first s people) is right

  -- So are rulings.
  pub game_rulings_wrong : wrong ≡ Some Rulings → (s : ClubState) → HasPeople s rows
      → RulingsWrong rows version old.now
  game_rulings_wrong is s people content holds have =
      let right : IsRightAt s rows place game ms rs ss last Rulings =
      λ id event declares named ruled kind budget increment kind_is gives.
      rulings_of_kind version game ms rs old mid mid2 read content holds kind (terms_told budget increment declares) last ss
      (have.ruled place game at id event declares named ruled kind budget increment kind_is gives) in
      named_first (IsRightAt s rows place game ms rs ss last) wrong Rulings (first s people) is right

  -- Moves that the rows of a game do not show to be wrong are right.
  pub game_moves_right : IsAfter Moves wrong → (s : ClubState) → HasPeople s rows
      → MovesRightOf rows game version old.now
  game_moves_right after s people content holds =
      let same = same_moves version game ms rs old mid mid2 read in
      record {
        typed = λ x h.
            let (row, there, is) = has_mapped move_cells ms x (same.there x h) in
            subst IsMove (sym is) (move_typed row);
        played = λ id event declares named ruled kind budget increment kind_is gives. record {
          moves = ms;
          same = same;
          are = moves_given version game ms rs old mid mid2 read content holds kind
              (terms_told budget increment declares) last ss
              ((first s people).before Moves (after_precedes Moves wrong after) id event declares named ruled kind
              budget increment kind_is gives);
        };
      }

  -- So are rulings.
  pub game_rulings_right : IsAfter Rulings wrong → (s : ClubState) → HasPeople s rows
      → RulingsRightOf rows game version old.now
  game_rulings_right after s people content holds =
      let same = same_rulings version game ms rs old mid mid2 read in
      record {
        typed = λ x h.
            let (row, there, is) = has_mapped ruling_cells rs x (same.there x h) in
            subst IsRuling (sym is) (ruling_typed row);
        ruled = λ id event declares named ruled kind budget increment kind_is gives. record {
          moves = ms;
          rulings = rs;
          same_moves = same_moves version game ms rs old mid mid2 read;
          same = same;
          are = right_rulings kind (terms_told budget increment declares) game game ms ms rs rs (like_itself game) refl
              refl last ss None []
              ((first s people).before Rulings (after_precedes Rulings wrong after) id event declares named ruled kind
              budget increment kind_is gives);
        };
      }

  has_game : (content : Content) → HoldsRows version content old.now
      → (have : HaveGamesOf rows (moves_in (club_trees old.now)) (rulings_at version (club_trees old.now)))
      → HasGameAt have.state place game ms rs
  has_game content holds have =
      let s = have.state in
      let (g, stands, cells_are) = numbered-at game_cells (row_of_game both_games s.events) 1 rows.games.items s.games
      have.games place game at in
      let id : game.id ≡ pos (1 + place) = id-told s (1 + place) game g cells_are in
      let within = slice_get_within s.games place g stands in
      let most = have.legal.game_count in
      let moves_are = moves_read version game ms rs old mid mid2 read content holds
      (rows_of_moves both_games s.events (1 + place) g)
      (subst (λ n. HaveSame (beginning_with n (moves_in (club_trees old.now)))
      (rows_of_moves both_games s.events (1 + place) g)) (sym id)
      (table_group (rows_of_moves both_games s.events) (λ id x z h. moves_had both_games s.events id x z h)
      (moves_in (club_trees old.now)) s.games have.same place g stands)) (game_rise s.events (1 + place) g) in
      let rulings_are = rulings_read version game ms rs old mid mid2 read content holds (rows_of_rulings (1 + place) g)
      (subst (λ n. HaveSame (beginning_with n (rulings_at version (club_trees old.now))) (rows_of_rulings (1 + place) g))
      (sym id)
      (table_group rows_of_rulings (λ id x z h. rulings_begin id x z h) (rulings_at version (club_trees old.now)) s.games
      have.ruled place g stands)) (game_rulings_rise (1 + place) g) in
      let here : IsGameAt s (1 + place) game ms rs g =
      record {
        legal = have.legal.games place g stands;
        row_is = cells_are;
        moves_are = moves_are;
        rulings_are = rulings_are;
      } in
      record {
        low = omega (arith, most, within);
        it = g;
        stands = stands;
        id = id;
        at = subst (λ n. IsGameAt s n game ms rs g) (next place) here;
      }

  -- A row of games that is shown to be wrong is that of no legal club with these rows of moves and of rulings.
  pub game_games_wrong : wrong ≡ Some Games → GamesWrong rows version old.now
  game_games_wrong is content holds have =
      let s = have.state in
      let has = has_game content holds have in
      let later = later-game s 253402300799 have.legal.last (place + 1) game ms rs has.it has.at in
      named_first (IsRightAt s rows place game ms rs ss last) wrong Games (first s have.people) is
      (has.low, has.it, later)

  module _ (new : State) (two : AreReadOf (seen 12) 2 game.id (map seen_cells ss) mid2 new) where
    trees_are : club_trees mid2.now ≡ club_trees old.now
    trees_are = ap club_trees (ruled_unchanged version game.id rs old mid2 read.rulings_are).0.now_is

    -- the rows of positions of such a club's game are its own
    has_all : (content : Content) → HoldsRows version content old.now
        → (have : HaveSeenOf rows (moves_in (club_trees old.now)) (rulings_at version (club_trees old.now))
        (seen_in (club_trees old.now)))
        → (has : HasGameAt have.games.state place game ms rs)
        → AreAllOf have.games.state (place + 1) game ms rs ss has.it
    has_all content holds have has =
        let seen_are = seen_of_game have.games.state have.games.legal (club_trees old.now)
        (unique_of version old.now content holds) (stores_of (seen 12) 6 refl refl holds).apart have.same place has.it
        has.stands (map seen_cells ss) mid2 new trees_are
        (subst (λ n. AreReadOf (seen 12) 2 n (map seen_cells ss) mid2 new) has.id two) in
        record {
          at = has.at;
          seen_are = subst (λ n. AreEachOnce (map seen_cells ss) (rows_of_seen both_games n has.it)) (next place)
              seen_are;
        }

    -- Rows of positions that are shown to be wrong are those of none with these rows of games, of moves and of rulings.
    game_seen_wrong : wrong ≡ Some Seen → SeenWrong rows version old.now
    game_seen_wrong is content holds have =
        let has = has_game content holds have.games in
        let none : Option ℕ = None in
        let right = club-right have.games.state rows have.games.people place game ms rs ss none have.games.legal.last
        has.low has.it (has_all content holds have has) (λ n no. cc) Seen in
        named_first (IsRightAt have.games.state rows place game ms rs ss last) wrong Seen
        (first have.games.state have.games.people) is right

    -- A table that is named is damaged.
    game_blamed : IsMomentOf rows.meta.last last → (t : Table) → wrong ≡ Some t
        → NamesPlay rows version old.now (Damaged t)
    game_blamed told t is = (
      t,
      refl,
      λ s own register holds.
          let of = club_of s rows last told (club_of_version version s own) register in
          let have = club_games rows version s old.now own register holds in
          let has = has_game (tables_at version s) holds have.games in
          let right = club-right s rows of.people place game ms rs ss last of.within has.low has.it
          (has_all (tables_at version s) holds have has)
          (λ n some. same_Some s.last n (sym of.moment ∙ some)) in
          named_first (IsRightAt s rows place game ms rs ss last) wrong t (first s of.people) is (right t),
    )

    seen_once : IsPermutation (beginning_with game.id (seen_in (club_trees old.now))) (map seen_cells ss)
    seen_once = subst (λ (t : Trees). IsPermutation (beginning_with game.id (seen_in t)) (map seen_cells ss)) trees_are
        two.once

    found_as : (s : ClubState) (g : ClubGame) → AreAllOf s (place + 1) game ms rs ss g
        → IsFoundAs s (place + 1) game version (club_trees old.now) g
    found_as s g all = record {
      game_is = game_of version game ms rs old mid mid2 read place s g all.at;
      seen_are = same_then _ (map seen_cells ss) _ (turned_same _ _ seen_once) all.seen_are.same;
    }

    -- what was judged of a game's rows
    pub game_found : IsMomentOf rows.meta.last last
        → IsGameFound rows last place game (length ms) (length rs) (length ss) wrong version old.now
    game_found told = record {
      moves_number = sym (length-map ms move_cells) ∙ length_permutation _ (map move_cells ms) read.moves_are.once;
      rulings_number = λ after. ruled_number version game.id rs old mid2 read.rulings_are;
      seen_number = λ after. sym (length-map ss seen_cells) ∙ length_permutation _ (map seen_cells ss) seen_once;
      found = λ none s of.
          let right = all-right (IsRightAt s rows place game ms rs ss last) wrong (first s of.people) none Meta in
          let (g, all) = right-club s rows of.people place game ms rs ss last of.within of.moment right in
          (g, found_as s g all);
      played = λ played s people.
          let after = after_precedes Seen wrong (played_after Seen (omega arith) wrong played) in
          let (g, all) = (first s people).before Seen after in
          (g, found_as (until last_moment s) g all);
      seated = λ after s people.
          let (low, g, at) = (first s people).before Games (after_precedes Games wrong after) in
          (g, game_of version game ms rs old mid mid2 read place (until last_moment s) g at);
      moves_right = game_moves_right;
      rulings_right = game_rulings_right;
      blamed = game_blamed told;
      moves_wrong = game_moves_wrong;
      rulings_wrong = game_rulings_wrong;
      games_wrong = game_games_wrong;
      seen_wrong = game_seen_wrong;
    }

-- what was judged of rows that were lent is so of the rows
pub all_first : (rows : Rows) (place : ℕ) (game : GameTableRow) (last : Option ℕ) (wrong : Option Table)
    (ms ms' : List MoveRow) (rs rs' : List RulingRow) (ss ss' : List SeenRow) → ms ≡ ms' → rs ≡ rs' → ss ≡ ss'
    → ((s : ClubState) → HasPeople s rows → IsFirstWrong (IsRightAt s rows place game ms rs ss last) wrong)
    → (s : ClubState) → HasPeople s rows → IsFirstWrong (IsRightAt s rows place game ms' rs' ss' last) wrong
all_first rows place game last wrong ms ms' rs rs' ss ss' one two three first s people =
    subst (λ (m : List MoveRow). IsFirstWrong (IsRightAt s rows place game m rs' ss' last) wrong) one
    (subst (λ (r : List RulingRow). IsFirstWrong (IsRightAt s rows place game ms r ss' last) wrong) two
    (subst (λ (p : List SeenRow). IsFirstWrong (IsRightAt s rows place game ms rs p last) wrong) three
    (first s people)))

-- and so are the numbers of rows
pub numbers_found : (rows : Rows) (last : Option ℕ) (place : ℕ) (game : GameTableRow) (wrong : Option Table)
    (version : Version) (db : Database) (a a' b b' d d' : ℕ) → a ≡ a' → b ≡ b' → d ≡ d'
    → IsGameFound rows last place game a b d wrong version db → IsGameFound rows last place game a' b' d' wrong version db
numbers_found rows last place game wrong version db a a' b b' d d' one two three found =
    subst (λ x. IsGameFound rows last place game x b' d' wrong version db) one
    (subst (λ x. IsGameFound rows last place game a x d' wrong version db) two
    (subst (λ x. IsGameFound rows last place game a b x wrong version db) three found))

-- ---- what is found of a game of which a ruling has a value of another type than its column

-- such rulings are those of no legal club, and not right
module _ (rows : Rows) (place : ℕ) (game : GameTableRow) (version : Version) (old : State)
    (untyped : ¬ AllByRecursion IsRuling (beginning_with game.id (rulings_at version (club_trees old.now)))) where
  begun_typed : AllByRecursion IsRuling (rulings_at version (club_trees old.now)) → ⊥
  begun_typed all =
      let shown = rulings_at version (club_trees old.now) in
      untyped (all_from IsRuling (beginning_with game.id shown) (λ x h.
      all_has IsRuling shown x all (has_filtered (λ y. same_key (0 ∷ []) y (Int game.id ∷ [])) shown x h).0))

  -- no rows of rulings with the types of their columns are those of the game
  none_given : {A : Type 0} (given : List RulingRow)
      → HaveSame (beginning_with game.id (rulings_at version (club_trees old.now))) (map ruling_cells given) → A
  none_given given same =
      absurd
      (untyped (all_from IsRuling (beginning_with game.id (rulings_at version (club_trees old.now))) (λ x h.
      let (row, there, is) = has_mapped ruling_cells given x (same.there x h) in
      subst IsRuling (sym is) (ruling_typed row))))

  untyped_moves_right : (ms : List MoveRow) (mid : State) → AreReadOf (moves 8) 2 game.id (map move_cells ms) old mid
      → MovesRightOf rows game version old.now
  untyped_moves_right ms mid read content holds =
      let same = turned_same (beginning_with game.id (moves_in (club_trees old.now))) (map move_cells ms) read.once in
      record {
        typed = λ x h.
            let (row, there, is) = has_mapped move_cells ms x (same.there x h) in
            subst IsMove (sym is) (move_typed row);
        played = λ id event declares named ruled kind budget increment kind_is gives. record {
          moves = ms;
          same = same;
          are = λ given alike. none_given given alike;
        };
      }

  -- no table from the rulings on is named first
  up_to_rulings : (table : Table) → order Rulings ≤ order table → IsAfter table (Some Rulings) → ⊥
  up_to_rulings table low after = let less = after Rulings refl in omega (arith, low, less)

  pub unruled_found : (last : Option ℕ) (ms : List MoveRow) (mid : State)
      → AreReadOf (moves 8) 2 game.id (map move_cells ms) old mid
      → IsGameFound rows last place game (length ms) 0 0 (Some Rulings) version old.now
  unruled_found last ms mid read = record {
    moves_number = sym (length-map ms move_cells) ∙ length_permutation _ (map move_cells ms) read.once;
    rulings_number = λ after. absurd (up_to_rulings Rulings (omega arith) after);
    seen_number = λ after. absurd (up_to_rulings Seen (omega arith) after);
    found = λ none s of. absurd (cc);
    played = λ free s people.
        absurd (up_to_rulings Seen (omega arith) (played_after Seen (omega arith) (Some Rulings) free));
    seated = λ after s people. absurd (up_to_rulings Games (omega arith) after);
    moves_right = λ after s people. untyped_moves_right ms mid read;
    rulings_right = λ after s people. absurd (up_to_rulings Rulings (omega arith) after);
    blamed = λ t is. (
      t,
      refl,
      λ s of_version register holds.
          let club = club_of_version version s of_version in
          let have = club_games rows version s old.now of_version register holds in
          begun_typed
          (types_same IsRuling (rulings_at version (club_trees old.now)) (tables_of both_games s 20)
          have.games.ruled.there (rulings-typed s club)),
    );
    moves_wrong = λ named. absurd (cc);
    rulings_wrong = λ named s people content holds have. begun_typed have.typed;
    games_wrong = λ named. absurd (cc);
    seen_wrong = λ named. absurd (cc);
  }

-- ---- what is found of a game whose rows of positions have values of other types than their columns

-- ---- a fault of reading positions

-- values of other types
pub seen_untyped : (old : State) (e : ReadFault) → e ≡ WrongType → BlamesRead (seen 12) IsSeen old e
    → IsUntyped Seen old.now
seen_untyped old e is (inl store) = absurd (cc)
seen_untyped old e is (inr (inl memory)) = absurd (cc)
seen_untyped old e is (inr (inr (named, wrong))) = λ version content holds typed.
    let stored : Stores (seen 12) (club_trees old.now) content = stores_of (seen 12) 6 refl refl holds in
    wrong (content 12) stored.rows stored.apart typed

-- or another fault
pub told_typed : (t : Table) (definition : Definition) (IsTyped : Row → Type 0) (old : State) (e : ReadFault)
    (fault : OpenFault) → fault ≡ told t e → (e ≡ WrongType → ⊥) → BlamesRead definition IsTyped old e
    → (fault ≡ Store) ⊎ (fault ≡ Memory)
told_typed t definition IsTyped old e fault is other (inl store) = inl (is ∙ ap (told t) store)
told_typed t definition IsTyped old e fault is other (inr (inl memory)) = inr (is ∙ ap (told t) memory)
told_typed t definition IsTyped old e fault is other (inr (inr (named, wrong))) = absurd (other named)

-- ---- what is found of the game

module _ (rows : Rows) (place : ℕ) (game : GameTableRow) (ms : List MoveRow) (rs : List RulingRow) (last : Option ℕ)
    (version : Version) (old mid mid2 : State) (read : AreReadFor version game ms rs old mid mid2)
    (untyped : IsUntyped Seen old.now) (w u : Option Table)
    (first : (s : ClubState) → HasPeople s rows → IsFirstWrong (IsRightAt s rows place game ms rs [] last) w)
    (one_of : IsOneOf w (Some Seen) u) (at : slice_get rows.games.items place ≡ Some game) where
  still_after : (table : Table) → IsAfter table u → IsAfter table w
  still_after table after = (both_after table w (Some Seen) u one_of after).0

  -- no table from the positions on is named first
  up_to_seen : (table : Table) → order Seen ≤ order table → IsAfter table u → ⊥
  up_to_seen table low after =
      let less = (both_after table w (Some Seen) u one_of after).1 Seen refl in omega (arith, low, less)

  pub untyped_found : IsGameFound rows last place game (length ms) (length rs) 0 u version old.now
  untyped_found = record {
    moves_number = sym (length-map ms move_cells) ∙ length_permutation _ (map move_cells ms) read.moves_are.once;
    rulings_number = λ after. ruled_number version game.id rs old mid2 read.rulings_are;
    seen_number = λ after. absurd (up_to_seen Seen (omega arith) after);
    found = λ none s of. absurd (cc (one_of.none none).1);
    played = λ free s people. absurd (up_to_seen Seen (omega arith) (played_after Seen (omega arith) u free));
    seated = λ after s people.
        let (low, g, is) = (first s people).before Games (after_precedes Games w (still_after Games after)) in
        (g, game_of version game ms rs old mid mid2 read place (until last_moment s) g is);
    moves_right = λ after.
        game_moves_right rows place game ms rs [] last version old mid mid2 read w first at (still_after Moves after);
    rulings_right = λ after.
        game_rulings_right rows place game ms rs [] last version old mid mid2 read w first at
        (still_after Rulings after);
    blamed = λ t is. (
      t,
      refl,
      λ s of_version register holds.
          untyped version (tables_at version s) holds
          (typed_at version s (club_of_version version s of_version) Seen),
    );
    moves_wrong = λ named. either one_of Moves named
        (game_moves_wrong rows place game ms rs [] last version old mid mid2 read w first at) (λ other. absurd (cc));
    rulings_wrong = λ named. either one_of Rulings named
        (game_rulings_wrong rows place game ms rs [] last version old mid mid2 read w first at) (λ other. absurd (cc));
    games_wrong = λ named. either one_of Games named
        (game_games_wrong rows place game ms rs [] last version old mid mid2 read w first at) (λ other. absurd (cc));
    seen_wrong = λ named. untyped_wrong rows version old untyped;
  }
