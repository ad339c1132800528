-- The ids, the keys and the meetings of the games that rows show.
use Rattle.std.proofs.Common.{◌≡◌, ℕ, zero, suc, pos, ◌+◌, ◌≤◌, List, [], ◌∷◌, ◌++◌, map, take, Option, Some, ap, sym}
use Rattle.std.proofs.Common.{◌∙◌, arith, ◌*◌, ◌<◌, ◌^◌, length, None, refl, length-append}
use Rattle.std.specs.Prelude.{ℤ, is_some, slice_get, string_bytes}
use Rattle.std.specs.Option.{option_map}
use Rattle.std.proofs.lemmas.Option.{same_Some}
use Rattle.club_rules.specs.declared.names.GameKind.{GameKind}
use Rattle.club_rules.specs.GameRules.{GameRules}
use Rattle.club_core.specs.Game.{Game, end_of, result_of}
use Rattle.club_core.specs.LegalState.{HaveUniqueKeysIfAny, IsGameOf, IsLegalIn}
use Rattle.club_core.specs.State.{draughts, shogi, place, terms_at, key_of, pairing_of}
use Rattle.store_tables.specs.Cells.{game_cells}
use Rattle.store_tables.specs.declared.rows.GameTableRow.{GameTableRow}
use Rattle.club_rows.specs.Club.{both_games, ClubGame, ClubState}
use Rattle.club_rows.specs.Tables.{numbered_from, row_of_game}
use Rattle.club_audit.specs.internal.ChallengeAudit.{IsRowOfPairing}
use Rattle.club_audit.proofs.PlacedLemmas.{numbered-at, numbered-back, head-is}
use Rattle.club_rows.proofs.Proved.{columns-told, IsToldBy}
use Rattle.std.specs.List.{flat_map}
use Rattle.squares.specs.declared.sides.Score.{Score}
use Rattle.club_core.specs.declared.rows.GameEnd.{GameEnd}
use Rattle.club_rows.specs.Scores.{meetings_if, meetings_in, meetings_of}
use Rattle.club_rows.specs.Tables.{end_name_text}
use Rattle.club_audit.specs.internal.Standings.{AreGamesOf, AreTold, Tells, met_if}

-- ---- lists

pub take-got : {A : Type 0} (xs : List A) (i : ℕ) (x : A) → slice_get xs i ≡ Some x
    → take (suc i) xs ≡ take i xs ++ x ∷ []
take-got [] i x at = cc
take-got (y ∷ ys) zero x at = ap (λ z. z ∷ []) (same_Some y x at)
take-got (y ∷ ys) (suc i) x at = ap (λ zs. y ∷ zs) (take-got ys i x at)

-- ---- what the rows of games tell

abbrev pub key_in : GameTableRow → Option (List ℕ)
key_in r = option_map (λ s. string_bytes s) r.key

ended-is : {A B C : Type 0} (f : A → C) (g : B → C) (a : Option A) (b : Option B) → option_map f a ≡ option_map g b
    → is_some a ≡ is_some b
ended-is f g None None is = refl
ended-is f g (Some x) (Some y) is = refl
ended-is f g a b is = cc

met-is : {E : Type 0} (event first second : ℤ) (end : Option (GameEnd E)) (score : Option Score)
    → meetings_if event first second end score ≡ met_if (is_some end) event first second score
met-is event first second None score = refl
met-is event first second (Some end) score = refl

tells : {P M E T : Type 0} (rules : GameRules P M E T) (id : ℕ) (game : Game M) (row : GameTableRow)
    → IsToldBy rules id game row → Tells row (meetings_of rules game)
tells rules id game row told =
    let ids = told.numbers in
    let ended = ended-is (λ s. string_bytes s) (end_name_text rules) row.end (end_of rules game) told.end in
    let met = met-is (pos game.event) (pos game.first) (pos game.second) (end_of rules game) (result_of rules game) in
    record {
      score = result_of rules game;
      result = told.result;
      met = met ∙ rw (ended, ids.event, ids.first, ids.second) refl;
    }

-- the row has the game's id, its event and its players, its key, and its meetings
pub record TellsGame (id : ℕ) (any : ClubGame) (row : GameTableRow) : Type 0 where
  pub id_is : row.id ≡ pos id
  pub pairing : IsRowOfPairing row (pairing_of any)
  pub key_is : key_in row ≡ key_of any
  pub met : Tells row (meetings_in both_games any)

module _ (s : ClubState) where
  -- as it is told by the row's cells
  pub game-told : (id : ℕ) (row : GameTableRow) (any : ClubGame)
      → game_cells row ≡ row_of_game both_games s.events id any → TellsGame id any row
  game-told id row (draughts g) cells =
      let told = columns-told both_games.draughts (terms_at (place s.events g.event)) id g row cells in
      let ids = told.numbers in
      record {
        id_is = ids.id;
        pairing = record { event = ids.event; first = ids.first; second = ids.second };
        key_is = told.key;
        met = tells both_games.draughts id g row told;
      }
  game-told id row (shogi g) cells =
      let told = columns-told both_games.shogi (terms_at (place s.events g.event)) id g row cells in
      let ids = told.numbers in
      record {
        id_is = ids.id;
        pairing = record { event = ids.event; first = ids.first; second = ids.second };
        key_is = told.key;
        met = tells both_games.shogi id g row told;
      }

  -- the row of a game has its id
  pub id-told : (id : ℕ) (row : GameTableRow) (any : ClubGame) → game_cells row ≡ row_of_game both_games s.events id any
      → row.id ≡ pos id
  id-told id row any cells = (game-told id row any cells).id_is

-- ---- keys

module _ (s : ClubState) (games : List ClubGame) (rows : List GameTableRow)
    (rows_are : map game_cells rows ≡ numbered_from (row_of_game both_games s.events) 1 games) where
  -- keys of the games are apart where those of the rows are
  pub keys-of : HaveUniqueKeysIfAny key_in rows → HaveUniqueKeysIfAny key_of games
  keys-of apart i j x y b one two first second =
      let (r, here, cells) = numbered-back _ _ _ _ _ rows_are i x one in
      let (q, there, cells') = numbered-back _ _ _ _ _ rows_are j y two in
      apart i j r q b here there ((game-told s (1 + i) r x cells).key_is ∙ first)
      ((game-told s (1 + j) q y cells').key_is ∙ second)

  pub keys-in : HaveUniqueKeysIfAny key_of games → HaveUniqueKeysIfAny key_in rows
  keys-in apart i j x y b one two first second =
      let (g, here, cells) = numbered-at _ _ _ _ _ rows_are i x one in
      let (h, there, cells') = numbered-at _ _ _ _ _ rows_are j y two in
      apart i j g h b here there (sym (game-told s (1 + i) x g cells).key_is ∙ first)
      (sym (game-told s (1 + j) y h cells').key_is ∙ second)

-- ---- games of another club

-- a game of a club is a game of a club with the same members and events that has come as far
of-later : {P M E T : Type 0} {rules : GameRules P M E T} {kind : GameKind} (s : ClubState) (games : List ClubGame)
    (m : ℕ) (game : Game M) → s.last ≤ m → IsGameOf rules kind s game
    → IsGameOf rules kind (record s { games = games; last = m }) game
of-later s games m game low of = record {
  event = of.event;
  in_event = of.in_event;
  of_kind = of.of_kind;
  legal = of.legal;
  first = of.first;
  second = of.second;
  key = of.key;
  start = omega arith;
  entries = λ n e at. let most : e.moment ≤ s.last = of.entries n e at in omega (arith, most, low);
  rulings = λ n r at. let most : r.moment ≤ s.last = of.rulings n r at in omega (arith, most, low);
  lost_by_time = λ lost. let late = of.lost_by_time lost in omega (arith, late, low);
}

pub legal-later : (s : ClubState) (games : List ClubGame) (m : ℕ) → s.last ≤ m → (any : ClubGame)
    → IsLegalIn both_games s any → IsLegalIn both_games (record s { games = games; last = m }) any
legal-later s games m low (draughts g) of = of-later s games m g low of
legal-later s games m low (shogi g) of = of-later s games m g low of

-- a game of a club is a game of a club with the same members and events
pub game-elsewhere : (s : ClubState) (games : List ClubGame) (any : ClubGame) → IsLegalIn both_games s any
    → IsLegalIn both_games (record s { games = games }) any
game-elsewhere s games any of = legal-later s games s.last (omega arith) any of

module _ (s : ClubState) where
  pub games-told : (id : ℕ) (rows : List GameTableRow) (games : List ClubGame)
      → map game_cells rows ≡ numbered_from (row_of_game both_games s.events) id games
      → AreTold rows (flat_map (meetings_in both_games) games)
  games-told id [] [] are = refl
  games-told id [] (any ∷ games) are = cc
  games-told id (row ∷ rows) [] are = cc
  games-told id (row ∷ rows) (any ∷ games) are =
      let (cells, rest) = head-is _ _ _ _ are in (
        meetings_in both_games any,
        flat_map (meetings_in both_games) games,
        (game-told s id row any cells).met,
        games-told (suc id) rows games rest,
        refl,
      )

-- a game is met by two at most
few-met : {E : Type 0} (end : Option (GameEnd E)) (score : Option Score) (event first second : ℕ)
    → length (meetings_if (pos event) (pos first) (pos second) end score) ≤ 2
few-met None score event first second = omega arith
few-met (Some end) score event first second = omega arith

game-met : (any : ClubGame) → length (meetings_in both_games any) ≤ 2
game-met (draughts g) = few-met (end_of both_games.draughts g) (result_of both_games.draughts g) g.event g.first g.second
game-met (shogi g) = few-met (end_of both_games.shogi g) (result_of both_games.shogi g) g.event g.first g.second

games-met : (games : List ClubGame) → length (flat_map (meetings_in both_games) games) ≤ 2 * length games
games-met [] = omega arith
games-met (any ∷ games) =
    let one = game-met any in
    let more = games-met games in
    let whole = length-append (meetings_in both_games any) (flat_map (meetings_in both_games) games) in
    omega (arith, one, more, whole)

module _ (s : ClubState) (rows : List GameTableRow) (are : AreGamesOf s rows) where
  pub club-told : AreTold rows (flat_map (meetings_in both_games) s.games)
  club-told = games-told s 1 rows s.games are.rows_are

  pub club-few : length (flat_map (meetings_in both_games) s.games) < 2 ^ 61
  club-few = let met = games-met s.games in let few = are.few in omega (arith, met, few)
