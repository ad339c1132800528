-- What is wrong where the rows of a game are not those of a legal one: its rulings by themselves, its moves, or its rulings
-- beside the moves.
use Rattle.std.proofs.Common.{◌≡◌, ℕ, ◌<◌, ◌≤◌, ◌^◌, List, [], ◌∷◌, length, map, take, Option, Some, None, Bool, true, false}
use Rattle.std.proofs.Common.{refl, ap, sym, ◌∙◌, subst, subst₂, pos, inl, inr, arith, codes}
use Rattle.std.specs.Prelude.{◌≢◌, is_some, slice_get, string_bytes}
use Rattle.std.specs.List.{list_all}
use Rattle.std.specs.Option.{option_map}
use Rattle.std.proofs.Math.Seq.{take-length}
use Rattle.std.proofs.lemmas.Bool.{and_parts}
use Rattle.squares.specs.declared.sides.Score.{Score}
use Rattle.club_rules.specs.GameRules.{GameRules}
use Rattle.club_rules.specs.Line.{position_after}
use Rattle.club_requests.specs.declared.outside_end.OutsideEnd.{OutsideEnd}
use Rattle.club_requests.specs.declared.outside_end.OutsideEnd.TheVariants.{Agreed, Declared, Recorded, Resigned, Time}
use Rattle.club_requests.specs.Limits.{last_moment}
use Rattle.club_requests.specs.Rulings.{verdict_in}
use Rattle.club_core.specs.Events.{Terms}
use Rattle.club_core.specs.Game.{Entry, Game, clocks_of, end_of, end_with, rule_end}
use Rattle.club_core.specs.Legal.{AreLegalRulings, IsVerdict}
use Rattle.club_core.specs.Rulings.{GivenRuling, verdict_of}
use Rattle.club_core.specs.View.{IsSound, Shows}
use Rattle.club_core.proofs.Proved.{none-verdict}
use Rattle.club_laws.proofs.Proved.{same-bytes_eq}
use Rattle.store_tables.specs.Cells.{ruling_cells}
use Rattle.store_tables.specs.declared.rows.GameTableRow.{GameTableRow}
use Rattle.store_tables.specs.declared.rows.MoveRow.{MoveRow}
use Rattle.store_tables.specs.declared.rows.RulingRow.{RulingRow}
use Rattle.club_rows.specs.Replay.{IsPlayedAs}
use Rattle.club_rows.specs.Rulings.{ArePossibleRows, AreRulingRows}
use Rattle.club_rows.specs.Tables.{at_start, end_name_text, ruling_rows_from}
use Rattle.club_rows.specs.LegalRows.{AreMovesOf, AreRowsOf, AreRulingsOf, HaveRuledGame, StartsAs}
use Rattle.club_rows.specs.internal.Columns.{columns_of}
use Rattle.club_rows.specs.internal.LegalRows.{IsSoundIfShown, IsUnstarted, IsWithoutId, IsWrongAsTold, ShowsGame}
use Rattle.club_rows.specs.internal.Replay.{Replays, WasReplayed, game_from}
use Rattle.club_rows.specs.internal.Ruled.{are_legal, is_recorded, may_be_given, names_record}
use Rattle.club_rows.specs.internal.Rulings.{AreRead, given_of, rulings_given}
use Rattle.club_rows.specs.declared.replay.Replayed.{Replayed}
use Rattle.club_rows.specs.declared.rulings.GameRulings.{GameRulings}
use Rattle.club_rows.specs.declared.view.CheckedRows.{CheckedRows}
use Rattle.club_rows.specs.declared.view.CheckedRows.TheVariants as shown
use Rattle.club_rows.proofs.ColumnLemmas.{cells-told, columns-told, row-columns, same-pos}
use Rattle.club_rows.proofs.RuledLemmas.{legal-ruled, list_all-each, list_all-mapped, may-told, not-given}
use Rattle.club_rows.proofs.RuledLemmas.{ruled-legal}
use Rattle.club_rows.proofs.RulingRowLemmas.{legal-possible, rulings-told}
use Rattle.club_rows.proofs.WholeLemmas.{none-played, played-count, rows-alike}

-- ---- lists without elements

mapped-none : {A B : Type 0} (f : A → B) (xs : List A) → map f xs ≡ [] → xs ≡ []
mapped-none f [] none = refl
mapped-none f (x ∷ xs) none = cc

no-rulings-read : (id : ℕ) → AreRulingRows id [] []
no-rulings-read id = record {
  outside = None;
  rows_are = refl;
  possible = record {
    count = omega arith;
    time = λ n r at. cc;
    moments = λ n r at. cc;
    in_order = λ n r next at at_next. cc;
  };
}

no-rows-read : (id : ℕ) (o : Option OutsideEnd) (rs : List GivenRuling) → ruling_rows_from id 1 o rs ≡ [] → rs ≡ []
no-rows-read id o [] none = refl
no-rows-read id o (r ∷ rs) none = cc

-- where each ruling is a verdict and there is none, there is no ruling
none-given : (rs : List GivenRuling) → verdict_of rs ≡ None
    → ((n : ℕ) (r : GivenRuling) → slice_get rs n ≡ Some r → IsVerdict r) → rs ≡ []
none-given [] none each = refl
none-given (r ∷ rs) none each =
    let nothing = none-verdict (r ∷ rs) none 0 r refl in
    let some = each 0 r refl in
    absurd cc

-- an end that is named as that of a record is one
record-named : {P M E T : Type 0} (rules : GameRules P M E T) (o : Option OutsideEnd)
    → option_map (end_name_text rules) (end_with {E = E} None None o) ≡ Some (codes "Recorded")
    → (score : Score) × (o ≡ Some (Recorded score))
record-named rules None named = cc
record-named rules (Some (Recorded score)) named = (score, refl)
record-named rules (Some Resigned) named = let clash : false ≡ true = ap names_record named in absurd cc
record-named rules (Some Agreed) named = let clash : false ≡ true = ap names_record named in absurd cc
record-named rules (Some Time) named = let clash : false ≡ true = ap names_record named in absurd cc
record-named rules (Some Declared) named = let clash : false ≡ true = ap names_record named in absurd cc

named-record : (o : Option (List ℕ)) → names_record o ≡ true → o ≡ Some (codes "Recorded")
named-record None named = cc
named-record (Some name) named = ap Some (same-bytes_eq name (codes "Recorded") named)

module _ {P M E T : Type 0} (rules : GameRules P M E T) (terms : Terms) (stored : GameTableRow) (moves : List MoveRow)
    (rulings : List RulingRow) where
  -- ---- rulings that are wrong by themselves

  -- rows that are those of no possible rulings are wrong
  pub rulings-wrong : (id : ℕ) → stored.id ≡ pos id
      → ((rs : List GivenRuling) → ¬ AreRulingRows id rulings rs) → ¬ ArePossibleRows stored rulings
  rulings-wrong id id_is none (inl empty) = none [] (rw empty (no-rulings-read id))
  rulings-wrong id id_is none (inr have) =
      none have.rulings (subst (λ n. AreRulingRows n rulings have.rulings) (same-pos _ _ (sym have.id_is ∙ id_is)) have.are)

  legal-rows : {id : ℕ} {game : Game M} → AreRowsOf rules terms id stored moves rulings game
      → AreRulingRows id rulings game.rulings
  legal-rows {id} {game} is = record {
    outside = game.outside;
    rows_are = is.rulings;
    possible = legal-possible rules terms game is.legal.rulings is.fits.rulings;
  }

  ruled-rows : (have : HaveRuledGame rules terms stored moves rulings)
      → AreRulingRows have.id rulings have.game.rulings
  ruled-rows have = record {
    outside = have.game.outside;
    rows_are = have.rows;
    possible = legal-possible rules terms have.game have.legal have.moments;
  }

  rows-played : (id : ℕ) (game : Game M) → AreRowsOf rules terms id stored moves rulings game
      → IsPlayedAs rules terms id game.start moves game
  rows-played id game is = record {
    line = is.legal.line;
    plies = is.legal.plies;
    timely = is.legal.timely;
    start = refl;
    moments = is.fits.entries;
    moves = is.moves;
  }

  -- rulings on a game with these moves are possible
  pub rulings-possible : AreRulingsOf rules terms stored moves rulings → ArePossibleRows stored rulings
  rulings-possible (inl empty) = inl empty
  rulings-possible (inr have) = inr (record {
    id = have.id;
    id_is = have.starts.id_is;
    short = have.starts.short;
    rulings = have.game.rulings;
    are = ruled-rows have;
  })

  -- the rows of a legal game are those of its rulings
  pub id-is : (id : ℕ) (game : Game M) → AreRowsOf rules terms id stored moves rulings game → stored.id ≡ pos id
  id-is id game is = (columns-told rules terms id game stored is.row).numbers.id

  pub start-is : (id : ℕ) (game : Game M) → AreRowsOf rules terms id stored moves rulings game
      → stored.start ≡ pos game.start
  start-is id game is = (columns-told rules terms id game stored is.row).numbers.start

  module _ (id : ℕ) (game : Game M) (is : AreRowsOf rules terms id stored moves rulings game) where
    -- a game whose row names the score of a record, without a verdict and an end by the rules, has no rulings
    recorded-alone : rule_end rules game ≡ None → verdict_of game.rulings ≡ None
        → option_map (λ s. string_bytes s) stored.end ≡ Some (codes "Recorded") → game.rulings ≡ []
    recorded-alone running none named =
        let cells = cells-told stored (columns_of rules terms id game) (is.row ∙ row-columns rules terms id game) in
        let name : option_map (end_name_text rules) (end_of rules game) ≡ Some (codes "Recorded") =
        sym cells.end ∙ named in
        let (score, outside) = record-named rules game.outside
        (rw (running, none) at name) in
        none-given game.rulings none (is.legal.rulings.recorded score outside)

    -- the rulings of a legal game are legal beside its moves
    pub legal-rulings : AreRulingsOf rules terms stored moves rulings
    legal-rulings = by-rows rulings refl
      where
        by-rows : (rows : List RulingRow) → rulings ≡ rows → AreRulingsOf rules terms stored moves rulings
        by-rows [] empty = inl empty
        by-rows (row ∷ rows) some = inr (record {
          id = id;
          start = game.start;
          starts = record {
            id_is = id-is id game is;
            start_is = start-is id game is;
            short = is.fits.id;
            within = is.fits.start;
          };
          game = game;
          played = rows-played id game is;
          legal = is.legal.rulings;
          moments = is.fits.rulings;
          rows = is.rulings;
          recorded = λ running none named.
              let nothing = recorded-alone running none named in
              let empty : map ruling_cells rulings ≡ [] =
              is.rulings ∙ ap (ruling_rows_from id 1 game.outside) nothing in
              let gone : rulings ≡ [] = mapped-none ruling_cells rulings empty in
              cc;
        })

  -- the moves of a legal game are right, and so are its rulings
  pub rows-moves : (id : ℕ) (game : Game M) → AreRowsOf rules terms id stored moves rulings game
      → AreMovesOf rules terms stored moves rulings
  rows-moves id game is = inr (record {
    id = id;
    start = game.start;
    starts = record {
      id_is = id-is id game is;
      start_is = start-is id game is;
      short = is.fits.id;
      within = is.fits.start;
    };
    game = game;
    played = rows-played id game is;
    rulings = legal-rows is;
  })

  pub rows-rulings : (id : ℕ) (game : Game M) → AreRowsOf rules terms id stored moves rulings game
      → AreRulingsOf rules terms stored moves rulings
  rows-rulings id game is = legal-rulings id game is

  -- of rulings that are wrong by themselves no game has the rows
  pub no-game : (id : ℕ) → stored.id ≡ pos id → ((rs : List GivenRuling) → ¬ AreRulingRows id rulings rs)
      → (other : ℕ) (game : Game M) → ¬ AreRowsOf rules terms other stored moves rulings game
  no-game id id_is none other game is =
      none game.rulings
      (subst (λ n. AreRulingRows n rulings game.rulings) (same-pos _ _ (sym (id-is other game is) ∙ id_is))
      (legal-rows is))

  -- ---- an id or a start out of range

  no-id : ((n : ℕ) → n < 2 ^ 32 → stored.id ≢ pos n) → (id : ℕ) (game : Game M)
      → ¬ AreRowsOf rules terms id stored moves rulings game
  no-id none id game is = none id is.fits.id (id-is id game is)

  no-start : ((n : ℕ) → n ≤ last_moment → stored.start ≢ pos n) → (id : ℕ) (game : Game M)
      → ¬ AreRowsOf rules terms id stored moves rulings game
  no-start none id game is = none game.start is.fits.start (start-is id game is)

  pub shown-without-id : {R : Type 0} → ((n : ℕ) → n < 2 ^ 32 → stored.id ≢ pos n) → (s : CheckedRows R P M E T)
      → IsWithoutId moves rulings s
      → IsSoundIfShown rules terms stored moves rulings s
      × ((id : ℕ) (game : Game M) → AreRowsOf rules terms id stored moves rulings game → ShowsGame rules terms game s)
      × IsWrongAsTold rules terms stored moves rulings s
  shown-without-id none (shown.Game v) is = absurd is
  shown-without-id none shown.WrongMoves (empty, some) = (
    tt,
    λ id game rows. no-id none id game rows,
    (
      inl empty,
      λ are. elim are [
        | inl nothing ↦ some nothing
        | inr have ↦ none have.id have.starts.short have.starts.id_is
      ],
    ),
  )
  shown-without-id none shown.WrongRulings some = (
    tt,
    λ id game rows. no-id none id game rows,
    (
      λ possible. elim possible [
        | inl nothing ↦ absurd (some nothing)
        | inr have ↦ absurd (none have.id have.short have.id_is)
      ],
      λ are. elim are [
        | inl nothing ↦ some nothing
        | inr have ↦ none have.id have.starts.short have.starts.id_is
      ],
    ),
  )
  shown-without-id none shown.WrongGame (empty, still) = (
    tt,
    λ id game rows. no-id none id game rows,
    (inl still, inl empty, no-id none),
  )

  pub shown-without-start : {R : Type 0} → ((n : ℕ) → n ≤ last_moment → stored.start ≢ pos n)
      → ArePossibleRows stored rulings → (s : CheckedRows R P M E T) → IsUnstarted moves rulings s
      → IsSoundIfShown rules terms stored moves rulings s
      × ((id : ℕ) (game : Game M) → AreRowsOf rules terms id stored moves rulings game → ShowsGame rules terms game s)
      × IsWrongAsTold rules terms stored moves rulings s
  shown-without-start none possible (shown.Game v) is = absurd is
  shown-without-start none possible shown.WrongMoves some = (
    tt,
    λ id game rows. no-start none id game rows,
    (
      possible,
      λ are. elim are [
        | inl nothing ↦ some nothing
        | inr have ↦ none have.start have.starts.within have.starts.start_is
      ],
    ),
  )
  shown-without-start none possible shown.WrongRulings (still, some) = (
    tt,
    λ id game rows. no-start none id game rows,
    (
      λ possible. inl still,
      λ are. elim are [
        | inl nothing ↦ some nothing
        | inr have ↦ none have.start have.starts.within have.starts.start_is
      ],
    ),
  )
  shown-without-start none possible shown.WrongGame (still, empty) = (
    tt,
    λ id game rows. no-start none id game rows,
    (inl still, inl empty, no-start none),
  )

  -- rulings that were read are possible
  pub read-alone : (id : ℕ) → stored.id ≡ pos id → id < 2 ^ 32 → (read : GameRulings) → AreRead id rulings read
      → ArePossibleRows stored rulings
  read-alone id id_is short read are = inr (record {
    id = id;
    id_is = id_is;
    short = short;
    rulings = rulings_given read.given.items;
    are = record { outside = read.beneath; rows_are = are.rows_are; possible = are.possible };
  })

  -- ---- moves that no game has

  module _ (id start : ℕ) (opens : StartsAs stored id start) (read : GameRulings) (are : AreRead id rulings read) where
    abbrev rs : List GivenRuling
    rs = rulings_given read.given.items

    read-rows : AreRulingRows id rulings rs
    read-rows = record { outside = read.beneath; rows_are = are.rows_are; possible = are.possible }

    pub read-possible : ArePossibleRows stored rulings
    read-possible = read-alone id opens.id_is opens.short read are

    -- the rulings in the rows are those that were read
    same-rulings : (other : ℕ) → stored.id ≡ pos other → (all : List GivenRuling) → AreRulingRows other rulings all
        → all ≡ rs
    same-rulings other other_is all rows =
        let here = subst (λ n. AreRulingRows n rulings all) (same-pos _ _ (sym other_is ∙ opens.id_is)) rows in
        (rulings-told id 1 here.outside read.beneath all rs (sym here.rows_are ∙ are.rows_are)).0

    same-played : (other from : ℕ) → stored.id ≡ pos other → stored.start ≡ pos from → (game : Game M)
        → IsPlayedAs rules terms other from moves game → IsPlayedAs rules terms id start moves game
    same-played other from other_is from_is game played =
        subst₂ (λ i f. IsPlayedAs rules terms i f moves game) (same-pos _ _ (sym other_is ∙ opens.id_is))
        (same-pos _ _ (sym from_is ∙ opens.start_is)) played

    module _ (none : (game : Game M) → game.rulings ≡ rs → ¬ IsPlayedAs rules terms id start moves game) where
      pub moves-wrong : ¬ AreMovesOf rules terms stored moves rulings
      moves-wrong (inl empty) = none (game_from rs start []) refl (rw empty (none-played rules terms id rs start))
      moves-wrong (inr have) =
          none have.game (same-rulings have.id have.starts.id_is have.game.rulings have.rulings)
          (same-played have.id have.start have.starts.id_is have.starts.start_is have.game have.played)

      pub moves-none : (other : ℕ) (game : Game M) → ¬ AreRowsOf rules terms other stored moves rulings game
      moves-none other game is =
          none game (same-rulings other (id-is other game is) game.rulings (legal-rows is))
          (same-played other game.start (id-is other game is) (start-is other game is) game (rows-played other game is))

    -- ---- rulings beside the moves

    module _ {R : Type 0} (replayed : Replayed R P M E T)
        (was : WasReplayed rules terms id rs start moves (length moves) replayed) where
      abbrev base : Game M
      base = record (game_from rs start was.entries) { outside = read.beneath }

      abbrev end : Option (List ℕ)
      end = option_map (λ s. string_bytes s) stored.end

      base-played : IsPlayedAs rules terms id start moves base
      base-played =
          let played = rw (take-length moves) at was.played in
          record {
            line = played.line;
            plies = played.plies;
            timely = played.timely;
            start = refl;
            moments = played.moments;
            moves = played.moves ∙ rows-alike rules terms id (game_from rs start []) (at_start base) was.entries refl refl
                refl;
          }

      pub moves-right : AreMovesOf rules terms stored moves rulings
      moves-right = inr (record {
        id = id;
        start = start;
        starts = opens;
        game = base;
        played = base-played;
        rulings = read-rows;
      })

      -- the entries of a game with these moves
      same-entries : (game : Game M) → game.rulings ≡ rs → IsPlayedAs rules terms id start moves game
          → was.entries ≡ game.entries
      same-entries game rulings_are played =
          sym (was.only game rulings_are played)
          ∙ (ap (λ n. take n game.entries) (played-count rules terms id start moves game played)
          ∙ take-length game.entries)

      replays-base : Replays rules base (clocks_of base terms) replayed
      replays-base = record {
        line = was.replays.line;
        position = was.replays.position;
        clocks_are = was.replays.clocks_are;
      }

      -- a game of which all that was replayed is so
      replays-game : (game : Game M) → game.rulings ≡ rs → IsPlayedAs rules terms id start moves game
          → Replays rules game (clocks_of game terms) replayed
      replays-game game rulings_are played =
          let entries = same-entries game rulings_are played in
          let all = was.replays in
          record {
            line = all.line ∙ ap (map (λ (x : Entry M). x.made)) entries;
            position = all.position ∙ ap (λ es. position_after rules rules.start (map (λ (x : Entry M). x.made) es)) entries;
            clocks_are = all.clocks_are
                ∙ λ i. clocks_of (game_from (sym rulings_are i) (sym played.start i) (entries i)) terms;
          }

      -- rulings that were tested are those on a game with these moves
      pub rulings-right : are_legal rules read replayed start moves end ≡ true
          → AreRulingsOf rules terms stored moves rulings
      rulings-right tests = by-rows rulings refl
        where
          no-record : read.verdict ≡ None → (score : Score) → base.outside ≡ Some (Recorded score)
              → (is_some (rules.judge rules.start replayed.line.items) ≡ false) × (names_record end ≡ true)
          no-record none score outside = let nothing = are.beneath_alone none in absurd cc

          legal : AreLegalRulings rules terms base
          legal = ruled-legal rules terms id start moves base base-played replayed replays-base read end refl
              are.verdict_is are.first_is are.beneath_alone (λ some. refl) are.possible no-record tests

          first-grant : (xs : List GivenRuling) → rs ≡ xs → verdict_of rs ≡ None → rulings ≢ []
              → (r : GivenRuling) × (slice_get rs 0 ≡ Some r) × (verdict_in r.ruling ≡ None)
          first-grant [] is none some =
              let nothing : map ruling_cells rulings ≡ [] = are.rows_are ∙ ap (ruling_rows_from id 1 read.beneath) is in
              absurd (some (mapped-none ruling_cells rulings nothing))
          first-grant (r ∷ xs) is none some = (r, rw is refl, none-verdict rs none 0 r (rw is refl))

          not-recorded : rulings ≢ [] → rule_end rules base ≡ None → verdict_of base.rulings ≡ None
              → end ≢ Some (codes "Recorded")
          not-recorded some running none named =
              let verdict : read.verdict ≡ None = are.verdict_is ∙ none in
              let (r, at, grant) = first-grant rs refl none some in
              let named_record : Bool = is_recorded read.beneath (is_some read.verdict)
              (is_some (rules.judge rules.start replayed.line.items)) end in
              let may : GivenRuling → Bool = may_be_given start moves
              (is_some (rules.judge rules.start replayed.line.items)) named_record in
              let all : list_all (λ x. may (given_of x)) read.given.items ≡ true = (and_parts _ _ tests).0 in
              let test : may r ≡ true =
              list_all-each may rs (sym (list_all-mapped given_of may read.given.items) ∙ all) 0 r at in
              let ruled : is_some (rules.judge rules.start replayed.line.items) ≡ false =
              ap (λ ms. is_some (rules.judge rules.start ms)) was.replays.line ∙ ap is_some running in
              let recorded : is_recorded read.beneath (is_some read.verdict)
              (is_some (rules.judge rules.start replayed.line.items)) end ≡ true =
              rw (are.beneath_alone verdict, verdict, ruled, named) refl in
              let verdict_some = (may-told start moves (is_some (rules.judge rules.start replayed.line.items)) named_record r
              test).no_grant recorded in
              absurd cc

          by-rows : (rows : List RulingRow) → rulings ≡ rows → AreRulingsOf rules terms stored moves rulings
          by-rows [] is = inl is
          by-rows (row ∷ rows) is = inr (record {
            id = id;
            start = start;
            starts = opens;
            game = base;
            played = base-played;
            legal = legal;
            moments = are.possible.moments;
            rows = are.rows_are;
            recorded = not-recorded (λ none. cc);
          })

      -- and the other way round
      pub rulings-tested : AreRulingsOf rules terms stored moves rulings
          → are_legal rules read replayed start moves end ≡ true
      rulings-tested (inl empty) =
          let nothing : rs ≡ [] = no-rows-read id read.beneath rs (sym are.rows_are ∙ ap (map ruling_cells) empty) in
          let verdict : read.verdict ≡ None = are.verdict_is ∙ ap verdict_of nothing in
          let beneath = are.beneath_alone verdict in
          let items : read.given.items ≡ [] = mapped-none given_of read.given.items nothing in
          rw (items, beneath) refl
      rulings-tested (inr have) =
          let rulings_are = same-rulings have.id have.starts.id_is have.game.rulings (ruled-rows have) in
          let played = same-played have.id have.start have.starts.id_is have.starts.start_is have.game have.played in
          let told = rulings-told id 1 read.beneath have.game.outside rs have.game.rulings
          (sym are.rows_are ∙ subst (λ n. map ruling_cells rulings ≡ ruling_rows_from n 1 have.game.outside have.game.rulings)
          (same-pos _ _ (sym have.starts.id_is ∙ opens.id_is)) have.rows) in
          let running : is_some (rules.judge rules.start replayed.line.items) ≡ false → rule_end rules have.game ≡ None =
          λ ruled. not-given (rule_end rules have.game)
          (ap (λ ms. is_some (rules.judge rules.start ms)) (sym (replays-game have.game rulings_are played).line) ∙ ruled)
          in
          rw (sym played.start)
          (legal-ruled rules terms id start moves have.game played replayed
          (replays-game have.game rulings_are played) read end rulings_are are.verdict_is are.first_is are.beneath_alone
          (λ some. sym (told.1 (rw (← are.verdict_is) some))) have.legal
          (λ none ruled named. absurd
          (have.recorded (running ruled) (ap verdict_of rulings_are ∙ (sym are.verdict_is ∙ none))
          (named-record end named))))

      -- so it is with the rows of a legal game
      pub rows-tested : (other : ℕ) (game : Game M) → AreRowsOf rules terms other stored moves rulings game
          → are_legal rules read replayed start moves end ≡ true
      rows-tested other game is = rulings-tested (legal-rulings other game is)
