-- What is shown of a game that was replayed, where its row stands.
use Rattle.std.proofs.Common.{◌≡◌, ℕ, List, [], length, map, take, Option, Some, None, true, false, ◌&&◌, refl, ap, sym}
use Rattle.std.proofs.Common.{◌∙◌, subst, arith}
use Rattle.std.specs.Prelude.{IsSome, IsTrue, is_some, string_bytes}
use Rattle.std.specs.Option.{option_map}
use Rattle.std.proofs.Math.Seq.{take-length}
use Rattle.squares.specs.declared.sides.Score.{Score}
use Rattle.club_rules.specs.GameRules.{GameRules}
use Rattle.club_core.specs.declared.rows.GameEnd.TheVariants.{Outside}
use Rattle.club_core.specs.declared.rows.GameView.{GameView}
use Rattle.club_requests.specs.declared.outside_end.OutsideEnd.{OutsideEnd}
use Rattle.club_requests.specs.declared.outside_end.OutsideEnd.TheVariants.{Recorded}
use Rattle.club_requests.specs.declared.rulings.Verdict.{Verdict}
use Rattle.club_requests.specs.Limits.{is_budget, is_increment}
use Rattle.club_core.specs.Events.{Terms}
use Rattle.club_core.specs.Game.{Entry, Game, end_of, end_with, rule_end}
use Rattle.club_core.specs.Legal.{AreLegalRulings}
use Rattle.club_core.specs.Rulings.{GivenRuling, verdict_of}
use Rattle.club_core.specs.View.{IsRowOf, Shows, IsSound, terms_of}
use Rattle.store_tables.specs.Cells.{game_cells, ruling_cells}
use Rattle.store_tables.specs.declared.rows.GameTableRow.{GameTableRow}
use Rattle.store_tables.specs.declared.rows.MoveRow.{MoveRow}
use Rattle.store_tables.specs.declared.rows.RulingRow.{RulingRow}
use Rattle.club_rows.specs.Replay.{IsPlayedAs}
use Rattle.club_rows.specs.Tables.{at_start, move_rows, ruling_rows, ruling_rows_from}
use Rattle.club_rows.specs.internal.Replay.{ReplaysFrom, WasReplayed, game_from}
use Rattle.club_rows.specs.internal.Tally.{IsTallyOf}
use Rattle.club_rows.specs.LegalRows.{AreRowsOf, StartsAs}
use Rattle.club_rows.specs.internal.LegalRows.{IsHistoryOf, IsWrongAsTold, ShowsGame, IsSoundIfShown, StandsAs}
use Rattle.club_rows.specs.internal.Columns.{Columns, AreColumns, HasReplayed, IsOutsideIn, columns_of, game_in}
use Rattle.club_rows.specs.internal.Columns.{stored_cells}
use Rattle.club_rows.specs.internal.MayStand.{may_declare}
use Rattle.club_rows.specs.internal.Ruled.{are_legal, names_record}
use Rattle.club_rows.specs.internal.Rulings.{AreRead, IsBeneath, rulings_given}
use Rattle.club_rows.specs.declared.replay.Replayed.{Replayed}
use Rattle.club_rows.specs.declared.rulings.GameRulings.{GameRulings}
use Rattle.club_rows.specs.declared.view.CheckedGame.{CheckedGame}
use Rattle.club_rows.specs.declared.view.CheckedRows.{CheckedRows}
use Rattle.club_rows.specs.declared.view.CheckedRows.TheVariants as shown
use Rattle.club_rows.proofs.ColumnLemmas.{cells-told, columns-read, columns-stored, outside-told, row-columns}
use Rattle.club_rows.proofs.ReadLemmas.{read-told}
use Rattle.club_rows.proofs.RightRows.{moves-right, rulings-right}
use Rattle.club_rows.proofs.RuledLemmas.{ruled-legal}
use Rattle.club_rows.proofs.RulingRowLemmas.{rulings-stay}
use Rattle.club_rows.proofs.StandLemmas.{declares, row-stands, stands-legal, legal-stands}
use Rattle.club_rows.proofs.WholeLemmas.{played-count, rows-alike}

-- what is known of a view that was made of rows with these columns
pub record WasViewed {R P M E T : Type 0} (rules : GameRules P M E T) (terms : Terms) (stored : GameTableRow)
    (moves : List MoveRow) (rulings : List RulingRow) (given : GameRulings) (c : Columns) (replayed : Replayed R P M E T)
    (full : CheckedGame R P M E T) : Type 0 where
  pub read : game_cells stored ≡ stored_cells c
  pub are : AreRead c.id rulings given
  pub legal : are_legal rules given replayed c.start moves (option_map (λ s. string_bytes s) stored.end) ≡ true
  pub budget : IsTrue (is_budget terms.budget)
  pub increment : IsTrue (is_increment terms.increment)
  pub fit : AreColumns c
  pub was : WasReplayed rules terms c.id (rulings_given given.given.items) c.start moves (length moves) replayed
  pub outside : Option OutsideEnd
  pub named : IsOutsideIn c (rules.judge rules.start replayed.line.items) given.verdict given.beneath outside
  pub shows : (entries : List (Entry M))
      → ReplaysFrom rules terms (rulings_given given.given.items) c.start entries replayed
      → Shows rules (game_in c outside (rulings_given given.given.items) entries) full.view
  pub terms_are : terms_of full.view ≡ terms
  pub sound : IsSound rules full.view
  pub line : full.line.items ≡ replayed.line.items
  pub tally : IsTallyOf rules replayed.line.items full.tally

-- ---- what is shown

module _ {R P M E T : Type 0} {rules : GameRules P M E T} {terms : Terms} {stored : GameTableRow} {moves : List MoveRow}
    {rulings : List RulingRow} {given : GameRulings} {c : Columns} {replayed : Replayed R P M E T}
    {full : CheckedGame R P M E T} (known : WasViewed rules terms stored moves rulings given c replayed full) where
  abbrev view : GameView R P M E T
  view = full.view

  abbrev rs : List GivenRuling
  rs = rulings_given given.given.items

  abbrev shown_game : Game M
  shown_game = game_in c known.outside rs known.was.entries

  starts : StartsAs stored c.id c.start
  starts =
      let told = cells-told stored c known.read in
      record { id_is = told.id; start_is = told.start; short = known.fit.id; within = known.fit.start }

  showing : Shows rules shown_game view
  showing = known.shows known.was.entries known.was.replays

  history : IsHistoryOf rules shown_game full
  history =
      let line = known.was.replays.line in
      record { line = known.line ∙ line; tally = rw line at known.tally }

  row-of : IsRowOf rules terms shown_game view.row
  row-of = subst (λ t. IsRowOf rules t shown_game view.row) known.terms_are showing.row

  -- the view tells whether the side to move may declare
  declares-is : (game : Game M) → Shows rules game view → may_declare rules view ≡ declares rules terms game
  declares-is game shows = λ i. (known.terms_are i).declares && rules.can_declare (shows.position i)

  ruled-is : rules.judge rules.start replayed.line.items ≡ rule_end rules shown_game
  ruled-is = ap (rules.judge rules.start) known.was.replays.line

  -- a row that has what was replayed has the columns of the game
  columns-shown : HasReplayed rules view.row c → c ≡ columns_of rules terms c.id shown_game
  columns-shown has =
      grind (arith, columns-stored rules terms c.id shown_game view.row row-of)

  shown-played : IsPlayedAs rules terms c.id c.start moves shown_game
  shown-played =
      let played = rw (take-length moves) at known.was.played in
      record {
        line = played.line;
        plies = played.plies;
        timely = played.timely;
        start = refl;
        moments = played.moments;
        moves = played.moves
            ∙ rows-alike rules terms c.id (game_from rs c.start []) (at_start shown_game) known.was.entries refl refl refl;
      }

  judged-is : given.verdict ≡ verdict_of rs
  judged-is = known.are.verdict_is

  -- without a verdict the end outside the rules is the one that the row names
  named-record : given.verdict ≡ None → (score : Score) → known.outside ≡ Some (Recorded score)
      → HasReplayed rules view.row c
      → (is_some (rules.judge rules.start replayed.line.items) ≡ false)
      × (names_record (option_map (λ s. string_bytes s) stored.end) ≡ true)
  named-record none score outside has =
      let running = known.named.alone none (ap is_some outside) in
      let end_is = ap (λ x. x.end) (columns-shown has) in
      let stored_end = (cells-told stored c known.read).end in
      let ended : end_of rules shown_game ≡ Some (Outside (Recorded score)) =
      λ i. end_with ((sym ruled-is ∙ running) i) ((sym judged-is ∙ none) i) (outside i) in
      (ap is_some running, rw (stored_end, end_is, ended) refl)

  shown-rulings : HasReplayed rules view.row c → AreLegalRulings rules terms shown_game
  shown-rulings has =
      ruled-legal rules terms c.id c.start moves shown_game shown-played replayed
      (record {
        line = known.was.replays.line;
        position = known.was.replays.position;
        clocks_are = known.was.replays.clocks_are;
      })
      given (option_map (λ s. string_bytes s) stored.end) refl known.are.verdict_is known.are.first_is
      known.are.beneath_alone known.named.judged known.are.possible
      (λ none score outside. named-record none score outside has) known.legal

  -- the end outside the rules stands only where the rules gave none
  outside-alone : HasReplayed rules view.row c → IsSome known.outside → rule_end rules shown_game ≡ None
  outside-alone has some = by-verdict given.verdict refl
    where
      by-verdict : (v : Option Verdict) → given.verdict ≡ v → rule_end rules shown_game ≡ None
      by-verdict None none = sym ruled-is ∙ known.named.alone none some
      by-verdict (Some v) is = (shown-rulings has).verdict_alone (ap is_some (sym judged-is ∙ is))

  shown-rows : HasReplayed rules view.row c → map ruling_cells rulings ≡ ruling_rows c.id shown_game
  shown-rows has = known.are.rows_are ∙ over given.verdict refl
    where
      over : (v : Option Verdict) → given.verdict ≡ v
          → ruling_rows_from c.id 1 given.beneath rs ≡ ruling_rows_from c.id 1 known.outside rs
      over None none = rulings-stay c.id 1 given.beneath known.outside rs (sym judged-is ∙ none)
      over (Some v) is = ap (λ o. ruling_rows_from c.id 1 o rs) (sym (known.named.judged (ap is_some is)))

  pub shown-sound : (s : CheckedRows R P M E T) → StandsAs rules c full s
      → IsSoundIfShown rules terms stored moves rulings s
  shown-sound shown.WrongMoves stands = tt
  shown-sound shown.WrongRulings stands = tt
  shown-sound shown.WrongGame stands = tt
  shown-sound (shown.Game v) stands =
      let has = stands.2 in
      let made = stands-legal rules terms shown_game shown-played (shown-rulings has) (outside-alone has)
      (sym (row-stands rules terms shown_game view.row _ row-of (declares-is shown_game showing)) ∙ stands.1) in
      let row = known.read ∙ (ap stored_cells (columns-shown has) ∙ sym (row-columns rules terms c.id shown_game)) in
      let moves_are = shown-played.moves in
      let rulings_are = shown-rows has in
      let moments = known.are.possible.moments in
      rw stands.0 (
        c.id,
        shown_game,
        assumption (row, moves_are, rulings_are, moments, made),
        known.terms_are,
        showing,
        known.sound,
        history,
      )

  module _ (id : ℕ) (game : Game M) (is : AreRowsOf rules terms id stored moves rulings game) where
    same : c ≡ columns_of rules terms id game
    same = columns-read rules terms id game (game_cells stored) c is.row known.read

    id-same : c.id ≡ id
    id-same = ap (λ x. x.id) same

    told : (rs ≡ game.rulings) × IsBeneath game given.beneath
    told = read-told c.id rulings given game known.are
        (is.rulings ∙ ap (λ n. ruling_rows n game) (sym id-same))

    played : IsPlayedAs rules terms c.id c.start moves game
    played = record {
      line = is.legal.line;
      plies = is.legal.plies;
      timely = is.legal.timely;
      start = sym (ap (λ x. x.start) same);
      moments = is.fits.entries;
      moves = is.moves ∙ ap (λ n. move_rows rules terms n game) (sym id-same);
    }

    entries-same : known.was.entries ≡ game.entries
    entries-same =
        sym (known.was.only game (sym told.0) played)
        ∙ (ap (λ n. take n game.entries) (played-count rules terms c.id c.start moves game played)
        ∙ take-length game.entries)

    game-same : shown_game ≡ game
    game-same =
        let ruled = ruled-is ∙ ap (λ es. rules.judge rules.start (map (λ e. e.made) es)) entries-same in
        let judged : given.verdict ≡ verdict_of game.rulings = judged-is ∙ ap verdict_of told.0 in
        let outside = outside-told rules terms id game is.legal c same _ given.verdict ruled judged given.beneath
        known.outside (λ some. told.1 (rw judged at some)) known.named in
        let rulings_are = told.0 in
        grind (arith, same, entries-same, outside, rulings_are)

    shows-it : Shows rules game view
    shows-it = subst (λ x. Shows rules x view) game-same showing

    row-it : IsRowOf rules terms game view.row
    row-it = subst (λ x. IsRowOf rules terms x view.row) game-same row-of

    -- the columns of the game are those that were replayed
    has-replayed : HasReplayed rules view.row c
    has-replayed = subst (HasReplayed rules view.row)
        (columns-stored rules terms id game view.row row-it ∙ sym same) (assumption)

    pub shown-complete : (s : CheckedRows R P M E T) → StandsAs rules c full s → ShowsGame rules terms game s
    shown-complete shown.WrongMoves stands = stands
    shown-complete shown.WrongRulings stands = stands
    shown-complete shown.WrongGame stands =
        absurd
        (stands
        (row-stands rules terms game view.row _ row-it (declares-is game shows-it)
        ∙ legal-stands rules terms game is.legal is.fits.key) has-replayed)
    shown-complete (shown.Game v) stands =
        rw stands.0 (known.terms_are, shows-it, subst (λ x. IsHistoryOf rules x full) game-same history)

  -- nothing but the row can be wrong
  pub told-wrong : (s : CheckedRows R P M E T) → StandsAs rules c full s
      → IsWrongAsTold rules terms stored moves rulings s
  told-wrong (shown.Game v) stands = tt
  told-wrong shown.WrongMoves stands = absurd stands
  told-wrong shown.WrongRulings stands = absurd stands
  told-wrong shown.WrongGame stands = (
    moves-right rules terms stored moves rulings c.id c.start starts given known.are replayed known.was,
    rulings-right rules terms stored moves rulings c.id c.start starts given known.are replayed known.was known.legal,
    λ id game is. shown-complete id game is shown.WrongGame stands,
  )
