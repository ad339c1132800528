-- The columns of a game's row: that they are told by the row, and what they tell of the game.
use Rattle.std.proofs.Common.{◌≡◌, ℕ, suc, pos, ◌<◌, ◌≤◌, ◌^◌, List, [], ◌∷◌, length, map, Option, Some, None, refl, ap}
use Rattle.std.proofs.Common.{true, false, sym, ◌∙◌, arith, true≢false}
use Rattle.std.specs.Prelude.{◌≢◌, string_bytes, is_some, IsSome, IfSome}
use Rattle.std.specs.Option.{option_map}
use Rattle.std.proofs.lemmas.List.{length-map}
use Rattle.std.proofs.lemmas.Option.{same_Some}
use Rattle.sqlite.specs.Order.{Row}
use Rattle.squares.specs.declared.sides.Side.{Side}
use Rattle.squares.specs.declared.sides.Side.TheVariants.{First}
use Rattle.squares.specs.Sides.{other, score_text}
use Rattle.club_rules.specs.EndName.{end_text}
use Rattle.club_rules.specs.GameRules.{GameRules}
use Rattle.club_rules.specs.declared.names.EndName.{EndName}
use Rattle.club_rules.specs.declared.names.EndName.TheVariants.{NoMove}
use Rattle.club_rules.specs.Laws.{NumbersAreFew}
use Rattle.club_requests.specs.declared.outside_end.OutsideEnd.{OutsideEnd}
use Rattle.club_requests.specs.declared.outside_end.OutsideEnd.TheVariants.{Resigned}
use Rattle.club_requests.specs.declared.rulings.Verdict.{Verdict}
use Rattle.club_requests.specs.declared.rulings.Verdict.TheVariants.{Awarded, Voided}
use Rattle.club_requests.specs.Limits.{last_moment}
use Rattle.club_requests.specs.OutsideEnd.{outside_text}
use Rattle.club_requests.specs.Rulings.{verdict_score, verdict_text}
use Rattle.club_core.specs.declared.rows.GameRow.{GameRow}
use Rattle.club_core.specs.declared.rows.Offer.{Offer}
use Rattle.club_core.specs.Events.{Terms}
use Rattle.club_core.specs.Game.{Entry, Game, Clocks, spend, spend_all, after_rulings, opening_clocks, moves_of}
use Rattle.club_core.specs.Game.{clocks_of, clocks_then, end_of, end_with, result_of, rule_end, score_with, turn_of}
use Rattle.club_core.specs.Legal.{IsLegalGame, IsOffer}
use Rattle.club_core.specs.LegalState.{Each}
use Rattle.club_core.specs.View.{IsRowOf}
use Rattle.club_core.specs.Rulings.{GivenRuling, verdict_of}
use Rattle.club_core.proofs.Proved.{line-grows, since-after}
use Rattle.club_laws.proofs.Proved.{room-for}
use Rattle.store_tables.specs.Cells.{game_cells}
use Rattle.store_tables.specs.declared.rows.GameTableRow.{GameTableRow}
use Rattle.club_rows.specs.Tables.{end_name_text, game_row}
use Rattle.club_rows.specs.internal.Columns.{Columns, AreColumns, HasOffer, IsNamedIn, IsOutsideIn, IsReadAs}
use Rattle.club_rows.specs.internal.Columns.{columns_for}
use Rattle.club_rows.specs.internal.Columns.{columns_of, stored_cells}
use Rattle.club_rows.specs.internal.LegalRows.{IsRecordOf}
use Rattle.club_rows.specs.internal.Rulings.{is_verdict_name}

-- ---- rows with the same values, column by column

pub same-pos : (a b : ℕ) → pos a ≡ pos b → a ≡ b
same-pos a b is = cc

-- columns with one row are one
pub columns-alike : (a b : Columns) → stored_cells a ≡ stored_cells b → a ≡ b
columns-alike a b is = grind arith

-- ---- a record and its columns

-- the record has these columns
pub record HasColumns (stored : GameTableRow) (c : Columns) : Type 0 where
  pub id : stored.id ≡ pos c.id
  pub key : option_map (λ s. string_bytes s) stored.key ≡ c.key
  pub event : stored.event ≡ pos c.event
  pub first : stored.first ≡ pos c.first
  pub second : stored.second ≡ pos c.second
  pub start : stored.start ≡ pos c.start
  pub since : stored.since ≡ pos c.since
  pub plies : stored.plies ≡ pos c.plies
  pub left_first : stored.left1 ≡ pos c.left_first
  pub left_second : stored.left2 ≡ pos c.left_second
  pub offer : HasOffer stored c.offer
  pub end : option_map (λ s. string_bytes s) stored.end ≡ c.end
  pub result : option_map (λ s. string_bytes s) stored.result ≡ option_map score_text c.result
  pub position : string_bytes stored.position ≡ c.position
  pub track_first : stored.track_a ≡ pos c.track.0
  pub track_second : stored.track_b ≡ pos c.track.1

-- its values are those of its columns
pub columns-cells : (stored : GameTableRow) (c : Columns) → HasColumns stored c → game_cells stored ≡ stored_cells c
columns-cells stored c has = grind arith

-- and tell them
pub cells-told : (stored : GameTableRow) (c : Columns) → game_cells stored ≡ stored_cells c → HasColumns stored c
cells-told stored c is = grind arith

-- ---- the columns of a game

-- a row with the ids, the start, the key and the result of a game
pub record HasIds (stored : GameTableRow) (game_id event_id first_id second_id moment : ℕ) : Type 0 where
  pub id : stored.id ≡ pos game_id
  pub event : stored.event ≡ pos event_id
  pub first : stored.first ≡ pos first_id
  pub second : stored.second ≡ pos second_id
  pub start : stored.start ≡ pos moment

pub record IsToldBy {P M E T : Type 0} (rules : GameRules P M E T) (id : ℕ) (game : Game M) (stored : GameTableRow) : Type
    0 where
  pub numbers : HasIds stored id game.event game.first game.second game.start
  pub key : option_map (λ s. string_bytes s) stored.key ≡ game.key
  pub end : option_map (λ s. string_bytes s) stored.end ≡ option_map (end_name_text rules) (end_of rules game)
  pub result : option_map (λ s. string_bytes s) stored.result ≡ option_map score_text (result_of rules game)

pub spend-since : (increment : ℕ) (side : Side) (m : ℕ) (c : Clocks) → (spend increment side m c).since ≡ m
spend-since increment side m c = grind arith

since-fits : {M : Type 0} (increment : ℕ) (rs : List GivenRuling) (plies : ℕ) (side : Side) (es : List (Entry M))
    (c : Clocks) → c.since ≤ last_moment → Each (λ e. e.moment ≤ last_moment) es
    → (spend_all increment rs plies side (map (λ e. e.moment) es) c).since ≤ last_moment
since-fits increment rs plies side [] c low each = low
since-fits increment rs plies side (e ∷ es) c low each =
    let now = after_rulings rs plies c in
    since-fits increment rs (suc plies) (other side) es (spend increment side e.moment now)
    (rw (spend-since increment side e.moment now) (each 0 e refl)) (λ k x at. each (suc k) x at)

-- ---- names of verdicts

verdict-is-named : (v : Verdict) → is_verdict_name (verdict_text v) ≡ true
verdict-is-named (Awarded score) = refl
verdict-is-named Voided = refl

rule-unnamed : (name : EndName) → is_verdict_name (end_text name) ≡ false
rule-unnamed NoMove = refl
rule-unnamed name = refl

outside-unnamed : (end : OutsideEnd) → is_verdict_name (outside_text end) ≡ false
outside-unnamed Resigned = refl
outside-unnamed end = refl

-- no end by the rules and none outside them is named as a verdict
rule-apart : (name : EndName) (v : Verdict) → end_text name ≢ verdict_text v
rule-apart name v is = true≢false (sym (verdict-is-named v) ∙ (ap is_verdict_name (sym is) ∙ rule-unnamed name))

outside-apart : (end : OutsideEnd) (v : Verdict) → outside_text end ≢ verdict_text v
outside-apart end v is = true≢false (sym (verdict-is-named v) ∙ (ap is_verdict_name (sym is) ∙ outside-unnamed end))

-- whether an end is a verdict is told by its name
name-tested : {P M E T : Type 0} (rules : GameRules P M E T) (e : Option E) (v : Option Verdict) (o : Option OutsideEnd)
    (name : List ℕ) → option_map (end_name_text rules) (end_with e v o) ≡ Some name → (IsSome v → e ≡ None)
    → is_verdict_name name ≡ is_some v
name-tested rules (Some e) (Some v) o name is alone = let none = alone refl in absurd cc
name-tested rules (Some e) None o name is alone =
    ap is_verdict_name (sym (same_Some _ _ is)) ∙ rule-unnamed (rules.end_name e)
name-tested rules None (Some v) o name is alone = ap is_verdict_name (sym (same_Some _ _ is)) ∙ verdict-is-named v
name-tested rules None None (Some o) name is alone = ap is_verdict_name (sym (same_Some _ _ is)) ∙ outside-unnamed o
name-tested rules None None None name is alone = cc

unended : {P M E T : Type 0} (rules : GameRules P M E T) (e : Option E) (v : Option Verdict) (o : Option OutsideEnd)
    → option_map (end_name_text rules) (end_with e v o) ≡ None → v ≡ None
unended rules (Some e) v o is = cc
unended rules None (Some v) o is = cc
unended rules None None o is = refl

-- ends from outside that stand only where the rules gave none are none
pub both-none : {E : Type 0} (e : E) (ruled : Option E) (a b : Option OutsideEnd) → ruled ≡ Some e
    → (IsSome a → ruled ≡ None) → (IsSome b → ruled ≡ None) → a ≡ b
both-none e ruled a b is one two = grind arith

module _ {P M E T : Type 0} (rules : GameRules P M E T) (terms : Terms) (id : ℕ) where
  -- the row of a game has the columns of the game
  pub row-columns : (game : Game M) → game_row rules terms id game ≡ stored_cells (columns_of rules terms id game)
  row-columns game = grind arith

  -- and so has the machine's row of it
  pub columns-stored : (game : Game M) (row : GameRow E) → IsRowOf rules terms game row
      → columns_for rules id row ≡ columns_of rules terms id game
  columns-stored game row is = grind arith

  -- a record that has the columns of the machine's row is the game's
  pub record-cells : (game : Game M) (row : GameRow E) → IsRowOf rules terms game row → (stored : GameTableRow)
      → HasColumns stored (columns_for rules id row) → game_cells stored ≡ game_row rules terms id game
  record-cells game row is stored has =
      columns-cells stored (columns_for rules id row) has
      ∙ (ap stored_cells (columns-stored game row is) ∙ sym (row-columns game))

  pub columns-told : (game : Game M) (stored : GameTableRow) → game_cells stored ≡ game_row rules terms id game
      → IsToldBy rules id game stored
  columns-told game stored is =
      let told = cells-told stored (columns_of rules terms id game) (is ∙ row-columns game) in assumption

  -- what was read of the row of a game are its columns
  pub columns-read : (game : Game M) (row : Row) (c : Columns) → row ≡ game_row rules terms id game
      → row ≡ stored_cells c → c ≡ columns_of rules terms id game
  columns-read game row c is read =
      columns-alike c (columns_of rules terms id game) (sym read ∙ (is ∙ row-columns game))

  module _ (game : Game M) (stored : GameTableRow) (is : IsRecordOf rules terms id stored game) where
    -- the same by all that is known of the row
    pub columns-are : (c : Columns) → game_cells stored ≡ stored_cells c → c ≡ columns_of rules terms id game
    columns-are c read = columns-read game (game_cells stored) c is.row read

    offer-fits : (o : Option Offer) → IfSome o (λ o. IsOffer rules game o) → IfSome o (λ o. o.ply < 2 ^ 32)
    offer-fits o offer = grind (arith, is.legal.plies)

    -- the columns of a legal game are those that a row may have
    pub columns-fit : NumbersAreFew rules → AreColumns (columns_of rules terms id game)
    columns-fit few =
        let plies = is.legal.plies in
        let count : length (moves_of game) ≡ length game.entries = simp length-map in
        let room = room-for game terms is.budget is.increment (omega (arith, plies)) is.legal.rulings.count
        (λ n r at. (is.legal.rulings.each n r at).time) in
        let then = since-fits terms.increment game.rulings 0 First game.entries (opening_clocks game terms)
        is.fits.start is.fits.entries in
        let since : (clocks_of game terms).since ≤ last_moment =
        rw (since-after game.rulings (length game.entries) (clocks_then game terms)) then in
        let offer = offer-fits game.offer is.legal.offer in
        let track = line-grows rules few (moves_of game) (omega (arith, count, plies)) in
        assumption

    named : option_map (λ s. string_bytes s) stored.end ≡ option_map (end_name_text rules) (end_of rules game)
    named = (cells-told stored (columns_of rules terms id game) (is.row ∙ row-columns game)).end

    -- the name in the row tells whether there is a verdict
    pub verdict-tested : (name : List ℕ) → option_map (λ s. string_bytes s) stored.end ≡ Some name
        → is_verdict_name name ≡ is_some (verdict_of game.rulings)
    verdict-tested name is_name =
        name-tested rules (rule_end rules game) (verdict_of game.rulings) game.outside name (sym named ∙ is_name)
        is.legal.rulings.verdict_alone

    pub no-name : option_map (λ s. string_bytes s) stored.end ≡ None → verdict_of game.rulings ≡ None
    no-name none = unended rules (rule_end rules game) (verdict_of game.rulings) game.outside (sym named ∙ none)

    -- a row of which nothing is read is no game's
    pub none-read : NumbersAreFew rules → IsReadAs (game_cells stored) None → ⊥
    none-read few none = none (columns_of rules terms id game) (columns-fit few) (is.row ∙ row-columns game)

  -- ---- the end that columns name

  module _ (game : Game M) (legal : IsLegalGame rules terms game) (c : Columns)
      (same : c ≡ columns_of rules terms id game) where
    -- the name and the score in the columns are those of the game
    pub end-is : (e : Option E) (v : Option Verdict) → e ≡ rule_end rules game → v ≡ verdict_of game.rulings
        → (c.end ≡ option_map (end_name_text rules) (end_with e v game.outside))
        × (c.result ≡ score_with rules (end_with e v game.outside) (turn_of rules game))
    end-is e v ruled judged = rw (ruled, judged) (ap (λ x. x.end) same, ap (λ x. x.result) same)

    outside-named : (outside : Option OutsideEnd) → IsNamedIn c outside
        → (c.end ≡ option_map (end_name_text rules) (end_with {E = E} None None game.outside))
        → (c.result ≡ score_with rules (end_with None None game.outside) (turn_of rules game))
        → outside ≡ game.outside
    outside-named outside named end result =
        named game.outside (end ∙ shown game.outside) (λ s recorded.
        result ∙ ap (λ o. score_with rules (end_with None None o) (turn_of rules game)) recorded)
      where
        shown : (o : Option OutsideEnd)
            → option_map (end_name_text rules) (end_with {E = E} None None o) ≡ option_map outside_text o
        shown None = refl
        shown (Some o) = refl

    -- the end outside the rules that is read is the game's
    pub outside-told : (ruled : Option E) (verdict : Option Verdict) → ruled ≡ rule_end rules game
        → verdict ≡ verdict_of game.rulings → (beneath outside : Option OutsideEnd)
        → (IsSome verdict → beneath ≡ game.outside) → IsOutsideIn c ruled verdict beneath outside
        → outside ≡ game.outside
    outside-told ruled (Some v) ruled_is judged beneath outside over is = is.judged refl ∙ over refl
    outside-told None None ruled_is judged beneath outside over is =
        let told = end-is None None ruled_is judged in
        outside-named outside (is.named refl refl) told.0 told.1
    outside-told (Some e) None ruled_is judged beneath outside over is =
        both-none e (Some e) outside game.outside refl (is.alone refl) (λ some. ruled_is ∙ legal.outside_alone some)

    -- ---- the verdict that columns name

    verdict-only : (e : Option E) (v : Option Verdict) (o : Option OutsideEnd) (given : Verdict)
        → option_map (end_name_text rules) (end_with e v o) ≡ Some (verdict_text given) → IsSome v
    verdict-only (Some e) v o given is = absurd (rule-apart (rules.end_name e) given (same_Some _ _ is))
    verdict-only None (Some v) o given is = refl
    verdict-only None None (Some o) given is = absurd (outside-apart o given (same_Some _ _ is))
    verdict-only None None None given is = cc

    -- columns that name a verdict are those of a game with one
    pub verdict-some : (given : Verdict) → c.end ≡ Some (verdict_text given) → IsSome (verdict_of game.rulings)
    verdict-some given is =
        verdict-only (rule_end rules game) (verdict_of game.rulings) game.outside given
        (sym (end-is (rule_end rules game) (verdict_of game.rulings) refl refl).0 ∙ is)

    -- the columns of a game with a verdict name it
    pub verdict-named : (v : Verdict) → verdict_of game.rulings ≡ Some v
        → (c.end ≡ Some (verdict_text v)) × (c.result ≡ verdict_score v)
    verdict-named v is =
        let none = legal.rulings.verdict_alone (ap is_some is) in
        let told = end-is None (Some v) (sym none) (sym is) in
        (told.0, told.1)

    pub verdict-told : (verdict : Option Verdict)
        → ((v : Verdict) → c.end ≡ Some (verdict_text v) → c.result ≡ verdict_score v → verdict ≡ Some v)
        → IfSome verdict (λ v. c.end ≡ Some (verdict_text v)) → verdict ≡ verdict_of game.rulings
    verdict-told verdict found only = told (verdict_of game.rulings) refl verdict refl
      where
        told : (v : Option Verdict) → verdict_of game.rulings ≡ v → (w : Option Verdict) → verdict ≡ w → verdict ≡ v
        told (Some v) is w read = let named = verdict-named v is in found v named.0 named.1
        told None is None read = read
        told None is (Some w) read =
            let some = verdict-some w (rw read at only) in
            absurd (cc)
