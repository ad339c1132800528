-- A move that is played adds the row of its answer, and a ruling that is given adds its own.
use Rattle.std.proofs.Common.{◌≡◌, ℕ, ◌+◌, ◌<◌, ◌≤◌, List, [], ◌∷◌, ◌++◌, length, map, None, refl, ap, sym, ◌∙◌, arith}
use Rattle.std.proofs.Common.{add-one, length-append}
use Rattle.std.proofs.lemmas.List.{length-map}
use Rattle.squares.specs.declared.sides.Side.TheVariants.{First}
use Rattle.club_rules.specs.GameRules.{GameRules}
use Rattle.club_requests.specs.declared.rulings.Ruling.{Ruling}
use Rattle.club_requests.specs.Rulings.{verdict_in}
use Rattle.club_core.specs.Events.{Terms}
use Rattle.club_core.specs.Game.{Entry, Game, clocks_then, left_of, moments_of, opening_clocks, turn_of}
use Rattle.club_core.specs.Rulings.{GivenRuling, verdict_of}
use Rattle.club_core.specs.Step.{ruled}
use Rattle.club_core.proofs.Proved.{AreRules, reply-played, spend_all-more}
use Rattle.club_rows.specs.Tables.{at_start, entry_row, entry_rows, kept_by, move_rows, replaced_by, ruling_row}
use Rattle.club_rows.specs.Tables.{ruling_rows, with_entry}
use Rattle.club_rows.specs.internal.Made.{made_row, MadeRowIsLast, RulingRowIsLast}
use Rattle.club_rows.proofs.RulingRowLemmas.{rows-ruled}
use Rattle.club_rows.proofs.WholeLemmas.{rows-append, rows-alike}

pub made-last : {P M E T : Type 0} (rules : GameRules P M E T) → AreRules rules → MadeRowIsLast rules
made-last rules laws terms id game m moment reply line is =
    let shown = sym is ∙ reply-played rules laws.turn_passes laws.first_starts game line m moment terms in
    let row : made_row id reply moment ≡ entry_row rules terms id game (record { made = m; moment = moment }) =
    cc in
    rows-append rules terms id (record game { entries = []; offer = None }) game.entries
    (record { made = m; moment = moment })
    ∙ (ap (λ rs. rs ++ entry_row rules terms id game (record { made = m; moment = moment }) ∷ [])
    (rows-alike rules terms id (record game { entries = []; offer = None }) (record game { entries = [] })
    game.entries refl refl refl)
    ∙ ap (λ r. move_rows rules terms id game ++ r ∷ []) (sym row))

module _ {P M E T : Type 0} (rules : GameRules P M E T) (terms : Terms) (id : ℕ) where
  -- a ruling after these moves changes none of their clocks
  clocks-stay : (game : Game M) (r : GivenRuling) → length game.entries ≤ r.plies
      → clocks_then (record game { rulings = game.rulings ++ r ∷ [] }) terms ≡ clocks_then game terms
  clocks-stay game r later =
      let count : length (moments_of game) ≡ length game.entries = length-map game.entries (λ e. e.moment) in
      spend_all-more terms.increment game.rulings (r ∷ []) 0 (length game.entries) First (moments_of game)
      (opening_clocks game terms) (omega (arith, count)) (later, tt)

  -- nor the rows of these moves
  rows-stay : (game : Game M) (r : GivenRuling) (es : List (Entry M)) → length game.entries + length es ≤ r.plies
      → entry_rows rules terms id (record game { rulings = game.rulings ++ r ∷ [] }) es
      ≡ entry_rows rules terms id game es
  rows-stay game r [] later = refl
  rows-stay game r (e ∷ es) later =
      let more : length (game.entries ++ e ∷ []) ≡ length game.entries + 1 = simp length-append in
      let clocks = clocks-stay (with_entry game e) r (omega (arith, later, more, add-one (length es))) in
      let head : entry_row rules terms id (record game { rulings = game.rulings ++ r ∷ [] }) e
      ≡ entry_row rules terms id game e = rw clocks refl in
      let tail = rows-stay (with_entry game e) r es (omega (arith, later, more, add-one (length es))) in
      λ i. head i ∷ tail i

pub ruled-last : {P M E T : Type 0} (rules : GameRules P M E T) → RulingRowIsLast rules
ruled-last rules terms id game ruling moment =
    let r : GivenRuling = record { ruling = ruling; moment = moment; plies = length game.entries } in
    let place : 1 + length game.rulings ≡ length game.rulings + 1 = omega arith in
    let all : 0 + length game.entries ≤ length game.entries = omega arith in (
      rows-ruled id 1 game.outside game.rulings r
          ∙ ap (λ n. ruling_rows id game ++ ruling_row id n r
          (replaced_by (verdict_in ruling) (kept_by (verdict_of game.rulings) game.outside)) ∷ []) place,
      rows-stay rules terms id (at_start game) r game.entries all,
    )
