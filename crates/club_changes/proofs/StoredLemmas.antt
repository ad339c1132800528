-- What was played in a game, by its rows.
use Rattle.std.proofs.Common.{◌≡◌, ℕ, List, [], ◌∷◌, ◌++◌, map, Option, Some, None, refl, ap, sym, subst, ◌∙◌}
use Rattle.std.specs.Prelude.{Ok, Result}
use Rattle.sqlite.specs.Order.{Row, column}
use Rattle.sqlite.specs.declared.types.Value.TheVariants.{Text}
use Rattle.squares.specs.declared.sides.Score.{Score}
use Rattle.squares.specs.declared.sides.Side.{Side}
use Rattle.club_rules.specs.GameRules.{GameRules}
use Rattle.club_rules.specs.Line.{IsLegalLine, position_after}
use Rattle.club_rules.specs.declared.refusals.MoveRefusal.{MoveRefusal}
use Rattle.club_requests.specs.declared.outside_end.OutsideEnd.{OutsideEnd}
use Rattle.club_requests.specs.OutsideEnd.{outside_score}
use Rattle.club_core.specs.Events.{Terms}
use Rattle.club_core.specs.Game.{Entry, Game, end_with, last_position, moves_of, result_beneath, result_of, rule_end}
use Rattle.club_core.specs.Game.{score_with, turn_of}
use Rattle.club_core.specs.Rulings.{verdict_of}
use Rattle.club_core.proofs.Proved.{last-played}
use Rattle.club_rows.specs.Tables.{at_start, entry_rows, move_rows, with_entry}
use Rattle.store_tables.specs.Cells.{move_cells}
use Rattle.store_tables.specs.Changes.{HaveSame}
use Rattle.store_tables.specs.declared.rows.MoveRow.{MoveRow}
use Rattle.club_changes.proofs.PlacedRows.{AreAtPlaces, moves-placed, one_line}

module _ {P M E T : Type 0} (rules : GameRules P M E T) where
  -- the rows have the texts of these legal moves from the position
  abbrev pub HaveTexts : P → List M → List Row → Type 0
  HaveTexts p [] [] = Unit {0}
  HaveTexts p (m ∷ ms) (row ∷ rows) =
      (rules.check p m ≡ Ok tt) × ((column row 2 ≡ Text (rules.write_move p m)) × HaveTexts (rules.play p m) ms rows)
  HaveTexts p _ _ = ⊥

  pub texts-append : (p : P) (ms : List M) (rows : List Row) (m : M) (row : Row) → HaveTexts p ms rows
      → rules.check (position_after rules p ms) m ≡ Ok tt
      → column row 2 ≡ Text (rules.write_move (position_after rules p ms) m)
      → HaveTexts p (ms ++ m ∷ []) (rows ++ row ∷ [])
  texts-append p [] [] m row have legal text = (legal, (text, tt))
  texts-append p [] (r ∷ rows) m row have legal text = absurd have
  texts-append p (x ∷ ms) [] m row have legal text = absurd have
  texts-append p (x ∷ ms) (r ∷ rows) m row have legal text =
      (have.0, (have.1.0, texts-append (rules.play p x) ms rows m row have.1.1 legal text))

  module _ (reads_back : (p : P) (m : M) → rules.check p m ≡ Ok tt → rules.read_move p (rules.write_move p m) ≡ Ok m)
      (terms : Terms) (id : ℕ) where
    -- two legal moves with one text are one
    one-move : (p : P) (m n : M) → rules.check p m ≡ Ok tt → rules.check p n ≡ Ok tt
        → rules.write_move p m ≡ rules.write_move p n → m ≡ n
    one-move p m n one other same =
        let read : ◌≡◌ {A = Result M MoveRefusal} (Ok m) (Ok n) =
        sym (reads_back p m one) ∙ (ap (rules.read_move p) same ∙ reads_back p n other) in
        cc

    texts-only : (g : Game M) (es : List (Entry M)) (ms : List M)
        → IsLegalLine rules (last_position rules g) (map (λ e. e.made) es)
        → HaveTexts (last_position rules g) ms (entry_rows rules terms id g es) → ms ≡ map (λ e. e.made) es
    texts-only g [] [] line have = refl
    texts-only g [] (m ∷ ms) line have = absurd have
    texts-only g (e ∷ es) [] line have = absurd have
    texts-only g (e ∷ es) (m ∷ ms) line have =
        let p = last_position rules g in
        let text : Text (rules.write_move p e.made) ≡ Text (rules.write_move p m) = have.1.0 in
        let written : rules.write_move p m ≡ rules.write_move p e.made = cc in
        let same : m ≡ e.made = one-move p m e.made have.0 line.0 written in
        let after = last-played rules g e.made e.moment in
        let rest : ms ≡ map (λ e. e.made) es = texts-only (with_entry g e) es ms
        (subst (λ q. IsLegalLine rules q (map (λ e. e.made) es)) (sym after) line.1)
        (subst (λ q. HaveTexts q ms (entry_rows rules terms id (with_entry g e) es))
        (ap (rules.play p) same ∙ sym after) have.1.1) in
        λ i. same i ∷ rest i

    -- the moves of rows in the order of plies are the game's
    pub texts-line : (g : Game M) (moves : List M) (rows : List MoveRow)
        → IsLegalLine rules rules.start (moves_of g) → AreAtPlaces 1 (map move_cells rows)
        → HaveTexts rules.start moves (map move_cells rows)
        → HaveSame (map move_cells rows) (move_rows rules terms id g) → moves ≡ moves_of g
    texts-line g moves rows line placed have same =
        let are = one_line 1 (map move_cells rows) (move_rows rules terms id g) placed (moves-placed rules terms id g)
        same in
        texts-only (at_start g) g.entries moves line (subst (HaveTexts rules.start moves) are have)

  -- without a verdict the result is that without the verdict
  pub result-alone : (g : Game M) → verdict_of g.rulings ≡ None → result_of rules g ≡ result_beneath rules g
  result-alone g none = ap (λ v. score_with rules (end_with (rule_end rules g) v g.outside) (turn_of rules g)) none

  -- the score of an end outside the rules, if there is one
  abbrev pub outside_result : Option OutsideEnd → Side → Option Score
  outside_result None turn = None
  outside_result (Some end) turn = Some (outside_score end turn)

  outside-is : (o : Option OutsideEnd) (turn : Side)
      → outside_result o turn ≡ score_with rules (end_with {E = E} None None o) turn
  outside-is None turn = refl
  outside-is (Some end) turn = refl

  -- where the rules have given no end, it is that of the end outside them
  pub result-outside : (g : Game M) → rule_end rules g ≡ None
      → outside_result g.outside (turn_of rules g) ≡ result_beneath rules g
  result-outside g none =
      outside-is g.outside (turn_of rules g)
      ∙ ap (λ e. score_with rules (end_with e None g.outside) (turn_of rules g)) (sym none)
