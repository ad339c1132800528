-- Legal games with the same rows are one, and so are legal clubs.
use Rattle.std.proofs.Common.{◌≡◌, ℕ, List, [], ◌∷◌, map, Option, Some, None, refl, ap, sym, ◌∙◌, arith}
use Rattle.std.specs.Prelude.{IsSome, is_some}
use Rattle.std.specs.Option.{option_map}
use Rattle.squares.specs.declared.sides.Side.{Side}
use Rattle.club_rules.specs.GameRules.{GameRules}
use Rattle.club_rules.specs.Laws.{ReadsBack}
use Rattle.club_rules.specs.Line.{IsLegalLine}
use Rattle.club_requests.specs.declared.outside_end.OutsideEnd.{OutsideEnd}
use Rattle.club_requests.specs.declared.rulings.Verdict.{Verdict}
use Rattle.club_core.specs.Events.{Terms}
use Rattle.club_core.specs.Game.{Entry, Game, end_of, end_with, result_of, score_with, rule_end, turn_of}
use Rattle.club_core.specs.Game.{last_position}
use Rattle.club_core.specs.Rulings.{verdict_of}
use Rattle.club_core.specs.Legal.{IsLegalGame}
use Rattle.club_core.proofs.Proved.{last-played}
use Rattle.club_rows.specs.Tables.{game_row, move_rows, entry_rows, with_entry, at_start, end_name_text}
use Rattle.club_rows.specs.Tables.{ruling_rows}
use Rattle.club_rows.specs.internal.Columns.{columns_of}
use Rattle.club_rows.proofs.ColumnLemmas.{columns-alike, row-columns}
use Rattle.club_rows.proofs.LineLemmas.{one-text}
use Rattle.club_rows.proofs.RulingRowLemmas.{rulings-told}
use Rattle.club_rows.proofs.WholeLemmas.{rows-alike}

module _ {P M E T : Type 0} (rules : GameRules P M E T) where
  -- an end from outside is known by its name and its score
  outsides-alike : (e f : Option E) (s t : Side) (a b : Option OutsideEnd) → e ≡ f → (IsSome a → e ≡ None)
      → (IsSome b → f ≡ None)
      → option_map (end_name_text rules) (end_with e None a) ≡ option_map (end_name_text rules) (end_with f None b)
      → score_with rules (end_with e None a) s ≡ score_with rules (end_with f None b) t → a ≡ b
  outsides-alike e f s t a b same alone-a alone-b name score = grind arith

  module _ (reads : ReadsBack rules) (terms : Terms) (id : ℕ) where
    entries-alike : (g : Game M) (es fs : List (Entry M))
        → IsLegalLine rules (last_position rules g) (map (λ x. x.made) es)
        → IsLegalLine rules (last_position rules g) (map (λ x. x.made) fs)
        → entry_rows rules terms id g es ≡ entry_rows rules terms id g fs → es ≡ fs
    entries-alike g [] [] one other is = refl
    entries-alike g (e ∷ es) (f ∷ fs) one other is =
        let tail : entry_rows rules terms id (with_entry g e) es ≡ entry_rows rules terms id (with_entry g f) fs = cc in
        let made = one-text rules reads (last_position rules g) e.made f.made one.0 other.0 (cc) in
        let moment : e.moment ≡ f.moment = cc in
        let same : f ≡ e = λ i. record { made = sym made i; moment = sym moment i } in
        let after = last-played rules g e.made e.moment in
        let rest : es ≡ fs = entries-alike (with_entry g e) es fs (rw after one.1) (rw (after, made) other.1)
        (rw same at tail) in
        λ i. sym same i ∷ rest i
    entries-alike g es fs one other is = cc

    -- beneath a verdict it is known by the rows of the rulings
    either-alike : (v : Option Verdict) (g h : Game M) → IsLegalGame rules terms g → IsLegalGame rules terms h
        → rule_end rules g ≡ rule_end rules h → verdict_of g.rulings ≡ v → verdict_of h.rulings ≡ v
        → (IsSome (verdict_of g.rulings) → g.outside ≡ h.outside)
        → option_map (end_name_text rules) (end_of rules g) ≡ option_map (end_name_text rules) (end_of rules h)
        → result_of rules g ≡ result_of rules h → g.outside ≡ h.outside
    either-alike (Some v) g h one other ruled this that over name score = over (ap is_some this)
    either-alike None g h one other ruled this that over name score =
        outsides-alike (rule_end rules g) (rule_end rules h) (turn_of rules g) (turn_of rules h) g.outside h.outside ruled
        one.outside_alone other.outside_alone (rw (this, that) at name) (rw (this, that) at score)

    pub games-alike : (g h : Game M) → IsLegalGame rules terms g → IsLegalGame rules terms h
        → game_row rules terms id g ≡ game_row rules terms id h → ruling_rows id g ≡ ruling_rows id h
        → move_rows rules terms id g ≡ move_rows rules terms id h → g ≡ h
    games-alike g h one other row ruling moves =
        let same = columns-alike (columns_of rules terms id g) (columns_of rules terms id h)
        (sym (row-columns rules terms id g) ∙ (row ∙ row-columns rules terms id h)) in
        let start : g.start ≡ h.start = ap (λ c. c.start) same in
        let (rulings, over) = rulings-told id 1 g.outside h.outside g.rulings h.rulings ruling in
        let entries : g.entries ≡ h.entries = entries-alike (at_start g) g.entries h.entries one.line.legal
        other.line.legal
        (moves ∙ rows-alike rules terms id (at_start h) (at_start g) h.entries (sym start) (sym rulings) refl) in
        let ruled = ap (λ es. rules.judge rules.start (map (λ (x : Entry M). x.made) es)) entries in
        let outside = either-alike (verdict_of g.rulings) g h one other ruled refl (ap verdict_of (sym rulings)) over
        (ap (λ c. c.end) same) (ap (λ c. c.result) same) in
        grind (arith, same, entries, outside, rulings)
