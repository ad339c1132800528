-- The beginnings of a legal line, and what tells its moves.
use Rattle.std.proofs.Common.{◌≡◌, ℕ, zero, suc, List, [], ◌∷◌, take, Result, Ok, ap, sym, ◌∙◌}
use Rattle.club_rules.specs.declared.refusals.MoveRefusal.{MoveRefusal}
use Rattle.club_rules.specs.GameRules.{GameRules}
use Rattle.club_rules.specs.Laws.{ReadsBack}
use Rattle.club_rules.specs.Line.{IsLegalLine}

module _ {P M E T : Type 0} (rules : GameRules P M E T) where
  -- each beginning of a legal line is legal
  pub IsLegalLine-take : (n : ℕ) (p : P) (ms : List M) → IsLegalLine rules p ms → IsLegalLine rules p (take n ms)
  IsLegalLine-take zero p ms line = tt
  IsLegalLine-take (suc n) p [] line = tt
  IsLegalLine-take (suc n) p (m ∷ ms) line = (line.0, IsLegalLine-take n (rules.play p m) ms line.1)

  -- two legal moves with one text are one
  pub one-text : ReadsBack rules → (p : P) (a b : M) → rules.check p a ≡ Ok tt → rules.check p b ≡ Ok tt
      → rules.write_move p a ≡ rules.write_move p b → a ≡ b
  one-text back p a b one two same =
      let read : ◌≡◌ {A = Result M MoveRefusal} (Ok a) (Ok b) = sym (back p a one)
      ∙ (ap (rules.read_move p) same ∙ back p b two) in
      cc
