-- What follows from the game of a record, by the record's moves.
use Rattle.std.proofs.Common.{◌≡◌, ℕ, List, [], length, Option, Some, None, sym, ap, ◌∙◌}
use Rattle.std.proofs.lemmas.List.{length-map}
use Rattle.squares.specs.declared.sides.Side.TheVariants.{First}
use Rattle.club_rules.specs.GameRules.{GameRules}
use Rattle.club_rules.specs.Line.{position_after, line_track}
use Rattle.club_rules.specs.Records.{Recorded, IsGameByRules}
use Rattle.club_core.specs.Events.{Terms}
use Rattle.club_core.specs.Game.{clocks_of, last_position, end_of, end_with, result_of, spend_all}
use Rattle.club_core.specs.Imports.{recorded_end, imported}
use Rattle.club_core.specs.declared.seats.Pairing.{Pairing}
use Rattle.club_core.specs.View.{track_of_game}
use Rattle.club_laws.proofs.Proved.{made-again, imported-result}
use Rattle.club_imports.specs.internal.OneMoment.{at_moment, clocks_with}
use Rattle.club_imports.proofs.LeftLemmas.{moments-at}

module _ {P M E T : Type 0} (rules : GameRules P M E T) (key : Option (List ℕ)) (pairing : Pairing) (moment : ℕ)
    (r : Recorded M) where
  pub row-plies : length r.moves ≡ length (imported rules key pairing moment r).entries
  row-plies = sym (length-map r.moves (λ m. record { made = m; moment = moment }))

  pub row-clocks : (terms : Terms) (first second : ℕ)
      → clocks_with first second moment ≡ spend_all terms.increment [] 0 First (at_moment moment (length r.moves))
      (clocks_with terms.budget terms.budget moment)
      → clocks_with first second moment ≡ clocks_of (imported rules key pairing moment r) terms
  row-clocks terms first second is = is ∙ ap
      (λ l. spend_all terms.increment [] 0 First l (clocks_with terms.budget terms.budget moment))
      (sym (moments-at moment r.moves))

  pub row-track : (t : T) → t ≡ line_track rules rules.start r.moves
      → t ≡ track_of_game rules (imported rules key pairing moment r)
  row-track t is = is ∙ ap (line_track rules rules.start) (sym (made-again moment r.moves))

  pub row-position : (p : P) → p ≡ position_after rules rules.start r.moves
      → p ≡ last_position rules (imported rules key pairing moment r)
  row-position p is = is ∙ ap (position_after rules rules.start) (sym (made-again moment r.moves))

  pub row-end : (end : Option E) → end ≡ rules.judge rules.start r.moves
      → end_with end None (recorded_end end r.score) ≡ end_of rules (imported rules key pairing moment r)
  row-end end is =
      ap (λ e. end_with e None (recorded_end e r.score)) is
      ∙ ap
      (λ ms. end_with (rules.judge rules.start ms) None (recorded_end (rules.judge rules.start r.moves) r.score))
      (sym (made-again moment r.moves))

  pub row-result : IsGameByRules rules r → Some r.score ≡ result_of rules (imported rules key pairing moment r)
  row-result by = sym (imported-result rules key pairing moment r by)
