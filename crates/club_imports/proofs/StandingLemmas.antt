-- Where a line stands after one move more.
use Rattle.std.proofs.Common.{◌≡◌, ℕ, ◌+◌, ◌<◌, ◌≤◌, List, [], ◌∷◌, ◌++◌, length, take, get_or, Some, Ok, sym, ap}
use Rattle.std.proofs.Common.{subst, ◌∙◌, arith}
use Rattle.std.specs.Prelude.{slice_get}
use Rattle.std.proofs.lemmas.List.{take_more, length-take-le}
use Rattle.std.proofs.lemmas.Option.{slice_get-get_or}
use Rattle.club_rules.specs.GameRules.{GameRules}
use Rattle.club_rules.specs.Laws.{NumbersAreFew}
use Rattle.club_rules.specs.Line.{position_after, IsPlayedLine, line_track}
use Rattle.club_rules.proofs.Proved.{check-at, position_after-append}
use Rattle.club_requests.specs.Limits.{most_plies}
use Rattle.club_core.specs.View.{CanGrow}
use Rattle.club_core.proofs.Proved.{line_track-append, line-grows}

module _ {P M E T : Type 0} (rules : GameRules P M E T) (ms : List M) (i : ℕ) (m : M) (within : i < length ms)
    (is : m ≡ get_or ms i m) where
  at-place : slice_get ms i ≡ Some m
  at-place = slice_get-get_or ms i m within ∙ ap (λ x. Some x) (sym is)

  one-more : take (i + 1) ms ≡ take i ms ++ m ∷ []
  one-more = take_more ms i m within ∙ ap (λ x. take i ms ++ x ∷ []) (sym is)

  pub next-legal : IsPlayedLine rules rules.start ms → (p : P) → p ≡ position_after rules rules.start (take i ms)
      → rules.check p m ≡ Ok tt
  next-legal line p stands = subst (λ q. rules.check q m ≡ Ok tt) (sym stands)
      (check-at rules rules.start ms i m line.legal at-place)

  pub next-grows : NumbersAreFew rules → length ms ≤ most_plies → (t : T) → t ≡ line_track rules rules.start (take i ms)
      → CanGrow (rules.track_numbers t)
  next-grows few most t leaves =
      let count : length (take i ms) ≡ i = length-take-le i ms (omega (arith, within)) in
      subst (λ u. CanGrow (rules.track_numbers u)) (sym leaves)
      (line-grows rules few (take i ms) (omega (arith, count, within, most)))

  pub next-position : (p : P) → p ≡ position_after rules rules.start (take i ms)
      → rules.play p m ≡ position_after rules rules.start (take (i + 1) ms)
  next-position p stands =
      ap (λ q. rules.play q m) stands ∙ sym (position_after-append rules rules.start (take i ms) m)
      ∙ ap (position_after rules rules.start) (sym one-more)

  pub next-track : (t : T) (p q : P) → t ≡ line_track rules rules.start (take i ms)
      → p ≡ position_after rules rules.start (take i ms) → q ≡ rules.play p m
      → rules.track_next t p m q ≡ line_track rules rules.start (take (i + 1) ms)
  next-track t p q leaves stands goes =
      (λ j. rules.track_next (leaves j) (stands j) m ((goes ∙ ap (λ x. rules.play x m) stands) j))
      ∙ sym (line_track-append rules rules.start (take i ms) m) ∙ ap (line_track rules rules.start) (sym one-more)
