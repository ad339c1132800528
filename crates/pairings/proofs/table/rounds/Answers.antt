use Rattle.std.proofs.Common.{◌≡◌, ◌+◌, ◌++◌, ℕ, ◌-◌, sym, ap, subst, List, ◌∙◌, arith}
use Rattle.std.specs.List.{flat_map, range_with_len}
use Rattle.pairings.specs.declared.table.BoardPairing.{BoardPairing}
use Rattle.pairings.specs.Table.{games, all_games}
use Rattle.pairings.proofs.Ahead.{begin-all, step-all}
use Rattle.pairings.proofs.table.rounds.Goals as goal

pub loop-number-init : goal.loop-number-init
loop-number-init c =
    let players : ℕ = c.args.players in
    let whole : List BoardPairing = all_games players c.args.is_double in
    let of : ℕ → Type 0 = λ n. flat_map (games players) (range_with_len 1 (n + 1 - 1)) ≡ whole in
    let from_none : List BoardPairing → Type 0 = λ made.
    made ++ flat_map (games players) (range_with_len 1 (c.rounds_of-number-end.result + 1 - 1))
    ≡ all_games players c.args.is_double in
    record {
      games = subst from_none (sym c.new-pairings.ensures.items)
          (subst of (sym c.rounds_of-number-end.ensures) (begin-all players c.args.is_double));
      from = omega arith;
    }

pub loop-number-preserved : goal.loop-number-preserved
loop-number-preserved c =
    let players : ℕ = c.args.players in
    let number : ℕ = c.loop-number.number in
    let end : ℕ = c.rounds_of-number-end.result + 1 in
    let P : List BoardPairing → Type 0 = λ made.
    made ++ flat_map (games players) (range_with_len (number + 1) (end - (number + 1)))
    ≡ all_games players c.args.is_double in
    let added = c.in_ok-append.ensures.items ∙ ap (λ xs. c.loop-number.pairings.items ++ xs) c.in_ok-round.ensures in
    record {
      games = subst P (sym added)
          (step-all players number end _ _ c.loop-number-test.true c.loop-number.invariant.games);
      from = omega arith;
    }
