use Rattle.std.proofs.Common.{rules, ◌≡◌, ◌+◌, ℕ, ◌-◌, sym, subst, List, arith}
use Rattle.std.specs.List.{flat_map, range_with_len}
use Rattle.pairings.specs.declared.table.BoardPairing.{BoardPairing}
use Rattle.pairings.specs.Table.{row, games}
use Rattle.pairings.proofs.Ahead.{ahead, step-row, begin-row}
use Rattle.pairings.proofs.table.round.Goals as goal

pub loop-lower-init : goal.loop-lower-init
loop-lower-init c =
    let P : List BoardPairing → Type 0 = λ made. ahead c.args.players c.args.round made
    (flat_map (row c.args.players) (range_with_len 1 (c.args.players + 1 - 1))) ≡ games c.args.players c.args.round in
    record {
      games = subst P (sym c.new-pairings.ensures.items) (begin-row c.args.players c.args.round);
      few = search rules;
      from = omega arith;
    }

pub loop-lower-preserved : goal.loop-lower-preserved
loop-lower-preserved c =
    let players : ℕ = c.args.players in
    let lower : ℕ = c.loop-lower.lower in
    let P : List BoardPairing → Type 0 = λ made. ahead players c.args.round made
    (flat_map (row players) (range_with_len (lower + 1) (players + 1 - (lower + 1)))) ≡ games players c.args.round in
    let few = c.in_ok-push_row.ensures.few in
    record {
      games = subst P (sym c.in_ok-push_row.ensures.items)
          (step-row players c.args.round lower (players + 1) _ _ c.loop-lower-test.true c.loop-lower.invariant.games);
      few = omega (arith, few, c.loop-lower.invariant.few);
      from = omega arith;
    }
