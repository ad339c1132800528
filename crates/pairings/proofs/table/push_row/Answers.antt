use Rattle.std.proofs.Common.{◌≡◌, ◌+◌, ◌++◌, ◌∷◌, [], List, suc, length, ℕ, ◌-◌, sym, ap, subst, ◌∙◌, arith}
use Rattle.pairings.specs.declared.table.BoardPairing.{BoardPairing}
use Rattle.pairings.specs.Table.{pairs_from, pair_of, game_of, row}
use Rattle.pairings.proofs.Ahead.{ahead, step-yes, step-no, one_more, length_one}
use Rattle.pairings.proofs.table.push_row.Goals as goal
use Rattle.pairings.proofs.table.push_row.Goals.{then-meet+in_ok-push, else-meet}

pub loop-higher-preserved : goal.loop-higher-preserved
loop-higher-preserved c =
    let players : ℕ = c.args.players in
    let round : ℕ = c.args.round in
    let lower : ℕ = c.args.lower in
    let higher : ℕ = c.loop-higher.higher in
    let made : List BoardPairing = c.loop-higher.pairings.items in
    let whole : List BoardPairing = ahead players round c.args.pairings.now.items (row players lower) in
    let before = c.loop-higher.invariant in
    let P : List BoardPairing → Type 0 = λ xs.
    ahead players round xs (pairs_from lower (higher + 1) (players + 1 - (higher + 1))) ≡ whole in
    elim c.if-meet.branch [
      | then-meet+in_ok-push w ↦
          let board : length w.as_slice.result.now + 1 ≡ suc (length made) =
          ap (λ xs. length xs + 1) w.as_slice.ensures.value ∙ one_more (length made) in
          let game : w.game_of.result ≡ game_of players round (suc (length made)) (pair_of lower higher) =
          w.game_of.ensures ∙ ap (λ n. game_of players round n (pair_of lower higher)) board in
          let items = ap (λ v. v.items) w.pairings-is ∙ w.in_ok-push.ensures.items ∙ ap (λ g. made ++ g ∷ []) game in
          let longer : length c.if-meet.pairings.items ≡ length made + 1 =
          ap length items ∙ length_one made _ in
          record {
            games = subst P (sym items) (step-yes players round lower higher (players + 1) made whole
                c.loop-higher-test.true (sym c.meet.ensures ∙ w.if-meet.true) before.games);
            few = omega (arith, longer, before.few);
            from = omega (arith, before.from);
          }
      | else-meet w ↦
          let items = ap (λ v. v.items) w.pairings-is in
          let same : length c.if-meet.pairings.items ≡ length made = ap length items in
          record {
            games = subst P (sym items) (step-no players round lower higher (players + 1) made whole
                c.loop-higher-test.true (sym c.meet.ensures ∙ w.if-meet.false) before.games);
            few = omega (arith, same, before.few);
            from = omega (arith, before.from);
          }
    ]
