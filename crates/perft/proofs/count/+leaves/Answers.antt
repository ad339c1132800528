use Rattle.std.proofs.Common.{rules, ℕ, ◌-◌, ◌+◌, List, take, refl, sym, subst, arith}
use Rattle.perft.specs.internal.Lines.{HasLines, AddUp, AreTheMoves}
use Rattle.perft.proofs.LinesLemmas.{after_first, AddUp-next, AddUp-all, HasLines-more, counted-lines}
use Rattle.std.proofs.lemmas.List.Elements.{Contains-get_or}
use Rattle.perft.proofs.count.+leaves.Goals as goal

pub returns-then-depth-eq1 : goal.returns-then-depth-eq1
returns-then-depth-eq1 g t c =
    let game = g.G.Game in
    counted-lines game.Legal game.order game.after c.args.position.now c.args.depth c.count.result c.if-depth-eq1.true
    c.count.ensures

pub loop-played-init : goal.loop-played-init
loop-played-init g t c = (
  subst (λ (xs : List _). AreTheMoves g.G.Game.Legal g.G.Game.order c.args.position.now xs)
      (sym c.deref-played-items.ensures.value) c.in_ok-moves.ensures,
  refl,
)

pub play-next-requires : goal.play-next-requires
play-next-requires g t c = (c.loop-played.invariant.0.members c.played-item.result).0 (search (rules, Contains-get_or))

pub loop-played-preserved : goal.loop-played-preserved
loop-played-preserved g t c =
    let game = g.G.Game in
    let counted = after_first game.Legal game.order game.after (c.args.depth - 1) c.args.position.now in
    let items = c.deref-played-items.result.now in
    let one : HasLines game.Legal game.order game.after (c.args.depth - 1)
    (game.after c.args.position.now c.played-item.result) c.in_ok-under.under =
    subst (λ (p : _). HasLines game.Legal game.order game.after (c.args.depth - 1) p c.in_ok-under.under)
    c.play-next.ensures c.in_ok-under.ensures in (
      c.loop-played.invariant.0,
      subst (λ (n : ℕ). AddUp counted (take (c.loop-played.played-index + 1) items) n)
          {x = c.loop-played.count + c.in_ok-under.under} (sym c.in_ok-count.ensures)
          (AddUp-next counted items c.loop-played.played-index c.played-item.result c.loop-played.count
          c.in_ok-under.under c.loop-played-test.true c.played-item.is c.loop-played.invariant.1 one),
    )

pub returns : goal.returns
returns g t c =
    let game = g.G.Game in
    let items = c.deref-played-items.result.now in
    let counted = after_first game.Legal game.order game.after (c.args.depth - 1) c.args.position.now in
    HasLines-more game.Legal game.order game.after c.args.depth c.args.position.now items c.loop-played.count
    (omega (arith, c.if-depth-eq0.false)) c.loop-played.invariant.0
    (AddUp-all counted items c.loop-played.played-index c.loop-played.count (omega (arith, c.loop-played-test.false))
    c.loop-played.invariant.1)
