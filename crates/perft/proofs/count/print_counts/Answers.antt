use Rattle.std.proofs.Common.{rules, ℕ, ◌+◌, ◌-◌, ◌++◌, List, [], Result, Ok, Err, take, refl, sym, subst}
use Rattle.std.proofs.KnownBytes.{Appends-nil, Appends-trans}
use Rattle.std.proofs.lemmas.List.Elements.{Contains-get_or}
use Rattle.std.specs.Prelude.{OnOk}
use Rattle.perft.specs.internal.Lines.{AreTheMoves, AreLines, HasLines, count_line, total_line}
use Rattle.perft.proofs.LinesLemmas.{after_first, AreLines-next, AreLines-all}
use Rattle.perft.proofs.count.print_counts.Goals as goal

pub loop-played-init : goal.loop-played-init
loop-played-init g c = (
  subst (λ (xs : List _). AreTheMoves g.G.Game.Legal g.G.Game.order c.args.position.now xs)
      (sym c.deref-played-items.ensures.value) c.in_ok-moves.ensures,
  ([], (refl, refl), Appends-nil (g.W.Write.contents c.args.out.now)),
)

pub write_move-requires : goal.write_move-requires
write_move-requires g c = (c.loop-played.invariant.0.members c.played-item.result).0 (search (rules, Contains-get_or))

pub play-next-requires : goal.play-next-requires
play-next-requires g c = (c.loop-played.invariant.0.members c.played-item.result).0 (search (rules, Contains-get_or))

pub loop-played-preserved : goal.loop-played-preserved
loop-played-preserved g c =
    let game = g.G.Game in
    let p = c.args.position.now in
    let m = c.played-item.result in
    let items = c.deref-played-items.result.now in
    let name = c.as_str.result.now in
    let counted = after_first game.Legal game.order game.after (c.args.depth - 1) p in
    let (lines, are, printed) = c.loop-played.invariant.1 in
    let written : game.Writes p m name = subst (λ (t : List ℕ). game.Writes p m t) (sym c.as_str.ensures.value)
    c.in_ok-text.ensures in
    let under : HasLines game.Legal game.order game.after c.saturating_sub.result (game.after p m) c.in_ok-count.count =
    subst (λ (q : _). HasLines game.Legal game.order game.after c.saturating_sub.result q c.in_ok-count.count)
    c.play-next.ensures c.in_ok-count.ensures in
    let one : counted m c.in_ok-count.count =
    subst (λ (d : ℕ). HasLines game.Legal game.order game.after d (game.after p m) c.in_ok-count.count)
    c.saturating_sub.ensures under in (
      c.loop-played.invariant.0,
      (
        lines ++ count_line name c.in_ok-count.count,
        subst
            (λ (n : ℕ). AreLines (λ x. game.Writes p x) counted (take (c.loop-played.played-index + 1) items)
            (lines ++ count_line name c.in_ok-count.count) n) {x = c.loop-played.total + c.in_ok-count.count}
            (sym c.in_ok-total.ensures)
            (AreLines-next (λ x. game.Writes p x) counted items c.loop-played.played-index m lines name
            c.loop-played.total c.in_ok-count.count c.loop-played-test.true c.played-item.is are written one),
        Appends-trans _ _ _ lines (count_line name c.in_ok-count.count) printed c.in_ok-print_count.ensures,
      ),
    )

on_ok : {T E : Type 0} (r : Result T E) (A B : Type 0) → (A → B) → OnOk r A → OnOk r B
on_ok (Ok x) A B f h = f h
on_ok (Err e) A B f h = tt

pub returns : goal.returns
returns g c =
    let game = g.G.Game in
    let p = c.args.position.now in
    let items = c.deref-played-items.result.now in
    let counted = after_first game.Legal game.order game.after (c.args.depth - 1) p in
    let (lines, are, printed) = c.loop-played.invariant.1 in
    on_ok c.print_total.result _ _
    (λ more. record {
      moves = items;
      are_moves = c.loop-played.invariant.0;
      lines = lines;
      total = c.loop-played.total;
      are_lines = AreLines-all (λ x. game.Writes p x) counted items c.loop-played.played-index lines c.loop-played.total
          c.loop-played-test.false are;
      printed = Appends-trans _ _ _ lines (total_line c.loop-played.total) printed more;
    })
    c.print_total.ensures
