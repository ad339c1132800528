use Rattle.std.proofs.Common.{◌≡◌, refl, true, false, length, sym, ap, ◌∙◌, arith}
use Rattle.draughts_moves.specs.internal.Search.{can_move, has_move}
use Rattle.squares.specs.internal.In.{list_any-here, list_any-past, list_any-end}
use Rattle.draughts_moves.proofs.MoveLemmas.{has_move-sound, has_move-complete}
use Rattle.draughts_moves.proofs.checking.has_move.Goals as goal

found_here : (c : goal.Then-can_move) → has_move c.args.position.now ≡ true
unfolding has_move
found_here c =
    let test : can_move c.args.position.now c.square-item.result ≡ true =
    ap (can_move c.args.position.now) c.square-item.is ∙ sym c.can_move.ensures ∙ c.if-can_move.true in
    rw c.all.ensures at
    (list_any-here (can_move c.args.position.now) c.all.result c.loop-square.square-index c.square-item.result
    (omega (arith, ap length c.all.ensures)) c.square-item.is c.loop-square.invariant test)

pub returns-then-can_move-clause-legal : goal.returns-then-can_move-clause-legal
returns-then-can_move-clause-legal c = (λ _. has_move-sound c.args.position.now (found_here c), λ _. refl)

pub returns-then-can_move-clause-value : goal.returns-then-can_move-clause-value
returns-then-can_move-clause-value c = sym (found_here c)

pub loop-square-preserved : goal.loop-square-preserved
loop-square-preserved c =
    list_any-past (can_move c.args.position.now) c.all.result c.loop-square.square-index c.square-item.result
    (omega (arith, ap length c.all.ensures)) c.square-item.is c.loop-square.invariant
    (ap (can_move c.args.position.now) c.square-item.is ∙ sym c.can_move.ensures ∙ c.if-can_move.false)

nothing_found : (c : goal.After-loop-square) → has_move c.args.position.now ≡ false
unfolding has_move
nothing_found c =
    let fifty : length c.all.result ≡ 50 = ap length c.all.ensures in
    rw c.all.ensures at
    (list_any-end (can_move c.args.position.now) c.all.result c.loop-square.square-index (omega arith)
    c.loop-square.invariant)

pub returns-clause-legal : goal.returns-clause-legal
returns-clause-legal c = (
  λ e. cc,
  λ h. let is = nothing_found c in let found = has_move-complete c.args.position.now h in cc,
)

pub returns-clause-value : goal.returns-clause-value
returns-clause-value c = sym (nothing_found c)
