use Rattle.std.proofs.Common.{true, List, [], ◌∷◌, length, ◌≡◌, ℕ, inl, inr, refl, sym, ◌∙◌, subst, arith}
use Rattle.std.proofs.lemmas.List.{take_all}
use Rattle.draughts_moves.specs.Capture.{Cells, without, Route}
use Rattle.squares.specs.declared.draughts.piece.DPiece.{DPiece}
use Rattle.squares.specs.internal.DraughtsMarks.{nat_eq-same}
use Rattle.squares.specs.DraughtsSets.{Squares, same_squares}
use Rattle.squares.specs.internal.DraughtsSameSquares.{same_squares-same, same_squares-itself}
use Rattle.squares.specs.internal.In.{In, In-take_more}
use Rattle.draughts_moves.proofs.Basics.{In-item}
use Rattle.draughts_moves.proofs.RouteLemmas.{Reaches-by, Reaches-first}
use Rattle.draughts_moves.proofs.reaches.+reaches.Goals as goal

pub returns-then-reaches : goal.returns-then-reaches
returns-then-reaches t c =
    let m = c.args.mover.now in
    let item = c.loop-over-item.result in
    let among = In-item c.items-over-items.result.now _ c.loop-over.over-index item c.loop-over-test.true
    c.loop-over-item.is c.loop-over.invariant.items_are in (
      λ _. Reaches-by (without c.args.position.now.board m.origin) m.piece c.args.left m.taken m.at item
          c.args.played.now.taken c.args.played.now.to (omega arith) among
          (rw c.after_jump-next.ensures at (c.reaches.ensures.0 c.if-reaches.true)),
      λ _. refl,
    )

pub loop-over-preserved : goal.loop-over-preserved
loop-over-preserved t c =
    let items = c.items-over-items.result.now in
    record {
      none = λ j h r.
          elim (In-take_more items c.loop-over.over-index j c.loop-over-item.result c.loop-over-test.true h) [
            | inl before ↦ c.loop-over.invariant.none j before r
            | inr this ↦
                let same : j ≡ c.loop-over-item.result = sym this ∙ sym c.loop-over-item.is in
                let found = c.reaches.ensures.1 (rw c.after_jump-next.ensures (rw same at r)) in
                let not_found = c.if-reaches.false in
                cc
          ];
      items_are = c.loop-over.invariant.items_are;
    }

pub returns : goal.returns
returns t c =
    let m = c.args.mover.now in
    let items = c.items-over-items.result.now in (
      λ e. cc,
      λ r.
          let w = Reaches-first (without c.args.position.now.board m.origin) m.piece c.args.left m.taken m.at
          c.args.played.now.taken c.args.played.now.to (omega arith) r in
          let all = take_all c.loop-over.over-index items c.loop-over-test.false ∙ c.loop-over.invariant.items_are in
          absurd (c.loop-over.invariant.none w.0 (subst (λ js. In w.0 js) (sym all) w.1) w.2),
    )

-- where no jump is left, nothing more is taken
no_more : (b : Cells) (q : DPiece) (n : ℕ) (t : Squares) (s : ℕ) (all : Squares) (to : ℕ) (ls : List ℕ) → n ≡ 0
    → length ls ≡ n → Route b q t s ls all to → same_squares t all ≡ true
no_more b q n t s all to [] z e r = rw (← r.0) (same_squares-itself t)
no_more b q n t s all to (l ∷ ls) z e r = absurd (omega arith)

pub returns-then-eq : goal.returns-then-eq
returns-then-eq t c =
    let m = c.args.mover.now in
    let p = c.args.played.now in
    let here = nat_eq-same m.at p.to (sym c.eq.ensures ∙ c.if-eq.true) in (
      λ e. ([], sym c.if-left-eq0.true, (same_squares-same m.taken p.taken (sym c.eq-then-eq.ensures ∙ e), here)),
      λ r. c.eq-then-eq.ensures ∙ no_more (without c.args.position.now.board m.origin) m.piece c.args.left m.taken m.at
          p.taken p.to r.0 c.if-left-eq0.true r.1 r.2,
    )
