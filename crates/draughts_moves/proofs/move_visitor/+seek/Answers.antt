use Rattle.std.proofs.Common.{◌≡◌, ℕ, true, false, nat_lt, ◌+◌, ◌<◌, ◌≤◌, List, [], length, max, drop, refl, sym, ap, ◌∙◌, arith}
use Rattle.std.specs.FinSet as set
use Rattle.std.proofs.lemmas.Bool.{ltb-true, ltb-false}
use Rattle.std.proofs.lemmas.Grind.{common_steps}
use Rattle.squares.specs.OrderedLists.{put_all}
use Rattle.draughts_moves.specs.declared.mover.Mover.{Mover}
use Rattle.draughts_moves.specs.Capture.{Cells, without}
use Rattle.draughts_moves.specs.Search.{greatest, jumps, prey_left}
use Rattle.draughts_moves.specs.Listing.{move_cmp}
use Rattle.draughts_moves.specs.internal.Found.{kept}
use Rattle.draughts_moves.proofs.FoundLemmas.{no_jumps, greatest-end, ends_of-end, most-begun, all-gone, gone-on, among}
use Rattle.draughts_moves.proofs.FoundLemmas.{come-back, gathers-end, after, by_jump, ends_by}
use Rattle.draughts_moves.proofs.JumpLemmas.{jumps-sound}
use Rattle.draughts_moves.proofs.Prey.{prey_left-falls}
use Rattle.draughts_moves.proofs.move_visitor.+seek.Goals as goal

gone : {A : Type 0} (i : ℕ) (xs : List A) → length xs ≤ i → drop i xs ≡ []
gone i xs h = grind (arith, common_steps)

-- the jumps where there is none, and where there is one
no_jump : (b : Cells) (m : Mover) → nat_lt 0 (length (jumps b m.piece m.taken m.at)) ≡ false
    → jumps b m.piece m.taken m.at ≡ []
no_jump b m none = no_jumps (jumps b m.piece m.taken m.at)
    (omega (arith, ltb-false 0 (length (jumps b m.piece m.taken m.at)) none))

some_jump : (b : Cells) (m : Mover) (items : List (ℕ × ℕ)) → items ≡ jumps b m.piece m.taken m.at
    → nat_lt 0 (length (jumps b m.piece m.taken m.at)) ≡ true → length items ≡ 0 → ⊥
some_jump b m items are some none =
    omega (arith, ltb-true 0 (length (jumps b m.piece m.taken m.at)) some, ap length are, none)

pub returns-then-not-can_jump-clause-size : goal.returns-then-not-can_jump-clause-size
returns-then-not-can_jump-clause-size t c =
    let m = c.args.mover.now in
    let b = without c.args.position.now.board m.origin in
    let none = no_jump b m (sym c.can_jump.ensures ∙ c.if-not-can_jump.true) in
    omega (
      arith,
      c.in_ok-offer.ensures.size,
      greatest-end b m none,
    )

pub returns-then-not-can_jump-clause-moves : goal.returns-then-not-can_jump-clause-moves
returns-then-not-can_jump-clause-moves t c =
    let m = c.args.mover.now in
    let b = without c.args.position.now.board m.origin in
    let none = no_jump b m (sym c.can_jump.ensures ∙ c.if-not-can_jump.true) in
    let size = c.offer.new.self.size in
    c.in_ok-offer.ensures.moves
    ∙ ap (λ ms. put_all move_cmp ms (kept c.args.found.now.size size c.args.found.now.moves.items))
    (ends_of-end b m size none (omega (arith, c.in_ok-offer.ensures.size)))

pub loop-over-init : goal.loop-over-init
loop-over-init t c =
    let m = c.args.mover.now in
    let are = c.items-over-items.ensures ∙ c.jumps_from-jumps.ensures in
    record {
      gathers = record {
        most_is = most-begun (without c.args.position.now.board m.origin) m c.items-over-items.result.now are
            c.args.found.now.size
            (some_jump (without c.args.position.now.board m.origin) m c.items-over-items.result.now are (sym c.can_jump.ensures ∙ c.if-not-can_jump.false));
        listed = refl;
        sorted = c.requires;
      };
      items_are = are;
      mover_is = refl;
    }

pub seek-requires : goal.seek-requires
seek-requires t c =
    let m = c.args.mover.now in
    let b = without c.args.position.now.board m.origin in
    let w = c.loop-over in
    let item = c.loop-over-item.result in
    let made : c.jump.new.self ≡ after b m item = rw w.invariant.mover_is at c.jump.ensures in
    let jump = jumps-sound b m.piece m.taken m.at item.0 item.1
    (among b m c.items-over-items.result.now w.invariant.items_are w.over-index item c.loop-over-test.true
    c.loop-over-item.is) in
    let left_by : Mover → ℕ = λ mover. prey_left (without c.args.position.now.board mover.origin) mover.piece
    mover.taken in
    let less : left_by c.jump.new.self ≡ prey_left b m.piece (set.insert m.taken item.0) = ap left_by made in
    let at_most : prey_left b m.piece m.taken ≡ t = c.decreases in
    let smaller : left_by c.jump.new.self < t = omega
    (arith, prey_left-falls b m.piece m.taken m.at item.0 item.1 jump, less, at_most) in
    (smaller, w.invariant.gathers.sorted)

pub loop-over-preserved : goal.loop-over-preserved
loop-over-preserved t c =
    let m = c.args.mover.now in
    let b = without c.args.position.now.board m.origin in
    let w = c.loop-over in
    let item = c.loop-over-item.result in
    let items = c.items-over-items.result.now in
    let made : c.jump.new.self ≡ after b m item = rw w.invariant.mover_is at c.jump.ensures in
    record {
      gathers = gone-on b m items w.invariant.items_are w.over-index item c.loop-over-test.true c.loop-over-item.is
          _ w.found.size c.seek.new.found.size _ w.found.moves.items c.seek.new.found.moves.items w.invariant.gathers
          (rw made at c.in_ok-seek.ensures.size) (rw made at c.in_ok-seek.ensures.moves);
      items_are = w.invariant.items_are;
      mover_is = come-back b m items w.invariant.items_are w.over-index item c.loop-over-test.true c.loop-over-item.is
          c.seek.new.mover c.take_back.new.self (c.in_ok-seek.ensures.back ∙ made) c.take_back.ensures;
    }

pub returns-clause-moves : goal.returns-clause-moves
returns-clause-moves t c =
    let m = c.args.mover.now in
    let b = without c.args.position.now.board m.origin in
    let w = c.loop-over in
    let items = c.items-over-items.result.now in
    let most = max c.args.found.now.size (set.len m.taken + greatest b m.piece m.taken m.at) in
    let end = gathers-end (by_jump b m) (ends_by b m most) most _ w.found.size w.found.moves.items
    (rw (gone w.over-index items c.loop-over-test.false) at w.invariant.gathers) in
    rw end.0
    (end.1 ∙ all-gone b m items w.invariant.items_are most c.args.found.now.size c.args.found.now.moves.items
    (some_jump b m c.items-over-items.result.now w.invariant.items_are (sym c.can_jump.ensures ∙ c.if-not-can_jump.false)) refl)
