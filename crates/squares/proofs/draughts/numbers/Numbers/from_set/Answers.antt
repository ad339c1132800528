use Rattle.std.proofs.Common.{◌≡◌, ◌∷◌, ℕ, Option, Some, None, length, length-set, refl, arith, ap, subst}
use Rattle.squares.specs.DraughtsSets.{ascending}
use Rattle.squares.specs.internal.DraughtsSets.{PopsSquare}
use Rattle.squares.proofs.DraughtsPops.{ascending-fits, popped-write, popped-end}
use Rattle.squares.proofs.draughts.numbers.Numbers.from_set.Goals as goal

pub loop-square-init : goal.loop-square-init
loop-square-init c = record { few = omega (arith, ascending-fits c.args.set); room = refl; so_far = refl }

found : (c : goal.After-number) → ascending c.loop-square.rest ≡ c.in-Some.square ∷ ascending c.pop.new.self
found c =
    (let w : PopsSquare c.loop-square.rest (Some c.in-Some.square) c.pop.new.self =
    subst (λ (o : Option ℕ). PopsSquare c.loop-square.rest o c.pop.new.self) c.in-Some.is c.pop.ensures in w.0)

pub bounds-numbers-len : goal.bounds-numbers-len
bounds-numbers-len c = omega (arith, c.loop-square.invariant.few, ap length (found c))

pub loop-square-preserved : goal.loop-square-preserved
loop-square-preserved c =
    let w = c.loop-square in
    record {
      few = omega (arith, w.invariant.few, ap length (found c));
      room = simp length-set w.invariant.room;
      so_far = popped-write w.numbers (ascending c.args.set) (ascending w.rest) (ascending c.pop.new.self) w.len
          c.in-Some.square c.number.result
          (omega (arith, w.invariant.few, w.invariant.room, ap length (found c))) c.number.ensures.value
          w.invariant.so_far (found c);
    }

pub returns : goal.returns
returns c =
    let w = c.loop-square in
    let none : c.pop.result ≡ None = c.in_default.is in
    let empty : PopsSquare w.rest None c.pop.new.self =
    subst (λ (o : Option ℕ). PopsSquare w.rest o c.pop.new.self) none c.pop.ensures in
    popped-end w.numbers (ascending c.args.set) (ascending w.rest) w.len empty.1 w.invariant.so_far
