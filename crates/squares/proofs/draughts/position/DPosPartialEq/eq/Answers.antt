use Rattle.masks.specs.Words.{Numbers}
use Rattle.std.proofs.Common.{◌≡◌, Bool, true, false, not, refl, sym, ap, ◌∙◌, subst}
use Rattle.std.specs.Cmp.{both_ways}
use denote.Enum.Bare.{sameb}
use Rattle.squares.specs.contracts.sides.Side.{the_type}
use Rattle.squares.specs.declared.sides.Side.{Side}
use Rattle.squares.specs.declared.sides.Side.TheVariants.{First, Second}
use Rattle.squares.specs.Sides.{same_side}
use Rattle.squares.specs.internal.Sides.{same_side-same, same_side-itself}
use Rattle.squares.specs.DraughtsBoard.{Position, board_of}
use Rattle.squares.specs.internal.DraughtsKept.{cells_in}
use Rattle.squares.proofs.DraughtsKept.{same_first, same_second, same_kings}
use Rattle.squares.specs.DraughtsSamePosition.{same_position}
use Rattle.squares.specs.internal.DraughtsSamePosition.{same_position-same, same_position-itself}
use Rattle.squares.proofs.draughts.position.DPosPartialEq.eq.Goals as goal

turns : (a b : Side) → sameb the_type a b ≡ same_side a b
turns First First = refl
turns First Second = refl
turns Second First = refl
turns Second Second = refl

not_true : (a : Bool) → not a ≡ true → a ≡ false
not_true true e = sym e
not_true false e = refl

not_false : (a : Bool) → not a ≡ false → a ≡ true
not_false true e = refl
not_false false e = sym e

-- the position of three sets
abbrev at : Numbers → Numbers → Numbers → Side → Position
at f s r turn = record { board = board_of (cells_in f s r); turn = turn }

pub returns-then-ne : goal.returns-then-ne
returns-then-ne c =
    let p : Position = c.args.self.now in
    let q : Position = c.args.other.now in
    let mine = c.self.inside.turn in
    let theirs = c.other.inside.turn in
    let differ : same_side mine theirs ≡ false = sym (turns mine theirs)
    ∙ not_true (sameb the_type mine theirs) (sym c.ne.ensures ∙ c.if-ne.true) in
    both_ways false (same_position p q) (λ e. cc)
    (λ same.
    let turn : mine ≡ theirs = ap (λ (r : Position). r.turn)
    (c.self.view_is ∙ same_position-same p q same ∙ sym c.other.view_is) in
    let itself : same_side mine theirs ≡ true = subst (λ t. same_side mine t ≡ true) turn (same_side-itself mine) in
    cc)

-- positions that are equal have equal boards
boards : (f s r g t u : Numbers) (turn turn2 : Side) (p q : Position) → at f s r turn ≡ p → at g t u turn2 ≡ q
    → same_position p q ≡ true → board_of (cells_in f s r) ≡ board_of (cells_in g t u)
boards f s r g t u turn turn2 p q mine theirs same =
    ap (λ (k : Position). k.board) (mine ∙ same_position-same p q same ∙ sym theirs)

pub returns-then-not-is_same : goal.returns-then-not-is_same
returns-then-not-is_same c =
    let p : Position = c.args.self.now in
    let q : Position = c.args.other.now in
    let a = c.self.inside in
    let b = c.other.inside in
    both_ways false (same_position p q) (λ e. cc)
    (λ same.
    let is = same_first a.first a.second a.kings b.first b.second b.kings c.self.invariant c.other.invariant
    (boards _ _ _ _ _ _ _ _ p q c.self.view_is c.other.view_is same) in
    let yes_it_is = c.is_same.ensures.1 is in
    let not_so = c.if-not-is_same.true in
    cc)

pub returns-then-not-is_same-2 : goal.returns-then-not-is_same-2
returns-then-not-is_same-2 c =
    let p : Position = c.args.self.now in
    let q : Position = c.args.other.now in
    let a = c.self.inside in
    let b = c.other.inside in
    both_ways false (same_position p q) (λ e. cc)
    (λ same.
    let is = same_second a.first a.second a.kings b.first b.second b.kings c.self.invariant c.other.invariant
    (boards _ _ _ _ _ _ _ _ p q c.self.view_is c.other.view_is same) in
    let yes_it_is = c.is_same-2.ensures.1 is in
    let not_so = c.if-not-is_same-2.true in
    cc)

pub returns : goal.returns
returns c =
    let p : Position = c.args.self.now in
    let q : Position = c.args.other.now in
    let a = c.self.inside in
    let b = c.other.inside in
    let turn : a.turn ≡ b.turn = same_side-same a.turn b.turn
    (sym (turns a.turn b.turn) ∙ not_false (sameb the_type a.turn b.turn) (sym c.ne.ensures ∙ c.if-ne.false)) in
    let first : a.first ≡ b.first = c.is_same.ensures.0 c.if-not-is_same.false in
    let second : a.second ≡ b.second = c.is_same-2.ensures.0 c.if-not-is_same-2.false in
    both_ways c.is_same-3.result (same_position p q)
    (λ is_true.
    let kings = c.is_same-3.ensures.0 is_true in
    let views : p ≡ q = sym c.self.view_is ∙ (λ i. at (first i) (second i) (kings i) (turn i)) ∙ c.other.view_is in
    subst (λ r. same_position p r ≡ true) views (same_position-itself p))
    (λ same.
    c.is_same-3.ensures.1 (same_kings a.first a.second a.kings b.first b.second b.kings c.self.invariant
    c.other.invariant (boards _ _ _ _ _ _ _ _ p q c.self.view_is c.other.view_is same)))
