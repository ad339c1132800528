use Rattle.std.proofs.Common.{◌≡◌, false, subst, sym, ap, ◌∙◌, arith, ◌-◌, ◌+◌, ℕ}
use Rattle.std.specs.FinSet as set
use Rattle.std.specs.Option.{option_map_or}
use Rattle.masks.specs.Words.{Numbers}
use Rattle.squares.specs.DraughtsGeometry.{step}
use Rattle.squares.specs.declared.draughts.direction.Direction.TheVariants.{UpLeft, UpRight, DownLeft, DownRight}
use Rattle.squares.proofs.DraughtsBeside.{up_left, up_right, down_left, down_right, beside_up, beside_down}
use Rattle.squares.proofs.draughts.set.DSet.predecessors.Goals as goal

pub returns-in-UpLeft : goal.returns-in-UpLeft
returns-in-UpLeft c =
    let same = c.self.view_is in
    subst (λ d. (n : ℕ) → set.contains c.in_rows.result n ≡ option_map_or (set.contains c.args.self) (step d n) false)
    (sym c.in-UpLeft.is)
    (beside_up UpLeft c.args.self c.shift_up.result c.shift_up-in-UpLeft.result c.in_rows.result 34118178995200 5
    1056562962432960 6 (omega arith) (omega arith) c.in_rows.ensures.none c.in_rows.ensures.squares up_left
    (λ q k h. c.shift_up.ensures.moved q k h ∙ ap (λ (s : Numbers). set.contains s (q - 5)) same)
    (λ q k h. c.shift_up-in-UpLeft.ensures.moved q k h ∙ ap (λ (s : Numbers). set.contains s (q - 6)) same))

pub returns-in-UpRight : goal.returns-in-UpRight
returns-in-UpRight c =
    let same = c.self.view_is in
    subst (λ d. (n : ℕ) → set.contains c.in_rows-in-UpRight.result n
    ≡ option_map_or (set.contains c.args.self) (step d n) false) (sym c.in-UpRight.is)
    (beside_up UpRight c.args.self c.shift_up-in-UpRight.result c.shift_up-in-UpRight-2.result c.in_rows-in-UpRight.result
    16508796288000 4 1091781727847392 5 (omega arith) (omega arith)
    c.in_rows-in-UpRight.ensures.none c.in_rows-in-UpRight.ensures.squares up_right
    (λ q k h. c.shift_up-in-UpRight.ensures.moved q k h ∙ ap (λ (s : Numbers). set.contains s (q - 4)) same)
    (λ q k h. c.shift_up-in-UpRight-2.ensures.moved q k h ∙ ap (λ (s : Numbers). set.contains s (q - 5)) same))

pub returns-in-DownLeft : goal.returns-in-DownLeft
returns-in-DownLeft c =
    let same = c.self.view_is in
    subst (λ d. (n : ℕ) → set.contains c.in_rows-in-DownLeft.result n
    ≡ option_map_or (set.contains c.args.self) (step d n) false) (sym c.in-DownLeft.is)
    (beside_down DownLeft c.args.self c.shift_down.result c.shift_down-in-DownLeft.result c.in_rows-in-DownLeft.result
    34118178995231 5 1031799768000 4 (omega arith) (omega arith)
    c.in_rows-in-DownLeft.ensures.none c.in_rows-in-DownLeft.ensures.squares down_left
    (λ q h. c.shift_down.ensures q h ∙ ap (λ (s : Numbers). set.contains s (q + 5)) same)
    (λ q h. c.shift_down-in-DownLeft.ensures q h ∙ ap (λ (s : Numbers). set.contains s (q + 4)) same))

pub returns-in-DownRight : goal.returns-in-DownRight
returns-in-DownRight c =
    let same = c.self.view_is in
    subst (λ d. (n : ℕ) → set.contains c.in_rows-in-DownRight.result n
    ≡ option_map_or (set.contains c.args.self) (step d n) false) (sym c.in-DownRight.is)
    (beside_down DownRight c.args.self c.shift_down-in-DownRight.result c.shift_down-in-DownRight-2.result
    c.in_rows-in-DownRight.result 16508796288015 6 1066193093600 5 (omega arith) (omega arith)
    c.in_rows-in-DownRight.ensures.none c.in_rows-in-DownRight.ensures.squares down_right
    (λ q h. c.shift_down-in-DownRight.ensures q h ∙ ap (λ (s : Numbers). set.contains s (q + 6)) same)
    (λ q h. c.shift_down-in-DownRight-2.ensures q h ∙ ap (λ (s : Numbers). set.contains s (q + 5)) same))
