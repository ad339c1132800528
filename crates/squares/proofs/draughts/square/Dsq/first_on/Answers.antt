use Rattle.std.proofs.Common.{◌≡◌, ℕ, inl, inr, ap}
use Rattle.std.specs.Prelude.{nat_lt}
use Rattle.squares.proofs.DraughtsLines.{comes_on, least-first, greatest-first}
use Rattle.squares.proofs.draughts.square.Dsq.first_on.Goals as goal

pub returns-in-UpLeft : goal.returns-in-UpLeft
returns-in-UpLeft c =
    let up : (a b : ℕ) → comes_on c.args.toward a b ≡ nat_lt b a = λ a b.
    elim c.in-UpLeft.is [ inl e ↦ ap (λ d. comes_on d a b) e | inr e ↦ ap (λ d. comes_on d a b) e ] in
    greatest-first c.args.toward c.args.self c.line.result c.args.of c.intersection-there.result c.line.ensures
    c.intersection-there.ensures up c.greatest.result c.greatest.ensures

pub returns-in-DownLeft : goal.returns-in-DownLeft
returns-in-DownLeft c =
    let down : (a b : ℕ) → comes_on c.args.toward a b ≡ nat_lt a b = λ a b.
    elim c.in-DownLeft.is [ inl e ↦ ap (λ d. comes_on d a b) e | inr e ↦ ap (λ d. comes_on d a b) e ] in
    least-first c.args.toward c.args.self c.line.result c.args.of c.intersection-there.result c.line.ensures
    c.intersection-there.ensures down c.least.result c.least.ensures
