use Rattle.std.proofs.Common.{◌≡◌, ◌-◌, List, ℕ, Bool, true, false, cond, length, take, drop, sym, ap, ◌∙◌, arith}
use Rattle.std.proofs.lemmas.List.{take_all, length-drop}
use Rattle.csa.specs.Openings.{are_cells, are_blanks, is_long_row}
use Rattle.csa.proofs.openings.is_long_row.Goals as goal

after-cells : (text : List ℕ) (b : Bool) → are_cells (take 27 text) ≡ true → b ≡ are_blanks (drop 27 text)
    → b ≡ is_long_row text
after-cells text b cells blanks = blanks ∙ sym (ap (λ t. cond t (are_blanks (drop 27 text)) false) cells)

pub returns : goal.returns
returns c =
    let text : List ℕ = c.args.text.now in
    let whole : take (length text - 27) (drop 27 text) ≡ drop 27 text = let rest = length-drop 27 text in
    take_all (length text - 27) (drop 27 text) (omega (arith, rest)) in
    after-cells text c.are_blanks.result (sym c.are_cells.ensures ∙ c.if-not-are_cells.false)
    (c.are_blanks.ensures ∙ ap are_blanks whole)
