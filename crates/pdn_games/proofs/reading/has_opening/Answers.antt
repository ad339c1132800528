use Rattle.std.proofs.Common.{◌↔◌, ℕ, List, Option, sym, subst}
use Rattle.std.specs.Prelude.{IfOk, IsTrue}
use Rattle.pdn_games.specs.Contents.{BeginsEven}
use Rattle.pdn_games.proofs.reading.has_opening.Goals as goal

pub returns-in-Some : goal.returns-in-Some
returns-in-Some c =
    subst (λ (value : Option (List ℕ)). IfOk c.is_opening_text.result (λ even. IsTrue even ↔ BeginsEven value))
    (sym c.in-Some.ensures) c.is_opening_text.ensures
