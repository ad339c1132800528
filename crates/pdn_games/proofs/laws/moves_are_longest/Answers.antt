use Rattle.pdn_games.proofs.LongestLemmas.{move-longest}
use Rattle.pdn_games.proofs.TokenFormLemmas.{move-of}
use Rattle.pdn_games.proofs.laws.moves_are_longest.Goals as goal

pub returns : goal.returns
returns c =
    λ text. record { is = λ some. move-of text some; longest = λ k within h. move-longest text k h.0 within h.1 }
