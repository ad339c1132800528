use Rattle.std.proofs.Common.{◌≡◌, ℕ, List, [], ◌∷◌, ◌++◌, ap, subst, sym}
use Rattle.squares.specs.declared.draughts.moves.DMove.{DMove}
use Rattle.squares.specs.DraughtsOpening.{opening}
use Rattle.pdn_games.specs.Tokens.{Token, move_by}
use Rattle.pdn_games.specs.internal.TokenValues.{token_of}
use Rattle.pdn_games.specs.Contents.{texts_in}
use Rattle.pdn_games.specs.Moves.{MeanAll}
use Rattle.pdn_games.specs.internal.Replaying.{GrowsBy, GrowsWith}
use Rattle.pdn_games.proofs.MoveLemmas.{mean-more, on-ok}
use Rattle.pdn_games.proofs.replay.push_token.Goals as goal

grows-with : (t : Token) (text : List ℕ) (old new : List DMove) → t ≡ move_by text → GrowsBy text old new
    → GrowsWith t old new
grows-with t text old new is grows = λ texts all.
    let more : MeanAll opening (texts ++ text ∷ []) (old ++ grows.made ∷ []) =
    mean-more opening texts old text grows.made all grows.means in
    let wrote : texts_in t [] ≡ text ∷ [] = ap (λ k. texts_in k []) is in
    subst (λ l. MeanAll opening (texts ++ l) new) (sym wrote)
    (subst (λ l. MeanAll opening (texts ++ text ∷ []) l) (sym grows.grown) more)

pub returns-in-Move-clause-grown : goal.returns-in-Move-clause-grown
returns-in-Move-clause-grown c =
    on-ok c.push.result
    (λ h. grows-with (token_of c.args.token) c.in-Move.text.now c.args.replay.now.moves.items
    c.push.new.replay.moves.items (ap token_of c.in-Move.is) h) c.push.ensures.grown
