use Rattle.std.proofs.Common.{List, length, true, sym, subst}
use Rattle.pdn_games.specs.declared.tokens.PlacedToken.{PlacedToken}
use Rattle.pdn_games.specs.internal.TokenValues.{all_placed}
use Rattle.pdn_games.specs.internal.Replaying.{HaveForms}
use Rattle.pdn_games.proofs.LexLemmas.{have-forms}
use Rattle.pdn_games.proofs.reading.read_game.Goals as goal

pub read_tokens-requires : goal.read_tokens-requires
read_tokens-requires c =
    subst (λ (l : List PlacedToken). HaveForms (all_placed l)) (sym c.as_slice-placed.ensures.value)
    (have-forms (length c.args.text.now) true true c.args.text.now _ _ c.in_ok-lexed.ensures)
