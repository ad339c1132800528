use Rattle.pdn_games.proofs.TagGrammarLemmas.{tag-split, split-tag}
use Rattle.pdn_games.proofs.laws.tags_follow_grammar.Goals as goal

pub returns : goal.returns
returns c = λ text name value rest. (λ e. tag-split text name value rest e, λ h. split-tag text name value rest h)
