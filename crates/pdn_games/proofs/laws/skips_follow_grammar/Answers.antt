use Rattle.pdn_games.proofs.SkipLemmas.{skipped-parts, parts-skipped}
use Rattle.pdn_games.proofs.laws.skips_follow_grammar.Goals as goal

pub returns : goal.returns
returns c = λ line text rest. (λ e. skipped-parts line text rest e, λ h. parts-skipped line text rest h)
