use Rattle.pdn_games.proofs.FormTextLemmas.{form-utf8}
use Rattle.pdn_games.proofs.replay.read_text.Goals as goal

pub unreachable-requires : goal.unreachable-requires
unreachable-requires c = c.in-Err.ensures.cases.0 (form-utf8 c.args.text.now c.requires.0 c.requires.1)
