use Rattle.store.proofs.HistoryLemmas.{opening_led}
use Rattle.store.proofs.laws.histories_begin_at_opening.Goals as goal

pub returns : goal.returns
returns c = opening_led
