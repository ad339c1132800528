use Rattle.store.proofs.HistoryLemmas.{stops_led}
use Rattle.store.proofs.reopen.crash_keeps_history.Goals as goal

pub returns : goal.returns
returns g c from version them chapters = stops_led from version them chapters _
