use Rattle.store.proofs.HistoryLemmas.{opens_led}
use Rattle.store.proofs.reopen.opened_history_holds.Goals as goal

pub returns : goal.returns
returns g c opens live = opens_led _ opens live (g.met.S.Store.settled c.args.conn.now.store)
