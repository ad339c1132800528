use Rattle.store.proofs.HistoryLemmas.{opens_empty}
use Rattle.store.proofs.reopen.opened_empty_holds.Goals as goal

pub returns : goal.returns
returns g c opens live empty = opens_empty _ opens live (g.met.S.Store.settled c.args.conn.now.store) empty
