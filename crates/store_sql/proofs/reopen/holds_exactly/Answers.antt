use Rattle.sqlite.specs.Held.{state}
use Rattle.store_sql.proofs.OpenLemmas.{opens_exactly}
use Rattle.store_sql.proofs.reopen.holds_exactly.Goals as goal

pub returns : goal.returns
returns g c opens live schema content found =
    opens_exactly schema content (state g.S.Store c.args.conn.now) opens live
    (λ db shown left. g.met.S.Store.settled c.args.conn.now.store db shown left) found
