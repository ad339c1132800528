use Rattle.sqlite.specs.Held.{state}
use Rattle.club_check.proofs.ClubLemmas.{blames_told}
use Rattle.club_check.proofs.read.read.Goals as goal

pub returns-in-Err-clause-reason_is_right : goal.returns-in-Err-clause-reason_is_right
returns-in-Err-clause-reason_is_right g c clean has =
    blames_told c.args.table g.T.Select.table g.T.TableRow.IsTyped (state g.S.Store c.args.conn.now) c.in-Err.fault
    c.fault_in.result c.fault_in.ensures ((rw c.in-Err.is at c.read_all.ensures.reason_is_right clean) has)
