use Rattle.store_tables.proofs.Proved.{read_then, still_rows}
use Rattle.std.proofs.Common.{true, refl, arith}
use Rattle.sqlite.specs.Held.{state}
use Rattle.sqlite.specs.State.{HasCleanDisk}
use Rattle.club_rows.specs.Club.{tables}
use Rattle.club_rows.proofs.Proved.{stores-rows}
use Rattle.club_reads.proofs.known.read_known.Goals as goal

pub returns-clause-known : goal.returns-clause-known
returns-clause-known g c clean s is_club version k =
    let at_members : HasCleanDisk (state g.S.Store c.all_members.new.conn) =
    omega (arith, c.all_events.ensures.reads.clean) in
    let at_games : HasCleanDisk (state g.S.Store c.count_games.new.conn) =
    omega (arith, at_members, c.all_members.ensures.reads.clean) in
    let at_under : HasCleanDisk (state g.S.Store c.stored_under.new.conn) =
    omega (arith, at_games, c.count_games.ensures.reads.clean) in
    let one = still_rows _ _ (c.in_ok-under.ensures.reads.kept refl at_under) (tables s) k in
    let two = still_rows _ _ (c.in_ok-games.ensures.reads.kept refl at_games) (tables s) one in
    let three = still_rows _ _ (c.in_ok-members.ensures.reads.kept refl at_members) (tables s) two in
    let under = c.in_ok-under.ensures.found at_under s is_club (stores-rows s _ k) in
    record {
      members_are = c.in_ok-members.ensures.values at_members s is_club version two;
      events_are = c.in_ok-events.ensures.values clean s is_club version three;
      keyed_is = c.in_ok-keyed.ensures s c.args.key.now under;
      under_is = under;
      games_are = c.in_ok-games.ensures.count at_games s (stores-rows s _ one);
    }

pub returns-clause-reads : goal.returns-clause-reads
returns-clause-reads g c =
    read_then true _ _ _ c.in_ok-under.ensures.reads
    (read_then true _ _ _ c.in_ok-games.ensures.reads
    (read_then true _ _ _ c.in_ok-members.ensures.reads c.in_ok-events.ensures.reads))
