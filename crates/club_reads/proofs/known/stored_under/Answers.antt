use Rattle.store_tables.proofs.Proved.{read_then, still_rows}
use Rattle.std.proofs.Common.{true, refl, map, sym, ◌∙◌, arith}
use Rattle.sqlite.specs.Held.{state}
use Rattle.sqlite.specs.State.{HasCleanDisk}
use Rattle.store_tables.specs.Cells.{game_cells}
use Rattle.club_rows.specs.Club.{tables}
use Rattle.club_changes.proofs.Proved.{under_stored, none_stored, under_none, first_mapped, none_mapped}
use Rattle.club_reads.proofs.known.stored_under.Goals as goal

pub returns-in_ok-stored-in-Some-clause-found : goal.returns-in_ok-stored-in-Some-clause-found
returns-in_ok-stored-in-Some-clause-found g c clean s is_club k =
    let rows = c.in_ok-find.field-0.items in
    let looked : HasCleanDisk (state g.S.Store c.find.new.conn) = omega (arith, c.read_game.ensures.reads.clean) in
    let those = c.in_ok-find.ensures.rows looked (tables s) k in
    let (id, game, here, under, keyed, cells) =
    under_stored s is_club c.args.key.now (map game_cells rows) (game_cells c.in-Some.row) those
    (first_mapped game_cells rows c.in-Some.row (sym c.first.ensures ∙ c.in-Some.is)) in
    let kept = still_rows _ _ (c.in_ok-find.ensures.reads.kept refl looked) (tables s) k in
    record {
      id = id;
      game = game;
      here = here;
      under = under;
      keyed = keyed;
      stored_is = c.in_ok-stored-in-Some.ensures.found clean s id game is_club here cells kept;
    }

pub returns-in-None-clause-found : goal.returns-in-None-clause-found
returns-in-None-clause-found g c clean s is_club k =
    let rows = c.in_ok-find.field-0.items in
    let those = c.in_ok-find.ensures.rows clean (tables s) k in
    let none = none_mapped game_cells rows (sym c.first.ensures ∙ c.in-None.is) in (
      none_stored s is_club c.args.key.now (map game_cells rows) those none,
      under_none s is_club c.args.key.now (map game_cells rows) those none,
    )

pub returns-in_ok-stored-in-Some-clause-reads : goal.returns-in_ok-stored-in-Some-clause-reads
returns-in_ok-stored-in-Some-clause-reads g c =
    read_then true _ _ _ c.in_ok-find.ensures.reads c.in_ok-stored-in-Some.ensures.reads
