use Rattle.store_tables.proofs.Proved.{read_then, still_rows}
use Rattle.std.proofs.Common.{true, refl, [], ◌∷◌, map, SFits, w64, to_z-of_z, sym, subst, ◌∙◌, arith}
use Rattle.sqlite.specs.Held.{state}
use Rattle.sqlite.specs.State.{HasCleanDisk}
use Rattle.sqlite.specs.declared.types.Value.TheVariants.{Int}
use Rattle.store_tables.specs.Cells.{game_cells}
use Rattle.store_tables.specs.internal.Contents.{AreThose}
use Rattle.club_rows.specs.Club.{tables}
use Rattle.club_changes.proofs.Proved.{id_some, id_none, no_such_number, first_mapped, none_mapped}
use Rattle.club_reads.proofs.games.stored_game.Goals as goal

pub returns-in_default-clause-found : goal.returns-in_default-clause-found
returns-in_default-clause-found g c clean s is_club k = no_such_number s is_club c.args.game c.in_default.ensures

pub returns-in_ok-stored-in-Some-clause-found : goal.returns-in_ok-stored-in-Some-clause-found
returns-in_ok-stored-in-Some-clause-found g c clean s is_club k =
    let id = c.args.game in
    let rows = c.in_ok-find_by_first.field-0.items in
    let looked : HasCleanDisk (state g.S.Store c.find_by_first.new.conn) =
    omega (arith, c.read_game.ensures.reads.clean) in
    let found = c.in_ok-find_by_first.ensures.rows looked (tables s) k in
    let fits : SFits w64 c.in-Ok.id = subst (SFits w64) (sym c.in-Ok.ensures.1) c.in-Ok.ensures.0 in
    let those = subst (λ z. AreThose (0 ∷ []) (Int z ∷ []) (tables s 10) (map game_cells rows))
    (to_z-of_z fits ∙ c.in-Ok.ensures.1) found.0 in
    let (game, at, cells) = id_some s is_club id (map game_cells rows) (game_cells c.in-Some.row) those
    (first_mapped game_cells rows c.in-Some.row (sym c.first.ensures ∙ c.in-Some.is)) in
    let stored = c.in_ok-stored-in-Some.ensures.found clean s id game is_club at cells
    (still_rows _ _ (c.in_ok-find_by_first.ensures.reads.kept refl looked) (tables s) k) in
    (game, at, stored)

pub returns-in-None-clause-found : goal.returns-in-None-clause-found
returns-in-None-clause-found g c clean s is_club k =
    let id = c.args.game in
    let rows = c.in_ok-find_by_first.field-0.items in
    let found = c.in_ok-find_by_first.ensures.rows clean (tables s) k in
    let fits : SFits w64 c.in-Ok.id = subst (SFits w64) (sym c.in-Ok.ensures.1) c.in-Ok.ensures.0 in
    let those = subst (λ z. AreThose (0 ∷ []) (Int z ∷ []) (tables s 10) (map game_cells rows))
    (to_z-of_z fits ∙ c.in-Ok.ensures.1) found.0 in
    id_none s is_club id (map game_cells rows) those (none_mapped game_cells rows (sym c.first.ensures ∙ c.in-None.is))

pub returns-in_ok-stored-in-Some-clause-reads : goal.returns-in_ok-stored-in-Some-clause-reads
returns-in_ok-stored-in-Some-clause-reads g c =
    read_then true _ _ _ c.in_ok-find_by_first.ensures.reads c.in_ok-stored-in-Some.ensures.reads
