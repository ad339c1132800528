use Rattle.std.proofs.Common.{◌≡◌, length, refl, ap, ◌∙◌, arith}
use Rattle.club_core.specs.State.{game_under}
use Rattle.club_rows.specs.Club.{tables}
use Rattle.club_changes.specs.internal.Steps.{game_in}
use Rattle.club_changes.proofs.Proved.{numbered_length, seat_same}
use Rattle.club_reads.proofs.Proved.{games_begin}
use Rattle.store_tables.proofs.Proved.{clean_before, reads_on, rows_after}
use Rattle.store.proofs.seats.decided_seating.Goals as goal

pub returns-clause-decided : goal.returns-clause-decided
returns-clause-decided g c clean s is_club ms es k =
    let looked = clean_before c.count.ensures.reads clean in
    let under = c.in_ok-under_key.ensures.found looked s is_club k ∙ ap (game_under s.games) c.as_str.ensures.value in
    let count = c.in_ok-count.ensures.count clean refl (tables s)
    (rows_after c.in_ok-under_key.ensures.reads looked (tables s) k) (games_begin s) in
    let games : c.in-Ok.games ≡ length s.games =
    omega (arith, c.in-Ok.ensures, count, numbered_length (game_in s) 1 s.games) in
    seat_same _ c.args.caller _ _ _ _ _ s.members _ s.events _ _ _ _ c.seat.ensures ms es under games

pub returns-clause-reads : goal.returns-clause-reads
returns-clause-reads g c = reads_on c.in_ok-under_key.ensures.reads c.in_ok-count.ensures.reads
