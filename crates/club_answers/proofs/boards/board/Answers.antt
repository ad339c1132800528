use Rattle.store_tables.proofs.Proved.{reads_on, ended}
use Rattle.std.proofs.Common.{ap, refl, ◌∙◌}
use Rattle.std.specs.Prelude.{max}
use Rattle.club_rows.proofs.Proved.{stores-rows}
use Rattle.club_changes.proofs.Proved.{place_at}
use Rattle.club_lists.specs.Board.{board_text}
use Rattle.club_answers.proofs.CallLemmas.{between, between_three}
use Rattle.club_answers.proofs.boards.board.Goals as goal

pub returns-in_err-text-in-Some-clause-reads : goal.returns-in_err-text-in-Some-clause-reads
returns-in_err-text-in-Some-clause-reads g c =
    ended _ (reads_on c.in_ok-last.ensures.reads
    (reads_on c.in_ok-stored.ensures.reads c.in_ok-shown-in-Some.ensures.reads))

pub returns-in_ok-text-in-Some-clause-reads : goal.returns-in_ok-text-in-Some-clause-reads
returns-in_ok-text-in-Some-clause-reads g c =
    reads_on c.in_ok-last.ensures.reads (reads_on c.in_ok-stored.ensures.reads c.in_ok-shown-in-Some.ensures.reads)

pub returns-in-None-clause-reads : goal.returns-in-None-clause-reads
returns-in-None-clause-reads g c = reads_on c.in_ok-last.ensures.reads c.in_ok-stored.ensures.reads

pub returns-in_ok-text-in-Some-clause-found : goal.returns-in_ok-text-in-Some-clause-found
returns-in_ok-text-in-Some-clause-found g c clean s is_club k =
    let (first, one, second, two) = between_three s c.in_ok-last.ensures.reads c.in_ok-stored.ensures.reads
    c.board_in.ensures.reads clean k in
    let (game, at, stored) = rw c.in-Some.is at (c.in_ok-stored.ensures.found second s is_club (stores-rows s _ one)) in
    let (n, id_is, there) = place_at s.games c.args.game game at in
    let told = c.in_ok-told-in-Some.ensures s c.args.game game (is_club.games n game there) stored.row in
    let shown = c.in_ok-shown-in-Some.ensures.shown clean s c.args.game game is_club at stored two in
    let moment = c.later.ensures ∙ ap (λ m. max c.args.moment m) (c.in_ok-last.ensures.last first s (stores-rows s _ k)) in
    (game, at, c.in_ok-text-in-Some.ensures ∙ (λ i. board_text (moment i) (told i) (shown i)))

pub returns-in-None-clause-found : goal.returns-in-None-clause-found
returns-in-None-clause-found g c clean s is_club k =
    let (first, one) = between s c.in_ok-last.ensures.reads c.stored_game.ensures.reads clean k in
    (rw c.in-None.is at (c.in_ok-stored.ensures.found clean s is_club (stores-rows s _ one)), refl)
