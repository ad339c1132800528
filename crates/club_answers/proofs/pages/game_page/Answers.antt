use Rattle.std.proofs.Common.{ap}
use Rattle.store_tables.proofs.Proved.{ended, reads_on}
use Rattle.club_changes.proofs.Proved.{place_at}
use Rattle.club_lists.specs.Lines.{game_name}
use Rattle.club_answers.proofs.CallLemmas.{between}
use Rattle.club_answers.proofs.pages.game_page.Goals as goal

pub returns-in_err-shown-clause-reads : goal.returns-in_err-shown-clause-reads
returns-in_err-shown-clause-reads g c =
    ended _ (reads_on c.in_ok-viewed.ensures.reads c.in_ok-legal.ensures.reads)

pub returns-clause-reads : goal.returns-clause-reads
returns-clause-reads g c = reads_on c.in_ok-viewed.ensures.reads c.in_ok-legal.ensures.reads

pub returns-clause-page : goal.returns-clause-page
returns-clause-page g c clean s id game is_club at is k =
    let (first, one) = between s c.in_ok-viewed.ensures.reads c.in_ok-legal.ensures.reads clean k in
    let (n, id_is, there) = place_at s.games id game at in
    record {
      summary = c.in_ok-summary.ensures s id game (is_club.games n game there) is.row;
      kind = ap game_name is.kind;
      viewed = c.in_ok-viewed.viewed;
      is_view = c.in_ok-viewed.ensures.viewed first s id game is_club at is k;
      shown = c.in_ok-shown.ensures;
      legal = c.in_ok-legal.ensures.legal clean s id game is_club at is one;
    }
