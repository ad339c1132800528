use Rattle.store_tables.proofs.Proved.{reads_on}
use Rattle.std.proofs.Common.{◌∙◌}
use Rattle.club_answers.proofs.BoardLemmas.{event_is, member_is, moves_are, view_is}
use Rattle.club_answers.proofs.CallLemmas.{between}
use Rattle.club_answers.proofs.boards.board_in.Goals as goal

pub returns-in-Some-clause-reads : goal.returns-in-Some-clause-reads
returns-in-Some-clause-reads g c = reads_on c.in_ok-diagram.ensures.reads c.in_ok-viewed.ensures.reads

pub returns-in-Some-clause-shown : goal.returns-in-Some-clause-shown
returns-in-Some-clause-shown g c clean s id game is_club at is k =
    let (first, kept) = between s c.in_ok-diagram.ensures.reads c.in_ok-viewed.ensures.reads clean k in
    let found = rw (c.in-Some.is, c.from.ensures ∙ is.id_is) at (c.in_ok-viewed.ensures.viewed clean s is_club kept) in
    let viewed = view_is s id game c.in-Some.viewed at found in
    λ i. record {
      kind = is.kind i;
      event = event_is _ _ viewed.event i;
      first = member_is _ _ viewed.first i;
      second = member_is _ _ viewed.second i;
      diagram = c.in_ok-diagram.ensures.shown first s id game is_club at is k i;
      moves = moves_are s game c.in-Some.viewed.played viewed.played i;
    }
