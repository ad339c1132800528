use Rattle.store_tables.proofs.Proved.{reads_on}
use Rattle.std.proofs.Common.{ap, ◌∙◌}
use Rattle.std.specs.Prelude.{max}
use Rattle.serde_json.specs.Written.{compact_text}
use Rattle.club_core.specs.internal.Answer.{members_of}
use Rattle.club_rows.proofs.Proved.{stores-rows}
use Rattle.club_changes.proofs.Proved.{place_at}
use Rattle.club_lists.specs.Clock.{clock_data}
use Rattle.club_answers.proofs.CallLemmas.{between}
use Rattle.club_answers.proofs.pages.clock_in.Goals as goal

pub returns-clause-reads : goal.returns-clause-reads
returns-clause-reads g c = reads_on c.in_ok-last.ensures.reads c.in_ok-members.ensures.reads

pub returns-clause-clock : goal.returns-clause-clock
returns-clause-clock g c clean s id game is_club at is version k =
    let (first, one) = between s c.in_ok-last.ensures.reads c.in_ok-members.ensures.reads clean k in
    let (n, id_is, there) = place_at s.games id game at in
    let told = c.in_ok-told.ensures s id game (is_club.games n game there) is.row in
    let members = ap members_of c.deref.ensures.value ∙ c.in_ok-members.ensures.values clean s is_club version one in
    let last = c.in_ok-last.ensures.last first s (stores-rows s _ k) in
    let moment = c.later.ensures ∙ ap (λ m. max c.args.moment m) last in
    c.in_ok-text.ensures ∙ (λ i. compact_text (clock_data (members i) (moment i) (told i)))
