use Rattle.store_tables.proofs.Proved.{reads_on}
use Rattle.std.proofs.Common.{ap, ◌∙◌}
use Rattle.std.specs.Prelude.{max}
use Rattle.serde_json.specs.Written.{compact_text}
use Rattle.club_core.specs.internal.Answer.{members_of}
use Rattle.club_rows.proofs.Proved.{stores-rows}
use Rattle.club_lists.specs.Bodies.{game_data}
use Rattle.club_lists.specs.Clock.{clock_data}
use Rattle.club_lists.specs.Page.{page_data}
use Rattle.club_lists.specs.ShownViews.{texts_view}
use Rattle.club_answers.proofs.BoardLemmas.{id_of_summary}
use Rattle.club_answers.proofs.CallLemmas.{between_three}
use Rattle.club_answers.proofs.pages.page_in.Goals as goal

pub returns-clause-reads : goal.returns-clause-reads
returns-clause-reads g c =
    reads_on c.in_ok-last.ensures.reads (reads_on c.in_ok-members.ensures.reads c.in_ok-page.ensures.reads)

pub returns-clause-page : goal.returns-clause-page
returns-clause-page g c clean s id game is_club at is version k =
    let (first, one, second, two) = between_three s c.in_ok-last.ensures.reads c.in_ok-members.ensures.reads
    c.in_ok-page.ensures.reads clean k in
    let page = c.in_ok-page.ensures.page clean s id game is_club at is two in
    let members = ap members_of c.deref.ensures.value ∙ c.in_ok-members.ensures.values second s is_club version one in
    let last = c.in_ok-last.ensures.last first s (stores-rows s _ k) in
    let moment = c.later.ensures ∙ ap (λ m. max c.args.moment m) last in
    let number = ap (λ t. t.id) page.summary ∙ id_of_summary s id game in
    let rows = texts_view c.in_ok-page.page.legal.items in (
      page.viewed,
      page.is_view,
      rows,
      page.legal,
      c.in_ok-text.ensures
          ∙
          (λ i. compact_text
          (page_data (clock_data (members i) (moment i) (page.summary i)) (game_data (number i) (page.shown i)) (page.kind i)
          rows)),
    )
