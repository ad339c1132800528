use Rattle.store_tables.proofs.Proved.{reads_on}
use Rattle.std.proofs.Common.{◌≡◌, None, Some, ap, subst, map, refl, sym, ◌∙◌}
use Rattle.club_core.specs.Members.{find_id}
use Rattle.club_core.specs.State.{has_member_key, place}
use Rattle.club_core.specs.internal.Answer.{events_of, members_of}
use Rattle.club_rows.proofs.Proved.{stores-rows}
use Rattle.club_lists.specs.Listing.{member_name}
use Rattle.club_lists.specs.Shows.{my_games_json, own_game_ids}
use Rattle.club_lists.specs.internal.SummaryViews.{running_view, summaries_of}
use Rattle.club_answers.specs.Games.{effective_moment}
use Rattle.club_answers.specs.Running.{AreRunningAt}
use Rattle.club_answers.proofs.CallLemmas.{between_three}
use Rattle.club_answers.proofs.MemberChallenges.{all_same, key_found, key_none}
use Rattle.club_answers.proofs.member_answers.mine.Goals as goal

pub returns-in_default-clause-found : goal.returns-in_default-clause-found
returns-in_default-clause-found g c clean s is_club version k =
    let read = c.in_ok-club.ensures.read clean s is_club version k in
    let members = ap members_of c.deref.ensures.value ∙ read.members_are in
    let none : find_id (has_member_key c.args.key.now) s.members ≡ None =
    (λ i. find_id (has_member_key c.args.key.now) (sym members i))
    ∙ (sym c.member_id_by_key.ensures ∙ c.in_default.is) in
    (key_none c.args.key.now s.members none, refl)

pub returns-clause-reads : goal.returns-clause-reads
returns-clause-reads g c =
    reads_on c.in_ok-club.ensures.reads (reads_on c.in_ok-challenges.ensures.reads c.in_ok-running.ensures.reads)

pub returns-clause-found : goal.returns-clause-found
returns-clause-found g c clean s is_club version k =
    let (first, one, second, two) = between_three s c.in_ok-club.ensures.reads c.in_ok-challenges.ensures.reads
    c.in_ok-running.ensures.reads clean k in
    let read = c.in_ok-club.ensures.read first s is_club version k in
    let key = c.args.key.now in
    let id = c.in-Some.id in
    let members = ap members_of c.deref.ensures.value ∙ read.members_are in
    let found : find_id (has_member_key key) s.members ≡ Some id =
    (λ i. find_id (has_member_key key) (sym members i)) ∙ (sym c.member_id_by_key.ensures ∙ c.in-Some.is) in
    let (m, at, named) = key_found key s.members id found in
    let named_members = ap members_of c.deref-2.ensures.value ∙ read.members_are in
    let name : c.member_name-name.result.now ≡ m.name =
    c.member_name-name.ensures ∙ ((λ i. member_name (place (named_members i) id)) ∙ ap member_name at) in
    let own_members = ap members_of c.deref-3.ensures.value ∙ read.members_are in
    let games = ap summaries_of c.deref-4.ensures.value ∙ read.games_are in
    let ids = c.in_ok-ids.ensures ∙ (λ i. own_game_ids (own_members i) (name i) (games i)) in
    let running = map running_view c.in_ok-running.running.items in
    let shown_members = ap members_of c.deref-6.ensures.value ∙ read.members_are in
    let shown_events = ap events_of c.deref-7.ensures.value ∙ read.events_are in
    let own = c.in_ok-challenges.challenges.items in
    let (all, are_all, same) = all_same s is_club id m at own (c.in_ok-challenges.ensures.found second s
    (stores-rows s _ one)) in (
      m.name,
      named,
      all,
      are_all,
      running,
      subst (λ l. AreRunningAt s l running) (c.deref-5.ensures.value ∙ ids)
          (c.in_ok-running.ensures.running clean s is_club (stores-rows s _ two)),
      c.in_ok-text.ensures
          ∙ ((λ i. my_games_json (shown_members i) (shown_events i) (name i) (read.moment_is i) own running)
          ∙ same s.events (effective_moment s c.args.moment) running),
    )
