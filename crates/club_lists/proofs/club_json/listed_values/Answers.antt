use Rattle.std.proofs.Common.{sym, ◌∙◌}
use Rattle.serde_json.specs.View.{view}
use Rattle.club_core.specs.internal.Answer.{events_of, members_of}
use Rattle.club_lists.specs.ClubJson.{game_entry_data}
use Rattle.club_lists.specs.Listing.{is_listed}
use Rattle.club_lists.specs.internal.SummaryViews.{summary_of}
use Rattle.club_lists.proofs.Picked.{one_left, one_picked}
use Rattle.club_lists.proofs.club_json.listed_values.Goals as goal

pub loop-game-preserved : goal.loop-game-preserved
loop-game-preserved c =
    one_picked view (game_entry_data (members_of c.args.members.now) (events_of c.args.events.now))
    (is_listed (members_of c.args.members.now) (events_of c.args.events.now) c.args.listing.now c.args.moment)
    summary_of c.args.games.now c.loop-game.game-index c.game-item.result c.loop-game-test.true c.game-item.is
    c.loop-game.values.items c.push.new.self.items _ c.loop-game.invariant
    (sym c.is_listed.ensures ∙ c.if-not-is_listed.false) c.in_ok-game_entry_value.ensures c.in_ok-push.ensures.items

pub loop-game-preserved-then-not-is_listed : goal.loop-game-preserved-then-not-is_listed
loop-game-preserved-then-not-is_listed c =
    one_left view (game_entry_data (members_of c.args.members.now) (events_of c.args.events.now))
    (is_listed (members_of c.args.members.now) (events_of c.args.events.now) c.args.listing.now c.args.moment)
    summary_of c.args.games.now c.loop-game.game-index c.game-item.result c.loop-game-test.true c.game-item.is
    c.loop-game.values.items c.loop-game.invariant (sym c.is_listed.ensures ∙ c.if-not-is_listed.true)
