use Rattle.std.proofs.Common.{◌≡◌, ◌+◌, suc, ◌∷◌, drop, sym, ◌∙◌, rules, arith}
use Rattle.std.proofs.Math.Seq.{drop-cons}
use Rattle.std.specs.Prelude.{string_bytes}
use Rattle.club_core.specs.internal.Answer.{members_of, events_of}
use Rattle.club_lists.proofs.GameLines.{ahead_all, ahead_more, ahead_same}
use Rattle.club_lists.proofs.lines.games_text.Goals as goal

pub loop-game-preserved : goal.loop-game-preserved
loop-game-preserved c =
    let games = c.args.games.now in
    let k = c.loop-game.game-index in
    let game = c.game-item.result in
    let next : suc k ≡ k + 1 = omega arith in
    ahead_more (members_of c.args.members.now) (events_of c.args.events.now) c.args.listing.now c.args.moment games
    (drop k games) (drop (k + 1) games) game (string_bytes c.loop-game.text) (string_bytes c.in_ok-row.row) _
    (drop-cons games k game c.loop-game-test.true ∙ (λ i. sym c.game-item.is i ∷ drop (next i) games))
    (sym c.is_listed.ensures ∙ c.if-not-is_listed.false) c.in_ok-row.ensures (search rules) c.loop-game.invariant

pub loop-game-preserved-then-not-is_listed : goal.loop-game-preserved-then-not-is_listed
loop-game-preserved-then-not-is_listed c =
    let games = c.args.games.now in
    let k = c.loop-game.game-index in
    let game = c.game-item.result in
    let next : suc k ≡ k + 1 = omega arith in
    ahead_same (members_of c.args.members.now) (events_of c.args.events.now) c.args.listing.now c.args.moment games
    (drop k games) (drop (k + 1) games) game (string_bytes c.loop-game.text)
    (drop-cons games k game c.loop-game-test.true ∙ (λ i. sym c.game-item.is i ∷ drop (next i) games))
    (sym c.is_listed.ensures ∙ c.if-not-is_listed.true) c.loop-game.invariant

pub returns : goal.returns
returns c =
    ahead_all (members_of c.args.members.now) (events_of c.args.events.now) c.args.listing.now c.args.moment
    c.args.games.now c.loop-game.game-index (string_bytes c.loop-game.text) c.loop-game-test.false
    c.loop-game.invariant
