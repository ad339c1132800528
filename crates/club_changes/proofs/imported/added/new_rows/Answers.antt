use Rattle.std.proofs.Common.{◌≡◌, Some, length, map, ap, ◌∙◌, arith}
use Rattle.std.proofs.lemmas.List.{length-map}
use Rattle.club_rules.specs.Line.{positions}
use Rattle.club_rules.specs.internal.Records.{recorded_of}
use Rattle.club_core.specs.Imports.{imported}
use Rattle.club_core.specs.View.{IsRowOf}
use Rattle.club_core.proofs.Proved.{are_rules}
use Rattle.club_laws.proofs.Proved.{within-limit}
use Rattle.club_rows.specs.internal.Replay.{terms_given}
use Rattle.club_rows.specs.Seen.{rows_of_texts}
use Rattle.club_changes.specs.internal.AtOnce.{rows_at_once}
use Rattle.club_changes.proofs.MoveLemmas.{game-moves, game-seen}
use Rattle.club_changes.proofs.RoomLemmas.{room_for}
use Rattle.club_changes.proofs.imported.added.new_rows.Goals as goal

pub move_rows-requires-clause-few : goal.move_rows-requires-clause-few
move_rows-requires-clause-few g c =
    let met = g.met.R.Rules in
    let are = are_rules g.R.Rules.rules met.first_starts met.turn_passes met.same_is met.ends_at_limit in
    rw c.as_slice-moves.ensures.value
    (within-limit g.R.Rules.rules are c.args.new.now.recorded.moves.items c.requires.by_rules.line)

pub returns : goal.returns
returns g c =
    let laws = g.R.Rules.rules in
    let met = g.met.R.Rules in
    let are = are_rules laws met.first_starts met.turn_passes met.same_is met.ends_at_limit in
    let r = recorded_of c.args.new.now.recorded in
    let key = Some c.args.key.now in
    let pairing = c.args.new.now.pairing in
    let moment = c.args.moment in
    let terms = terms_given c.args.terms in
    let id = c.args.new.now.game in
    let game = imported laws key pairing moment r in
    let value = c.as_slice-moves.ensures.value in
    let row = c.in_ok-row.row in
    let is : IsRowOf laws terms game row = c.in_ok-row.ensures c.args.terms.declares in
    let limit = within-limit laws are r.moves c.requires.by_rules.line in
    let count : length game.entries ≡ length r.moves = length-map r.moves (λ m. record { made = m; moment = moment }) in
    let room = room_for game terms c.requires.budget c.requires.increment (omega (arith, limit, count)) (omega arith)
    (λ n r at. cc) in
    let first = ap (λ k. k.left_first) is.clocks in
    let second = ap (λ k. k.left_second) is.clocks in
    record {
      game_is = c.in_ok-game.ensures (omega (arith, first, room.0)) (omega (arith, second, room.1)) terms game is;
      moves_are = c.in_ok-made.ensures ∙ ap (rows_at_once laws terms id moment) value
          ∙ game-moves laws terms id key pairing moment r;
      seen_are = c.in_ok-seen.ensures
          ∙ ap (λ ms. rows_of_texts id (map laws.write_position (positions laws laws.start ms))) value
          ∙ game-seen laws terms id key pairing moment r;
    }
