use Rattle.std.proofs.Common.{◌+◌, ◌*◌, ℕ, [], ◌∷◌, map, ap, ◌∙◌, arith}
use Rattle.std.proofs.lemmas.List.{map-append}
use Rattle.club_core.proofs.Proved.{are_rules}
use Rattle.club_rows.specs.internal.Replay.{terms_given}
use Rattle.store_tables.specs.Cells.{move_cells}
use Rattle.club_changes.proofs.MoveLemmas.{move-legal, position-next, ply-next}
use Rattle.club_changes.proofs.RoomLemmas.{spent_few, side_most}
use Rattle.club_changes.proofs.imported.moves.move_rows.Goals as goal

pub play-after-requires : goal.play-after-requires
play-after-requires g c =
    move-legal g.R.Rules.rules c.args.moves.now c.loop-i.i c.index-moves-i.result c.loop-i-test.true c.index-moves-i.is
    c.requires.line c.loop-i.position c.loop-i.invariant.position

pub ply_texts-requires : goal.ply_texts-requires
ply_texts-requires g c =
    move-legal g.R.Rules.rules c.args.moves.now c.loop-i.i c.index-moves-i.result c.loop-i-test.true c.index-moves-i.is
    c.requires.line c.loop-i.position c.loop-i.invariant.position

pub ply_row-requires-clause-left : goal.ply_row-requires-clause-left
ply_row-requires-clause-left g c =
    let now = c.loop-i.invariant in
    let most : ℕ = 31536000 + 601 * 2592000 in
    let few = spent_few c.args.terms.increment c.turn-turn.result c.loop-i.i c.loop-i.left.first c.loop-i.left.second
    c.with_increment-left.result.first c.with_increment-left.result.second c.requires.increment now.first now.second
    (c.with_increment-left.ensures 0) in
    let plies = c.requires.few in
    let within = c.loop-i-test.true in
    let left = side_most c.turn-turn.result c.with_increment-left.result.first c.with_increment-left.result.second 0 most
    (omega (arith, few.0, within, plies)) (omega (arith, few.1, within, plies)) in
    let is = c.seconds_of.ensures 0 in
    omega (arith, left, is)

pub loop-i-preserved : goal.loop-i-preserved
loop-i-preserved g c =
    let laws = g.R.Rules.rules in
    let met = g.met.R.Rules in
    let are = are_rules laws met.first_starts met.turn_passes met.same_is met.ends_at_limit in
    let now = c.loop-i.invariant in
    let ms = c.args.moves.now in
    let i = c.loop-i.i in
    let m = c.index-moves-i.result in
    let within = c.loop-i-test.true in
    let is = c.index-moves-i.is in
    let moment = c.args.moment in
    let p = c.loop-i.position in
    let q = c.play-after.result in
    let turn = c.turn-turn.result in
    let a : ℕ = c.loop-i.left.first in
    let b : ℕ = c.loop-i.left.second in
    let x : ℕ = c.with_increment-left.result.first in
    let y : ℕ = c.with_increment-left.result.second in
    let next = ply-next laws ms i m within is are c.requires.line (terms_given c.args.terms) c.args.game moment p q turn
    a b x y c.seconds_of.result now.position c.play-after.ensures c.turn-turn.ensures now.clocks
    (c.with_increment-left.ensures moment) (c.seconds_of.ensures moment) (map move_cells c.loop-i.rows.items)
    (map move_cells c.push.new.self.items) (move_cells c.ply_row.result) now.rows
    (ap (map move_cells) c.in_ok-push.ensures.items ∙ map-append move_cells c.loop-i.rows.items (c.ply_row.result ∷ []))
    (rw (c.in_ok-texts.ensures.text, c.in_ok-texts.ensures.position) at c.ply_row.ensures) in
    let few = spent_few c.args.terms.increment turn i a b x y c.requires.increment now.first now.second
    (c.with_increment-left.ensures 0) in
    record {
      rows = next.0;
      position = position-next laws ms i m within is p q now.position c.play-after.ensures;
      clocks = next.1;
      first = few.0;
      second = few.1;
    }
