use Rattle.std.proofs.Common.{◌≡◌, ◌<◌, List, ℕ, length, take, sym, subst, arith}
use Rattle.std.proofs.lemmas.List.{length-take}
use Rattle.squares.specs.declared.draughts.moves.DMove.{DMove}
use Rattle.draughts_moves.specs.Legal.{Legal}
use Rattle.pdn_games.specs.internal.Writer.{HasWritten}
use Rattle.pdn_games.proofs.Proved.{next-legal, taken-next}
use Rattle.scripts.proofs.rules.pdn_written.write_moves.Goals as goal

pub push-requires : goal.push-requires
push-requires g c =
    let ms : List DMove = c.args.moves.now in
    let i : ℕ = c.loop-i.i in
    let m : DMove = c.index-moves-i.result in
    let here : i < length ms = c.loop-i-test.true in
    let taken : c.loop-i.game.plies ≡ length (take i ms) = c.loop-i.invariant.plies in
    let short = length-take i ms in (
      subst (λ p. Legal p m) (sym c.loop-i.invariant.position) (next-legal ms i m here c.index-moves-i.is c.requires),
      omega (arith, taken, short, here),
    )

pub loop-i-preserved : goal.loop-i-preserved
loop-i-preserved g c =
    let ms : List DMove = c.args.moves.now in
    let i : ℕ = c.loop-i.i in
    let m : DMove = c.index-moves-i.result in
    let before = g.W.Write.contents c.args.writer.now in
    let now = g.W.Write.contents c.push.new.writer in
    subst (λ l. HasWritten c.args.head.now l before now c.push.new.self)
    (sym (taken-next ms i m c.loop-i-test.true c.index-moves-i.is))
    (c.in_ok-push.ensures.written c.args.head.now before (take i ms) c.loop-i.invariant)
