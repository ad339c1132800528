use Rattle.std.proofs.Common.{refl, subst}
use Rattle.std.specs.Io.KnownBytes.{Appends}
use Rattle.record_writer.specs.Pieces.{AppendsSome}
use Rattle.record_writer.specs.internal.PieceLaws.{begun-nothing}
use Rattle.pdn_games.proofs.WriterLemmas.{put-alone, line_of, adds-line, begins-line}
use Rattle.pdn_games.proofs.game_writer.GameWriter.push.Goals as goal

pub returns-in_err-push_ply-clause-begun : goal.returns-in_err-push_ply-clause-begun
returns-in_err-push_ply-clause-begun g c = begins-line c.args.played.now c.args.self.now _ _ (begun-nothing _ _)

pub returns-in_err-write_piece-clause-begun : goal.returns-in_err-write_piece-clause-begun
returns-in_err-write_piece-clause-begun g c =
    let m = c.args.played.now in
    let game = c.args.self.now in
    let line = put-alone (line_of game m) c.as_bytes.ensures.value c.in_ok-push_ply.ensures c.clear.ensures.bytes in
    begins-line m game _ _ (subst (AppendsSome _ _) line c.write_piece.ensures.begun)

pub returns-clause-written : goal.returns-clause-written
returns-clause-written g c =
    let m = c.args.played.now in
    let game = c.args.self.now in
    let line = put-alone (line_of game m) c.as_bytes.ensures.value c.in_ok-push_ply.ensures c.clear.ensures.bytes in
    adds-line m game _ _ _ c.play-self.ensures refl refl (subst (Appends _ _) line c.in_ok-write_piece.ensures.whole)

pub returns-clause-begun : goal.returns-clause-begun
returns-clause-begun g c =
    let m = c.args.played.now in
    let game = c.args.self.now in
    let line = put-alone (line_of game m) c.as_bytes.ensures.value c.in_ok-push_ply.ensures c.clear.ensures.bytes in
    begins-line m game _ _ (subst (AppendsSome _ _) line c.write_piece.ensures.begun)
