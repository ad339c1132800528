use Rattle.std.proofs.Common.{subst}
use Rattle.std.specs.Io.KnownBytes.{Appends}
use Rattle.record_writer.specs.Pieces.{AppendsSome}
use Rattle.record_writer.specs.internal.PieceLaws.{begun-nothing}
use Rattle.pdn_games.proofs.WriterLemmas.{put-alone, last_of, adds-end, begins-end}
use Rattle.pdn_games.proofs.game_writer.GameWriter.finish.Goals as goal

pub returns-in_err-push_end-clause-begun : goal.returns-in_err-push_end-clause-begun
returns-in_err-push_end-clause-begun g c = begins-end c.args.self _ _ (begun-nothing _ _)

pub returns-in_err-write_piece-clause-begun : goal.returns-in_err-write_piece-clause-begun
returns-in_err-write_piece-clause-begun g c =
    let game = c.args.self in
    let line = put-alone (last_of game) c.as_bytes.ensures.value c.in_ok-push_end.ensures c.clear.ensures.bytes in
    begins-end game _ _ (subst (AppendsSome _ _) line c.write_piece.ensures.begun)

pub returns-clause-written : goal.returns-clause-written
returns-clause-written g c =
    let game = c.args.self in
    let line = put-alone (last_of game) c.as_bytes.ensures.value c.in_ok-push_end.ensures c.clear.ensures.bytes in
    adds-end game _ _ (subst (Appends _ _) line c.in_ok-write_piece.ensures.whole)

pub returns-clause-begun : goal.returns-clause-begun
returns-clause-begun g c =
    let game = c.args.self in
    let line = put-alone (last_of game) c.as_bytes.ensures.value c.in_ok-push_end.ensures c.clear.ensures.bytes in
    begins-end game _ _ (subst (AppendsSome _ _) line c.write_piece.ensures.begun)
