use Rattle.record_writer.specs.internal.PieceLaws.{begun-nothing}
use Rattle.csa.proofs.WriterLemmas.{adds-end, begins-end}
use Rattle.csa.proofs.game_writer.GameWriter.finish.Goals as goal

pub returns-in_err-push_end-clause-begun : goal.returns-in_err-push_end-clause-begun
returns-in_err-push_end-clause-begun g c = begins-end c.args.self _ _ (begun-nothing _ _)

pub returns-in_err-write_piece-clause-begun : goal.returns-in_err-write_piece-clause-begun
returns-in_err-write_piece-clause-begun g c =
    begins-end c.args.self _ _
    (rw (c.as_bytes.ensures.value, c.in_ok-push_end.ensures, c.clear.ensures.bytes, c.turn.ensures) at
    c.write_piece.ensures.begun)

pub returns-clause-written : goal.returns-clause-written
returns-clause-written g c =
    adds-end c.args.self _ _
    (rw (c.as_bytes.ensures.value, c.in_ok-push_end.ensures, c.clear.ensures.bytes, c.turn.ensures) at
    c.in_ok-write_piece.ensures.whole)

pub returns-clause-begun : goal.returns-clause-begun
returns-clause-begun g c =
    begins-end c.args.self _ _
    (rw (c.as_bytes.ensures.value, c.in_ok-push_end.ensures, c.clear.ensures.bytes, c.turn.ensures) at
    c.write_piece.ensures.begun)
