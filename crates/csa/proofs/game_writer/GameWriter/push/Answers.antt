use Rattle.std.proofs.Common.{refl}
use Rattle.record_writer.specs.internal.PieceLaws.{begun-nothing}
use Rattle.csa.proofs.WriterLemmas.{adds-entry, begins-entry}
use Rattle.csa.proofs.game_writer.GameWriter.push.Goals as goal

pub returns-in_err-push_entry-clause-begun : goal.returns-in_err-push_entry-clause-begun
returns-in_err-push_entry-clause-begun g c =
    begins-entry (c.args.played.now, c.args.seconds) c.args.self.now _ _ (begun-nothing _ _)

pub returns-in_err-write_piece-clause-begun : goal.returns-in_err-write_piece-clause-begun
returns-in_err-write_piece-clause-begun g c =
    begins-entry (c.args.played.now, c.args.seconds) c.args.self.now _ _
    (rw (c.as_bytes.ensures.value, c.in_ok-push_entry.ensures, c.clear.ensures.bytes) at c.write_piece.ensures.begun)

pub returns-clause-written : goal.returns-clause-written
returns-clause-written g c =
    adds-entry (c.args.played.now, c.args.seconds) c.args.self.now _ _ _ c.play-self.ensures refl
    (rw (c.as_bytes.ensures.value, c.in_ok-push_entry.ensures, c.clear.ensures.bytes) at
    c.in_ok-write_piece.ensures.whole)

pub returns-clause-begun : goal.returns-clause-begun
returns-clause-begun g c =
    begins-entry (c.args.played.now, c.args.seconds) c.args.self.now _ _
    (rw (c.as_bytes.ensures.value, c.in_ok-push_entry.ensures, c.clear.ensures.bytes) at c.write_piece.ensures.begun)
