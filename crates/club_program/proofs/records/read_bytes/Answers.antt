use Rattle.std.proofs.Common.{ap}
use Rattle.club_program.proofs.RecordLemmas.{read_taken}
use Rattle.club_program.proofs.records.read_bytes.Goals as goal

pub returns-in-Ok : goal.returns-in-Ok
returns-in-Ok g c =
    read_taken (g.I.Read.remaining c.args.input)
    (g.I.Read.remaining c.take.result.inner) c.take.result.limit c.args.most
    c.new-bytes.result.items c.read_to_end.new.buf.items (ap g.I.Read.remaining c.take.ensures.inner)
    c.take.ensures.limit c.new-bytes.ensures.items c.in-Ok.ensures.bytes
