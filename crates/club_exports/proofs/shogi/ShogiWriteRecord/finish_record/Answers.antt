use Rattle.std.proofs.Common.{◌≡◌, true, refl}
use Rattle.club_exports.proofs.CsaLemmas.{csa-finished, csa-ending, csa-may_end, csa-stands}
use Rattle.club_exports.proofs.shogi.ShogiWriteRecord.finish_record.Goals as goal

pub returns-then-not-may_end-clause-written : goal.returns-then-not-may_end-clause-written
returns-then-not-may_end-clause-written g c = λ title plies before written fits.
    let yes : c.may_end.result ≡ true =
    c.may_end.ensures.1 (csa-may_end written fits) in
    let no = c.if-not-may_end.true in
    absurd cc

pub returns-then-not-may_end-clause-begun : goal.returns-then-not-may_end-clause-begun
returns-then-not-may_end-clause-begun g c = λ title plies before written.
    csa-stands written c.written_moves_begin_games.ensures.moves

pub finish-requires : goal.finish-requires
finish-requires g c = c.may_end.ensures.0 c.if-not-may_end.false

pub returns-clause-written : goal.returns-clause-written
returns-clause-written g c = λ title plies before written fits.
    (refl, csa-finished written c.in_ok-finish.ensures.written)

pub returns-clause-begun : goal.returns-clause-begun
returns-clause-begun g c = λ title plies before written. csa-ending written c.finish.ensures.begun

pub returns-in_err-finish-clause-begun : goal.returns-in_err-finish-clause-begun
returns-in_err-finish-clause-begun g c = λ title plies before written. csa-ending written c.finish.ensures.begun
