use Rattle.std.proofs.lemmas.Result.{on_ok_weaker}
use Rattle.club_rows.proofs.Proved.{in_draughts, in_shogi, stores-rows}
use Rattle.club_rows.specs.Club.{tables}
use Rattle.club_answers.proofs.ViewedLemmas.{told_as}
use Rattle.club_answers.proofs.kinds.export_in.Goals as goal

pub returns-in-Draughts-by_kind-clause-written : goal.returns-in-Draughts-by_kind-clause-written
returns-in-Draughts-by_kind-clause-written g c clean =
    on_ok_weaker c.by_kind-write_record.result (λ told s id game is_club at is k.
    let (gm, same, _, seen, moves, _, judged, of) =
    told_as in_draughts s is_club id game c.args.stored.now at is c.in-Draughts-by_kind.is in
    rw same (told (tables s) gm (stores-rows s _ k) seen moves (judged _ k) of)) (c.by_kind-write_record.ensures.written clean)

pub returns-in-Draughts-by_kind-clause-begun : goal.returns-in-Draughts-by_kind-clause-begun
returns-in-Draughts-by_kind-clause-begun g c clean s id game is_club at is k =
    let (gm, same, _, seen, moves, _, judged, of) =
    told_as in_draughts s is_club id game c.args.stored.now at is c.in-Draughts-by_kind.is in
    rw same (c.by_kind-write_record.ensures.begun clean (tables s) gm (stores-rows s _ k) seen moves (judged _ k) of)

pub returns-in-Shogi-by_kind-clause-written : goal.returns-in-Shogi-by_kind-clause-written
returns-in-Shogi-by_kind-clause-written g c clean =
    on_ok_weaker c.by_kind-write_record-2.result (λ told s id game is_club at is k.
    let (gm, same, _, seen, moves, _, judged, of) =
    told_as in_shogi s is_club id game c.args.stored.now at is c.in-Shogi-by_kind.is in
    rw same (told (tables s) gm (stores-rows s _ k) seen moves (judged _ k) of)) (c.by_kind-write_record-2.ensures.written clean)

pub returns-in-Shogi-by_kind-clause-begun : goal.returns-in-Shogi-by_kind-clause-begun
returns-in-Shogi-by_kind-clause-begun g c clean s id game is_club at is k =
    let (gm, same, _, seen, moves, _, judged, of) =
    told_as in_shogi s is_club id game c.args.stored.now at is c.in-Shogi-by_kind.is in
    rw same (c.by_kind-write_record-2.ensures.begun clean (tables s) gm (stores-rows s _ k) seen moves (judged _ k) of)
