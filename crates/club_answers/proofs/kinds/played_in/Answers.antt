use Rattle.std.proofs.lemmas.Result.{IfOk-weaker}
use Rattle.club_rows.proofs.Proved.{in_draughts, in_shogi, stores-rows}
use Rattle.club_rows.specs.Club.{tables}
use Rattle.club_answers.proofs.ViewedLemmas.{told_as}
use Rattle.club_answers.proofs.kinds.played_in.Goals as goal

pub returns-in-Draughts-by_kind-clause-played : goal.returns-in-Draughts-by_kind-clause-played
returns-in-Draughts-by_kind-clause-played g c clean =
    IfOk-weaker c.by_kind-make_played.result _ _ (λ played told s id game is_club at is k.
    let (gm, same, terms, seen, _, line, judged, of) =
    told_as in_draughts s is_club id game c.args.stored.now at is c.in-Draughts-by_kind.is in
    rw same (rw terms at (told (tables s) gm (stores-rows s _ k) seen line (judged _ k) of)))
    (c.by_kind-make_played.ensures.played clean)

pub returns-in-Shogi-by_kind-clause-played : goal.returns-in-Shogi-by_kind-clause-played
returns-in-Shogi-by_kind-clause-played g c clean =
    IfOk-weaker c.by_kind-make_played-2.result _ _ (λ played told s id game is_club at is k.
    let (gm, same, terms, seen, _, line, judged, of) =
    told_as in_shogi s is_club id game c.args.stored.now at is c.in-Shogi-by_kind.is in
    rw same (rw terms at (told (tables s) gm (stores-rows s _ k) seen line (judged _ k) of)))
    (c.by_kind-make_played-2.ensures.played clean)
