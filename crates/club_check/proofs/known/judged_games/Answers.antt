use Rattle.std.proofs.Common.{rules, ◌≡◌, ◌+◌, ◌++◌, [], ◌∷◌, length, refl, sym, subst, slice_get, take, Some}
use Rattle.std.proofs.lemmas.Option.{slice_get_read}
use Rattle.club_check.specs.internal.KnownGames.{AreJudged}
use Rattle.club_check.proofs.KnownLemmas.{judged_next}
use Rattle.club_check.proofs.known.judged_games.Goals as goal

pub rows-preserved : goal.rows-preserved
rows-preserved c =
    let rows = c.args.shown.now in
    let k = c.rows.row-index in
    let at : slice_get rows k ≡ Some c.row-item.result =
    slice_get_read rows (length rows) k c.row-item.result refl c.rows-test.true c.row-item.is in
    let items : c.push.new.self.items ≡ c.rows.games.items ++ c.in-Ok.game ∷ [] = search rules in
    subst (AreJudged (take (k + 1) rows)) (sym items)
    (judged_next rows k c.rows.games.items c.row-item.result c.in-Ok.game c.rows.invariant at c.in-Ok.ensures.judged)
