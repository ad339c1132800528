use Rattle.std.proofs.Common.{◌≡◌, ap, ◌∙◌, arith}
use Rattle.club_core.specs.Game.{end_of, end_with, rule_end}
use Rattle.club_core.specs.Rulings.{verdict_of}
use Rattle.club_rows.proofs.ColumnLemmas.{outside-told, verdict-told}
use Rattle.club_rows.proofs.RowViewLemmas.{ruled-is}
use Rattle.club_rows.proofs.row_view.row_in.Goals as goal

pub returns-clause-shows : goal.returns-clause-shows
returns-clause-shows g c = λ terms id game legal same last stands over.
    let laws = g.R.Rules.rules in
    let stored = c.args.stored.now in
    let ruled : c.track_end-ruled.result ≡ rule_end laws game =
    c.track_end-ruled.ensures
    ∙ (ap (λ t. laws.track_end t c.args.position.now stored.plies c.args.stood.times c.args.stood.first_ply)
    c.track_of-track.ensures
    ∙ ruled-is laws terms id game legal _ same g.met.R.Rules.tracks_tell_ends g.met.R.Rules.numbers_give_tracks
    c.args.stood stands c.args.position.now last) in
    let judged : c.verdict_in-verdict.result ≡ verdict_of game.rulings =
    verdict-told laws terms id game legal _ same c.verdict_in-verdict.result c.verdict_in-verdict.ensures.found
    c.verdict_in-verdict.ensures.only in
    let outside : c.outside_in-outside.result ≡ game.outside =
    outside-told laws terms id game legal _ same c.track_end-ruled.result c.verdict_in-verdict.result ruled judged
    c.args.beneath c.outside_in-outside.result (λ some. over (rw judged at some)) c.outside_in-outside.ensures in
    let end : c.end_with-end.result ≡ end_of laws game =
    c.end_with-end.ensures ∙ λ i. end_with (ruled i) (judged i) (outside i) in
    grind (arith, same, end, outside, last)
