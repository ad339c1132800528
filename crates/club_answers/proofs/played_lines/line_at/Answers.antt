use Rattle.std.proofs.Common.{◌≡◌, arith, ap, length, map, rules, string_bytes, take, ◌∙◌}
use Rattle.club_rows.specs.internal.Replay.{terms_given}
use Rattle.club_analysis.specs.Tried.{notation_from}
use Rattle.club_answers.proofs.AnalysisLemmas.{line_is, rows_count}
use Rattle.club_answers.proofs.played_lines.line_at.Goals as goal

pub returns-then-ply-len-clause-moves : goal.returns-then-ply-len-clause-moves
returns-then-ply-len-clause-moves g c clean content game k tells of =
    let terms = terms_given c.args.stored.now.terms in
    let same = c.in_ok-rows.ensures.rows clean content terms game k tells in
    let order = rw c.deref.ensures.value at c.in_ok-texts.ensures.order in
    let count = rows_count g.R.Rules.rules terms c.args.stored.now.id game c.in_ok-rows.rows.items same order in
    let len : c.len.result ≡ length c.in_ok-rows.rows.items = search rules in
    omega (arith, count, len, c.if-ply-len.true)

pub returns-clause-moves : goal.returns-clause-moves
returns-clause-moves g c clean content game k tells of =
    let laws = g.R.Rules.rules in
    let terms = terms_given c.args.stored.now.terms in
    let rows = c.in_ok-rows.rows.items in
    let same = c.in_ok-rows.ensures.rows clean content terms game k tells in
    let order = rw c.deref.ensures.value at c.in_ok-texts.ensures.order in
    let count = rows_count laws terms c.args.stored.now.id game rows same order in
    let len : c.len.result ≡ length rows = search rules in
    let line = c.in_ok-played.played.line.items in
    let told : map (λ r. string_bytes r.text) (take c.args.ply rows) ≡ notation_from laws laws.start line
    = rw c.deref-2.ensures.value at c.in_ok-played.ensures.texts in
    let moves = line_is laws terms c.args.stored.now.id game rows same order g.met.R.Rules.reads_back of.legal
    c.args.ply line c.in_ok-played.ensures.played.legal told in
    (omega (arith, count, len, c.if-ply-len.false), ap (λ l. l.items) c.line_of_moves.ensures.moves ∙ moves)
