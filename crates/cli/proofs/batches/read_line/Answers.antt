use Rattle.std.proofs.Common.{List, map}
use Rattle.std.proofs.lemmas.Result.{IfErr-weaker, IfOk-weaker}
use Rattle.std.specs.Borrow.{Bor}
use Rattle.clap.specs.Words.{Text}
use Rattle.cli.specs.internal.App.{line_app}
use Rattle.cli.specs.internal.Said.{AsksOneLine, HasNoLine}
use Rattle.cli.proofs.AppLemmas.{line_is_simple, line_needs_word}
use Rattle.cli.proofs.SaidLemmas.{error_said, failed, none_said, passed, said_by}
use Rattle.cli.proofs.batches.read_line.Goals as goal

pub returns-in-Ok-clause-ok : goal.returns-in-Ok-clause-ok
returns-in-Ok-clause-ok c =
    let built = c.in_ok-club.ensures in
    let simple = line_is_simple built.games in
    let parsed = passed (line_app built.games) c.in_ok-club.club _ c.in-Ok.matches built.is simple
    (rw c.in-Ok.is at c.try_get_matches_from.ensures.matches) (rw c.in-Ok.is at c.try_get_matches_from.ensures.kinds) in
    IfOk-weaker c.parsed.result _ _
    (λ said is. said_by line_app AsksOneLine _ built.games c.in-Ok.matches said built.names simple parsed is)
    c.parsed.ensures.ok

pub returns-in-Ok-clause-err : goal.returns-in-Ok-clause-err
returns-in-Ok-clause-err c =
    let built = c.in_ok-club.ensures in
    let words : List Text = map (λ (word : Bor Text). word.now) c.args.words.now in
    let simple = line_is_simple built.games in
    let parsed = passed (line_app built.games) c.in_ok-club.club words c.in-Ok.matches built.is simple
    (rw c.in-Ok.is at c.try_get_matches_from.ensures.matches) (rw c.in-Ok.is at c.try_get_matches_from.ensures.kinds) in
    IfErr-weaker c.parsed.result _ _
    (λ told is. none_said line_app HasNoLine words built.games c.in-Ok.matches told built.names simple
    (line_needs_word built.games) parsed is)
    c.parsed.ensures.err

pub returns-in-Err-clause-err : goal.returns-in-Err-clause-err
returns-in-Err-clause-err c =
    let built = c.in_ok-club.ensures in
    let words : List Text = map (λ (word : Bor Text). word.now) c.args.words.now in
    let simple = line_is_simple built.games in
    error_said line_app HasNoLine words built.games c.in-Err.error c.usage_error.result built.names
    (failed (line_app built.games) c.in_ok-club.club words c.in-Err.error built.is simple
    (rw c.in-Err.is at c.try_get_matches_from.ensures.kinds)) c.usage_error.ensures
