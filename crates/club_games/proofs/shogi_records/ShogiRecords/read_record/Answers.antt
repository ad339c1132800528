use Rattle.std.proofs.Common.{rules, tests, ap, ◌∙◌}
use Rattle.club_rules.specs.Records.{refused}
use Rattle.club_games.specs.internal.CsaComplete.{part-read, part-refused}
use Rattle.club_games.proofs.shogi_records.ShogiRecords.read_record.Goals as goal

pub returns-in-Ok : goal.returns-in-Ok
returns-in-Ok c =
    c.game_after.ensures
    ∙ part-read c.args.text.now c.args.part c.in-Ok.games.items (λ none. search (rules, tests, none))
    c.in-Ok.ensures.games

pub returns-in_ok-refusal-in-Err : goal.returns-in_ok-refusal-in-Err
returns-in_ok-refusal-in-Err c =
    ap refused c.in_ok-refusal-in-Err.ensures.value
    ∙ part-refused c.args.text.now c.args.part c.in-Err.fault (λ none. search (rules, tests, none))
    c.in_ok-refusal-in-Err.ensures.told c.in-Err.ensures.fault
