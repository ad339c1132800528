use Rattle.std.proofs.Common.{rules, tests, ap, ◌∙◌}
use Rattle.club_rules.specs.Records.{game, refused}
use Rattle.club_games.specs.internal.PdnComplete.{part-read, part-refused}
use Rattle.club_games.proofs.draughts_records.DraughtsRecords.read_record.Goals as goal

pub returns-in-Ok : goal.returns-in-Ok
returns-in-Ok c =
    ap game c.game_of.ensures
    ∙ part-read c.args.text.now c.args.part c.in-Ok.game.moves.items c.in-Ok.game.score (search (rules, tests))
    c.in-Ok.ensures.game

pub returns-in_ok-refusal-in-Err : goal.returns-in_ok-refusal-in-Err
returns-in_ok-refusal-in-Err c =
    ap refused c.in_ok-refusal-in-Err.ensures.value
    ∙ part-refused c.args.text.now c.args.part c.in-Err.fault (search (rules, tests))
    c.in_ok-refusal-in-Err.ensures.told c.in-Err.ensures.fault
