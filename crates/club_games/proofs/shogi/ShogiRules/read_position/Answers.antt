use Rattle.sfen.proofs.Proved.{not-refused}
use Rattle.club_games.proofs.shogi.ShogiRules.read_position.Goals as goal

pub returns-in-Err : goal.returns-in-Err
returns-in-Err c p is = not-refused c.args.text.now c.in-Err.field-0 p is.0 c.in-Err.ensures.fault is.1
