use Rattle.csa.specs.internal.Writer.{lines_text}
use Rattle.csa.proofs.game_text.write_game.Goals as goal

pub returns : goal.returns
unfolding lines_text
returns c =
    record {
      at = c.civil.result;
      shown = c.civil.ensures;
      written = rw (
        c.in_ok-push_end.ensures,
        c.in_ok-turn.ensures.turn,
        c.in_ok-turn.ensures.written,
        c.in_ok-push_head.ensures,
        c.new-text.ensures.bytes,
      );
    }
