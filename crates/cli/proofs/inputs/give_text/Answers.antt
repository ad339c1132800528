use Rattle.std.proofs.Common.{refl}
use Rattle.cli.proofs.inputs.give_text.Goals as goal

pub returns-in-NewKey : goal.returns-in-NewKey
returns-in-NewKey c =
    rw c.in-NewKey.is
    record {
      key = c.give_key.new.key;
      is_read = record {
        read = c.give_key.ensures.read;
        unreadable = c.give_key.ensures.unreadable;
        other = c.give_key.ensures.other;
      };
      is = refl;
    }
