use Rattle.std.proofs.Common.{refl}
use Rattle.store_tables.proofs.names.Table.put.Goals as goal

pub returns-in-Games : goal.returns-in-Games
returns-in-Games c = rw c.in-Games.is refl
