use Rattle.std.proofs.Common.{rules}
use Rattle.sfen.specs.UsiReading.{step_places, drop_places}
use Rattle.sfen.proofs.usi_reading.usi_reach.Goals as goal

pub returns : goal.returns
unfolding step_places drop_places
returns c = search rules
