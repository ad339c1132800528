-- The table of six players, computed.
use Rattle.std.proofs.Common.{◌≡◌, false, refl}
use Rattle.pairings.specs.internal.Fide.{fide_of_six}
use Rattle.pairings.specs.Table.{games, all_games}

pub as_fide : all_games 6 false ≡ fide_of_six
unfolding all_games games fide_of_six
as_fide = refl
