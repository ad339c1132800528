use Rattle.std.proofs.Common.{◌≡◌, drop}
use Rattle.pdn_games.specs.Contents.{first_tag}
use Rattle.pdn_games.specs.internal.TokenValues.{all_placed}
use Rattle.pdn_games.proofs.contents.first_tag.Given as goal

abbrev pub invariant-loop-i : goal.invariant-loop-i
invariant-loop-i l = first_tag l.name (all_placed l.placed) ≡ first_tag l.name (all_placed (drop l.i l.placed))
