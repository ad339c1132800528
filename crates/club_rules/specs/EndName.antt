-- The names of the ends of both games, as they are printed and stored.
use Rattle.std.specs.Prelude.{List, ℕ, codes}
use Rattle.club_rules.specs.declared.names.EndName.{EndName}
use Rattle.club_rules.specs.declared.names.EndName.TheVariants.{NoMove, Repetition, KingMoves, ThreeToOne, TwoToOne}
use Rattle.club_rules.specs.declared.names.EndName.TheVariants.{PlyLimit, PerpetualCheck, Fourfold}

-- the name of an end
abbrev pub end_text : EndName → List ℕ
end_text NoMove = codes "NoMove"
end_text Repetition = codes "Repetition"
end_text KingMoves = codes "KingMoves"
end_text ThreeToOne = codes "ThreeToOne"
end_text TwoToOne = codes "TwoToOne"
end_text PlyLimit = codes "PlyLimit"
end_text PerpetualCheck = codes "PerpetualCheck"
end_text Fourfold = codes "Fourfold"
