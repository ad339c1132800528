-- The challenges of a club in order.
use Rattle.std.specs.Prelude.{◌≡◌, ◌<◌, ◌⊎◌, List}
use Rattle.sqlite_rules.specs.Lists.{Has}
use Rattle.sqlite_trees.specs.Tree.{IsAscending}
use Rattle.club_core.specs.declared.challenges.Challenge.{Challenge}
use Rattle.club_rows.specs.Club.{ClubState}

-- order by challenger, then by the challenger's number
abbrev pub ComesBefore : Challenge → Challenge → Type 0
ComesBefore one other = (one.member < other.member) ⊎ ((one.member ≡ other.member) × (one.number < other.number))

-- the challenges of the club, in that order, each once
pub record AreChallengesOf (s : ClubState) (challenges : List Challenge) : Type 0 where
  pub there : (c : Challenge) → Has challenges c → Has s.challenges c
  pub back : (c : Challenge) → Has s.challenges c → Has challenges c
  pub order : IsAscending ComesBefore challenges
