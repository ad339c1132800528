-- The challenges of one member, and all of them. No promise of the program rests on these definitions.
use Rattle.std.specs.Prelude.{◌≡◌, ◌==◌, ◌||◌, ℕ, List, Bool, true}
use Rattle.sqlite_rules.specs.Lists.{Has}
use Rattle.sqlite_trees.specs.Tree.{IsAscending}
use Rattle.club_core.specs.declared.challenges.Challenge.{Challenge}
use Rattle.club_core.specs.internal.Answer.{events_of, members_of}
use Rattle.club_rows.specs.Club.{ClubState}
use Rattle.club_answers.specs.Challenges.{AreChallengesOf, ComesBefore}
use Rattle.club_answers.specs.declared.challenge_lists.ChallengesRead.{ChallengesRead}

-- the challenge is by or to the member with this id
abbrev pub is_with : ℕ → Challenge → Bool
is_with member c = c.member == member || c.other == member

-- the challenges of the club by and to the member, in order, each once
pub record AreChallengesWith (s : ClubState) (member : ℕ) (challenges : List Challenge) : Type 0 where
  pub there : (c : Challenge) → Has challenges c → Has s.challenges c × (is_with member c ≡ true)
  pub back : (c : Challenge) → Has s.challenges c → is_with member c ≡ true → Has challenges c
  pub order : IsAscending ComesBefore challenges

-- the data that was read is the club's
pub record AreChallengesRead (s : ClubState) (read : ChallengesRead) : Type 0 where
  pub members_are : members_of read.members.items ≡ s.members
  pub events_are : events_of read.events.items ≡ s.events
  pub challenges_are : AreChallengesOf s read.challenges.items
