-- All challenges of the club from the rows of their table.
use Rattle.std.proofs.Common.{◌≡◌, List, map, sym, subst}
use Rattle.sqlite_trees.specs.Tree.{IsAscending}
use Rattle.sqlite_rules.specs.Lists.{Has}
use Rattle.club_core.specs.declared.challenges.Challenge.{Challenge}
use Rattle.club_rows.specs.Club.{ClubState, tables}
use Rattle.club_rows.specs.Tables.{challenge_row}
use Rattle.club_rows.proofs.Proved.{mapped_has}
use Rattle.store_tables.specs.Changes.{HaveSame}
use Rattle.store_tables.specs.internal.Cells.{challenge_cells}
use Rattle.store_tables.specs.declared.rows.ChallengeRow.{ChallengeRow}
use Rattle.club_answers.specs.Challenges.{AreChallengesOf, ComesBefore}
use Rattle.club_answers.proofs.ChallengeOrder.{among}

pub all_read : (s : ClubState) (rows : List ChallengeRow) (all : List Challenge)
    → HaveSame (map challenge_cells rows) (tables s 6) → map challenge_cells rows ≡ map challenge_row all
    → IsAscending ComesBefore all → AreChallengesOf s all
all_read s rows all same is up = record {
  there = λ c has.
      among s.challenges c (same.there (challenge_row c)
      (subst (λ l. Has l (challenge_row c)) (sym is) (mapped_has challenge_row all c has)));
  back = λ c stored.
      among all c (subst (λ l. Has l (challenge_row c)) is
      (same.back (challenge_row c) (mapped_has challenge_row s.challenges c stored)));
  order = up;
}
