-- Challenges in their order.
use Rattle.std.proofs.Common.{◌≡◌, ℕ, suc, ◌+◌, ◌-◌, ◌<◌, List, [], ◌∷◌, ◌++◌, length, map, take, get_or, Some}
use Rattle.std.proofs.Common.{ap, sym, arith}
use Rattle.std.specs.Prelude.{slice_get}
use Rattle.std.specs.List.{AllByRecursion}
use Rattle.std.proofs.lemmas.List.{map-append, take_more}
use Rattle.sqlite_trees.specs.Tree.{IsAscending}
use Rattle.sqlite_trees.proofs.ListLemmas.{ascending-append, all_weaker}
use Rattle.sqlite_rules.specs.Lists.{Has}
use Rattle.sqlite_rules.proofs.ListLemmas.{all_has, has_got}
use Rattle.club_core.specs.declared.challenges.Challenge.{Challenge}
use Rattle.club_rows.specs.Tables.{challenge_row}
use Rattle.club_rows.proofs.Proved.{challenges-alike, mapped_had}
use Rattle.store_tables.specs.internal.Cells.{challenge_cells}
use Rattle.store_tables.specs.declared.rows.ChallengeRow.{ChallengeRow}
use Rattle.club_answers.specs.Challenges.{ComesBefore}

pub before_then : (a b c : Challenge) → ComesBefore a b → ComesBefore b c → ComesBefore a c
before_then a b c one two = grind (arith, one, two)

-- what comes after the last one comes after all
pub after_all : (all : List Challenge) (last next : Challenge) → Some last ≡ slice_get all (length all - 1)
    → ComesBefore last next → IsAscending ComesBefore all → AllByRecursion (λ c. ComesBefore c next) all
after_all [] last next at before up = tt
after_all (x ∷ []) last next at before up = let is : x ≡ last = cc in (rw is before, tt)
after_all (x ∷ y ∷ rest) last next at before up =
    let less : (k : ℕ) → suc k - 1 ≡ k = λ k. omega arith in
    let there : Some last ≡ slice_get (y ∷ rest) (length rest) = rw (less (suc (length rest))) at at in
    let has = has_got (y ∷ rest) (length rest) last (sym there) in (
      before_then x last next (all_has (ComesBefore x) (y ∷ rest) last up.0 has) before,
      after_all (y ∷ rest) last next (rw (less (length rest)) there) before up.1,
    )

pub one_more : (all news : List Challenge) (next : Challenge) → news ≡ all ++ next ∷ [] → IsAscending ComesBefore all
    → AllByRecursion (λ c. ComesBefore c next) all → IsAscending ComesBefore news
one_more all news next is up after =
    rw is
    (ascending-append ComesBefore all (next ∷ []) up (tt, tt)
    (all_weaker (λ x. ComesBefore x next) (λ x. AllByRecursion (ComesBefore x) (next ∷ []))
    (λ x before. (before, tt)) all after))

-- one row more was read
pub more_read : (rows : List ChallengeRow) (k : ℕ) (d : ChallengeRow) (done news : List Challenge) (x : Challenge)
    → map challenge_cells (take k rows) ≡ map challenge_row done → k < length rows
    → challenge_cells (get_or rows k d) ≡ challenge_row x → news ≡ done ++ x ∷ []
    → map challenge_cells (take (k + 1) rows) ≡ map challenge_row news
more_read rows k d done news x so_far within tells more =
    rw (more, take_more rows k d within, map-append challenge_cells (take k rows), map-append challenge_row, so_far)
    (ap (λ r. map challenge_row done ++ r ∷ []) tells)

-- a challenge whose row is among those of others is one of them
pub among : (others : List Challenge) (x : Challenge) → Has (map challenge_row others) (challenge_row x) → Has others x
among others x row =
    let (y, had, alike) = mapped_had challenge_row others (challenge_row x) row in rw (challenges-alike x y alike) had
