-- The sums of pairs of players as rows of scores are put.
use Rattle.std.proofs.Common.{◌≡◌, ℕ, ◌+◌, length, append_assoc, List, [], ◌∷◌, ◌++◌, map, take, pos, Option, Some}
use Rattle.std.proofs.Common.{None, true, false, cond, refl, ap, sym, subst, ◌∙◌, inl, inr, ◌⊎◌, true≢false}
use Rattle.std.specs.Prelude.{slice_get}
use Rattle.std.specs.Option.{option_map}
use Rattle.std.proofs.Math.Seq.{take-length}
use Rattle.std.proofs.lemmas.Bool.{cases_Bool, false_from_ne_true}
use Rattle.std.proofs.lemmas.List.{map-append}
use Rattle.sqlite_value.specs.declared.value.Value.TheVariants.{Int}
use Rattle.sqlite.specs.Order.{Row}
use Rattle.sqlite_rules.specs.Lists.{Has}
use Rattle.sqlite_rules.proofs.ListLemmas.{has_either, has_left, has_right}
use Rattle.squares.specs.declared.sides.Score.{Score}
use Rattle.store_tables.specs.internal.Cells.{score_cells}
use Rattle.store_tables.specs.Changes.{HaveSame}
use Rattle.store_tables.specs.Content.{same_key}
use Rattle.store_tables.specs.internal.Content.{put}
use Rattle.store_tables.specs.declared.rows.ScoreRow.{ScoreRow}
use Rattle.store_tables.proofs.Proved.{put_had, put_kept, altered}
use Rattle.club_rows.specs.internal.NextScores.{AreNext, IsFound, pair_of, pair_cells, row_with, sums_found}
use Rattle.club_rows.specs.Scores.{Meeting, meetings, same_pair, score_rows}
use Rattle.club_rows.specs.declared.scores.Pair.{Pair}
use Rattle.club_rows.specs.declared.scores.ScoreRows.{ScoreRows}
use Rattle.club_rows.specs.declared.scores.ScoreSums.{ScoreSums}
use Rattle.club_rows.proofs.Proved.{pair_key, pair_same, pair_itself, keys_same, keys_agree, rows_alter}
use Rattle.club_changes.specs.internal.Standing.{AreStanding, PutsRows}
use Rattle.club_rows.specs.internal.Pairs.{pair_in}
use Rattle.club_changes.proofs.PlacedIds.{take_next}

-- ---- keys

abbrev rest_of : ScoreRow → Row
rest_of row = Int row.points ∷ Int row.wins ∷ Int row.draws ∷ Int row.losses ∷ []

-- a row has the key of its pair, and of no other
row_agrees : (row : ScoreRow) → same_key pair_key (score_cells row) (pair_cells (pair_in row)) ≡ true
row_agrees row = keys_agree (pair_in row) (rest_of row) []

row_pair : (row : ScoreRow) (pair : Pair) → same_key pair_key (score_cells row) (pair_cells pair) ≡ true
    → pair_in row ≡ pair
row_pair row pair same = keys_same (pair_in row) pair (rest_of row) [] same

-- ---- a row that comes to stand

-- the rows now are those that stood, with this one for those with its key
pub record Comes (was now : List Row) (row : ScoreRow) : Type 0 where
  pub has : Has now (score_cells row)
  pub stays : (z : Row) → Has was z → same_key pair_key z (score_cells row) ≡ false → Has now z
  pub from : (z : Row) → Has now z → Has was z ⊎ (z ≡ score_cells row)

module _ (was now : List Row) (row : ScoreRow) (comes : Comes was now row) (old new : Pair → Option ScoreSums)
    (stand : AreStanding old was)
    (adds : (pair : Pair) → new pair ≡ cond (same_pair (pair_in row) pair) (Some (sums_found (Some row))) (old pair))
  where
    found_here : (pair : Pair) → pair_in row ≡ pair
        → IsFound now pair (option_map (row_with pair) (Some (sums_found (Some row))))
    found_here pair is = subst (λ p. IsFound now p (option_map (row_with p) (Some (sums_found (Some row))))) is
        (comes.has, row_agrees row)

    clash : (pair : Pair) → same_pair (pair_in row) pair ≡ false → pair_in row ≡ pair → ⊥
    clash pair apart is =
        true≢false (sym (subst (λ p. same_pair (pair_in row) p ≡ true) is (pair_itself (pair_in row))) ∙ apart)

    found_there : (pair : Pair) → same_pair (pair_in row) pair ≡ false → (sums : Option ScoreSums)
        → IsFound was pair (option_map (row_with pair) sums) → IsFound now pair (option_map (row_with pair) sums)
    found_there pair apart None none = λ z h at. elim (comes.from z h) [
      | inl stood ↦ none z stood at
      | inr is ↦
          clash pair apart (row_pair row pair (subst (λ w. same_key pair_key w (pair_cells pair) ≡ true) is at))
    ]
    found_there pair apart (Some sums) found =
        let other = false_from_ne_true _ (λ same.
        clash pair apart (sym (keys_same pair (pair_in row) (rest_of (row_with pair sums)) (rest_of row) same))) in
        (comes.stays _ found.0 other, found.1)

    pub stand_next : AreStanding new now
    stand_next pair = elim (cases_Bool (same_pair (pair_in row) pair)) [
      | inl same ↦ rw (adds pair, same) (found_here pair (pair_same (pair_in row) pair same))
      | inr apart ↦ rw (adds pair, apart) (found_there pair apart (old pair) (stand pair))
    ]

comes_last : (rows : List Row) (row : ScoreRow) → Comes rows (rows ++ score_cells row ∷ []) row
comes_last rows row = record {
  has = has_right rows (score_cells row ∷ []) (score_cells row) (inl refl);
  stays = λ z h apart. has_left rows (score_cells row ∷ []) z h;
  from = λ z h. elim (has_either rows (score_cells row ∷ []) z h) [
    | inl stood ↦ inl stood
    | inr last ↦ elim last [ inl is ↦ inr is | inr none ↦ absurd none ]
  ];
}

comes_put : (rows : List Row) (row : ScoreRow) → Comes rows (put pair_key (score_cells row) rows) row
comes_put rows row = record {
  has = inl refl;
  stays = λ z h apart. put_kept pair_key (score_cells row) rows z h apart;
  from = λ z h. elim (put_had pair_key (score_cells row) rows z h) [ inl is ↦ inr is | inr was ↦ inl was.0 ];
}

-- sums stand for the same rows in another order
found_same : (one other : List Row) (pair : Pair) (found : Option ScoreRow) → HaveSame one other
    → IsFound one pair found → IsFound other pair found
found_same one other pair None same none = λ z h at. none z (same.back z h) at
found_same one other pair (Some row) same found = (same.there _ found.0, found.1)

pub stand_same : (sums : Pair → Option ScoreSums) (one other : List Row) → HaveSame one other → AreStanding sums one
    → AreStanding sums other
stand_same sums one other same stand pair =
    found_same one other pair (option_map (row_with pair) (sums pair)) same (stand pair)

-- ---- the rows of a table, one after another

pub stand_start : (sums : Pair → Option ScoreSums) → ((pair : Pair) → sums pair ≡ None) → AreStanding sums []
stand_start sums none pair = rw (none pair) (λ z h at. absurd h)

pub stand_more : (rows : List ScoreRow) (k : ℕ) (row : ScoreRow) (old new : Pair → Option ScoreSums)
    → slice_get rows k ≡ Some row → AreStanding old (map score_cells (take k rows))
    → ((pair : Pair) → new pair ≡ cond (same_pair (pair_in row) pair) (Some (sums_found (Some row))) (old pair))
    → AreStanding new (map score_cells (take (k + 1) rows))
stand_more rows k row old new at stand adds =
    rw (take_next rows k row at, map-append score_cells (take k rows) (row ∷ []))
    (stand_next (map score_cells (take k rows)) (map score_cells (take k rows) ++ score_cells row ∷ []) row
    (comes_last (map score_cells (take k rows)) row) old new stand adds)

pub stand_all : (rows : List ScoreRow) (k : ℕ) (sums : Pair → Option ScoreSums) (all : List Row) → k ≡ length rows
    → AreStanding sums (map score_cells (take k rows)) → HaveSame (map score_cells rows) all → AreStanding sums all
stand_all rows k sums all end stand same =
    stand_same sums (map score_cells rows) all same
    (subst (λ l. AreStanding sums (map score_cells l)) (ap (λ n. take n rows) end ∙ take-length rows) stand)

-- ---- the rows of two players

module _ (before after : List Meeting) (event first second : ℕ) (score : Option Score) (pair : ScoreRows)
    (old mid new : Pair → Option ScoreSums) where
  abbrev was : List Row
  was = score_rows (before ++ after)

  abbrev now : List Row
  now = score_rows (before ++ (meetings (pos event) (pos first) (pos second) score ++ after))

  -- the rows of two players are put, from the sums that stand for them
  pub both_put : (olds mids news : List ScoreRow) → AreStanding old was
      → AreNext event first second score
      (option_map (row_with (pair_of event first second)) (old (pair_of event first second)))
      (option_map (row_with (pair_of event second first)) (old (pair_of event second first))) pair
      → ((q : Pair) → mid q ≡ cond (same_pair (pair_in pair.first) q) (Some (sums_found (Some pair.first))) (old q))
      → ((q : Pair) → new q ≡ cond (same_pair (pair_in pair.second) q) (Some (sums_found (Some pair.second))) (mid q))
      → mids ≡ olds ++ pair.first ∷ [] → news ≡ mids ++ pair.second ∷ [] → PutsRows was now new olds news
  both_put olds mids news stand next one other more last =
      let a = score_cells pair.first in
      let b = score_cells pair.second in
      let are =
      next before after
      (record { of_first = stand (pair_of event first second); of_second = stand (pair_of event second first) }) in
      let makes = altered pair_key (a ∷ b ∷ []) was now
      (rw (are.of_first, are.of_second) (rows_alter before (meetings (pos event) (pos first) (pos second) score) after))
      in
      let half = stand_next was (put pair_key a was) pair.first (comes_put was pair.first) old mid stand one in
      let whole = stand_next (put pair_key a was) (put pair_key b (put pair_key a was)) pair.second
      (comes_put (put pair_key a was) pair.second) mid new half other in
      record {
        rows = a ∷ b ∷ [];
        more =
            ap (map score_cells)
            (last ∙ (ap (λ l. l ++ pair.second ∷ []) more ∙ append_assoc olds (pair.first ∷ []) (pair.second ∷ [])))
            ∙ map-append score_cells olds (pair.first ∷ pair.second ∷ []);
        makes = makes;
        standing = stand_same new (put pair_key b (put pair_key a was)) now makes whole;
      }
