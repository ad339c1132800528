-- The row of a ply, by the rows that are found for it.
use Rattle.std.proofs.Common.{◌≡◌, ℕ, zero, suc, ◌+◌, ◌-◌, ◌<◌, List, [], ◌∷◌, length, Option, Some, None}
use Rattle.std.proofs.Common.{true, refl, ap, sym, subst, subst₂, ◌∙◌, arith, inl}
use Rattle.std.specs.Prelude.{slice_get}
use Rattle.std.specs.Option.{option_map}
use Rattle.std.proofs.lemmas.Bool.{and_from}
use Rattle.std.specs.Cmp.{tied_itself}
use Rattle.sqlite_value.specs.Keys.{first_key}
use Rattle.sqlite_value.proofs.OrderLemmas.{value_cmp_total}
use Rattle.sqlite.specs.Order.{Row, column}
use Rattle.sqlite_rules.specs.Lists.{Has}
use Rattle.sqlite_rules.proofs.ListLemmas.{has_got}
use Rattle.std.proofs.lemmas.Option.{same_Some, slice_get_past}
use Rattle.club_rules.specs.declared.names.GameKind.{GameKind}
use Rattle.club_rules.specs.GameRules.{GameRules}
use Rattle.club_core.specs.Events.{Terms}
use Rattle.club_core.specs.Game.{Game}
use Rattle.club_core.specs.State.{place, terms_at}
use Rattle.club_rows.specs.Club.{ClubGame, both_games, ClubState, tables}
use Rattle.club_rows.specs.internal.RowView.{row_at, AreRowsAt}
use Rattle.club_rows.specs.declared.row_view.PlyRows.{PlyRows}
use Rattle.club_rows.specs.Tables.{number, move_rows, rows_of_moves, at_start}
use Rattle.club_rows.proofs.Proved.{Kind, same-numbers, rows-count}
use Rattle.store_tables.specs.Cells.{move_cells}
use Rattle.store_tables.specs.Content.{same_key}
use Rattle.store_tables.proofs.Proved.{equal_from}
use Rattle.club_changes.specs.internal.Steps.{FindsMoveRows}
use Rattle.club_changes.proofs.PutSame.{gathered_had, gathered_has, had_at, number_same, numbers_same}
use Rattle.club_changes.proofs.NextRows.{entry_rows_at, moves_had}
use Rattle.club_changes.proofs.ClubPlayed.{place_at}
use Rattle.club_changes.proofs.FoundPeople.{place_next}

-- ---- keys of two numbers

numbers_alike : (a b : Row) (m k : ℕ) → column a 0 ≡ number m → column b 0 ≡ number m → column a 1 ≡ number k
    → column b 1 ≡ number k → same_key (0 ∷ 1 ∷ []) a b ≡ true
unfolding first_key
numbers_alike a b m k p q r t =
    rw (p, q, r, t)
    (and_from _ _ (equal_from (number m) (number m) refl refl (tied_itself value_cmp_total (number m)))
    (and_from _ _ (equal_from (number k) (number k) refl refl (tied_itself value_cmp_total (number k))) refl))

-- ---- the rows of one game

module _ {P M E T : Type 0} (laws : GameRules P M E T) (terms : Terms) (id : ℕ) (game : Game M) where
  abbrev rows : List Row
  rows = move_rows laws terms id game

  pub ply_is : (n : ℕ) (z : Row) → slice_get rows n ≡ Some z → column z 1 ≡ number (suc n)
  ply_is n z at =
      let same : 0 + (1 + n) ≡ suc n = omega arith in
      entry_rows_at laws terms id (at_start game) game.entries n z at ∙ ap number same

  -- where no row has that ply, none stands there
  no_row : (ply : ℕ) → ((z : Row) → Has rows z → column z 1 ≡ number ply → ⊥) → row_at laws terms id game ply ≡ None
  no_row zero none = refl
  no_row (suc n) none = nothing (slice_get rows n) refl
    where
      nothing : (o : Option Row) → slice_get rows n ≡ o → o ≡ None
      nothing None at = refl
      nothing (Some z) at = absurd (none z (has_got rows n z at) (ply_is n z at))

  -- no ply past the last one has a row
  pub past_row : (ply : ℕ) → length game.entries < ply → row_at laws terms id game ply ≡ None
  past_row zero past = refl
  past_row (suc n) past =
      slice_get_past rows n (omega (arith, past, rows-count laws terms id (at_start game) game.entries))

-- ---- no rows

module _ {P M E T : Type 0} (laws : GameRules P M E T) (terms : Terms) (id : ℕ) (game : Game M) (rows : PlyRows)
    (no_at : rows.at ≡ None) (no_before : rows.before ≡ None) where
  -- past the last ply there is none
  pub past_none : (ply : ℕ) → length game.entries + 1 < ply → AreRowsAt laws terms id game ply rows
  past_none ply past = record {
    at = ap (option_map move_cells) no_at ∙ sym (past_row laws terms id game ply (omega (arith, past)));
    before = ap (option_map move_cells) no_before ∙ sym (past_row laws terms id game (ply - 1) (omega (arith, past)));
  }

-- ---- the rows that are found

module _ {P M E T : Type 0} {laws : GameRules P M E T} {kind : GameKind} (k : Kind laws kind) (s : ClubState) (id : ℕ)
    (g : Game M) (here : place s.games id ≡ Some (k.into g)) where
  abbrev terms : Terms
  terms = terms_at (place s.events g.event)

  abbrev all : ℕ → ClubGame → List Row
  all = rows_of_moves both_games s.events

  -- a row of the table that has the id is one of the game's
  pub of_game : (z : Row) → Has (tables s 8) z → column z 0 ≡ number id → Has (move_rows laws terms id g) z
  of_game z has is =
      let (n, x, stands, in_rows) = gathered_had all 1 s.games z has in
      let same : 1 + n ≡ id = number_same (1 + n) id (sym (moves_had both_games s.events (1 + n) x z in_rows) ∙ is) in
      let one = sym stands ∙ (sym (place_next s.games n) ∙ (ap (place s.games) same ∙ here)) in
      subst (λ l. Has l z) (k.moves s.events id g)
      (subst₂ (λ i y. Has (all i y) z) same (same_Some x (k.into g) one) in_rows)

  -- and the game's are rows of the table
  pub in_table : (z : Row) → Has (move_rows laws terms id g) z → Has (tables s 8) z
  in_table z has =
      let (m, id_is, there) = place_at s.games id (k.into g) here in
      gathered_has all 1 s.games m (k.into g) z there
      (subst (λ i. Has (all i (k.into g)) z) id_is (subst (λ l. Has l z) (sym (k.moves s.events id g)) has))

  pub id_of : (z : Row) → Has (move_rows laws terms id g) z → column z 0 ≡ number id
  id_of z has = moves_had both_games s.events id (k.into g) z (subst (λ l. Has l z) (sym (k.moves s.events id g)) has)

  pub tells_moves : FindsMoveRows laws terms id g (tables s)
  tells_moves ply [] those =
      sym
      (no_row laws terms id g ply (λ z has is.
      those.complete z (in_table z has)
      (numbers_alike z (number id ∷ number ply ∷ []) id ply (id_of z has) refl is refl)))
  tells_moves ply (r ∷ rs) those =
      let z : Row = move_cells r in
      let here_z = those.sound z (inl refl) in
      let (n, x, stands, in_rows) = gathered_had all 1 s.games z here_z.0 in
      let first = moves_had both_games s.events (1 + n) x z in_rows in
      let id_is = same-numbers z (number id ∷ number ply ∷ []) (1 + n) id first refl here_z.1 in
      let has = of_game z here_z.0 (first ∙ ap number id_is) in
      let (i, at) = had_at (move_rows laws terms id g) z has in
      let keys = numbers_same z (number id ∷ number ply ∷ []) id id (suc i) ply (id_of z has) refl
      (ply_is laws terms id g i z at) refl here_z.1 in
      sym at ∙ ap (row_at laws terms id g) keys.1
