-- The rows of the rulings on a game of a stored club.
use Rattle.std.proofs.Common.{◌≡◌, inl, inr, ℕ, ◌+◌, ◌≤◌, List, [], ◌∷◌, Option, Some, None, true, false, refl, ap, sym, subst}
use Rattle.std.proofs.Common.{subst₂, ◌∙◌, arith, true≢false}
use Rattle.std.specs.Prelude.{IsSome, slice_get}
use Rattle.std.proofs.lemmas.Option.{same_Some}
use Rattle.std.proofs.lemmas.Bool.{cases_Bool}
use Rattle.sqlite.specs.Order.{Row, column}
use Rattle.sqlite.specs.State as connection
use Rattle.sqlite_rules.specs.Lists.{Has}
use Rattle.club_rules.specs.declared.names.GameKind.{GameKind}
use Rattle.club_rules.specs.GameRules.{GameRules}
use Rattle.club_requests.specs.Limits.{last_moment}
use Rattle.club_core.specs.Game.{Game}
use Rattle.club_core.specs.LegalState.{IsGameOf, IsLegalIn}
use Rattle.club_core.specs.Rulings.{verdict_of}
use Rattle.club_core.specs.State.{place, rulings_of}
use Rattle.club_laws.proofs.Proved.{in-place}
use Rattle.club_rows.specs.Club.{ClubState, IsClub, StoresClub, both_games, tables}
use Rattle.club_rows.specs.Rulings.{ArePossible}
use Rattle.club_rows.specs.Tables.{number, rows_of_rulings, ruling_rows}
use Rattle.club_rows.proofs.Proved.{Kind, gathered-had, gathered-has, legal-possible, rulings-begin, rulings_begin, version-with}
use Rattle.store_tables.specs.Changes.{HaveSame}
use Rattle.store_tables.specs.Names.{tree_of}
use Rattle.store_tables.specs.Over.{HasRowsIn}
use Rattle.store_tables.specs.internal.Contents.{AreThose}
use Rattle.store_tables.specs.declared.names.Table.TheVariants.{Rulings}
use Rattle.club_changes.proofs.Proved.{ids_agree, ids_same, number_same, place_at, place_next}
use Rattle.club_reads.specs.internal.Rulings.{FindsRulings, FindsVerdict}

module _ {P M E T : Type 0} {laws : GameRules P M E T} {kind : GameKind} (k : Kind laws kind) (s : ClubState) (id : ℕ)
    (g : Game M) (here : place s.games id ≡ Some (k.into g)) where
  -- a row of the table that has the id is one of the game's
  of_game : (z : Row) → Has (tables s (tree_of Rulings)) z → column z 0 ≡ number id → Has (ruling_rows id g) z
  of_game z has is =
      let (n, x, stands, in_rows) = gathered-had rows_of_rulings 1 s.games z has in
      let same : 1 + n ≡ id = number_same (1 + n) id (sym (rulings_begin (1 + n) x z in_rows) ∙ is) in
      let one = sym stands ∙ (sym (place_next s.games n) ∙ (ap (place s.games) same ∙ here)) in
      subst (λ l. Has l z) (k.rulings id g)
      (subst₂ (λ i y. Has (rows_of_rulings i y) z) same (same_Some x (k.into g) one) in_rows)

  -- and the game's are rows of the table
  in_table : (z : Row) → Has (ruling_rows id g) z → Has (tables s (tree_of Rulings)) z
  in_table z has =
      let (m, id_is, there) = place_at s.games id (k.into g) here in
      gathered-has rows_of_rulings 1 s.games m (k.into g) z there
      (subst (λ i. Has (rows_of_rulings i (k.into g)) z) id_is (subst (λ l. Has l z) (sym (k.rulings id g)) has))

  rulings_found : (rows : List Row) → AreThose (0 ∷ []) (number id ∷ []) (tables s (tree_of Rulings)) rows
      → HaveSame rows (ruling_rows id g)
  rulings_found rows those = record {
    there = λ z has.
        let (stands, key) = those.sound z has in
        let (n, x, at, in_rows) = gathered-had rows_of_rulings 1 s.games z stands in
        let first = rulings_begin (1 + n) x z in_rows in
        let same : 1 + n ≡ id = ids_same z (number id ∷ []) (1 + n) id first refl key in
        of_game z stands (first ∙ ap number same);
    back = λ z has.
        those.complete z (in_table z has)
        (ids_agree z (number id ∷ []) id (rulings-begin id 1 g.outside g.rulings z has) refl);
  }

  module _ (is_club : IsClub s) where
    game_in_club : IsGameOf laws kind s g
    game_in_club = k.legal s g (in-place (IsLegalIn both_games s) s.games id (k.into g) is_club.games here)

    rulings_possible : ArePossible g.rulings
    rulings_possible =
        let last : s.last ≤ last_moment = is_club.last in
        legal-possible laws game_in_club.event.terms g game_in_club.legal.rulings
        (λ n r at. let before = game_in_club.rulings n r at in omega (arith, before, last))

    -- a club with an arbiter stores the rows of the rulings on each game
    pub tells_rulings : (conn : connection.State) → s.has_arbiter ≡ true → StoresClub s conn
        → FindsRulings id g (tables s) conn
    tells_rulings conn arbiter stores = record {
      stored = subst (λ v. HasRowsIn v (tables s) conn) (version-with s arbiter) stores;
      found = rulings_found;
      possible = rulings_possible;
    }

    -- without an arbiter there are no rulings
    none_given : s.has_arbiter ≡ false → g.rulings ≡ []
    none_given none =
        let without = is_club.without_arbiter none in
        sym (k.given g) ∙ in-place (λ any. rulings_of any ≡ []) s.games id (k.into g) without.games here

    no_verdict : g.rulings ≡ [] → IsSome (verdict_of g.rulings) → ⊥
    no_verdict none some = absurd (true≢false (sym (rw none at some)))

    -- and so they stand if there is a verdict on the game
    pub tells_verdict : (conn : connection.State) → StoresClub s conn → FindsVerdict id g (tables s) conn
    tells_verdict conn stores some = elim (cases_Bool s.has_arbiter) [
      | inl arbiter ↦ tells_rulings conn arbiter stores
      | inr none ↦ absurd (no_verdict (none_given none) some)
    ]
