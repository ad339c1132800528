-- Moves and rulings are judged alike by a file and by what was read or is known of its games and events.
use Rattle.std.proofs.Common.{◌≡◌, ℕ, ℤ, zero, suc, pos, ◌+◌, Bool, List, [], ◌∷◌, map, filter, None, Some, Option, refl}
use Rattle.std.proofs.Common.{ap, sym, subst, ◌∙◌, arith, inl, inr, ◌⊎◌, ◌≢◌}
use Rattle.std.specs.Prelude.{slice_get, String, string_bytes}
use Rattle.std.specs.Option.{option_map}
use Rattle.sqlite_value.specs.declared.value.Value.TheVariants.{Int, Text}
use Rattle.sqlite.specs.Effect.{Database}
use Rattle.sqlite.specs.Order.{Row, column}
use Rattle.sqlite.specs.State.{State}
use Rattle.sqlite.specs.Values.{or_null}
use Rattle.sqlite_rules.specs.Lists.{Has}
use Rattle.sqlite_rules.proofs.ListLemmas.{has_filtered, has_got, has_kept}
use Rattle.club_rules.specs.declared.names.GameKind.{GameKind}
use Rattle.club_core.specs.Events.{Terms}
use Rattle.club_core.specs.State.{place}
use Rattle.club_rows.specs.Club.{ClubState}
use Rattle.club_rows.specs.Tables.{declares_number, event_row, rule_row}
use Rattle.club_rows.proofs.Proved.{same-pos}
use Rattle.club_audit.specs.Audit.{terms_told}
use Rattle.club_audit.specs.internal.Audit.{HasPeople, NamesRule}
use Rattle.club_audit.proofs.Proved.{numbered-at, numbered-back}
use Rattle.store_tables.specs.Cells.{IsMove, IsRuling, event_cells, game_cells, move_cells, ruling_cells}
use Rattle.store_tables.specs.internal.Cells.{event_rule_cells}
use Rattle.store_tables.specs.Changes.{HaveSame}
use Rattle.store_tables.specs.Content.{Keeps, same_key}
use Rattle.store_tables.specs.Contents.{Content}
use Rattle.store_tables.specs.Placed.{club_trees}
use Rattle.store_tables.specs.Tables.{event_rules, events, games, moves}
use Rattle.store_tables.specs.declared.names.Version.{Version}
use Rattle.store_tables.specs.declared.names.Version.TheVariants.{V1, V2, V3}
use Rattle.store_tables.specs.declared.rows.EventRow.{EventRow}
use Rattle.store_tables.specs.declared.rows.EventRuleRow.{EventRuleRow}
use Rattle.store_tables.specs.declared.rows.GameTableRow.{GameTableRow}
use Rattle.store_tables.specs.declared.rows.Rows.{Rows}
use Rattle.store_tables.proofs.Proved.{has_map, has_mapped, same_then}
use Rattle.store_sql.specs.Read.{beginning_with}
use Rattle.club_check.specs.RightMoves.{BelongToGames, DeclaresIn, EachGame, HasItsMoves, HasItsRulings, HaveMoves}
use Rattle.club_check.specs.RightMoves.{HaveRulings, stored_rulings}
use Rattle.club_check.specs.Versions.{HoldsRows}
use Rattle.club_check.specs.internal.ReasonIsRight.{AreRead, AreRulesRead, undeclared_row}
use Rattle.club_check.specs.internal.RightMoves.{AreOwned, HaveMovesOf, HaveRulingsOf, WithTerms, moves_in, rulings_at}
use Rattle.club_check.proofs.ClubLemmas.{mapped_at}
use Rattle.club_check.proofs.FirstWrong.{held_same, kept_same, rules_in, shown_held, types_same}
use Rattle.club_check.proofs.FoundGames.{AreLike, right_moves, right_rulings}
use Rattle.club_check.proofs.RowLemmas.{had_place, same_back}
use Rattle.club_check.proofs.RulingLemmas.{rulings_held}

filtered_same : (test : Row → Bool) (xs ys : List Row) → HaveSame xs ys → HaveSame (filter test xs) (filter test ys)
filtered_same test xs ys same = record {
  there = λ z h. let (in_xs, is) = has_filtered test xs z h in has_kept test ys z (same.there z in_xs) is;
  back = λ z h. let (in_ys, is) = has_filtered test ys z h in has_kept test xs z (same.back z in_ys) is;
}

placed_has : {A : Type 0} (xs : List A) (id : ℕ) (x : A) → place xs id ≡ Some x → Has xs x
placed_has xs zero x at = cc
placed_has xs (suc n) x at = has_got xs n x at

-- what rows that are shown alike have alike
event_parts : (a b : EventRow) → event_cells a ≡ event_cells b
    → (a.id ≡ b.id) × (a.game ≡ b.game) × (a.budget ≡ b.budget) × (a.increment ≡ b.increment)
event_parts a b is = (cc, cc, cc, cc)

ended_alike : {Z : Type 0} (a b : Option (String Z))
    → or_null (λ s. Text (string_bytes s)) a ≡ or_null (λ s. Text (string_bytes s)) b
    → option_map (λ s. string_bytes s) a ≡ option_map (λ s. string_bytes s) b
ended_alike None None is = refl
ended_alike (Some x) (Some y) is = let same : string_bytes x ≡ string_bytes y = cc in ap Some same
ended_alike a b is = cc

game_parts : (a b : GameTableRow) → game_cells a ≡ game_cells b
    → (a.id ≡ b.id) × (a.event ≡ b.event) × AreLike b a
game_parts a b is =
    let end : or_null (λ s. Text (string_bytes s)) a.end ≡ or_null (λ s. Text (string_bytes s)) b.end = cc in (
      cc,
      cc,
      record { id = cc; start = cc; end = ended_alike a.end b.end end },
    )

rule_parts : (id said : ℤ) (rule : EventRuleRow) → Int id ∷ Int said ∷ [] ≡ event_rule_cells rule
    → (id ≡ rule.event) × (said ≡ rule.declares)
rule_parts id said rule is = (cc, cc)

one_more : (n : ℕ) → 1 + n ≡ suc n
one_more n = omega arith

-- rows of events and of their rules begin with the id
event_id : (s : ClubState) (rows : Rows) → HasPeople s rows → (id : ℕ) (event : EventRow)
    → place rows.events.items id ≡ Some event → event.id ≡ pos id
event_id s rows people zero event at = cc
event_id s rows people (suc n) event at =
    let (e, stands, is) = numbered-at event_cells event_row 1 rows.events.items s.events people.events.rows_are n
    event at in
    let same : ◌≡◌ {A = ℤ} event.id (pos (1 + n)) = cc in same ∙ ap pos (one_more n)

rule_id : (s : ClubState) (rows : Rows) → HasPeople s rows → (id : ℕ) (rule : EventRuleRow)
    → place rows.event_rules.items id ≡ Some rule → rule.event ≡ pos id
rule_id s rows people zero rule at = cc
rule_id s rows people (suc n) rule at =
    let (e, stands, is) = numbered-at event_rule_cells rule_row 1 rows.event_rules.items s.events people.rules n rule
    at in
    let same : ◌≡◌ {A = ℤ} rule.event (pos (1 + n)) = cc in same ∙ ap pos (one_more n)

-- where no event declares, each row says so
none_says : (rules : List EventRuleRow) (events_rows : List EventRow)
    → map event_rule_cells rules ≡ map undeclared_row events_rows → (n : ℕ) (rule : EventRuleRow)
    → slice_get rules n ≡ Some rule → rule.declares ≡ pos 0
none_says rules es are n rule at =
    let (row, there, alike) = mapped_at event_rule_cells undeclared_row rules es are n rule at in
    let says : rule.declares ≡ pos 0 = cc in says

none_placed : (rules : List EventRuleRow) (events_rows : List EventRow)
    → map event_rule_cells rules ≡ map undeclared_row events_rows → (id : ℕ) (rule : EventRuleRow)
    → place rules id ≡ Some rule → rule.declares ≡ pos 0
none_placed rules es are zero rule at = cc
none_placed rules es are (suc n) rule at = none_says rules es are n rule at

-- The games of rows, by which their moves are judged: each row that has the types of its columns is that of one of
-- them, and each of them is that of such a row or names no event; and both have the same ids.
pub record AreGamesIn (listed : List GameTableRow) (rows : List Row) : Type 0 where
  pub there : (game : GameTableRow) → Has rows (game_cells game) → (other : GameTableRow) × Has listed other
      × (game_cells game ≡ game_cells other)
  pub owner : (row : Row) → Has rows row → (game : GameTableRow) × Has listed game × (column row 0 ≡ Int game.id)
  pub back : (game : GameTableRow) → Has listed game
      → Has rows (game_cells game) ⊎ ((n : ℕ) → game.event ≢ pos n)
  pub owned : (game : GameTableRow) → Has listed game → (row : Row) × Has rows row × (column row 0 ≡ Int game.id)

-- those that were read
same_in : (listed : List GameTableRow) (rows : List Row) → HaveSame rows (map game_cells listed) → AreGamesIn listed rows
same_in listed rows same = record {
  there = λ game has. has_mapped game_cells listed (game_cells game) (same.there (game_cells game) has);
  owner = λ row has.
      let (game, there, is) = has_mapped game_cells listed row (same.there row has) in
      (game, there, ap (λ r. column r 0) is);
  back = λ game has. inl (same.back (game_cells game) (has_map game_cells listed game has));
  owned = λ game has. (game_cells game, same.back (game_cells game) (has_map game_cells listed game has), refl);
}

-- the moves and the rulings are right in a content exactly where they are so for these rows
pub record JudgesPlay (version : Version) (content : Content) (rows : Rows) (db : Database) : Type 0 where
  pub moves : (HaveMoves version content
      → HaveMovesOf rows (moves_in (club_trees db)) (rulings_at version (club_trees db)))
      × (HaveMovesOf rows (moves_in (club_trees db)) (rulings_at version (club_trees db)) → HaveMoves version content)
  pub rulings : (HaveRulings version content
      → HaveRulingsOf rows (moves_in (club_trees db)) (rulings_at version (club_trees db)))
      × (HaveRulingsOf rows (moves_in (club_trees db)) (rulings_at version (club_trees db))
      → HaveRulings version content)

module _ (rows : Rows) (version : Version) (old new : State)
    (kept_events : Keeps (events 4) (club_trees old.now) (map event_cells rows.events.items))
    (rules : AreRulesRead version rows.events.items rows.event_rules.items old new)
    (s : ClubState) (people : HasPeople s rows)
    (content : Content) (holds : HoldsRows version content old.now)
    (games_in : AreGamesIn rows.games.items (content 10)) where
  shown_same : HaveSame (moves_in (club_trees old.now)) (content 8)
  shown_same = shown_held (moves 8) 4 refl refl holds

  ruled_same : HaveSame (rulings_at version (club_trees old.now)) (stored_rulings version content)
  ruled_same = rulings_held version old.now content holds

  begun_ruled : (id : ℤ) → HaveSame (beginning_with id (rulings_at version (club_trees old.now)))
      (beginning_with id (stored_rulings version content))
  begun_ruled id = filtered_same (λ x. same_key (0 ∷ []) x (Int id ∷ [])) (rulings_at version (club_trees old.now))
      (stored_rulings version content) ruled_same

  begun_same : (id : ℤ) → HaveSame (beginning_with id (moves_in (club_trees old.now))) (beginning_with id (content 8))
  begun_same id =
      filtered_same (λ x. same_key (0 ∷ []) x (Int id ∷ [])) (moves_in (club_trees old.now)) (content 8) shown_same

  events_same : HaveSame (content 4) (map event_cells rows.events.items)
  events_same = held_same (events 4) 2 refl refl holds kept_events

  declared : (w : Version) → HoldsRows w content old.now
      → AreRulesRead w rows.events.items rows.event_rules.items old new
      → (game : GameTableRow) (id : ℕ) (declares : Bool) → NamesRule rows game id declares
      → DeclaresIn w content (pos id) declares
  declared V1 held told game id declares ruled =
      same-pos _ _
      (sym ruled.says ∙ none_placed rows.event_rules.items rows.events.items told.1 id ruled.rule ruled.rule_is)
  declared V2 held told game id declares ruled =
      let same = kept_same (event_rules 16) old.now (content 16) (map event_rule_cells rows.event_rules.items)
      (rules_in V2 old.now content tt held).rows told.keeps in
      let there = same.back (event_rule_cells ruled.rule)
      (has_map event_rule_cells rows.event_rules.items ruled.rule
      (placed_has rows.event_rules.items id ruled.rule ruled.rule_is)) in
      let id_is = rule_id s rows people id ruled.rule ruled.rule_is in
      subst (Has (content 16))
      (λ i. Int (id_is i) ∷ Int (ruled.says i) ∷ [])
      there
  declared V3 held told game id declares ruled =
      let same = kept_same (event_rules 16) old.now (content 16) (map event_rule_cells rows.event_rules.items)
      (rules_in V3 old.now content tt held).rows told.keeps in
      let there = same.back (event_rule_cells ruled.rule)
      (has_map event_rule_cells rows.event_rules.items ruled.rule
      (placed_has rows.event_rules.items id ruled.rule ruled.rule_is)) in
      let id_is = rule_id s rows people id ruled.rule ruled.rule_is in
      subst (Has (content 16))
      (λ i. Int (id_is i) ∷ Int (ruled.says i) ∷ [])
      there

  -- a game that names an event is that of a row
  named_there : (game : GameTableRow) (id : ℕ) → Has (content 10) (game_cells game) ⊎ ((n : ℕ) → game.event ≢ pos n)
      → game.event ≡ pos id → Has (content 10) (game_cells game)
  named_there game id (inl there) is = there
  named_there game id (inr never) is = absurd (never id is)

  -- what each game has in a content it has by what was read
  each_told : (IsSo : GameTableRow → GameKind → Terms → Type 0) → EachGame version content IsSo → (n : ℕ)
      (game : GameTableRow) → slice_get rows.games.items n ≡ Some game → WithTerms rows game (IsSo game)
  each_told IsSo each n game at id event declares named ruled kind budget increment kind_is gives =
      let id_is = event_id s rows people id event named.row_is in
      each game event (named_there game id (games_in.back game (has_got rows.games.items n game at)) named.event_is)
      (events_same.back (event_cells event)
      (has_map event_cells rows.events.items event (placed_has rows.events.items id event named.row_is)))
      (named.event_is ∙ sym id_is) declares
      (subst (λ (m : ℤ). DeclaresIn version content m declares) (sym id_is)
      (declared version holds rules game id declares ruled))
      kind budget increment kind_is gives

  owned_told : (shown stored : List Row) → HaveSame shown stored → BelongToGames content stored → AreOwned rows shown
  owned_told shown stored same owned row h =
      let (cells, there, is) = owned row (same.there row h) in
      let (game, in_games, id_is) = games_in.owner cells there in
      let (n, at) = had_place rows.games.items game in_games in
      (n, game, at, is ∙ id_is)

  its_moves_told : (game : GameTableRow) (kind : GameKind) (terms : Terms)
      → HasItsMoves (content 8) (stored_rulings version content) game kind terms
      → HasItsMoves (moves_in (club_trees old.now)) (rulings_at version (club_trees old.now)) game kind terms
  its_moves_told game kind terms its = record {
    moves = its.moves;
    same = same_then (beginning_with game.id (moves_in (club_trees old.now)))
        (beginning_with game.id (content 8)) (map move_cells its.moves) (begun_same game.id) its.same;
    are = λ given same. its.are given (same_then _ _ (map ruling_cells given) (same_back _ _ (begun_ruled game.id)) same);
  }

  its_rulings_told : (game : GameTableRow) (kind : GameKind) (terms : Terms)
      → HasItsRulings (content 8) (stored_rulings version content) game kind terms
      → HasItsRulings (moves_in (club_trees old.now)) (rulings_at version (club_trees old.now)) game kind terms
  its_rulings_told game kind terms its = record {
    moves = its.moves;
    rulings = its.rulings;
    same_moves = same_then (beginning_with game.id (moves_in (club_trees old.now)))
        (beginning_with game.id (content 8)) (map move_cells its.moves) (begun_same game.id) its.same_moves;
    same = same_then (beginning_with game.id (rulings_at version (club_trees old.now)))
        (beginning_with game.id (stored_rulings version content)) (map ruling_cells its.rulings) (begun_ruled game.id)
        its.same;
    are = its.are;
  }

  moves_judged : HaveMoves version content
      → HaveMovesOf rows (moves_in (club_trees old.now)) (rulings_at version (club_trees old.now))
  moves_judged have = record {
    typed = types_same IsMove (moves_in (club_trees old.now)) (content 8) shown_same.there have.typed;
    owned = owned_told (moves_in (club_trees old.now)) (content 8) shown_same have.owned;
    played = λ n game at id event declares named ruled kind budget increment kind_is gives.
        its_moves_told game kind (terms_told budget increment declares)
        (each_told (HasItsMoves (content 8) (stored_rulings version content)) have.played n game at id event
        declares named ruled kind budget increment kind_is gives);
  }

  rulings_judged : HaveRulings version content
      → HaveRulingsOf rows (moves_in (club_trees old.now)) (rulings_at version (club_trees old.now))
  rulings_judged have = record {
    typed = types_same IsRuling (rulings_at version (club_trees old.now)) (stored_rulings version content)
        ruled_same.there have.typed;
    owned = owned_told (rulings_at version (club_trees old.now)) (stored_rulings version content) ruled_same have.owned;
    ruled = λ n game at id event declares named ruled kind budget increment kind_is gives.
        its_rulings_told game kind (terms_told budget increment declares)
        (each_told (HasItsRulings (content 8) (stored_rulings version content)) have.ruled n game at id event
        declares named ruled kind budget increment kind_is gives);
  }

  -- the rules of the event at a place, by what the file says of it
  ruled_back : (w : Version) → HoldsRows w content old.now
      → AreRulesRead w rows.events.items rows.event_rules.items old new
      → (game : GameTableRow) (n : ℕ) → game.event ≡ pos (suc n) → (event : EventRow)
      → slice_get rows.events.items n ≡ Some event → (declares : Bool) → DeclaresIn w content (pos (suc n)) declares
      → NamesRule rows game (suc n) declares
  ruled_back V1 held told game n is event at declares none =
      let (e, stands, cells_are) = numbered-at event_cells event_row 1 rows.events.items s.events
      people.events.rows_are n
      event at in
      let (rule, there, rule_is) = numbered-back event_rule_cells rule_row 1 rows.event_rules.items s.events
      people.rules
      n e stands in
      record {
        event_is = is;
        rule = rule;
        rule_is = there;
        says = none_says rows.event_rules.items rows.events.items told.1 n rule there ∙ sym (ap pos none);
      }
  ruled_back V2 held told game n is event at declares says =
      let same = kept_same (event_rules 16) old.now (content 16) (map event_rule_cells rows.event_rules.items)
      (rules_in V2 old.now content tt held).rows told.keeps in
      let (rule, in_rules, cells_are) = has_mapped event_rule_cells rows.event_rules.items _ (same.there _ says) in
      let (m, there) = had_place rows.event_rules.items rule in_rules in
      let (event_is, said) = rule_parts (pos (suc n)) (pos (declares_number declares)) rule cells_are in
      let places = same-pos (suc n) (suc m) (event_is ∙ rule_id s rows people (suc m) rule there) in
      record {
        event_is = is;
        rule = rule;
        rule_is = subst (λ k. place rows.event_rules.items k ≡ Some rule) (sym places) there;
        says = sym said;
      }
  ruled_back V3 held told game n is event at declares says =
      let same = kept_same (event_rules 16) old.now (content 16) (map event_rule_cells rows.event_rules.items)
      (rules_in V3 old.now content tt held).rows told.keeps in
      let (rule, in_rules, cells_are) = has_mapped event_rule_cells rows.event_rules.items _ (same.there _ says) in
      let (m, there) = had_place rows.event_rules.items rule in_rules in
      let (event_is, said) = rule_parts (pos (suc n)) (pos (declares_number declares)) rule cells_are in
      let places = same-pos (suc n) (suc m) (event_is ∙ rule_id s rows people (suc m) rule there) in
      record {
        event_is = is;
        rule = rule;
        rule_is = subst (λ k. place rows.event_rules.items k ≡ Some rule) (sym places) there;
        says = sym said;
      }

  -- what each game has by what was read it has in the file
  each_back : (IsSo IsTold : GameTableRow → GameKind → Terms → Type 0)
      → ((game other : GameTableRow) (kind : GameKind) (terms : Terms) → AreLike other game → IsTold other kind terms
      → IsSo game kind terms)
      → ((n : ℕ) (game : GameTableRow) → slice_get rows.games.items n ≡ Some game → WithTerms rows game (IsTold game))
      → EachGame version content IsSo
  each_back IsSo IsTold turn each game event in_games in_events named declares says kind budget increment kind_is gives =
      let (its_game, there, game_is) = games_in.there game in_games in
      let (n, at) = had_place rows.games.items its_game there in
      let (its_event, among, event_is) = has_mapped event_cells rows.events.items (event_cells event)
      (events_same.there (event_cells event) in_events) in
      let (m, placed) = had_place rows.events.items its_event among in
      let (id, names, like) = game_parts game its_game game_is in
      let (event_id_is, kind_read, budget_is, increment_is) = event_parts event its_event event_is in
      let id_is = event_id_is ∙ event_id s rows people (suc m) its_event placed in
      let names_it = sym names ∙ (named ∙ id_is) in
      turn game its_game kind (terms_told budget increment declares) like
      (each n its_game at (suc m) its_event declares
      (record { event_is = names_it; row_is = placed })
      (ruled_back version holds rules its_game m names_it its_event placed declares
      (subst (λ (k : ℤ). DeclaresIn version content k declares) id_is says))
      kind budget increment (sym kind_read ∙ kind_is)
      (record {
        budget_is = sym budget_is ∙ gives.budget_is;
        increment_is = sym increment_is ∙ gives.increment_is;
        has_budget = gives.has_budget;
        has_increment = gives.has_increment;
      }))

  owned_back : (shown stored : List Row) → HaveSame shown stored → AreOwned rows shown → BelongToGames content stored
  owned_back shown stored same owned row h =
      let (n, game, at, is) = owned row (same.back row h) in
      let (cells, there, id_is) = games_in.owned game (has_got rows.games.items n game at) in
      (cells, there, is ∙ sym id_is)

  its_moves_back : (game other : GameTableRow) (kind : GameKind) (terms : Terms) → AreLike other game
      → HasItsMoves (moves_in (club_trees old.now)) (rulings_at version (club_trees old.now)) other kind terms
      → HasItsMoves (content 8) (stored_rulings version content) game kind terms
  its_moves_back game other kind terms like its = record {
    moves = its.moves;
    same = subst (λ (k : ℤ). HaveSame (beginning_with k (content 8)) (map move_cells its.moves)) (sym like.id)
        (same_then (beginning_with other.id (content 8)) (beginning_with other.id (moves_in (club_trees old.now)))
        (map move_cells its.moves) (same_back _ _ (begun_same other.id)) its.same);
    are = λ given same.
        right_moves kind terms other game its.moves its.moves given given like refl refl None [] None []
        (its.are given (same_then _ (beginning_with other.id (stored_rulings version content)) (map ruling_cells given)
        (begun_ruled other.id)
        (subst (λ (k : ℤ). HaveSame (beginning_with k (stored_rulings version content)) (map ruling_cells given)) like.id
        same)));
  }

  its_rulings_back : (game other : GameTableRow) (kind : GameKind) (terms : Terms) → AreLike other game
      → HasItsRulings (moves_in (club_trees old.now)) (rulings_at version (club_trees old.now)) other kind terms
      → HasItsRulings (content 8) (stored_rulings version content) game kind terms
  its_rulings_back game other kind terms like its = record {
    moves = its.moves;
    rulings = its.rulings;
    same_moves = subst (λ (k : ℤ). HaveSame (beginning_with k (content 8)) (map move_cells its.moves)) (sym like.id)
        (same_then (beginning_with other.id (content 8)) (beginning_with other.id (moves_in (club_trees old.now)))
        (map move_cells its.moves) (same_back _ _ (begun_same other.id)) its.same_moves);
    same = subst (λ (k : ℤ). HaveSame (beginning_with k (stored_rulings version content))
        (map ruling_cells its.rulings)) (sym like.id)
        (same_then (beginning_with other.id (stored_rulings version content))
        (beginning_with other.id (rulings_at version (club_trees old.now))) (map ruling_cells its.rulings)
        (same_back _ _ (begun_ruled other.id)) its.same);
    are = right_rulings kind terms other game its.moves its.moves its.rulings its.rulings like refl refl None [] None []
        its.are;
  }

  -- moves and rulings that are right for what was read are so in the file
  moves_back : HaveMovesOf rows (moves_in (club_trees old.now)) (rulings_at version (club_trees old.now))
      → HaveMoves version content
  moves_back have = record {
    typed = types_same IsMove (content 8) (moves_in (club_trees old.now)) shown_same.back have.typed;
    owned = owned_back (moves_in (club_trees old.now)) (content 8) shown_same have.owned;
    played = each_back (HasItsMoves (content 8) (stored_rulings version content))
        (HasItsMoves (moves_in (club_trees old.now)) (rulings_at version (club_trees old.now))) its_moves_back
        have.played;
  }

  rulings_back : HaveRulingsOf rows (moves_in (club_trees old.now)) (rulings_at version (club_trees old.now))
      → HaveRulings version content
  rulings_back have = record {
    typed = types_same IsRuling (stored_rulings version content) (rulings_at version (club_trees old.now))
        ruled_same.back have.typed;
    owned = owned_back (rulings_at version (club_trees old.now)) (stored_rulings version content) ruled_same have.owned;
    ruled = each_back (HasItsRulings (content 8) (stored_rulings version content))
        (HasItsRulings (moves_in (club_trees old.now)) (rulings_at version (club_trees old.now))) its_rulings_back
        have.ruled;
  }

  pub judged_play : JudgesPlay version content rows old.now
  judged_play = record { moves = (moves_judged, moves_back); rulings = (rulings_judged, rulings_back) }

-- the same where all rows of games were read
pub play_told : (rows : Rows) (version : Version) (old new : State) → AreRead version rows old new → (s : ClubState)
    → HasPeople s rows → (content : Content) → HoldsRows version content old.now
    → JudgesPlay version content rows old.now
play_told rows version old new read s people content holds =
    judged_play rows version old new read.events.keeps read.rules s people content holds
    (same_in rows.games.items (content 10) (held_same (games 10) 5 refl refl holds read.games.keeps))
