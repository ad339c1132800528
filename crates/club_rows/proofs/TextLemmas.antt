-- The texts of a club are in ASCII, so each row of its tables has the types of its columns.
use Rattle.std.proofs.Common.{◌≡◌, ℕ, suc, List, [], ◌∷◌, map, Option, Some, None, refl, inl, inr, arith}
use Rattle.std.specs.Prelude.{IfSome, IsTrue}
use Rattle.std.specs.List.{AllByRecursion}
use Rattle.std.specs.Option.{option_map, option_to_list}
use Rattle.sqlite_value.specs.declared.value.Value.TheVariants.{Text}
use Rattle.sqlite.specs.Order.{Row}
use Rattle.sqlite.specs.Values.{or_null}
use Rattle.squares.specs.declared.sides.Score.{Score}
use Rattle.squares.specs.declared.sides.Score.TheVariants.{Draw}
use Rattle.squares.specs.Sides.{score_text}
use Rattle.club_rules.specs.declared.names.EndName.{EndName}
use Rattle.club_rules.specs.declared.names.EndName.TheVariants.{NoMove}
use Rattle.club_rules.specs.EndName.{end_text}
use Rattle.club_rules.specs.GameRules.{GameRules}
use Rattle.club_rules.specs.Line.{IsLegalLine}
use Rattle.club_core.specs.declared.rows.GameEnd.{GameEnd}
use Rattle.club_core.specs.declared.rows.GameEnd.TheVariants.{Rule, Verdict, Outside}
use Rattle.club_requests.specs.declared.outside_end.OutsideEnd.{OutsideEnd}
use Rattle.club_requests.specs.declared.outside_end.OutsideEnd.TheVariants.{Resigned}
use Rattle.club_requests.specs.declared.rulings.Verdict as given_verdict
use Rattle.club_requests.specs.declared.rulings.Verdict.TheVariants.{Awarded, Voided}
use Rattle.club_requests.specs.Limits.{is_member_key, is_name}
use Rattle.club_requests.specs.Rulings.{verdict_in, verdict_text}
use Rattle.club_core.specs.Members.{Member}
use Rattle.club_core.specs.Events.{Event, Terms}
use Rattle.club_core.specs.Rulings.{GivenRuling}
use Rattle.club_core.specs.Game.{Entry, Game, last_position, end_of, result_of, side_after}
use Rattle.club_core.specs.LegalState.{Each, IsLegalMember, IsLegalEvent, IsLegalIn}
use Rattle.club_core.specs.State.{draughts, shogi, place, terms_at}
use Rattle.club_core.proofs.Proved.{last-played}
use Rattle.store_tables.specs.Cells.{IsText, OrNull, IsMember, IsEvent, IsEventRule, IsMove, IsGame, IsKey, IsRuling}
use Rattle.store_tables.specs.Cells.{IsClosing}
use Rattle.club_rows.specs.Club.{ClubGame, ClubState, IsClub, both_games}
use Rattle.club_requests.specs.OutsideEnd.{outside_score, outside_text}
use Rattle.club_rows.specs.Tables.{at_start, rule_row, member_row, event_row, game_row, entry_rows, with_entry}
use Rattle.club_rows.specs.Tables.{end_name_text, numbered_from, gathered_from, row_of_game, rows_of_moves, tables_of}
use Rattle.club_rows.specs.Tables.{awarded_score, closing_row, kept_by, key_row, replaced_by, rows_of_closing}
use Rattle.club_rows.specs.Tables.{rows_of_keys, rows_of_rulings, ruling_row, ruling_rows_from}
use Rattle.club_rows.proofs.PlainTexts.{is-text, name-plain, key-plain, written, all-append, ArePlain}
use Rattle.club_rows.proofs.DraughtsTexts.{draughts-plain}
use Rattle.club_rows.proofs.ShogiTexts.{shogi-plain}

-- ---- texts of a game

end-text : (name : EndName) → IsText (Text (end_text name))
end-text NoMove = written (end_text NoMove) refl
end-text name = written (end_text name) refl

outside-is_text : (end : OutsideEnd) → IsText (Text (outside_text end))
outside-is_text Resigned = written (outside_text Resigned) refl
outside-is_text end = written (outside_text end) refl

verdict-is_text : (v : given_verdict.Verdict) → IsText (Text (verdict_text v))
verdict-is_text Voided = written (verdict_text Voided) refl
verdict-is_text (Awarded score) = written (verdict_text (Awarded score)) refl

score-is_text : (score : Score) → IsText (Text (score_text score))
score-is_text Draw = written (score_text Draw) refl
score-is_text score = written (score_text score) refl

-- ---- rows

or-text : {A : Type 0} (f : A → List ℕ) (o : Option A) → ((x : A) → o ≡ Some x → IsText (Text (f x)))
    → OrNull IsText (or_null (λ x. Text (f x)) o)
or-text f None each = inl refl
or-text f (Some x) each = inr (each x refl)

end-is_text : {P M E T : Type 0} (laws : GameRules P M E T) (end : GameEnd E) → IsText (Text (end_name_text laws end))
end-is_text laws (Rule e) = end-text (laws.end_name e)
end-is_text laws (Verdict v) = verdict-is_text v
end-is_text laws (Outside o) = outside-is_text o

numbered-all : {A : Type 0} (row : ℕ → A → Row) (P : A → Type 0) (Q : Row → Type 0)
    → ((id : ℕ) (x : A) → P x → Q (row id x)) → (n : ℕ) (xs : List A) → Each P xs
    → AllByRecursion Q (numbered_from row n xs)
numbered-all row P Q makes n [] each = tt
numbered-all row P Q makes n (x ∷ xs) each =
    (makes n x (each 0 x refl), numbered-all row P Q makes (suc n) xs (λ k y at. each (suc k) y at))

-- what holds of the rows of each element holds of all
pub gathered-all : {A : Type 0} (rows : ℕ → A → List Row) (P : A → Type 0) (Q : Row → Type 0)
    → ((id : ℕ) (x : A) → P x → AllByRecursion Q (rows id x)) → (n : ℕ) (xs : List A) → Each P xs
    → AllByRecursion Q (gathered_from rows n xs)
gathered-all rows P Q makes n [] each = tt
gathered-all rows P Q makes n (x ∷ xs) each =
    all-append Q (rows n x) _ (makes n x (each 0 x refl))
    (gathered-all rows P Q makes (suc n) xs (λ k y at. each (suc k) y at))

member-typed : (id : ℕ) (m : Member) → IsLegalMember m → IsMember (member_row id m)
member-typed id m legal =
    grind (arith, is-text m.name (name-plain m.name legal.name), is-text m.key (key-plain m.key legal.key))

event-typed : (id : ℕ) (e : Event) → IsLegalEvent e → IsEvent (event_row id e)
event-typed id e legal = grind (arith, is-text e.name (name-plain e.name legal.name))

rule-typed : (id : ℕ) (e : Event) → IsLegalEvent e → IsEventRule (rule_row id e)
rule-typed id e legal = grind arith

key-rows-typed : (id n : ℕ) (ks : List (List ℕ)) → Each (λ k. IsTrue (is_member_key k)) ks
    → AllByRecursion IsKey (numbered_from (key_row id) n ks)
key-rows-typed id n ks each =
    numbered-all (key_row id) (λ k. IsTrue (is_member_key k)) IsKey
    (λ at k named. grind (arith, is-text k (key-plain k named))) n ks each

closing-typed : (id : ℕ) (closed : Option ℕ)
    → AllByRecursion IsClosing (option_to_list (option_map (closing_row id) closed))
closing-typed id None = tt
closing-typed id (Some moment) = (grind arith, tt)

ruling-typed : (id n : ℕ) (r : GivenRuling) (o : Option OutsideEnd) → IsRuling (ruling_row id n r o)
ruling-typed id n r o =
    let result = or-text score_text (awarded_score r.ruling) (λ s is. score-is_text s) in
    let name = or-text outside_text o (λ e is. outside-is_text e) in
    let score = or-text (λ e. score_text (outside_score e (side_after r.plies))) o (λ e is.
    score-is_text (outside_score e (side_after r.plies))) in
    grind (arith, result, name, score)

ruling-rows-typed : (id n : ℕ) (o : Option OutsideEnd) (rs : List GivenRuling)
    → AllByRecursion IsRuling (ruling_rows_from id n o rs)
ruling-rows-typed id n o [] = tt
ruling-rows-typed id n o (r ∷ rs) = (
  ruling-typed id n r (replaced_by (verdict_in r.ruling) o),
  ruling-rows-typed id (suc n) (kept_by (verdict_in r.ruling) o) rs,
)

module _ {P M E T : Type 0} (laws : GameRules P M E T) (plain : ArePlain laws) where
  game-typed : (terms : Terms) (id : ℕ) (g : Game M) → IfSome g.key (λ k. IsTrue (is_name k))
      → IsGame (game_row laws terms id g)
  game-typed terms id g named =
      let key = or-text (λ k. k) g.key (λ k is. is-text k (name-plain k (rw is at named))) in
      let end = or-text (end_name_text laws) (end_of laws g) (λ e is. end-is_text laws e) in
      let result = or-text score_text (result_of laws g) (λ s is. score-is_text s) in
      let position = is-text _ (plain.position (last_position laws g)) in
      grind (arith, key, end, result, position)

  entries-typed : (terms : Terms) (id : ℕ) (g : Game M) (es : List (Entry M))
      → IsLegalLine laws (last_position laws g) (map (λ e. e.made) es)
      → AllByRecursion IsMove (entry_rows laws terms id g es)
  entries-typed terms id g [] line = tt
  entries-typed terms id g (e ∷ es) line =
      let text = is-text _ (plain.move (last_position laws g) e.made line.0) in
      let position = is-text _ (plain.position (last_position laws (with_entry g e))) in
      let rest = entries-typed terms id (with_entry g e) es (rw (last-played laws g e.made e.moment) line.1) in
      (grind (arith, text, position), rest)

module _ (s : ClubState) (club : IsClub s) where
  pub members-typed : AllByRecursion IsMember (tables_of both_games s 1)
  members-typed = numbered-all member_row IsLegalMember IsMember member-typed 1 s.members club.members

  pub events-typed : AllByRecursion IsEvent (tables_of both_games s 4)
  events-typed = numbered-all event_row IsLegalEvent IsEvent event-typed 1 s.events club.events

  pub rules-typed : AllByRecursion IsEventRule (tables_of both_games s 16)
  rules-typed = numbered-all rule_row IsLegalEvent IsEventRule rule-typed 1 s.events club.events

  pub keys-typed : AllByRecursion IsKey (tables_of both_games s 17)
  keys-typed =
      gathered-all rows_of_keys IsLegalMember IsKey (λ id m legal. key-rows-typed id 1 m.later legal.later) 1 s.members
      club.members

  pub closings-typed : AllByRecursion IsClosing (tables_of both_games s 22)
  closings-typed =
      gathered-all rows_of_closing IsLegalEvent IsClosing (λ id e legal. closing-typed id e.closed) 1 s.events
      club.events

  any-game : (id : ℕ) (any : ClubGame) → IsLegalIn both_games s any → IsGame (row_of_game both_games s.events id any)
  any-game id (draughts g) legal = game-typed both_games.draughts draughts-plain (terms_at (place s.events g.event)) id
      g legal.key
  any-game id (shogi g) legal = game-typed both_games.shogi shogi-plain (terms_at (place s.events g.event)) id g
      legal.key

  any-moves : (id : ℕ) (any : ClubGame) → IsLegalIn both_games s any
      → AllByRecursion IsMove (rows_of_moves both_games s.events id any)
  any-moves id (draughts g) legal =
      entries-typed both_games.draughts draughts-plain (terms_at (place s.events g.event)) id (at_start g) g.entries
      legal.legal.line.legal
  any-moves id (shogi g) legal =
      entries-typed both_games.shogi shogi-plain (terms_at (place s.events g.event)) id (at_start g) g.entries
      legal.legal.line.legal

  pub moves-typed : AllByRecursion IsMove (tables_of both_games s 8)
  moves-typed = gathered-all (rows_of_moves both_games s.events) (IsLegalIn both_games s) IsMove any-moves 1 s.games
      club.games

  any-rulings : (id : ℕ) (any : ClubGame) → IsLegalIn both_games s any → AllByRecursion IsRuling (rows_of_rulings id any)
  any-rulings id (draughts g) legal = ruling-rows-typed id 1 g.outside g.rulings
  any-rulings id (shogi g) legal = ruling-rows-typed id 1 g.outside g.rulings

  pub rulings-typed : AllByRecursion IsRuling (tables_of both_games s 20)
  rulings-typed = gathered-all rows_of_rulings (IsLegalIn both_games s) IsRuling any-rulings 1 s.games club.games

  pub games-typed : AllByRecursion IsGame (tables_of both_games s 10)
  games-typed = numbered-all (row_of_game both_games s.events) (IsLegalIn both_games s) IsGame any-game 1 s.games
      club.games
