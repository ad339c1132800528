-- The rulings on the games of a stored club, and the lines of a batch that rules on many of them.
use Rattle.std.proofs.Common.{◌≡◌, ◌+◌, ◌≤◌, ℕ, zero, suc, List, [], ◌∷◌, ◌++◌, drop, length, map, Option, Some, None}
use Rattle.std.proofs.Common.{Bool, true, false, refl, ap, sym, subst, ◌∙◌, arith, add-one, append-nil, append_assoc}
use Rattle.std.specs.Option.{option_map}
use Rattle.std.specs.Prelude.{if◌then◌else◌, slice_get}
use Rattle.std.proofs.lemmas.List.{drop_all, length-map}
use Rattle.std.proofs.lemmas.Option.{same_Some, slice_get-map}
use Rattle.sqlite.specs.State as connection
use Rattle.store_tables.specs.declared.names.Version.TheVariants.{V2, V3}
use Rattle.club_requests.specs.declared.outside_end.OutsideEnd.{OutsideEnd}
use Rattle.club_requests.specs.declared.questions.BulkRuling.{BulkRuling}
use Rattle.club_core.specs.State.{draughts, shogi, place, rulings_of}
use Rattle.club_laws.proofs.Proved.{in-place}
use Rattle.club_rows.specs.Club.{ClubGame, ClubState, IsClub, StoresClub, tables}
use Rattle.club_rows.specs.Rulings.{ArePossible}
use Rattle.club_rows.specs.Tables.{version_of}
use Rattle.club_rows.proofs.Proved.{in_draughts, in_shogi}
use Rattle.club_changes.proofs.Proved.{place_next}
use Rattle.club_reads.specs.internal.Rulings.{FindsRulingRows}
use Rattle.club_reads.proofs.Proved.{tells_rulings}
use Rattle.club_lists.specs.GameSummary.{GameSummary}
use Rattle.club_lists.specs.RulingOrders.{game_orders, is_ruled, ruling_orders}
use Rattle.club_lists.specs.declared.game_entry.GameEntry.{GameEntry}
use Rattle.club_lists.specs.internal.SummaryViews.{summaries_of, summary_of}
use Rattle.club_answers.specs.AnswerTexts.{rulings_at}
use Rattle.club_answers.specs.Games.{game_summaries, game_summaries_from, game_summary_of}
use Rattle.club_answers.specs.internal.Rulings.{orders_in}
use Rattle.club_answers.proofs.BoardLemmas.{id_of_summary}
use Rattle.club_answers.proofs.ToldRows.{drop_here}

-- no rulings are possible ones
pub none_possible : ArePossible []
none_possible = record {
  count = omega arith;
  time = λ n r at. cc;
  moments = λ n r at. cc;
  in_order = λ n r next at at_next. cc;
}

module _ (s : ClubState) (is_club : IsClub s) (id : ℕ) (any : ClubGame) (at : place s.games id ≡ Some any) where
  -- without an arbiter there are none
  pub none_given : V2 ≡ version_of s → [] ≡ rulings_of any
  none_given version =
      sym (in-place (λ g. rulings_of g ≡ []) s.games id any
      (is_club.without_arbiter (by s.has_arbiter version)).games at)
    where
      by : (b : Bool) → V2 ≡ (if b then V3 else V2) → b ≡ false
      by false is = refl
      by true is = cc

  -- with an arbiter they are found in their table
  pub rulings_found : V3 ≡ version_of s → (conn : connection.State) → StoresClub s conn
      → (outside : Option OutsideEnd) × FindsRulingRows id (rulings_of any) outside (tables s) conn
  rulings_found version conn stores = of any at
    where
      by : (b : Bool) → V3 ≡ (if b then V3 else V2) → b ≡ true
      by true is = refl
      by false is = cc

      of : (x : ClubGame) → place s.games id ≡ Some x
          → (outside : Option OutsideEnd) × FindsRulingRows id (rulings_of x) outside (tables s) conn
      of (draughts g) here =
          (g.outside, tells_rulings in_draughts s id g here is_club conn (by s.has_arbiter version) stores)
      of (shogi g) here =
          (g.outside, tells_rulings in_shogi s id g here is_club conn (by s.has_arbiter version) stores)

-- ---- the lines of a batch

summary_at : (s : ClubState) (n : ℕ) (games : List ClubGame) (k : ℕ) (told : GameSummary)
    → slice_get (game_summaries_from s n games) k ≡ Some told
    → (any : ClubGame) × (slice_get games k ≡ Some any) × (told ≡ game_summary_of s (n + k) any)
summary_at s n [] k told at = cc
summary_at s n (x ∷ xs) zero told at =
    let here : n ≡ n + 0 = omega arith in
    (x, refl, sym (same_Some _ told at) ∙ ap (λ i. game_summary_of s i x) here)
summary_at s n (x ∷ xs) (suc k) told at =
    let (any, there, is) = summary_at s (suc n) xs k told at in
    let next : suc n + k ≡ n + suc k = omega arith in
    (any, there, is ∙ ap (λ i. game_summary_of s i any) next)

module _ (s : ClubState) (games : List GameEntry) (read : summaries_of games ≡ game_summaries s) (k : ℕ)
    (game : GameEntry) (at : slice_get games k ≡ Some game) where
  told_at : slice_get (game_summaries s) k ≡ Some (summary_of game)
  told_at = ap (λ l. slice_get l k) (sym read) ∙ (slice_get-map summary_of games k ∙ ap (option_map summary_of) at)

  -- the game of an entry that was read
  pub entry_game : (any : ClubGame) × (place s.games game.id ≡ Some any)
  entry_game =
      let (any, there, is) = summary_at s 1 s.games k (summary_of game) told_at in
      let id_is : game.id ≡ 1 + k = ap (λ t. t.id) is ∙ id_of_summary s (1 + k) any in
      (any, ap (place s.games) id_is ∙ (place_next s.games k ∙ there))

  module _ (bulk : BulkRuling) (text : List ℕ)
      (so_far : text ++ orders_in s bulk (drop k (game_summaries s)) ≡ orders_in s bulk (game_summaries s)) where
    rest : orders_in s bulk (drop k (game_summaries s))
        ≡ orders_in s bulk (summary_of game ∷ drop (k + 1) (game_summaries s))
    rest = ap (orders_in s bulk)
        (drop_here (game_summaries s) k (summary_of game) told_at
        ∙ ap (λ j. summary_of game ∷ drop j (game_summaries s)) (sym (add-one k)))

    -- a game that is not named adds no line
    pub orders_passed : is_ruled s.members s.events bulk (summary_of game) ≡ false
        → text ++ orders_in s bulk (drop (k + 1) (game_summaries s)) ≡ orders_in s bulk (game_summaries s)
    orders_passed other = rw (rest, other) at so_far

    -- a game that is named adds its lines
    pub orders_more : is_ruled s.members s.events bulk (summary_of game) ≡ true → (after : List ℕ)
        → after ≡ text ++ game_orders s.members bulk (summary_of game) (rulings_at (place s.games game.id))
        → after ++ orders_in s bulk (drop (k + 1) (game_summaries s)) ≡ orders_in s bulk (game_summaries s)
    orders_more named after more =
        rw (more, append_assoc text) (rw (rest, named) at so_far)

-- the lines of all games
pub orders_all : (s : ClubState) (games : List GameEntry) → summaries_of games ≡ game_summaries s → (k : ℕ)
    → length games ≤ k → (bulk : BulkRuling) (text : List ℕ)
    → text ++ orders_in s bulk (drop k (game_summaries s)) ≡ orders_in s bulk (game_summaries s)
    → text ≡ orders_in s bulk (game_summaries s)
orders_all s games read k past bulk text whole =
    let count : length (game_summaries s) ≡ length games = ap length (sym read) ∙ length-map games summary_of in
    rw (drop_all k (game_summaries s) (omega (arith, past, count)), append-nil text) at whole
