-- Which table is the first wrong one, by all rows of one game: by its rules, in its event, and at its place in a club.
use Rattle.std.proofs.Common.{◌≡◌, ℕ, pos, List, map, Option, Some, None, refl, sym, subst, ◌∙◌, arith, inr, ◌≢◌, ◌≤◌}
use Rattle.std.proofs.Common.{Bool, subst₂, ◌+◌, ◌<◌, true, false, inl, true≢false}
use Rattle.std.specs.Prelude.{IfSome, IsSome, IfOk, Result}
use Rattle.std.proofs.lemmas.Option.{same_Some}
use Rattle.club_rules.specs.GameRules.{GameRules}
use Rattle.club_core.specs.declared.rows.GameView.{GameView}
use Rattle.club_core.specs.Events.{Terms}
use Rattle.club_core.specs.Game.{Game}
use Rattle.club_core.specs.View.{Shows, terms_of}
use Rattle.store_tables.specs.Cells.{seen_cells}
use Rattle.store_tables.specs.declared.rows.GameTableRow.{GameTableRow}
use Rattle.store_tables.specs.declared.rows.MoveRow.{MoveRow}
use Rattle.store_tables.specs.declared.rows.RulingRow.{RulingRow}
use Rattle.store_tables.specs.declared.rows.SeenRow.{SeenRow}
use Rattle.store_tables.specs.declared.names.Table.{Table}
use Rattle.store_tables.specs.declared.names.Table.TheVariants.{Games, Meta, Moves, Scores, Seen, Members, Events, Keys}
use Rattle.store_tables.specs.declared.names.Table.TheVariants.{Rulings}
use Rattle.club_rows.specs.declared.view.CheckedRows.{CheckedRows}
use Rattle.club_rows.specs.declared.view.CheckedGame.{CheckedGame}
use Rattle.club_rows.specs.EachOnce.{AreEachOnce}
use Rattle.club_rows.specs.Seen.{seen_rows}
use Rattle.club_rows.specs.LegalRows.{AreMovesOf, AreRowsOf, AreRulingsOf}
use Rattle.club_rows.specs.internal.LegalRows.{IsSoundIfShown, IsWrongAsTold, ShowsGame}
use Rattle.club_rows.proofs.Proved.{rows-moves, rows-rulings}
use Rattle.club_rows.proofs.Proved.{columns-told, same-pos, kinds-alike, Kind, declares-alike, in_draughts, in_shogi}
use Rattle.club_audit.specs.Audit.{EndsBy, GivesTerms, terms_told}
use Rattle.club_audit.specs.internal.Audit.{IsWithin, IsWithinGiven, AreAllOf, HasPeople}
use Rattle.club_audit.specs.internal.Audit.{IsGameAt, NamesEvent, NamesRule, until}
use Rattle.club_audit.specs.FirstWrong.{order}
use Rattle.club_audit.specs.internal.FirstWrong.{IsFirstWrong, Precedes}
use Rattle.club_audit.specs.GameAudit.{HaveAll, IsRightIn, IsRightOf}
use Rattle.club_audit.specs.internal.GameAudit.{AreOfEvent, GivesRules, HaveAllOf, IsRightInEvent}
use Rattle.club_audit.specs.internal.GameAudit.{IsRightAt, IsRightBy, StandsAt}
use Rattle.club_audit.proofs.FirstLemmas.{UpTo, all-tables, up-to-moves, with-next, all-right, first-as, none-named}
use Rattle.club_audit.proofs.FirstLemmas.{up-to-none}
use Rattle.club_audit.proofs.GameLemmas.{ends-by, view-within, HasKind, all-had, all-shown, any-names, any-stands}
use Rattle.club_audit.proofs.GameLemmas.{event-at, game-had, game-stands, rule-back}
use Rattle.std.proofs.lemmas.Result.{IfOk-weaker}
use Rattle.club_rules.specs.declared.names.GameKind.{GameKind}
use Rattle.club_rules.specs.declared.names.GameKind.TheVariants.{Draughts, Shogi}
use Rattle.store_tables.specs.declared.rows.EventRow.{EventRow}
use Rattle.club_rows.specs.Club.{both_games, ClubGame, ClubState}
use Rattle.club_rows.specs.Tables.{kind_number}
use Rattle.std.proofs.lemmas.Bool.{cases_Bool, cases_lt}
use Rattle.club_laws.proofs.Proved.{in-place}
use Rattle.store_tables.specs.declared.rows.Rows.{Rows}
use Rattle.club_audit.proofs.AuditLemmas.{legal-later}
use Rattle.club_rows.specs.declared.view.CheckedRows.TheVariants as checked

module _ {P M E T : Type 0} (rules : GameRules P M E T) (terms : Terms) (row : GameTableRow) (moves : List MoveRow) (rulings : List RulingRow) where
  -- the moves of a legal game are right
  pub moves-of : (id : ℕ) (game : Game M) → AreRowsOf rules terms id row moves rulings game → AreMovesOf rules terms row moves rulings
  moves-of id game are = rows-moves rules terms row moves rulings id game are

  -- and so are its rulings
  pub rulings-of : (id : ℕ) (game : Game M) → AreRowsOf rules terms id row moves rulings game
      → AreRulingsOf rules terms row moves rulings
  rulings-of id game are = rows-rulings rules terms row moves rulings id game are

  -- the view shows a game of these rows, by these terms, and each game whose rows they are
  pub record IsShown {R : Type 0} (view : GameView R P M E T) : Type 0 where
    pub id : ℕ
    pub game : Game M
    pub are : AreRowsOf rules terms id row moves rulings game
    pub terms_are : terms_of view ≡ terms
    pub shows : Shows rules game view
    pub complete : (n : ℕ) (g : Game M) → AreRowsOf rules terms n row moves rulings g → Shows rules g view

  -- ---- rows that are not shown

  module _ {R : Type 0} (told : CheckedRows R P M E T) (wrong : IsWrongAsTold rules terms row moves rulings told)
      (seen : List SeenRow) (last : Option ℕ) where
    abbrev First : Table → Type 0
    First t = IsFirstWrong (IsRightIn rules terms last row moves rulings seen) (Some t)

    pub wrong-moves : told ≡ checked.WrongMoves → First Moves
    wrong-moves is =
        let (possible, none) = subst (IsWrongAsTold rules terms row moves rulings) is wrong in
        record {
          before = up-to-moves (IsRightIn rules terms last row moves rulings seen) tt tt tt tt tt tt;
          named = λ right. none (right possible);
        }

    pub wrong-rulings : told ≡ checked.WrongRulings → First Rulings
    wrong-rulings is =
        let (right, none) = subst (IsWrongAsTold rules terms row moves rulings) is wrong in
        let Right = IsRightIn rules terms last row moves rulings seen in
        record {
          before = with-next Right Moves (up-to-moves Right tt tt tt tt tt tt) right;
          named = none;
        }

    pub wrong-row : told ≡ checked.WrongGame → First Games
    wrong-row is =
        let (played, ruled, none) = subst (IsWrongAsTold rules terms row moves rulings) is wrong in
        let Right = IsRightIn rules terms last row moves rulings seen in
        record {
          before = with-next Right Rulings
              (with-next Right Moves (up-to-moves Right tt tt tt tt tt tt) (λ possible. played)) ruled;
          named = λ have. none have.id have.game have.are;
        }

  -- rows that are shown are so
  pub shown-by : {R : Type 0} (told : CheckedRows R P M E T) (played : CheckedGame R P M E T) → told ≡ checked.Game played
      → IsSoundIfShown rules terms row moves rulings told
      → ((n : ℕ) (g : Game M) → AreRowsOf rules terms n row moves rulings g → ShowsGame rules terms g told)
      → IsShown played.view
  shown-by told played is sound complete =
      let (id, game, are, terms_are, shows, within, history) = subst (IsSoundIfShown rules terms row moves rulings) is sound in
      record {
        id = id;
        game = game;
        are = are;
        terms_are = terms_are;
        shows = shows;
        complete = λ n g of. let it = subst (ShowsGame rules terms g) is (complete n g of) in it.1;
      }

module _ {R P M E T : Type 0} {rules : GameRules P M E T} {terms : Terms} {row : GameTableRow} {moves : List MoveRow}
    {rulings : List RulingRow}
    {view : GameView R P M E T} (shown : IsShown rules terms row moves rulings view) where
  -- a game of these rows has the number of its row
  numbered : (number n : ℕ) (game : Game M) → pos number ≡ row.id → AreRowsOf rules terms n row moves rulings game → n ≡ number
  numbered number n game is are =
      let told = columns-told rules terms n game row are.row in
      sym (same-pos number n (is ∙ told.numbers.id))

  -- and the game that is shown is the one with this number
  pub own-rows : (number : ℕ) → pos number ≡ row.id → AreRowsOf rules terms number row moves rulings shown.game
  own-rows number is = subst (λ n. AreRowsOf rules terms n row moves rulings shown.game)
      (numbered number shown.id shown.game is shown.are) shown.are

  module _ (seen : List SeenRow) (last : Option ℕ) where
    abbrev Right : Table → Type 0
    Right = IsRightIn rules terms last row moves rulings seen

    -- the game ends by a moment exactly where its view is within it
    ends : (n : ℕ) → IsWithin rules view rulings n → EndsBy rules terms n shown.game
    ends n = ends-by rules terms shown.game view shown.shows shown.terms_are shown.id rulings shown.are.rulings n
        shown.are.legal

    within-by : (n id : ℕ) (game : Game M) → AreRowsOf rules terms id row moves rulings game → EndsBy rules terms n game
        → IsWithin rules view rulings n
    within-by n id game are = view-within rules terms game view (shown.complete id game are) shown.terms_are id
        rulings are.rulings n

    -- the tables before the wrong one are right
    up-to-games : UpTo Right 8
    up-to-games = with-next Right Rulings (with-next Right Moves (up-to-moves Right tt tt tt tt tt tt)
        (λ possible. moves-of rules terms row moves rulings shown.id shown.game shown.are))
        (rulings-of rules terms row moves rulings shown.id shown.game shown.are)

    pub late-game : ¬ IsWithin rules view rulings 253402300799 → IsFirstWrong Right (Some Games)
    late-game late = record {
      before = up-to-games;
      named = λ have. late (within-by 253402300799 have.id have.game have.are have.within);
    }

    module _ (within : IsWithin rules view rulings 253402300799) where
      up-to-seen : UpTo Right 9
      up-to-seen = with-next Right Games up-to-games (record {
        id = shown.id;
        game = shown.game;
        are = shown.are;
        within = ends 253402300799 within;
      })

      pub wrong-seen : (number : ℕ) → pos number ≡ row.id → ((g : Game M) → AreRowsOf rules terms number row moves rulings g
          → ¬ AreEachOnce (map seen_cells seen) (seen_rows rules number g)) → IsFirstWrong Right (Some Seen)
      wrong-seen number is other = record {
        before = up-to-seen;
        named = λ have.
            let same = numbered number have.id have.game is have.are in
            other have.game (subst (λ n. AreRowsOf rules terms n row moves rulings have.game) same have.are)
            (subst (λ n. AreEachOnce (map seen_cells seen) (seen_rows rules n have.game)) same have.seen_are);
      }

      module _ (number : ℕ) (is : pos number ≡ row.id)
          (stand : AreEachOnce (map seen_cells seen) (seen_rows rules number shown.game)) where
        all-until : (n : ℕ) → IsWithin rules view rulings n → HaveAll rules terms n row moves rulings seen
        all-until n low = record {
          id = number;
          game = shown.game;
          are = own-rows number is;
          within = ends n low;
          seen_are = stand;
        }

        up-to-meta : UpTo Right 11
        up-to-meta = with-next Right Scores (with-next Right Seen up-to-seen (all-until 253402300799 within)) tt

        pub late-end : ¬ IsWithinGiven rules view rulings last → IsFirstWrong Right (Some Meta)
        late-end late = record {
          before = up-to-meta;
          named = λ all. late (λ n last_is low. let have = all n last_is low in
              within-by n have.id have.game have.are have.within);
        }

        pub none-late : IsWithinGiven rules view rulings last → IsFirstWrong Right None
        none-late in_time = record {
          before = λ t low. all-tables Right
              (with-next Right Meta up-to-meta (λ n last_is low. all-until n (in_time n last_is low))) t;
          named = tt;
        }

-- ---- the last moment that there is, as one that is given

module _ {R P M E T : Type 0} (rules : GameRules P M E T) (view : GameView R P M E T)
    (rulings : List RulingRow) where
  pub given-last : (o : Option ℕ) → IfSome o (λ m. m ≡ 253402300799) → IsWithin rules view rulings 253402300799
      → IsWithinGiven rules view rulings o
  given-last None value within n is low = cc
  given-last (Some m) value within n is low = subst (IsWithin rules view rulings) (sym value ∙ same_Some m n is) within

  pub last-given : (o : Option ℕ) → IsSome o → IfSome o (λ m. m ≡ 253402300799) → IsWithinGiven rules view rulings o
      → IsWithin rules view rulings 253402300799
  last-given None some value given = cc
  last-given (Some m) some value given = subst (IsWithin rules view rulings) value (given m refl (omega (arith, value)))

-- a game that ends by a moment ends by a later one
ends-later : {P M E T : Type 0} (rules : GameRules P M E T) (terms : Terms) (n m : ℕ) (game : Game M) → n ≤ m
    → EndsBy rules terms n game → EndsBy rules terms m game
ends-later rules terms n m game low ends = record {
  start = omega arith;
  entries = λ k e at. let most = ends.entries k e at in omega arith;
  rulings = λ k r at. let most = ends.rulings k r at in omega arith;
  lost_by_time = λ lost. let late = ends.lost_by_time lost in omega (arith, late, low);
}

-- the tables before that of moves are right, of whatever game
pub early-of : (last : Option ℕ) (row : GameTableRow) (moves : List MoveRow) (rulings : List RulingRow) (seen : List SeenRow) (kind : GameKind)
    (terms : Terms) → UpTo (IsRightOf kind terms last row moves rulings seen) 6
early-of last row moves rulings seen Draughts terms =
    up-to-moves (IsRightOf Draughts terms last row moves rulings seen) tt tt tt tt tt tt
early-of last row moves rulings seen Shogi terms = up-to-moves (IsRightOf Shogi terms last row moves rulings seen) tt tt tt tt tt tt

module _ (event : EventRow) (declares : Bool) (last : Option ℕ) (row : GameTableRow) (moves : List MoveRow) (rulings : List RulingRow)
    (seen : List SeenRow) where
  abbrev InEvent : Table → Type 0
  InEvent = IsRightInEvent event declares last row moves rulings seen

  early : (t : Table) → order t < 6 → IsRightBy event declares last row moves rulings seen t
  early t low = λ kind b i is gives. early-of last row moves rulings seen kind (terms_told b i declares) t low

  no-events : ¬ GivesRules event → IsFirstWrong InEvent (Some Events)
  no-events none = record {
    before = with-next InEvent Keys (with-next InEvent Members (up-to-none InEvent) (early Members (omega arith)))
        (early Keys (omega arith));
    named = none;
  }

  pub no-terms : ((b i : ℕ) → ¬ GivesTerms event b i) → IsFirstWrong InEvent (Some Events)
  no-terms none = no-events (λ rules. none rules.budget rules.increment rules.terms)

  pub no-kind : ((kind : GameKind) → event.game ≢ pos (kind_number kind)) → IsFirstWrong InEvent (Some Events)
  no-kind none = no-events (λ rules. none rules.kind rules.kind_is)

  -- ---- by the kind and the terms of the event

  module _ (kind : GameKind) (budget increment : ℕ) (kind_is : event.game ≡ pos (kind_number kind))
      (gives : GivesTerms event budget increment) where
    abbrev Of : Table → Type 0
    Of = IsRightOf kind (terms_told budget increment declares) last row moves rulings seen

    pub to-event : (t : Table) → Of t → InEvent t
    to-event Events right = record {
      kind = kind;
      kind_is = kind_is;
      budget = budget;
      increment = increment;
      terms = gives;
    }
    to-event t right = λ k b i is other.
        let one : budget ≡ b = cc in
        let two : increment ≡ i = cc in
        subst₂ (λ x y. IsRightOf x y last row moves rulings seen t) (kinds-alike kind k cc)
        (λ j. terms_told (one j) (two j) declares) right

    from-event : (t : Table) → InEvent t → Of t
    from-event Events right =
        early-of last row moves rulings seen kind (terms_told budget increment declares) Events (omega arith)
    from-event _ right = right kind budget increment kind_is gives

    -- the first wrong table by its rules is the first of the event
    pub event-first : {Fault : Type 0} (terms : Terms) → terms ≡ terms_told budget increment declares
        → (told : Result (Option Table) Fault)
        → IfOk told (IsFirstWrong (IsRightOf kind terms last row moves rulings seen)) → IfOk told (IsFirstWrong InEvent)
    event-first terms same told = IfOk-weaker told _ _ (λ wrong first. first-as Of InEvent wrong to-event from-event
        (subst (λ t. IsFirstWrong (IsRightOf kind t last row moves rulings seen) wrong) same first))

-- ---- where a last moment is given

module _ (event : EventRow) (declares : Bool) (last : ℕ) (low : last ≤ 253402300799) (row : GameTableRow)
    (moves : List MoveRow) (rulings : List RulingRow) (seen : List SeenRow) (wrong : Option Table)
    (first : IsFirstWrong (IsRightInEvent event declares (Some last) row moves rulings seen) wrong) where
  abbrev ByEvent : Table → Type 0
  ByEvent = IsRightInEvent event declares (Some last) row moves rulings seen

  all-of-kind : (kind : GameKind) (terms : Terms) → IsRightOf kind terms (Some last) row moves rulings seen Meta
      → HaveAllOf kind terms last row moves rulings seen
  all-of-kind Draughts terms right = right last refl low
  all-of-kind Shogi terms right = right last refl low

  pub event-sound : wrong ≡ None → AreOfEvent event declares last row moves rulings seen
  event-sound none =
      let rules = all-right ByEvent wrong first none Events in
      let right = all-right ByEvent wrong first none Meta in
      record {
        kind = rules.kind;
        kind_is = rules.kind_is;
        budget = rules.budget;
        increment = rules.increment;
        terms = rules.terms;
        all = all-of-kind rules.kind (terms_told rules.budget rules.increment declares)
            (right rules.kind rules.budget rules.increment rules.kind_is rules.terms);
      }

  module _ {P M E T : Type 0} (rules : GameRules P M E T) (terms : Terms)
      (have : HaveAll rules terms last row moves rulings seen) where
    later : EndsBy rules terms 253402300799 have.game
    later = ends-later rules terms last 253402300799 have.game low have.within

    by-rules : (t : Table) → IsRightIn rules terms (Some last) row moves rulings seen t
    by-rules Moves = λ possible. moves-of rules terms row moves rulings have.id have.game have.are
    by-rules Rulings = rulings-of rules terms row moves rulings have.id have.game have.are
    by-rules Games = record { id = have.id; game = have.game; are = have.are; within = later }
    by-rules Seen =
        record { id = have.id; game = have.game; are = have.are; within = later; seen_are = have.seen_are }
    by-rules Meta = λ n is most.
        subst (λ k. HaveAll rules terms k row moves rulings seen) (same_Some last n is) have
    by-rules _ = tt

  by-kind : (kind : GameKind) (terms : Terms) → HaveAllOf kind terms last row moves rulings seen → (t : Table)
      → IsRightOf kind terms (Some last) row moves rulings seen t
  by-kind Draughts terms have t = by-rules both_games.draughts terms have t
  by-kind Shogi terms have t = by-rules both_games.shogi terms have t

  pub event-complete : AreOfEvent event declares last row moves rulings seen → wrong ≡ None
  event-complete of =
      none-named ByEvent wrong first
      (λ t. to-event event declares (Some last) row moves rulings seen of.kind of.budget of.increment of.kind_is of.terms t
      (by-kind of.kind (terms_told of.budget of.increment declares) of.all t))

module _ (s : ClubState) (rows : Rows) (people : HasPeople s rows) (index : ℕ) (row : GameTableRow)
    (moves : List MoveRow) (rulings : List RulingRow) (seen : List SeenRow) (last : Option ℕ) where
  abbrev At : Table → Type 0
  At = IsRightAt s rows index row moves rulings seen last

  pub people-until : (n : ℕ) → HasPeople (until n s) rows
  people-until n = record { members = people.members; events = people.events; rules = people.rules }

  -- a game that names no event is wrong, and its moves are passed over
  pub no-event : ((id : ℕ) (e : EventRow) → ¬ NamesEvent rows row id e) → IsFirstWrong At (Some Games)
  no-event none = record {
    before = with-next At Rulings (with-next At Moves (up-to-moves At tt tt tt tt tt tt)
        (λ id e declares named ruled. absurd (none id e named)))
        (λ id e declares named ruled. absurd (none id e named));
    named = λ it.
        let (low, g, is) = it in
        let (id, e, named) = any-names (until 253402300799 s) rows (people-until 253402300799) index row moves rulings g is in
        none id e named;
  }

  module _ (id : ℕ) (e : EventRow) (declares : Bool) (named : NamesEvent rows row id e)
      (ruled : NamesRule rows row id declares) where
    abbrev In : Table → Type 0
    In = IsRightInEvent e declares last row moves rulings seen

    -- the event gives a kind and terms
    rules-of : GivesRules e
    rules-of =
        let (known, at, parts) = event-at s.events rows.events.items people.events id e named.row_is in
        let legal = in-place _ s.events id known people.events.legal at in
        record {
          kind = known.game;
          kind_is = parts.game_is;
          budget = known.terms.budget;
          increment = known.terms.increment;
          terms = record {
            budget_is = parts.budget_is;
            increment_is = parts.increment_is;
            has_budget = legal.budget;
            has_increment = legal.increment;
          };
        }

    -- there is no other, nor another rule
    same-rules : (t : Table) → IsRightBy e declares last row moves rulings seen t → (n : ℕ) (f : EventRow) (d : Bool)
        → NamesEvent rows row n f → NamesRule rows row n d → IsRightBy f d last row moves rulings seen t
    same-rules t right n f d other also =
        let event : e ≡ f = cc in
        let rule : ruled.rule ≡ also.rule = cc in
        subst₂ (λ x y. IsRightBy x y last row moves rulings seen t) event (declares-alike declares d (cc)) right

    moves-at : In Moves → At Moves
    moves-at right = same-rules Moves right

    rulings-at : In Rulings → At Rulings
    rulings-at right = same-rules Rulings right

    -- the tables before that of moves are right
    early-in : UpTo In 6
    early-in Events low = rules-of
    early-in t low = λ kind b i kind_is gives.
        early-of last row moves rulings seen kind (terms_told b i declares) t low

    -- ---- by the kind of the event

    module _ (stands : StandsAt rows index row) where
      module _ {P M E T : Type 0} {rules : GameRules P M E T} {kind : GameKind} (k : Kind rules kind)
          (budget increment : ℕ) (kind_is : HasKind e kind) (gives : GivesTerms e budget increment) where
        -- what is right by the rules of this kind is right at its place
        to-place-in : (t : Table) → In t
            → IsRightIn rules (terms_told budget increment declares) last row moves rulings seen t → At t
        to-place-in Moves event right = moves-at event
        to-place-in Rulings event right = rulings-at event
        to-place-in Games event right =
            let is =
            game-stands _ _ (people-until 253402300799) _ _ _ _ k _ _ _ _ _ named ruled gives kind_is stands right in
            (stands.low, k.into right.game, is.1)
        to-place-in Seen event right =
            all-shown _ _ (people-until 253402300799) _ _ _ _ k _ _ _ _ _ named ruled gives kind_is stands seen right
        to-place-in Meta event right = λ n is low.
            all-shown _ _ (people-until n) _ _ _ _ k _ _ _ _ _ named ruled gives kind_is stands seen (right n is low)
        to-place-in _ event right = tt

        -- and what is right there, but for its moves and its rulings, is right by these rules
        from-place-in : (t : Table) → t ≢ Moves → t ≢ Rulings → At t
            → IsRightIn rules (terms_told budget increment declares) last row moves rulings seen t
        from-place-in Moves other another right = absurd (other refl)
        from-place-in Rulings other another right = absurd (another refl)
        from-place-in Games other another right =
            game-had _ _ (people-until 253402300799) _ _ _ _ _ _ named k _ _ _ ruled gives kind_is stands.low
            (omega arith) right.1 right.2
        from-place-in Seen other another right =
            all-had _ _ (people-until 253402300799) _ _ _ _ _ _ named k _ _ _ ruled gives kind_is stands.low (omega arith)
            seen right.0 right.1
        from-place-in Meta other another right = λ n is low.
            let (g, all) = right n is low in
            all-had _ _ (people-until n) _ _ _ _ _ _ named k _ _ _ ruled gives kind_is stands.low low seen g all
        from-place-in _ other another right = tt

      to-place-of : (kind : GameKind) (budget increment : ℕ) → HasKind e kind → GivesTerms e budget increment
          → (t : Table) → In t → IsRightOf kind (terms_told budget increment declares) last row moves rulings seen t → At t
      to-place-of Draughts b i kind_is gives = to-place-in in_draughts b i kind_is gives
      to-place-of Shogi b i kind_is gives = to-place-in in_shogi b i kind_is gives

      from-place-of : (kind : GameKind) (budget increment : ℕ) → HasKind e kind → GivesTerms e budget increment
          → (t : Table) → t ≢ Moves → t ≢ Rulings → At t → IsRightOf kind (terms_told budget increment declares) last row moves rulings seen t
      from-place-of Draughts b i kind_is gives = from-place-in in_draughts b i kind_is gives
      from-place-of Shogi b i kind_is gives = from-place-in in_shogi b i kind_is gives

      to-place : (t : Table) → In t → At t
      to-place Events right = tt
      to-place t right =
          let r = rules-of in
          to-place-of r.kind r.budget r.increment r.kind_is r.terms t right
          (right r.kind r.budget r.increment r.kind_is r.terms)

      from-place : (t : Table) → At t → In t
      from-place Events right = rules-of
      from-place Moves right = right id e declares named ruled
      from-place Rulings right = right id e declares named ruled
      from-place t right = λ kind b i kind_is gives. from-place-of kind b i kind_is gives t (λ is. cc) (λ is. cc) right

      pub stands-first : (wrong : Option Table) → IsFirstWrong In wrong → IsFirstWrong At wrong
      stands-first wrong = first-as In At wrong to-place from-place

    -- where its moves are wrong, that is named whatever its place
    pub moves-first : IsFirstWrong In (Some Moves) → IsFirstWrong At (Some Moves)
    moves-first first = record {
      before = up-to-moves At tt tt tt tt tt tt;
      named = λ right. first.named (right id e declares named ruled);
    }

    -- and where its rulings are
    pub rulings-first : IsFirstWrong In (Some Rulings) → IsFirstWrong At (Some Rulings)
    rulings-first first = record {
      before = with-next At Moves (up-to-moves At tt tt tt tt tt tt) (moves-at (first.before Moves (omega arith)));
      named = λ right. first.named (right id e declares named ruled);
    }

    moves-come : (wrong : Option Table) → IsFirstWrong In wrong → wrong ≢ Some Moves → wrong ≢ Some Rulings
        → Precedes Rulings wrong
    moves-come None first other another = tt
    moves-come (Some Moves) first other another = absurd (other refl)
    moves-come (Some Rulings) first other another = absurd (another refl)
    moves-come (Some t) first other another = elim (cases_lt (order t) 6) [
      | inl low ↦ absurd (first.named (early-in t low))
      | inr high ↦ omega arith
    ]

    before-it : (wrong : Option Table) → Precedes Rulings wrong → Precedes Moves wrong
    before-it None low = tt
    before-it (Some t) low = omega (arith, low)

    -- with or without its place; a game without it is wrong, where its moves are not
    pub placed-first : (wrong result : Option Table) (stands : Bool) → IsFirstWrong In wrong
        → (stands ≡ true → StandsAt rows index row) → (StandsAt rows index row → stands ≡ true)
        → (stands ≡ true → result ≡ wrong) → (wrong ≡ Some Moves → result ≡ Some Moves)
        → (wrong ≡ Some Rulings → result ≡ Some Rulings)
        → (stands ≡ false → wrong ≢ Some Moves → wrong ≢ Some Rulings → result ≡ Some Games) → IsFirstWrong At result
    placed-first (Some Moves) result stands first sound complete kept has_moves has_rulings has_games =
        subst (IsFirstWrong At) (sym (has_moves refl)) (moves-first first)
    placed-first (Some Rulings) result stands first sound complete kept has_moves has_rulings has_games =
        subst (IsFirstWrong At) (sym (has_rulings refl)) (rulings-first first)
    placed-first wrong result stands first sound complete kept has_moves has_rulings has_games = elim (cases_Bool stands) [
      | inl is ↦ subst (IsFirstWrong At) (sym (kept is)) (stands-first (sound is) wrong first)
      | inr other ↦ subst (IsFirstWrong At) (sym (has_games other (λ is. cc) (λ is. cc))) (record {
        before = with-next At Rulings (with-next At Moves (up-to-moves At tt tt tt tt tt tt)
            (moves-at (first.before Moves (before-it wrong (moves-come wrong first (λ is. cc) (λ is. cc))))))
            (rulings-at (first.before Rulings (moves-come wrong first (λ is. cc) (λ is. cc))));
        named = λ it.
            let (low, g, is) = it in
            let stand = any-stands (until 253402300799 s) rows (people-until 253402300799) index row moves rulings g is low in
            true≢false (sym (complete stand) ∙ other);
      })
    ]

-- an event of a club has a row of its rules
pub no-rule : (s : ClubState) (rows : Rows) → HasPeople s rows → (row : GameTableRow) (id : ℕ) (e : EventRow)
    → NamesEvent rows row id e → ((n : ℕ) (declares : Bool) → ¬ NamesRule rows row n declares) → ⊥
no-rule s rows people row id e named none =
    let (known, at, parts) = event-at s.events rows.events.items people.events id e named.row_is in
    let (rule, stands, says) = rule-back s.events rows.event_rules.items people.rules id known at in
    none id known.terms.declares
    (record { event_is = named.event_is; rule = rule; rule_is = stands; says = says })

-- ---- a club's own game

pub later-game : (s : ClubState) (m : ℕ) → s.last ≤ m → (id : ℕ) (row : GameTableRow) (moves : List MoveRow) (rulings : List RulingRow)
    (g : ClubGame) → IsGameAt s id row moves rulings g → IsGameAt (until m s) id row moves rulings g
later-game s m low id row moves rulings g is =
    record {
      legal = legal-later s s.games m low g is.legal;
      row_is = is.row_is;
      moves_are = is.moves_are;
      rulings_are = is.rulings_are;
    }

pub later-all : (s : ClubState) (m : ℕ) → s.last ≤ m → (id : ℕ) (row : GameTableRow) (moves : List MoveRow) (rulings : List RulingRow)
    (seen : List SeenRow) (g : ClubGame) → AreAllOf s id row moves rulings seen g → AreAllOf (until m s) id row moves rulings seen g
later-all s m low id row moves rulings seen g is =
    record { at = later-game s m low id row moves rulings g is.at; seen_are = is.seen_are }

module _ (s : ClubState) (rows : Rows) (people : HasPeople s rows) (index : ℕ) (row : GameTableRow)
    (moves : List MoveRow) (rulings : List RulingRow) (seen : List SeenRow) (last : Option ℕ) (within : s.last ≤ 253402300799) where
  module _ (low : index < 5000) (g : ClubGame) (at : IsGameAt s (index + 1) row moves rulings g) (id : ℕ) (e : EventRow)
      (declares : Bool) (named : NamesEvent rows row id e) (ruled : NamesRule rows row id declares) where
    moves-in : {P M E T : Type 0} {rules : GameRules P M E T} {kind : GameKind} (k : Kind rules kind)
        (budget increment : ℕ) → HasKind e kind → GivesTerms e budget increment
        → AreMovesOf rules (terms_told budget increment declares) row moves rulings
        × AreRulingsOf rules (terms_told budget increment declares) row moves rulings
    moves-in {rules = rules} k b i kind_is gives =
        let have =
        game-had s rows people index row moves rulings id e named k b i declares ruled gives kind_is low within g at in (
          moves-of rules (terms_told b i declares) row moves rulings have.id have.game have.are,
          rulings-of rules (terms_told b i declares) row moves rulings have.id have.game have.are,
        )

    moves-right : IsRightBy e declares last row moves rulings seen Moves
    moves-right Draughts b i kind_is gives = λ possible. (moves-in in_draughts b i kind_is gives).0
    moves-right Shogi b i kind_is gives = λ possible. (moves-in in_shogi b i kind_is gives).0

    rulings-right : IsRightBy e declares last row moves rulings seen Rulings
    rulings-right Draughts b i kind_is gives = (moves-in in_draughts b i kind_is gives).1
    rulings-right Shogi b i kind_is gives = (moves-in in_shogi b i kind_is gives).1

  -- all tables are right by the rows of a game of the club, up to its last moment
  pub club-right : index < 5000 → (g : ClubGame) → AreAllOf s (index + 1) row moves rulings seen g
      → ((n : ℕ) → last ≡ Some n → s.last ≡ n) → (t : Table) → IsRightAt s rows index row moves rulings seen last t
  club-right low g all moment Moves = moves-right low g all.at
  club-right low g all moment Rulings = rulings-right low g all.at
  club-right low g all moment Games =
      (low, g, later-game s 253402300799 within (index + 1) row moves rulings g all.at)
  club-right low g all moment Seen = (g, later-all s 253402300799 within (index + 1) row moves rulings seen g all)
  club-right low g all moment Meta = λ n is most.
      let same = moment n is in
      (g, later-all s n (omega (arith, same)) (index + 1) row moves rulings seen g all)
  club-right low g all moment _ = tt

  -- and a club whose last moment is given has the game of rows by which all tables are right
  pub right-club : last ≡ Some s.last → IsRightAt s rows index row moves rulings seen last Meta → (g : ClubGame)
      × AreAllOf s (index + 1) row moves rulings seen g
  right-club is right = right s.last is within
