-- Legal clubs with the same tables are one.
use Rattle.std.proofs.Common.{◌≡◌, ℕ, Bool, true, false, zero, suc, ◌+◌, inl, inr, List, [], ◌∷◌, ◌++◌, length}
use Rattle.std.proofs.Common.{Option, Some, None, refl, ap, sym, ◌∙◌, subst, arith}
use Rattle.std.specs.Prelude.{if◌then◌else◌}
use Rattle.std.specs.Option.{option_map, option_to_list}
use Rattle.sqlite.specs.Order.{Row, column}
use Rattle.sqlite_rules.specs.Lists.{Has}
use Rattle.club_rules.specs.declared.names.GameKind.{GameKind}
use Rattle.club_rules.specs.declared.names.GameKind.TheVariants.{Draughts, Shogi}
use Rattle.club_rules.specs.GameRules.{GameRules}
use Rattle.club_rules.specs.Laws.{ReadsBack}
use Rattle.club_core.specs.ClubRules.{ClubRules}
use Rattle.club_core.specs.Members.{Member}
use Rattle.club_core.specs.Events.{Event}
use Rattle.club_core.specs.Game.{Game}
use Rattle.club_core.specs.Legal.{IsLegalGame}
use Rattle.club_core.specs.LegalState.{Each, IsGameOf, IsLegalState}
use Rattle.club_core.specs.State.{AnyGame, draughts, shogi, State, place, terms_at, kind_at}
use Rattle.store_tables.specs.Tables.{schema_number}
use Rattle.store_tables.specs.declared.names.Version.TheVariants.{V2, V3}
use Rattle.club_rows.specs.Tables.{member_row, event_row, game_row, move_rows, at_start, row_of_game, declares_number}
use Rattle.club_rows.specs.Tables.{rule_row, rows_of_moves, numbered_from, gathered_from, tables_of, number, key_row}
use Rattle.club_rows.specs.Tables.{closing_row, kind_number, rows_of_keys, rows_of_closing, rows_of_rulings}
use Rattle.club_rows.specs.Tables.{ruling_rows, version_of}
use Rattle.club_rows.proofs.GatheredLemmas.{gathered-had}
use Rattle.club_rows.proofs.WholeLemmas.{rows-count}
use Rattle.club_rows.proofs.AlikeLemmas.{games-alike}
use Rattle.club_rows.proofs.KindLemmas.{plies_in}
use Rattle.club_rows.proofs.ChallengeLemmas.{challenge-rows-alike}
use Rattle.club_rows.proofs.RulingRowLemmas.{rulings-begin}

-- ---- lists of rows

-- each row begins with this number
abbrev pub AllBegin : ℕ → List Row → Type 0
AllBegin id rows = (z : Row) → Has rows z → column z 0 ≡ number id

-- no row begins with this number
abbrev pub NoneBegins : ℕ → List Row → Type 0
NoneBegins id rows = (z : Row) → Has rows z → ¬ (column z 0 ≡ number id)

-- lists in two parts that are one, where the first parts are as long
parts-alike : {A : Type 0} (ks ls cs ds : List A) → length ks ≡ length ls → ks ++ cs ≡ ls ++ ds → (ks ≡ ls) × (cs ≡ ds)
parts-alike [] [] cs ds long is = (refl, is)
parts-alike (a ∷ ks) (b ∷ ls) cs ds long is = let rest = parts-alike ks ls cs ds (cc) (cc) in (cc, rest.1)
parts-alike ks ls cs ds long is = absurd cc

-- the same where the rows of the first parts begin with a number, and no row of the second parts does
apart-alike : (id : ℕ) (ks ls cs ds : List Row) → AllBegin id ks → AllBegin id ls → NoneBegins id cs → NoneBegins id ds
    → ks ++ cs ≡ ls ++ ds → (ks ≡ ls) × (cs ≡ ds)
apart-alike id [] [] cs ds all also none nor is = (refl, is)
apart-alike id (a ∷ ks) (b ∷ ls) cs ds all also none nor is =
    let (same, rest) = apart-alike id ks ls cs ds (λ z h. all z (inr h)) (λ z h. also z (inr h)) none nor (cc) in
    let head : a ≡ b = cc in
    (λ i. head i ∷ same i, rest)
apart-alike id (a ∷ ks) [] cs ds all also none nor is =
    absurd (nor a (subst (λ rows. Has rows a) is (inl refl)) (all a (inl refl)))
apart-alike id [] (b ∷ ls) cs ds all also none nor is =
    absurd (none b (subst (λ rows. Has rows b) (sym is) (inl refl)) (also b (inl refl)))

-- rows with later ids do not begin with this id
none-begins : {A : Type 0} (rows : ℕ → A → List Row) → ((id : ℕ) (x : A) → AllBegin id (rows id x)) → (id : ℕ)
    (xs : List A) → NoneBegins id (gathered_from rows (suc id) xs)
none-begins rows begin id xs z h is =
    let (n, x, at, has) = gathered-had rows (suc id) xs z h in
    let same : number (suc id + n) ≡ number id = sym (begin (suc id + n) x z has) ∙ is in
    let ids : suc id + n ≡ id = cc in
    omega (arith, ids)

-- elements that two rows and a list of rows tell are told by all their rows
numbered-alike : {A : Type 0} (row other : ℕ → A → Row) (rows : ℕ → A → List Row)
    → ((id : ℕ) (x : A) → AllBegin id (rows id x))
    → ((id : ℕ) (x y : A) → row id x ≡ row id y → other id x ≡ other id y → rows id x ≡ rows id y → x ≡ y) → (id : ℕ)
    (xs ys : List A) → numbered_from row id xs ≡ numbered_from row id ys
    → numbered_from other id xs ≡ numbered_from other id ys → gathered_from rows id xs ≡ gathered_from rows id ys
    → xs ≡ ys
numbered-alike row other rows begin alike id [] [] is also more = refl
numbered-alike row other rows begin alike id (x ∷ xs) (y ∷ ys) is also more =
    let (here, later) = apart-alike id (rows id x) (rows id y) _ _ (begin id x) (begin id y)
    (none-begins rows begin id xs) (none-begins rows begin id ys) more in
    let head : x ≡ y = alike id x y (cc) (cc) here in
    let tail : xs ≡ ys = numbered-alike row other rows begin alike (suc id) xs ys (cc) (cc) later in
    λ i. head i ∷ tail i
numbered-alike row other rows begin alike id xs ys is also more = cc

-- ---- members and events

-- the later keys of a member are told by their rows
later-alike : (id n : ℕ) (ks ls : List (List ℕ)) → numbered_from (key_row id) n ks ≡ numbered_from (key_row id) n ls
    → ks ≡ ls
later-alike id n [] [] is = refl
later-alike id n (k ∷ ks) (l ∷ ls) is =
    let head : k ≡ l = cc in
    let tail : ks ≡ ls = later-alike id (suc n) ks ls (cc) in
    λ i. head i ∷ tail i
later-alike id n ks ls is = cc

key-rows-begin : (id n : ℕ) (ks : List (List ℕ)) → AllBegin id (numbered_from (key_row id) n ks)
key-rows-begin id n [] z h = absurd h
key-rows-begin id n (k ∷ ks) z (inl is) = rw is refl
key-rows-begin id n (k ∷ ks) z (inr h) = key-rows-begin id (suc n) ks z h

pub keys-begin : (id : ℕ) (m : Member) → AllBegin id (rows_of_keys id m)
keys-begin id m = key-rows-begin id 1 m.later

closing-begins : (id : ℕ) (closed : Option ℕ) → AllBegin id (option_to_list (option_map (closing_row id) closed))
closing-begins id None z h = absurd h
closing-begins id (Some moment) z (inl is) = rw is refl
closing-begins id (Some moment) z (inr h) = absurd h

pub closings-begin : (id : ℕ) (e : Event) → AllBegin id (rows_of_closing id e)
closings-begin id e = closing-begins id e.closed

pub rulings_begin : {DM SM : Type 0} (id : ℕ) (any : AnyGame DM SM) → AllBegin id (rows_of_rulings id any)
rulings_begin id (draughts g) = rulings-begin id 1 g.outside g.rulings
rulings_begin id (shogi g) = rulings-begin id 1 g.outside g.rulings

-- the timestamp of a closing is told by its row
closings-alike : (id : ℕ) (a b : Option ℕ)
    → option_to_list (option_map (closing_row id) a) ≡ option_to_list (option_map (closing_row id) b) → a ≡ b
closings-alike id None None is = refl
closings-alike id (Some m) (Some n) is = cc
closings-alike id a b is = cc

-- a member is told by the row of `members` and those of the later keys
members-alike : (id : ℕ) (m n : Member) → member_row id m ≡ member_row id n → member_row id m ≡ member_row id n
    → rows_of_keys id m ≡ rows_of_keys id n → m ≡ n
members-alike id m n is also keys =
    let name : m.name ≡ n.name = cc in
    let key : m.key ≡ n.key = cc in
    let later = later-alike id 1 m.later n.later keys in
    λ i. record { name = name i; key = key i; later = later i }

pub declares-alike : (a b : Bool) → declares_number a ≡ declares_number b → a ≡ b
declares-alike a b is = grind arith

kinds-told : (a b : GameKind) → kind_number a ≡ kind_number b → a ≡ b
kinds-told a b is = grind arith

-- an event is told by its row, by that of its rules and by that of its closing
events-alike : (id : ℕ) (d e : Event) → event_row id d ≡ event_row id e → rule_row id d ≡ rule_row id e
    → rows_of_closing id d ≡ rows_of_closing id e → d ≡ e
events-alike id d e is ruled closing =
    let name : d.name ≡ e.name = cc in
    let kind : kind_number d.game ≡ kind_number e.game = cc in
    let budget : d.terms.budget ≡ e.terms.budget = cc in
    let increment : d.terms.increment ≡ e.terms.increment = cc in
    let rule : declares_number d.terms.declares ≡ declares_number e.terms.declares = cc in
    let game = kinds-told d.game e.game kind in
    let declares = declares-alike d.terms.declares e.terms.declares rule in
    let closed = closings-alike id d.closed e.closed closing in
    λ i. record {
      name = name i;
      game = game i;
      terms = record { budget = budget i; increment = increment i; declares = declares i };
      closed = closed i;
    }

-- the schema number tells whether the club has an arbiter
arbiter-alike : (a b : Bool) → schema_number (if a then V3 else V2) ≡ schema_number (if b then V3 else V2) → a ≡ b
arbiter-alike true true is = refl
arbiter-alike false false is = refl
arbiter-alike a b is = cc

-- ---- games

module _ {DP DM DE DT SP SM SE ST : Type 0} (kinds : ClubRules DP DM DE DT SP SM SE ST)
    (reads-draughts : ReadsBack kinds.draughts)
    (reads-shogi : ReadsBack kinds.shogi) where
  module _ (events : List Event) where
    -- a game that is legal by the terms of its event, which is of its kind
    abbrev Stands : AnyGame DM SM → Type 0
    Stands (draughts g) = IsLegalGame kinds.draughts (terms_at (place events g.event)) g
        × (kind_at (place events g.event) ≡ Draughts)
    Stands (shogi g) = IsLegalGame kinds.shogi (terms_at (place events g.event)) g
        × (kind_at (place events g.event) ≡ Shogi)

    abbrev row : ℕ → AnyGame DM SM → Row
    row = row_of_game kinds events

    abbrev rows : ℕ → AnyGame DM SM → List Row
    rows = rows_of_moves kinds events

    -- games of one kind
    one-alike : {P M E T : Type 0} (rules : GameRules P M E T) → ReadsBack rules → (id : ℕ) (g h : Game M)
        → IsLegalGame rules (terms_at (place events g.event)) g → IsLegalGame rules (terms_at (place events h.event)) h
        → game_row rules (terms_at (place events g.event)) id g ≡ game_row rules (terms_at (place events h.event)) id h
        → ruling_rows id g ≡ ruling_rows id h
        → move_rows rules (terms_at (place events g.event)) id g
        ≡ move_rows rules (terms_at (place events h.event)) id h → g ≡ h
    one-alike rules reads id g h this that is ruled moves =
        let event : h.event ≡ g.event = cc in
        let terms = ap (λ n. terms_at (place events n)) event in
        games-alike rules reads (terms_at (place events g.event)) id g h this (rw terms at that) (rw terms at is) ruled
        (rw terms at moves)

    -- and of two
    no-kind : (id : ℕ) (g : Game DM) (h : Game SM) → Stands (draughts g) → Stands (shogi h)
        → row id (draughts g) ≡ row id (shogi h) → ⊥
    no-kind id g h this that is =
        let event : g.event ≡ h.event = cc in
        absurd cc

    any-alike : (id : ℕ) (x y : AnyGame DM SM) → Stands x → Stands y → row id x ≡ row id y
        → rows_of_rulings id x ≡ rows_of_rulings id y → rows id x ≡ rows id y → x ≡ y
    any-alike id (draughts g) (draughts h) this that is ruled moves =
        ap draughts (one-alike kinds.draughts reads-draughts id g h this.0 that.0 is ruled moves)
    any-alike id (shogi g) (shogi h) this that is ruled moves =
        ap shogi (one-alike kinds.shogi reads-shogi id g h this.0 that.0 is ruled moves)
    any-alike id (draughts g) (shogi h) this that is ruled moves = absurd (no-kind id g h this that is)
    any-alike id (shogi g) (draughts h) this that is ruled moves = absurd (no-kind id h g that this (sym is))

    plies-alike : (id : ℕ) (x y : AnyGame DM SM) → row id x ≡ row id y → plies_in x ≡ plies_in y
    plies-alike id x y is = grind arith

    rows-long : (id : ℕ) (x : AnyGame DM SM) → length (rows id x) ≡ plies_in x
    rows-long id (draughts g) = rows-count kinds.draughts (terms_at (place events g.event)) id (at_start g) g.entries
    rows-long id (shogi g) = rows-count kinds.shogi (terms_at (place events g.event)) id (at_start g) g.entries

    all-alike : (id : ℕ) (xs ys : List (AnyGame DM SM)) → Each Stands xs → Each Stands ys
        → numbered_from row id xs ≡ numbered_from row id ys
        → gathered_from rows_of_rulings id xs ≡ gathered_from rows_of_rulings id ys
        → gathered_from rows id xs ≡ gathered_from rows id ys → xs ≡ ys
    all-alike id [] [] these those is ruled moves = refl
    all-alike id (x ∷ xs) (y ∷ ys) these those is ruled moves =
        let (ruled_here, ruled_later) = apart-alike id (rows_of_rulings id x) (rows_of_rulings id y) _ _
        (rulings_begin id x) (rulings_begin id y) (none-begins rows_of_rulings rulings_begin id xs)
        (none-begins rows_of_rulings rulings_begin id ys) ruled in
        let here : row id x ≡ row id y = cc in
        let (front, back) = parts-alike (rows id x) (rows id y) _ _
        (rows-long id x ∙ (plies-alike id x y here ∙ sym (rows-long id y))) moves in
        let head : x ≡ y = any-alike id x y (these zero x refl) (those zero y refl) here ruled_here front in
        let tail : xs ≡ ys =
        all-alike (suc id) xs ys (λ n z at. these (suc n) z at) (λ n z at. those (suc n) z at) (cc)
        ruled_later back in
        λ i. head i ∷ tail i
    all-alike id xs ys these those is ruled moves = cc

  stands : {P M E T : Type 0} (rules : GameRules P M E T) (kind : GameKind) (s : State DM SM) (g : Game M)
      → IsGameOf rules kind s g → IsLegalGame rules (terms_at (place s.events g.event)) g
      × (kind_at (place s.events g.event) ≡ kind)
  stands rules kind s g is = (rw is.in_event is.legal, ap kind_at is.in_event ∙ is.of_kind)

  all-stand : (s : State DM SM) → IsLegalState kinds s → Each (Stands s.events) s.games
  all-stand s legal n (draughts g) at = stands kinds.draughts Draughts s g (legal.games n (draughts g) at)
  all-stand s legal n (shogi g) at = stands kinds.shogi Shogi s g (legal.games n (shogi g) at)

  pub clubs-alike : (s t : State DM SM) → IsLegalState kinds s → IsLegalState kinds t
      → ((n : ℕ) → tables_of kinds s n ≡ tables_of kinds t n) → s ≡ t
  clubs-alike s t this that same =
      let metas = same 0 in
      let last : s.last ≡ t.last = cc in
      let numbers : schema_number (version_of s) ≡ schema_number (version_of t) = cc in
      let arbiter : s.has_arbiter ≡ t.has_arbiter = arbiter-alike s.has_arbiter t.has_arbiter numbers in
      let members : s.members ≡ t.members =
      numbered-alike member_row member_row rows_of_keys keys-begin members-alike 1 s.members t.members (same 1) (same 1)
      (same 17) in
      let events : s.events ≡ t.events =
      numbered-alike event_row rule_row rows_of_closing closings-begin events-alike 1 s.events t.events (same 4)
      (same 16) (same 22) in
      let games : s.games ≡ t.games =
      all-alike s.events 1 s.games t.games (all-stand s this) (rw (← events) at (all-stand t that))
      (same 10 ∙ ap (λ es. numbered_from (row_of_game kinds es) 1 t.games) (sym events)) (same 20)
      (same 8 ∙ ap (λ es. gathered_from (rows_of_moves kinds es) 1 t.games) (sym events)) in
      let challenges : s.challenges ≡ t.challenges = challenge-rows-alike s.challenges t.challenges (same 6) in
      λ i. record {
        has_arbiter = arbiter i;
        last = last i;
        members = members i;
        events = events i;
        games = games i;
        challenges = challenges i;
      }
