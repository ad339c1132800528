-- What is added to a legal state, or put in place of what it has, leaves it legal.
use Rattle.std.proofs.Common.{◌≡◌, ◌≢◌, ℕ, zero, suc, ◌+◌, ◌-◌, ◌<◌, ◌≤◌, List, [], ◌∷◌, ◌++◌, length, map, Option}
use Rattle.std.proofs.Common.{Some, None, Bool, true, false, not, ◌&&◌, refl, sym, ap, ◌∙◌, arith, length-append}
use Rattle.std.proofs.Common.{length-set, inl, inr}
use Rattle.std.specs.Prelude.{IsTrue, IsSome, IfSome, slice_get, slice_set}
use Rattle.squares.specs.declared.sides.Side.{Side}
use Rattle.squares.specs.declared.sides.Side.TheVariants.{First}
use Rattle.squares.specs.Sides.{other}
use Rattle.club_rules.specs.declared.names.GameKind.{GameKind}
use Rattle.club_rules.specs.declared.names.GameKind.TheVariants.{Draughts, Shogi}
use Rattle.club_rules.specs.GameRules.{GameRules}
use Rattle.club_requests.specs.declared.outside_end.OutsideEnd.TheVariants.{Time}
use Rattle.club_requests.specs.Limits.{last_moment, most_members, most_events, most_games, is_name, is_member_key}
use Rattle.club_requests.specs.Limits.{is_budget, is_increment, most_keys}
use Rattle.club_requests.specs.Outcome.{Reply}
use Rattle.std.specs.List.{list_any}
use Rattle.std.specs.Str.{bytes_eq}
use Rattle.club_core.specs.ClubRules.{ClubRules}
use Rattle.club_core.specs.declared.challenges.Challenge.{Challenge}
use Rattle.club_core.specs.declared.challenges.ChallengeState.{ChallengeState}
use Rattle.club_core.specs.declared.challenges.ChallengeState.TheVariants.{Accepted}
use Rattle.club_core.specs.declared.seats.Pairing.{Pairing}
use Rattle.club_core.specs.Members.{Member, find_id, had_key, has_name_or_key, keys_of, member_tests}
use Rattle.club_core.specs.Keys.{is_key_number, with_key}
use Rattle.club_core.specs.Closings.{closed_at}
use Rattle.club_core.specs.Events.{Terms, Event, has_event_name, has_good_values, event_tests, declaring}
use Rattle.club_core.specs.Challenges.{key_of_challenge, put_challenge, pairing_for, standing_as}
use Rattle.club_core.specs.Rulings.{GivenRuling}
use Rattle.club_core.specs.Game.{Game, Entry, Clocks, after_rulings, spend, spend_all, opening_clocks, clocks_then}
use Rattle.club_core.specs.Game.{clocks_of, left_of, turn_of}
use Rattle.club_core.specs.State.{AnyGame, draughts, shogi, State, place, key_of, has_key, pairing_of, rulings_of}
use Rattle.club_core.specs.State.{seated}
use Rattle.club_core.specs.State.{seated_as}
use Rattle.club_core.specs.State.{with_members, with_events, with_imported, with_game, with_challenge}
use Rattle.club_core.specs.Legal.{IsLegalGame}
use Rattle.club_core.specs.LegalState.{Each, IsLegalMember, IsLegalEvent, IsGameOf, IsLegalIn, IsLegalChallenge}
use Rattle.club_core.specs.LegalState.{HaveUniqueKeys, HaveUniqueKeysIfAny, IsLegalState}
use Rattle.club_core.proofs.Proved.{NoneHolds, IsPlayedLine-none, no-rulings, since-after}
use Rattle.club_laws.proofs.ArbiterSteps.{WasKeyed, WasClosed}
use Rattle.club_laws.proofs.GameSteps.{IsLaterGame, later-game-refl}
use Rattle.club_laws.proofs.ImportedGames.{spend-since}
use Rattle.club_laws.proofs.Later.{IsLater, IsLaterAny, key-later, pairing-later, place-later, members-later}
use Rattle.club_laws.proofs.Later.{events-later, keyed-later, closing-later, game-added-later, game-later}
use Rattle.club_laws.proofs.LaterParts.{IsLaterMember, IsLaterEvent, place-each-later, some-later}
use Rattle.club_laws.proofs.KeyOwners.{added-key, given-key, keys-apart}
use Rattle.club_laws.proofs.Lists.{both-true, bytes_eq-same, each-append, each-set, apart-set, got-set}
use Rattle.club_laws.proofs.Lists.{find_id-found, or-false, list_any-false, are_apart-append, are_apart_if_any-append}
use Rattle.club_laws.proofs.PutChallenges.{each-put, apart-put}
use Rattle.club_laws.proofs.SeatSteps.{nat_le-false}

pub not-false : (b : Bool) → not b ≡ false → b ≡ true
not-false true is = refl
not-false false is = cc

pub not-true : (b : Bool) → not b ≡ true → b ≡ false
not-true true is = cc
not-true false is = refl

pub three-true : (a b c : Bool) → (a && b && c) ≡ true → (a ≡ true) × (b ≡ true) × (c ≡ true)
three-true true true true is = (refl, refl, refl)
three-true true true false is = cc
three-true true false c is = cc
three-true false b c is = cc

pub false-true : (b : Bool) → b ≡ false → b ≡ true → ⊥
false-true true is_false is_true = cc
false-true false is_false is_true = cc

-- the event is open, or was closed no later than at a timestamp
abbrev pub IsClosedBy : ℕ → Event → Type 0
IsClosedBy last e = IfSome e.closed (λ moment. moment ≤ last)

closed-rises : (closed : Option ℕ) (a b : ℕ) → a ≤ b → IfSome closed (λ moment. moment ≤ a)
    → IfSome closed (λ moment. moment ≤ b)
closed-rises None a b rises is = tt
closed-rises (Some moment) a b rises is = omega (arith, rises, is)

-- nobody has or had the key of a new member
none-had : (all : List Member) (name key : List ℕ) → list_any (has_name_or_key name key) all ≡ false
    → list_any (had_key key) all ≡ false
none-had [] name key none = refl
none-had (m ∷ ms) name key none =
    let parts = or-false (has_name_or_key name key m) _ none in
    let here = or-false (bytes_eq m.name name) (had_key key m) parts.0 in
    rw (here.1, none-had ms name key parts.1) refl

-- the clocks run from a moment that is at most the last
since-within : {M : Type 0} (increment : ℕ) (rs : List GivenRuling) (plies : ℕ) (side : Side) (es : List (Entry M))
    (c : Clocks) (last : ℕ) → c.since ≤ last → Each (λ e. e.moment ≤ last) es
    → (spend_all increment rs plies side (map (λ e. e.moment) es) c).since ≤ last
since-within increment rs plies side [] c last within each = within
since-within increment rs plies side (e ∷ es) c last within each =
    let now = after_rulings rs plies c in
    since-within increment rs (suc plies) (other side) es (spend increment side e.moment now) last
    (rw (spend-since increment side e.moment now) (each 0 e refl)) (λ n x at. each (suc n) x at)

pub since-until : {M : Type 0} (terms : Terms) (game : Game M) (last : ℕ) → game.start ≤ last
    → Each (λ e. e.moment ≤ last) game.entries → (clocks_of game terms).since ≤ last
since-until terms game last start each =
    rw (since-after game.rulings (length game.entries) (clocks_then game terms))
    (since-within terms.increment game.rulings 0 First game.entries (opening_clocks game terms) last start each)

-- a legal game of which nothing is after a moment
pub record IsLegalAt {P M E T : Type 0} (laws : GameRules P M E T) (terms : Terms) (moment : ℕ) (game : Game M)
    : Type 0 where
  pub legal : IsLegalGame laws terms game
  pub entries : Each (λ e. e.moment ≤ moment) game.entries
  pub rulings : Each (λ r. r.moment ≤ moment) game.rulings
  pub lost_by_time : game.outside ≡ Some Time
      → (clocks_of game terms).since + left_of (turn_of laws game) (clocks_of game terms) < moment

module _ {DM SM P M E T : Type 0} (laws : GameRules P M E T) (kind : GameKind) where
  pub legal-at : (s : State DM SM) (moment : ℕ) (game : Game M) (of : IsGameOf laws kind s game) → s.last ≤ moment
      → IsLegalAt laws of.event.terms moment game
  legal-at s moment game of later =
      record {
        legal = of.legal;
        entries = λ n e at. let was : e.moment ≤ s.last = of.entries n e at in omega (arith, was, later);
        rulings = λ n r at. let was : r.moment ≤ s.last = of.rulings n r at in omega (arith, was, later);
        lost_by_time = λ is. let was = of.lost_by_time is in omega (arith, was, later);
      }

  -- a game that was just seated is legal
  seated-game : (t : State DM SM) (key : Option (List ℕ)) (pairing : Pairing) (moment : ℕ) (e : Event)
      → place t.events pairing.event ≡ Some e → e.game ≡ kind → IsSome (place t.members pairing.first)
      → IsSome (place t.members pairing.second) → pairing.first ≢ pairing.second → IfSome key (λ k. IsTrue (is_name k))
      → moment ≤ t.last → IsGameOf laws kind t (seated {M = M} key pairing moment)
  seated-game t key pairing moment e found of_kind is_first is_second apart named now =
      record {
        event = e;
        in_event = found;
        of_kind = of_kind;
        legal = record {
          line = IsPlayedLine-none laws laws.start;
          plies = omega arith;
          timely = tt;
          outside_alone = λ some. cc;
          offer = tt;
          outside = tt;
          players = apart;
          rulings = no-rulings laws e.terms (seated key pairing moment) refl;
        };
        first = is_first;
        second = is_second;
        key = named;
        start = now;
        entries = λ n x at. cc;
        rulings = λ n x at. cc;
        lost_by_time = λ is. cc;
      }

-- a challenge of a legal one's members and event is legal, where a game that it names is the one that it is to
pub restanding : {DM SM : Type 0} (s : State DM SM) (c : Challenge) (standing : ChallengeState) → IsLegalChallenge s c
    → ((id : ℕ) → standing ≡ Accepted id → (game : AnyGame DM SM) × (place s.games id ≡ Some game)
    × (pairing_of game ≡ pairing_for c)) → IsLegalChallenge s (standing_as c standing)
restanding s c standing is names =
    record {
      number = is.number;
      member = is.member;
      other = is.other;
      apart = is.apart;
      event = is.event;
      accepted = names;
    }

module _ {DP DM DE DT SP SM SE ST : Type 0} (kinds : ClubRules DP DM DE DT SP SM SE ST) where
  -- what is legal in a state is legal in a later one
  module _ (s t : State DM SM) (later : IsLater kinds s t) where
    later-member : (id : ℕ) → IsSome (place s.members id) → IsSome (place t.members id)
    later-member = some-later IsLaterMember s.members t.members later.members

    -- a later game of a legal one is legal, where its line and its moments are
    pub changed-game : {P M E T : Type 0} (laws : GameRules P M E T) (kind : GameKind) (game new : Game M)
        (of : IsGameOf laws kind s game) → IsLaterGame laws game new → IsLegalAt laws of.event.terms t.last new
        → IsGameOf laws kind t new
    changed-game laws kind game new of is legal =
        let (event, in_event, is_later) = place-each-later IsLaterEvent s.events t.events later.events game.event
        of.event of.in_event in
        let terms : event.terms ≡ of.event.terms = ap (λ e. e.terms) is_later.same in
        record {
          event = event;
          in_event = rw (ap (λ g. g.event) is.head) in_event;
          of_kind = ap (λ e. e.game) is_later.same ∙ of.of_kind;
          legal = rw terms legal.legal;
          first = rw (ap (λ g. g.first) is.head) (later-member game.first of.first);
          second = rw (ap (λ g. g.second) is.head) (later-member game.second of.second);
          key = rw (ap (λ g. g.key) is.head) of.key;
          start = let same = ap (λ g. g.start) is.head in omega (arith, same, of.start, later.last);
          entries = legal.entries;
          rulings = legal.rulings;
          lost_by_time = rw terms legal.lost_by_time;
        }

    any-later : (g : AnyGame DM SM) → IsLegalIn kinds s g → IsLegalIn kinds t g
    any-later (draughts game) of =
        changed-game kinds.draughts Draughts game game of (later-game-refl kinds.draughts game)
        (legal-at kinds.draughts Draughts s t.last game of later.last)
    any-later (shogi game) of =
        changed-game kinds.shogi Shogi game game of (later-game-refl kinds.shogi game)
        (legal-at kinds.shogi Shogi s t.last game of later.last)

    pub challenge-stays : (c : Challenge) → IsLegalChallenge s c → IsLegalChallenge t c
    challenge-stays c is =
        record {
          number = is.number;
          member = later-member c.member is.member;
          other = later-member c.other is.other;
          apart = is.apart;
          event = some-later IsLaterEvent s.events t.events later.events c.event is.event;
          accepted = λ id stands.
              let (game, at, of) = is.accepted id stands in
              let (new, at_new, is_later) = place-later kinds s t later id game at in
              (new, at_new, pairing-later kinds game new is_later ∙ of);
        }

    games-stay : IsLegalState kinds s → Each (IsLegalIn kinds t) s.games
    games-stay legal = λ n g at. any-later g (legal.games n g at)

    challenges-stay : IsLegalState kinds s → Each (IsLegalChallenge t) s.challenges
    challenges-stay legal = λ n c at. challenge-stays c (legal.challenges n c at)

    closings-stay : IsLegalState kinds s → Each (IsClosedBy t.last) s.events
    closings-stay legal = λ n e at. closed-rises e.closed s.last t.last later.last (legal.closings n e at)

  module _ (s : State DM SM) (moment : ℕ) (rises : s.last ≤ moment) (within : moment ≤ last_moment)
      (legal : IsLegalState kinds s) where
    -- a member is added
    pub members-added : (name key : List ℕ) → NoneHolds (member_tests s.members name key)
        → IsLegalState kinds (with_members s moment (s.members ++ record { name = name; key = key; later = [] } ∷ []))
    members-added name key tests =
        let good = both-true (is_name name) (is_member_key key) (not-false _ tests.1.0) in
        let room : length s.members < most_members = nat_le-false _ _ tests.1.1.0 in
        let other's = λ (n : ℕ) (x : Member) (at : slice_get s.members n ≡ Some x). or-false _ _
        (list_any-false (has_name_or_key name key) s.members tests.0 n x at) in
        let later = members-later kinds s moment rises (record { name = name; key = key; later = [] } ∷ []) in
        record {
          last = within;
          members = each-append IsLegalMember s.members _ legal.members
              (record { name = good.0; key = good.1; later = λ n x at. cc; later_count = omega arith });
          member_count = let count : length (s.members ++ record { name = name; key = key; later = [] } ∷ [])
              ≡ length s.members + 1 = simp length-append in omega (arith, count, room);
          member_names = are_apart-append (λ m. m.name) s.members _ legal.member_names
              (λ n x at same. false-true _ (other's n x at).0 (bytes_eq-same x.name name same));
          member_keys = keys-apart s.members _ key (length s.members) 0 legal.member_keys
              (none-had s.members name key tests.0) (added-key s.members name key);
          events = legal.events;
          event_count = legal.event_count;
          event_names = legal.event_names;
          closings = closings-stay s _ later legal;
          games = games-stay s _ later legal;
          game_count = legal.game_count;
          game_keys = legal.game_keys;
          challenges = challenges-stay s _ later legal;
          challenge_numbers = legal.challenge_numbers;
          without_arbiter = λ none.
              let without = legal.without_arbiter none in
              record {
                keys = each-append (λ m. m.later ≡ []) s.members _ without.keys refl;
                events = without.events;
                games = without.games;
              };
        }

    -- a member is given another key
    pub member-keyed : (name : List ℕ) (number : ℕ) (key : List ℕ) (new : List Member) (reply : Reply)
        → s.has_arbiter ≡ true → WasKeyed s.members name number key new reply
        → IsLegalState kinds (with_members s moment new)
    member-keyed name number key new reply has was =
        let m = was.member in
        let i = was.id - 1 in
        let keyed = with_key m key in
        let good = both-true (is_member_key key) (is_key_number m number) (not-false _ was.tests.1.1.0) in
        let room : length m.later < most_keys = nat_le-false _ _ was.tests.1.1.1.0 in
        let later = keyed-later kinds s moment rises i m key was.stood in
        let old = legal.members i m was.stood in
        rw (← was.stands)
        (record {
          last = within;
          members = each-set IsLegalMember s.members i keyed legal.members
              (record {
                name = old.name;
                key = old.key;
                later = each-append (λ k. IsTrue (is_member_key k)) m.later key old.later good.0;
                later_count = let count : length (m.later ++ key ∷ []) ≡ length m.later + 1 = simp length-append in
                    omega (arith, count, room);
              });
          member_count = let count : length (slice_set s.members i keyed) ≡ length s.members = simp length-set in
              let few = legal.member_count in
              omega (arith, count, few);
          member_names = apart-set (λ u. u.name) s.members i m keyed was.stood refl legal.member_names;
          member_keys = keys-apart s.members _ key i (length (keys_of m)) legal.member_keys was.tests.1.0
              (given-key s.members i m key was.stood);
          events = legal.events;
          event_count = legal.event_count;
          event_names = legal.event_names;
          closings = closings-stay s _ later legal;
          games = games-stay s _ later legal;
          game_count = legal.game_count;
          game_keys = legal.game_keys;
          challenges = challenges-stay s _ later legal;
          challenge_numbers = legal.challenge_numbers;
          without_arbiter = λ none. absurd (false-true s.has_arbiter none has);
        })

    -- an event is closed
    pub event-closed : (name : List ℕ) (new : List Event) (reply : Reply) → s.has_arbiter ≡ true
        → WasClosed s.events name moment new reply → IsLegalState kinds (with_events s moment new)
    event-closed name new reply has was =
        let e = was.event in
        let i = was.id - 1 in
        let closed = closed_at e moment in
        let later = closing-later kinds s moment rises i e was.stood was.was_open in
        let old = legal.events i e was.stood in
        rw (← was.stands)
        (record {
          last = within;
          members = legal.members;
          member_count = legal.member_count;
          member_names = legal.member_names;
          member_keys = legal.member_keys;
          events = each-set IsLegalEvent s.events i closed legal.events
              (record { name = old.name; budget = old.budget; increment = old.increment });
          event_count = let count : length (slice_set s.events i closed) ≡ length s.events = simp length-set in
              let few = legal.event_count in
              omega (arith, count, few);
          event_names = apart-set (λ u. u.name) s.events i e closed was.stood refl legal.event_names;
          closings = each-set (IsClosedBy moment) s.events i closed (closings-stay s _ later legal) (omega arith);
          games = games-stay s _ later legal;
          game_count = legal.game_count;
          game_keys = legal.game_keys;
          challenges = challenges-stay s _ later legal;
          challenge_numbers = legal.challenge_numbers;
          without_arbiter = λ none. absurd (false-true s.has_arbiter none has);
        })

    -- an event is added
    pub events-added : (event : Event) → NoneHolds (event_tests s.events event)
        → IsLegalState kinds (with_events s moment (s.events ++ declaring event ∷ []))
    events-added event tests =
        let good : has_good_values event ≡ true = not-false _ tests.1.0 in
        let values = three-true (is_name event.name) (is_budget event.terms.budget)
        (is_increment event.terms.increment) good in
        let room : length s.events < most_events = nat_le-false _ _ tests.1.1.0 in
        let later = events-later kinds s moment rises (declaring event ∷ []) in
        record {
          last = within;
          members = legal.members;
          member_count = legal.member_count;
          member_names = legal.member_names;
          member_keys = legal.member_keys;
          events = each-append IsLegalEvent s.events (declaring event) legal.events
              (record { name = values.0; budget = values.1; increment = values.2 });
          event_count = let count : length (s.events ++ declaring event ∷ [])
              ≡ length s.events + 1 = simp length-append in
              omega (arith, count, room);
          event_names = are_apart-append (λ e. e.name) s.events (declaring event) legal.event_names
              (λ n x at same. false-true _ (list_any-false (has_event_name event.name) s.events tests.0 n x at)
              (bytes_eq-same x.name event.name same));
          closings = each-append (IsClosedBy moment) s.events (declaring event) (closings-stay s _ later legal) tt;
          games = games-stay s _ later legal;
          game_count = legal.game_count;
          game_keys = legal.game_keys;
          challenges = challenges-stay s _ later legal;
          challenge_numbers = legal.challenge_numbers;
          without_arbiter = λ none.
              let without = legal.without_arbiter none in
              record {
                keys = without.keys;
                events = each-append (λ e. e.closed ≡ None) s.events (declaring event) without.events refl;
                games = without.games;
              };
        }

    -- games are added or changed, and challenges put
    with-parts : (all : List (AnyGame DM SM)) (put : List Challenge) (later : IsLater kinds s
        (record s { last = moment; games = all; challenges = put }))
        → Each (IsLegalIn kinds (record s { last = moment; games = all; challenges = put })) all
        → length all ≤ most_games → HaveUniqueKeysIfAny (λ g. key_of g) all
        → Each (IsLegalChallenge (record s { last = moment; games = all; challenges = put })) put
        → HaveUniqueKeys key_of_challenge put
        → (s.has_arbiter ≡ false → Each (λ g. rulings_of g ≡ []) all)
        → IsLegalState kinds (record s { last = moment; games = all; challenges = put })
    with-parts all put later games count keys challenges numbers no_ruling =
        record {
          last = within;
          members = legal.members;
          member_count = legal.member_count;
          member_names = legal.member_names;
          member_keys = legal.member_keys;
          events = legal.events;
          event_count = legal.event_count;
          event_names = legal.event_names;
          closings = closings-stay s _ later legal;
          games = games;
          game_count = count;
          game_keys = keys;
          challenges = challenges;
          challenge_numbers = numbers;
          without_arbiter = λ none. let without = legal.without_arbiter none in
              record { keys = without.keys; events = without.events; games = no_ruling none };
        }

    -- a challenge is put, which follows from the one in its place
    pub challenge-put : (c : Challenge) → IsLater kinds s (with_challenge s moment c) → IsLegalChallenge s c
        → IsLegalState kinds (with_challenge s moment c)
    challenge-put c later is_legal =
        with-parts s.games (put_challenge s.challenges c) later (games-stay s _ later legal) legal.game_count
        legal.game_keys
        (each-put (IsLegalChallenge (with_challenge s moment c)) s.challenges c (challenges-stay s _ later legal)
        (challenge-stays s _ later c is_legal)) (apart-put s.challenges c legal.challenge_numbers)
        (λ none. let without = legal.without_arbiter none in without.games)

    -- a game is added, whose key no other game has
    pub any-added : (new : AnyGame DM SM) → IsLegalIn kinds (with_imported s moment new) new → rulings_of new ≡ []
        → length s.games < most_games → ((n : ℕ) (g : AnyGame DM SM) (b : List ℕ) → slice_get s.games n ≡ Some g
        → key_of g ≡ Some b → key_of new ≡ Some b → ⊥) → IsLegalState kinds (with_imported s moment new)
    any-added new is_legal no_ruling room apart =
        let later = game-added-later kinds s moment rises new in
        let count : length (s.games ++ new ∷ []) ≡ length s.games + 1 = simp length-append in
        with-parts (s.games ++ new ∷ []) s.challenges later
        (each-append (IsLegalIn kinds (with_imported s moment new)) s.games new (games-stay s _ later legal) is_legal)
        (omega (arith, count, room)) (are_apart_if_any-append (λ g. key_of g) s.games new legal.game_keys apart)
        (challenges-stay s _ later legal) legal.challenge_numbers
        (λ none.
        let without = legal.without_arbiter none in
        each-append (λ g. rulings_of g ≡ []) s.games new without.games no_ruling)

    -- a game is added under a key that is free
    pub game-added : (new : AnyGame DM SM) (key : List ℕ) → IsLegalIn kinds (with_imported s moment new) new
        → rulings_of new ≡ [] → length s.games < most_games → key_of new ≡ Some key
        → ((n : ℕ) (g : AnyGame DM SM) → slice_get s.games n ≡ Some g → has_key key g ≡ false)
        → IsLegalState kinds (with_imported s moment new)
    game-added new key is_legal no_ruling room keyed fresh =
        any-added new is_legal no_ruling room
        (λ n g b at has same. false-true _ (rw has at (fresh n g at))
        (bytes_eq-same b key (let both : Some b ≡ Some key = sym same ∙ keyed in cc)))

    -- games are changed, each into one that has its key
    pub games-changed : (all : List (AnyGame DM SM)) → IsLater kinds s (record s { last = moment; games = all })
        → length all ≡ length s.games → ((n : ℕ) (new : AnyGame DM SM) → slice_get all n ≡ Some new
        → (old : AnyGame DM SM) × (slice_get s.games n ≡ Some old) × (key_of new ≡ key_of old)
        × (s.has_arbiter ≡ false → rulings_of new ≡ rulings_of old)
        × IsLegalIn kinds (record s { last = moment; games = all }) new)
        → IsLegalState kinds (record s { last = moment; games = all })
    games-changed all later count was =
        with-parts all s.challenges later
        (λ n new at. let (old, stood, key, ruled, is_legal) = was n new at in is_legal)
        (let few = legal.game_count in omega (arith, count, few))
        (λ i j a b key at_i at_j key_i key_j.
        let (x, stood_x, key_x, _, _) = was i a at_i in
        let (y, stood_y, key_y, _, _) = was j b at_j in
        legal.game_keys i j x y key stood_x stood_y (sym key_x ∙ key_i) (sym key_y ∙ key_j))
        (challenges-stay s _ later legal) legal.challenge_numbers
        (λ none n new at.
        let (old, stood, key, ruled, is_legal) = was n new at in
        let without = legal.without_arbiter none in
        ruled none ∙ without.games n old stood)

    -- a game is changed
    pub game-changed : (id : ℕ) (old new : AnyGame DM SM) → place s.games id ≡ Some old → IsLaterAny kinds old new
        → (s.has_arbiter ≡ false → rulings_of new ≡ rulings_of old)
        → IsLegalIn kinds (with_game s moment id new) new → IsLegalState kinds (with_game s moment id new)
    game-changed zero old new at is_later no_ruling is_legal = cc
    game-changed (suc k) old new at is_later no_ruling is_legal =
        let before : suc k - 1 ≡ k = omega arith in
        let later = game-later kinds s moment rises (suc k) old new at is_later in
        games-changed (slice_set s.games (suc k - 1) new) later (simp length-set)
        (λ n x is.
        elim (got-set s.games (suc k - 1) new n x is) [
          | inl stays ↦ (x, stays, refl, (λ none. refl), games-stay s _ later legal n x stays)
          | inr put ↦ (
            old,
            rw (put.0, before) at,
            rw (← put.1) (key-later kinds old new is_later),
            rw (← put.1) no_ruling,
            rw (← put.1) is_legal,
          )
        ])

  pub any-seated : (kind : GameKind) (t : State DM SM) (key : Option (List ℕ)) (pairing : Pairing) (moment : ℕ)
      (e : Event)
      → place t.events pairing.event ≡ Some e → e.game ≡ kind → IsSome (place t.members pairing.first)
      → IsSome (place t.members pairing.second) → pairing.first ≢ pairing.second → IfSome key (λ k. IsTrue (is_name k))
      → moment ≤ t.last → IsLegalIn kinds t (seated_as kind key pairing moment)
  any-seated Draughts t = seated-game kinds.draughts Draughts t
  any-seated Shogi t = seated-game kinds.shogi Shogi t

pub found-some : {A : Type 0} (test : A → Bool) (xs : List A) (id : ℕ) → find_id test xs ≡ Some id
    → IsSome (place xs id)
found-some test xs id is = let (x, at, _) = find_id-found test xs id is in rw at refl
