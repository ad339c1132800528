-- The challenges that rows show.
use Rattle.std.proofs.Common.{◌≡◌, ℕ, zero, suc, ◌+◌, ◌<◌, ◌≤◌, ◌^◌, pos, List, [], ◌∷◌, length, map, Some, true, refl}
use Rattle.std.proofs.Common.{ap, sym, subst, ◌∙◌, arith}
use Rattle.std.specs.Prelude.{slice_get}
use Rattle.std.proofs.lemmas.Grind.{common_steps}
use Rattle.sqlite_rules.proofs.ListLemmas.{has_got}
use Rattle.club_core.specs.declared.challenges.Challenge.{Challenge}
use Rattle.club_core.specs.declared.challenges.ChallengeState.{ChallengeState}
use Rattle.club_core.specs.declared.challenges.ChallengeState.TheVariants.{Accepted}
use Rattle.club_core.specs.Challenges.{key_of_challenge, pairing_for}
use Rattle.club_core.specs.LegalState.{Each, HaveUniqueKeys, IsLegalChallenge}
use Rattle.club_requests.specs.Limits.{is_challenge_number}
use Rattle.club_core.specs.declared.seats.Pairing.{Pairing}
use Rattle.club_core.specs.State.{place, pairing_of}
use Rattle.club_laws.proofs.Proved.{map-at, map-got}
use Rattle.store_tables.specs.Cells.{event_cells, game_cells}
use Rattle.store_tables.specs.internal.Cells.{challenge_cells, member_cells}
use Rattle.store_tables.specs.declared.rows.ChallengeRow.{ChallengeRow}
use Rattle.store_tables.specs.declared.rows.GameTableRow.{GameTableRow}
use Rattle.store_tables.specs.declared.rows.Rows.{Rows}
use Rattle.store_tables.proofs.Proved.{same_by}
use Rattle.club_rows.specs.internal.ChallengeRows.{HasShortGame}
use Rattle.club_rows.specs.Club.{both_games, ClubGame, ClubState, IsClub}
use Rattle.club_rows.specs.EachOnce.{AreEachOnce}
use Rattle.club_rows.specs.Tables.{challenge_row, event_row, member_row, numbered_from, row_of_game}
use Rattle.club_rows.proofs.Proved.{challenge-had, mapped_has}
use Rattle.club_audit.specs.internal.Audit.{HasPeople}
use Rattle.club_audit.specs.internal.ChallengeAudit.{AreChallenges, HasItsGame, IsChallengeAmong, IsChallengeOf}
use Rattle.club_audit.specs.internal.ChallengeAudit.{IsGameAmong}
use Rattle.club_audit.specs.internal.ChallengeAudit.{IsRowOfPairing}
use Rattle.club_audit.specs.internal.ChallengeKeys.{key_in}
use Rattle.club_audit.proofs.AuditLemmas.{game-told}
use Rattle.club_audit.proofs.GameLemmas.{placed-some, some-placed}
use Rattle.club_audit.proofs.PlacedLemmas.{each-cons, numbered-at, numbered-back, numbered-length}

-- ---- the game of a challenge

accepted-same : (a b : ℕ) → ◌≡◌ {A = ChallengeState} (Accepted a) (Accepted b) → a ≡ b
accepted-same a b is = cc

-- a game that an accepted challenge names, and whose row is of its event and its members, is the one
pub its-game-found : (games : List GameTableRow) (c : Challenge) (id : ℕ) → c.standing ≡ Accepted id
    → IsGameAmong games id (pairing_for c) → HasItsGame games c
its-game-found games c id is among =
    λ n stands. subst (λ k. IsGameAmong games k (pairing_for c)) (accepted-same id n (sym is ∙ stands)) among

-- the row is not of the game with this id, or not of this event and these players
abbrev pub IsOther : ℕ → Pairing → GameTableRow → Type 0
IsOther id pairing row = row.id ≡ pos id → ¬ IsRowOfPairing row pairing

pub none-among : (games : List GameTableRow) (id : ℕ) (pairing : Pairing)
    → ((k : ℕ) (row : GameTableRow) → slice_get games k ≡ Some row → IsOther id pairing row)
    → ¬ IsGameAmong games id pairing
none-among games id pairing none among = none among.place among.row among.at among.id_is among.of

-- ---- keys

-- rows of challenges have one key exactly where the challenges go by one
numbers-key : (r s : ChallengeRow) (c d : Challenge) → challenge_cells r ≡ challenge_row c
    → challenge_cells s ≡ challenge_row d → (key_of_challenge c ≡ key_of_challenge d → key_in r ≡ key_in s)
    × (key_in r ≡ key_in s → key_of_challenge c ≡ key_of_challenge d)
numbers-key r s c d r_is s_is = (
  λ same. cc (ap (λ p. p.0) same, ap (λ p. p.1) same),
  λ same. cc (ap (λ k. k.member) same, ap (λ k. k.number) same),
)

-- ---- the rows of a club's challenges

module _ (rows : Rows) where
  -- rows, each of them that of a challenge, are the rows of a list
  challenges-from : (rs : List ChallengeRow) → Each (IsChallengeOf rows) rs → (cs : List Challenge)
      × (map challenge_cells rs ≡ map challenge_row cs) × Each (IsChallengeAmong rows) cs
      × Each (λ c. HasShortGame c.standing) cs
  challenges-from [] each = ([], refl, λ n x at. cc, λ n x at. cc)
  challenges-from (r ∷ rs) each =
      let one = each 0 r refl in
      let rest = challenges-from rs (λ n x at. each (suc n) x at) in
      let head = one.cells in
      let tail = rest.1 in (
        one.challenge ∷ rest.0,
        (λ i. head i ∷ tail i),
        each-cons (IsChallengeAmong rows) one.challenge rest.0 one.among rest.2,
        each-cons (λ (c : Challenge). HasShortGame c.standing) one.challenge rest.0 one.short.game rest.3,
      )

  pub challenges-are : Each (IsChallengeOf rows) rows.challenges.items → HaveUniqueKeys key_in rows.challenges.items
      → (cs : List Challenge) × AreChallenges cs rows
  challenges-are each apart =
      let rs = rows.challenges.items in
      let (cs, same, legal, short) = challenges-from rs each in (
        cs,
        record {
          rows_are = record {
            same = same_by _ _ same;
            once = λ i j z one two.
                let (r, at, r_is) = map-got challenge_cells rs i z one in
                let (s, there, s_is) = map-got challenge_cells rs j z two in
                apart i j r s at there (cc);
          };
          legal = legal;
          short = short;
          numbers = λ i j c d one two alike.
              let (r, at, r_is) = map-got challenge_cells rs i (challenge_row c)
              (cc (map-at challenge_row cs i c one)) in
              let (s, there, s_is) = map-got challenge_cells rs j (challenge_row d)
              (cc (map-at challenge_row cs j d two)) in
              apart i j r s at there ((numbers-key r s c d r_is s_is).0 alike);
        },
      )

  module _ (cs : List Challenge) (are : AreChallenges cs rows) where
    -- the challenge whose row stands there
    shown-at : (n : ℕ) (r : ChallengeRow) → slice_get rows.challenges.items n ≡ Some r → (m : ℕ) × (c : Challenge)
        × (slice_get cs m ≡ Some c) × (challenge_cells r ≡ challenge_row c)
    shown-at n r at = challenge-had cs (challenge_cells r)
        (are.rows_are.same.there (challenge_cells r)
        (mapped_has challenge_cells rows.challenges.items r (has_got rows.challenges.items n r at)))

    pub numbers-apart : HaveUniqueKeys key_in rows.challenges.items
    numbers-apart i j r s one two alike =
        let (m, c, at, r_is) = shown-at i r one in
        let (n, d, there, s_is) = shown-at j s two in
        let place_is = are.numbers m n c d at there ((numbers-key r s c d r_is s_is).1 alike) in
        let c_is : c ≡ d = cc in
        are.rows_are.once i j (challenge_cells s) (cc (map-at challenge_cells rows.challenges.items i r one))
        (map-at challenge_cells rows.challenges.items j s two)

    module _ (members : length rows.members.items ≤ 200) (events : length rows.events.items ≤ 50) where
      short-number : (n : ℕ) → is_challenge_number n ≡ true → n < 2 ^ 32
      short-number n is = grind (arith, common_steps)

      pub each-shown : Each (IsChallengeOf rows) rows.challenges.items
      each-shown n r at =
          let (m, c, there, is) = shown-at n r at in
          let among = are.legal m c there in
          record {
            challenge = c;
            cells = is;
            short = record {
              member = omega arith;
              own_number = short-number c.number among.number;
              event = omega arith;
              other = omega arith;
              game = are.short m c there;
            };
            among = among;
          }

-- ---- the challenges of a club with these games

pairing-same : (p q : Pairing) → pos p.event ≡ pos q.event → pos p.first ≡ pos q.first → pos p.second ≡ pos q.second
    → p ≡ q
pairing-same p q one two three =
    let event : p.event ≡ q.event = cc in
    let first : p.first ≡ q.first = cc in
    let second : p.second ≡ q.second = cc in
    λ i. record { event = event i; first = first i; second = second i }

module _ (s : ClubState) where
  module _ (rows : Rows) (people : HasPeople s rows) (games : List ClubGame)
      (rows_are : map game_cells rows.games.items ≡ numbered_from (row_of_game both_games s.events) 1 games) where
    members-same : length rows.members.items ≡ length s.members
    members-same = numbered-length member_cells member_row 1 rows.members.items s.members people.members.rows_are

    events-same : length rows.events.items ≡ length s.events
    events-same = numbered-length event_cells event_row 1 rows.events.items s.events people.events.rows_are

    game-named : (id : ℕ) (p : Pairing) → IsGameAmong rows.games.items id p → (any : ClubGame)
        × (place games id ≡ Some any) × (pairing_of any ≡ p)
    game-named id p among =
        let n = among.place in
        let (any, there, cells) = numbered-at _ _ _ _ _ rows_are n among.row among.at in
        let told = game-told s (1 + n) among.row any cells in
        let of = told.pairing in
        let same : 1 + n ≡ id = cc in
        let id_is : id ≡ suc n = omega arith in
        (any, ap (place games) id_is ∙ there, pairing-same (pairing_of any) p (cc) (cc) (cc))

    row-named : (id : ℕ) (any : ClubGame) (p : Pairing) → place games id ≡ Some any → pairing_of any ≡ p
        → IsGameAmong rows.games.items id p
    row-named zero any p at of = cc
    row-named (suc n) any p at of =
        let (row, there, cells) = numbered-back _ _ _ _ _ rows_are n any at in
        let told = game-told s (1 + n) row any cells in
        let next : 1 + n ≡ suc n = omega arith in
        record {
          place = n;
          row = row;
          at = there;
          id_is = cc;
          of = subst (IsRowOfPairing row) of told.pairing;
        }

    -- challenges among the rows are legal in the club with the games of these rows
    pub challenges-of : Each (IsChallengeAmong rows) s.challenges
        → Each (IsLegalChallenge (record s { games = games })) s.challenges
    challenges-of each n c at =
        let among = each n c at in
        record {
          number = among.number;
          member = placed-some s.members rows.members.items members-same c.member among.member;
          other = placed-some s.members rows.members.items members-same c.other among.other;
          apart = among.apart;
          event = placed-some s.events rows.events.items events-same c.event among.event;
          accepted = λ id is. game-named id (pairing_for c) (among.game id is);
        }

    -- and the challenges of such a club are among them
    pub challenges-among : Each (IsLegalChallenge (record s { games = games })) s.challenges
        → Each (IsChallengeAmong rows) s.challenges
    challenges-among each n c at =
        let legal = each n c at in
        record {
          number = legal.number;
          member = some-placed s.members rows.members.items members-same c.member legal.member;
          other = some-placed s.members rows.members.items members-same c.other legal.other;
          apart = legal.apart;
          event = some-placed s.events rows.events.items events-same c.event legal.event;
          game = λ id is. let (any, there, of) = legal.accepted id is in row-named id any (pairing_for c) there of;
        }

-- the game that a challenge of a legal club names has a short id
club-short : (s : ClubState) → IsClub s → (c : Challenge) → IsLegalChallenge s c → (t : ChallengeState) → c.standing ≡ t
    → HasShortGame t
club-short s club c legal (Accepted id) is =
    let (any, there, of) = legal.accepted id is in
    let within = some-placed s.games s.games refl id (rw there refl) in
    omega (arith, club.game_count, within.1)
club-short s club c legal _ is = tt

-- the rows of a legal club's challenges, each once, are those that the audit lets pass
pub club-challenges : (s : ClubState) (rows : Rows) → IsClub s → HasPeople s rows
    → map game_cells rows.games.items ≡ numbered_from (row_of_game both_games s.events) 1 s.games
    → AreEachOnce (map challenge_cells rows.challenges.items) (map challenge_row s.challenges)
    → AreChallenges s.challenges rows
club-challenges s rows club people games_are rows_are = record {
  rows_are = rows_are;
  legal = challenges-among s rows people s.games games_are club.challenges;
  short = λ n c at. club-short s club c (club.challenges n c at) c.standing refl;
  numbers = club.challenge_numbers;
}
