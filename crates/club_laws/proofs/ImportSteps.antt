-- An import leaves a legal state legal.
use Rattle.std.proofs.Common.{◌≡◌, ℕ, ◌≤◌, List, [], ◌∷◌, length, Option, Some, None, Bool, true, false, refl}
use Rattle.std.proofs.Common.{◌+◌, ◌∙◌, arith, inl, inr}
use Rattle.std.specs.Prelude.{if◌then◌else◌}
use Rattle.club_rules.specs.declared.names.GameKind.{GameKind}
use Rattle.club_rules.specs.declared.names.GameKind.TheVariants.{Draughts, Shogi}
use Rattle.club_rules.specs.GameRules.{GameRules}
use Rattle.club_rules.specs.Records as record_is
use Rattle.club_rules.specs.Records.{Recorded, Reading, GameRecords, IsGameByRules, ReadsGames}
use Rattle.club_core.specs.ClubRules.{ClubRules}
use Rattle.club_requests.specs.declared.outside_end.OutsideEnd.TheVariants.{Time}
use Rattle.club_requests.specs.Limits.{last_moment, is_name}
use Rattle.club_requests.specs.Outcome.{Reply, game_seated, accepted, by_officer}
use Rattle.club_core.specs.declared.seats.KeyedGame.{KeyedGame}
use Rattle.club_core.specs.declared.seats.Pairing.{Pairing}
use Rattle.club_core.specs.Members.{find_id}
use Rattle.club_core.specs.Events.{Event, has_event_name, event_kind, event_declares}
use Rattle.club_core.specs.Seats.{has_member_name, are_distinct, pair}
use Rattle.club_core.specs.Game.{Game}
use Rattle.club_core.specs.Imports.{Import, Imported, imported, has_part, reading_of_import, read_in, repeat_of_import}
use Rattle.club_core.specs.Imports.{import_tests, import_refusal, import_between, import_found}
use Rattle.club_core.specs.State.{AnyGame, draughts, shogi, State, state_after, place, key_of, rulings_of, game_under}
use Rattle.club_core.specs.State.{any_under}
use Rattle.club_core.specs.State.{draughts_in, shogi_in, with_imported, import_looked_up, import_as}
use Rattle.club_core.specs.LegalState.{IsGameOf, IsLegalIn, IsLegalState}
use Rattle.club_core.proofs.Proved.{AreRules, none-holds}
use Rattle.club_laws.proofs.Lists.{find-cases, place-more}
use Rattle.club_laws.proofs.Accepts.{officer-later, unless-accepted, accepted-same}
use Rattle.club_laws.proofs.ImportedGames.{each-at, imported-legal, as-recorded, read-game}
use Rattle.club_laws.proofs.SeatSteps.{WasSeated, pair-seated, fresh-key}
use Rattle.club_laws.proofs.AddedSteps.{three-true, not-false, found-some, game-added}
use Rattle.club_laws.proofs.LegalSteps.{KeepsByImport}

-- the event that is found by a name is of the kind that the name is of
pub kind-found : (name : List ℕ) (es : List Event) (id : ℕ) → find_id (has_event_name name) es ≡ Some id → (e : Event)
    × (place es id ≡ Some e) × (e.game ≡ event_kind es name)
kind-found name [] id is = cc
kind-found name (e ∷ es) id is =
    elim (find-cases (has_event_name name e) (find_id (has_event_name name) es) id is) [
      | inl first ↦ (e, rw (← first.1) refl, rw first.0 refl)
      | inr rest ↦
          let (k, fails, found, next) = rest in
          let (x, stands, kind) = kind-found name es k found in
          (x, rw (← next) (place-more e x es k stands), rw fails kind)
    ]

-- an import that was accepted seated two members, and read its record
pub record WasImported {M : Type 0} (event first second : Option ℕ) (under_key : Option KeyedGame) (games : ℕ)
    (key : List ℕ) (read : Reading M) (i : Imported M) (reply : Reply) : Type 0 where
  pub seated : WasSeated event first second under_key games key i.pairing reply
  pub reading : read ≡ record_is.game i.recorded

module _ {P M E T : Type 0} (laws : GameRules P M E T) (records : GameRecords M) (given : Import) where
  -- what an import reads is a game by the rules
  pub by-rules : (reads : ReadsGames laws records) (r : Recorded M)
      → reading_of_import laws records given ≡ record_is.game r → IsGameByRules laws r
  by-rules reads r = of-part _
    where
      of-part : (b : Bool) → (if b then records.read given.text given.part else record_is.no_part) ≡ record_is.game r
          → IsGameByRules laws r
      of-part true is = reads given.text given.part r is
      of-part false is = cc

module _ {P M E T : Type 0} (laws : GameRules P M E T) (records : GameRecords M) (given : Import)
    (under_key : Option KeyedGame) (old : Option (Game M)) (games : ℕ) where
  between-imported : (event : ℕ) (first second : Option ℕ) (read : Reading M) (i : Imported M) (reply : Reply)
      → import_between event first second games read ≡ accepted i reply → (read ≡ record_is.game i.recorded)
      × (pair event first second games ≡ accepted i.pairing reply)
  between-imported event first second record_is.no_part i reply is = cc
  between-imported event first second (record_is.refused refusal) i reply is = cc
  between-imported event None second (record_is.game r) i reply is = cc
  between-imported event (Some one) None (record_is.game r) i reply is = cc
  between-imported event (Some one) (Some other) (record_is.game r) i reply is =
      let pairing : Pairing = record { event = event; first = one; second = other } in
      let same = accepted-same (record { pairing = pairing; recorded = r }) i (game_seated (games + 1)) reply is in
      rw (← same.0, same.1) (refl, refl)

  pub was-imported : (declares : Bool) (event first second : Option ℕ) (i : Imported M) (reply : Reply)
      → import_found laws records given declares event first second under_key old games ≡ accepted i reply
      → WasImported event first second under_key games given.key (reading_of_import laws records given) i reply
  was-imported declares None first second i reply is = cc
  was-imported declares (Some event) first second i reply is =
      let parts = unless-accepted (repeat_of_import laws records given event first second under_key old games)
      (import_refusal laws records given event first second under_key old games) _ i reply is in
      let tests = none-holds (import_tests laws records given event first second under_key old games) parts.1 in
      let read : Reading M = reading_of_import laws records given in
      let good = three-true (is_name given.key) (are_distinct first second) (has_part read) (not-false _ tests.1.0) in
      let left = between-imported event first second (read_in records.format declares read) i reply parts.2 in
      record {
        seated = pair-seated event under_key games given.key i.pairing reply first second tests.0 good.0 good.1
            tests.1.1.0 left.1;
        reading = read-game records.format declares read i.recorded left.0;
      }

-- an import of a game of one kind
module _ {DP DM DE DT SP SM SE ST P M E T : Type 0} (kinds : ClubRules DP DM DE DT SP SM SE ST)
    (laws : GameRules P M E T) (are_rules : AreRules laws) (records : GameRecords M) (reads : ReadsGames laws records)
    (kind : GameKind) (wrap : Game M → AnyGame DM SM) (wrap_key : (g : Game M) → key_of (wrap g) ≡ g.key)
    (wrap_rulings : (g : Game M) → rulings_of (wrap g) ≡ g.rulings)
    (wrap_legal : (t : State DM SM) (g : Game M) → IsGameOf laws kind t g → IsLegalIn kinds t (wrap g))
    (s : State DM SM) (moment : ℕ) (given : Import) (rises : s.last ≤ moment) (within : moment ≤ last_moment)
    (legal : IsLegalState kinds s) where
  record-added : (of_kind : event_kind s.events given.event ≡ kind) (old : Option (Game M)) (i : Imported M)
      (reply : Reply) → import_looked_up laws records s given old ≡ accepted i reply
      → IsLegalState kinds
      (with_imported s moment (wrap (imported laws (Some given.key) i.pairing moment i.recorded)))
  record-added of_kind old i reply is =
      let was = was-imported laws records given (game_under s.games given.key) old (length s.games)
      (event_declares s.events given.event) (find_id (has_event_name given.event) s.events)
      (find_id (has_member_name given.first) s.members) (find_id (has_member_name given.second) s.members) i reply is in
      let seats = was.seated in
      let by = by-rules laws records given reads i.recorded was.reading in
      let (e, at, found) = kind-found given.event s.events i.pairing.event seats.in_event in
      let game = imported laws (Some given.key) i.pairing moment i.recorded in
      game-added kinds s moment rises within legal (wrap game) given.key
      (wrap_legal _ game
      (record {
        event = e;
        in_event = at;
        of_kind = found ∙ of_kind;
        legal = imported-legal laws are_rules e.terms given.key i.pairing moment i.recorded by seats.apart;
        first = found-some (has_member_name given.first) s.members i.pairing.first seats.has_first;
        second = found-some (has_member_name given.second) s.members i.pairing.second seats.has_second;
        key = seats.named;
        start = omega arith;
        entries = λ n x is. let same = each-at moment i.recorded.moves n x is in omega (arith, same);
        rulings = λ n x is. cc;
        lost_by_time = λ is.
            let same = as-recorded (laws.judge laws.start i.recorded.moves) i.recorded.score Time is in
            absurd cc;
      }))
      (wrap_rulings game) seats.room (wrap_key game) (fresh-key s.games given.key seats.fresh)

module _ {DP DM DE DT SP SM SE ST : Type 0} (kinds : ClubRules DP DM DE DT SP SM SE ST)
    (are_draughts : AreRules kinds.draughts) (are_shogi : AreRules kinds.shogi)
    (reads_draughts : ReadsGames kinds.draughts kinds.draughts_records)
    (reads_shogi : ReadsGames kinds.shogi kinds.shogi_records) where
  pub import-kept : KeepsByImport kinds
  import-kept s moment rises within legal who given = as-kept (event_kind s.events given.event) refl
    where
      as-kept : (kind : GameKind) → event_kind s.events given.event ≡ kind
          → IsLegalState kinds (state_after s (by_officer who (import_as kinds s moment given kind)))
      as-kept Draughts is =
          officer-later (IsLegalState kinds) s _ who _ legal
          (record-added kinds kinds.draughts are_draughts kinds.draughts_records reads_draughts Draughts draughts
          (λ g. refl) (λ g. refl) (λ t g of. of) s moment given rises within legal is
          (draughts_in (any_under s.games given.key)))
      as-kept Shogi is =
          officer-later (IsLegalState kinds) s _ who _ legal
          (record-added kinds kinds.shogi are_shogi kinds.shogi_records reads_shogi Shogi shogi (λ g. refl)
          (λ g. refl) (λ t g of. of) s moment given rises within legal is (shogi_in (any_under s.games given.key)))
