-- An import that was accepted is repeated from then on.
use Rattle.std.proofs.Common.{◌≡◌, ℕ, suc, ◌+◌, List, ◌++◌, length, Option, Some, None, true, refl, ap, sym, ◌∙◌}
use Rattle.std.proofs.Common.{add-one}
use Rattle.std.specs.Prelude.{slice_get}
use Rattle.club_rules.specs.declared.names.GameKind.{GameKind}
use Rattle.club_rules.specs.declared.names.GameKind.TheVariants.{Draughts, Shogi}
use Rattle.club_rules.specs.GameRules.{GameRules}
use Rattle.club_rules.specs.Records.{GameRecords, ReadsGames}
use Rattle.club_core.specs.ClubRules.{ClubRules}
use Rattle.club_requests.specs.Outcome.{Reply, accepted, repeated, map_outcome}
use Rattle.club_core.specs.Members.{find_id}
use Rattle.club_core.specs.Events.{Event, has_event_name, event_kind, event_declares}
use Rattle.club_core.specs.Seats.{has_member_name}
use Rattle.club_core.specs.Game.{Game}
use Rattle.club_core.specs.Imports.{Import, Imported, imported, is_record_of}
use Rattle.club_core.specs.Step.{is_over}
use Rattle.club_core.specs.State.{AnyGame, draughts, shogi, State, has_key, is_key, key_of, pairing_of, game_under}
use Rattle.club_core.specs.State.{any_under, at_found, draughts_in, shogi_in, with_imported, import_looked_up}
use Rattle.club_core.specs.State.{import_as}
use Rattle.club_core.proofs.Proved.{AreRules}
use Rattle.club_laws.proofs.Lists.{bytes_eq-same, at-last}
use Rattle.club_laws.proofs.Accepts.{map-accepted, officer-accepted}
use Rattle.club_laws.proofs.GameSteps.{IsLaterGame}
use Rattle.club_laws.proofs.Later.{IsLater, IsLaterAny}
use Rattle.club_laws.proofs.LaterParts.{IsEachLater, IsLaterEvent, event-named-later, place-each-later}
use Rattle.club_laws.proofs.SeatSteps.{added-found, seats-again}
use Rattle.club_laws.proofs.ImportedGames.{imported-over, record-of-itself}
use Rattle.club_laws.proofs.ImportSteps.{kind-found, was-imported, by-rules}
use Rattle.club_laws.proofs.Repeats.{RepeatsImport}

-- the kind of an event that is found stays
kind-later : (name : List ℕ) (es now : List Event) (id : ℕ) → IsEachLater IsLaterEvent es now
    → find_id (has_event_name name) es ≡ Some id → event_kind now name ≡ event_kind es name
kind-later name es now id later is =
    let (e, at, kind) = kind-found name es id is in
    let (x, at_x, kind_x) = kind-found name now id (event-named-later name es now id later is) in
    let (y, at_y, is_later) = place-each-later IsLaterEvent es now later id e at in
    let both : Some x ≡ Some y = sym at_x ∙ at_y in
    let same : x ≡ y = cc in
    sym kind_x ∙ (ap (λ u. u.game) (same ∙ is_later.same) ∙ kind)

-- an import of a game of one kind
module _ {DP DM DE DT SP SM SE ST P M E T : Type 0} (kinds : ClubRules DP DM DE DT SP SM SE ST)
    (laws : GameRules P M E T) (are_rules : AreRules laws) (records : GameRecords M) (reads : ReadsGames laws records)
    (wrap : Game M → AnyGame DM SM) (in_kind : Option (AnyGame DM SM) → Option (Game M))
    (wrapped : (g : Game M) → in_kind (Some (wrap g)) ≡ Some g) (wrap_key : (g : Game M) → key_of (wrap g) ≡ g.key)
    (wrap_pairing : (g : Game M) → pairing_of (wrap g) ≡ record { event = g.event; first = g.first; second = g.second })
    (unwrap : (g : Game M) (new : AnyGame DM SM) → IsLaterAny kinds (wrap g) new → (later : Game M)
    × (new ≡ wrap later) × IsLaterGame laws g later) (s t : State DM SM) (moment again : ℕ) (given : Import) where
  abbrev with_record : State DM SM → ℕ → Imported M → State DM SM
  with_record u at i = with_imported u at (wrap (imported laws (Some given.key) i.pairing at i.recorded))

  looked-up-again : (after : State DM SM) (reply : Reply)
      →
      map_outcome (with_record s moment) (import_looked_up laws records s given (in_kind (any_under s.games given.key)))
      ≡ accepted after reply → IsLater kinds after t
      →
      map_outcome (with_record t again) (import_looked_up laws records t given (in_kind (any_under t.games given.key)))
      ≡ repeated reply
  looked-up-again after reply is later =
      let (i, step_is, after_is) = map-accepted (with_record s moment)
      (import_looked_up laws records s given (in_kind (any_under s.games given.key))) after reply is in
      let old_game = in_kind (any_under s.games given.key) in
      let was = was-imported laws records given (game_under s.games given.key) old_game (length s.games)
      (event_declares s.events given.event) (find_id (has_event_name given.event) s.events)
      (find_id (has_member_name given.first) s.members) (find_id (has_member_name given.second) s.members) i reply
      step_is in
      let game = imported laws (Some given.key) i.pairing moment i.recorded in
      let new = wrap game in
      let by = by-rules laws records given reads i.recorded was.reading in
      let since : IsLater kinds (with_imported s moment new) t = rw (← after_is) at later in
      let has : has_key given.key new ≡ true =
      ap (is_key given.key) (wrap_key game) ∙ bytes_eq-same given.key given.key refl in
      let found = added-found kinds s t moment given.key new has was.seated.fresh since in
      let (in_event, same) = seats-again kinds s t moment given.key new has was.seated.fresh since given.event
      given.first given.second i.pairing reply (wrap_pairing game) was.seated in
      let (any, any_at, any_later) = since.games (length s.games) new (at-last s.games new) in
      let (stays, any_is, is_later) = unwrap game any any_later in
      let over : is_over laws game ≡ true = imported-over laws (Some given.key) i.pairing moment i.recorded in
      let next_id : length s.games + 1 ≡ suc (length s.games) = add-one (length s.games) in
      let at : any_under t.games given.key ≡ Some (wrap stays) =
      ap (at_found t.games) (found ∙ ap Some next_id) ∙ (any_at ∙ ap Some any_is) in
      let old : in_kind (any_under t.games given.key) ≡ Some stays = ap in_kind at ∙ wrapped stays in
      let record_same : is_record_of laws stays i.recorded ≡ true =
      ap (λ g. is_record_of laws g i.recorded) (is_later.over over).0
      ∙ record-of-itself laws are_rules (Some given.key) i.pairing moment i.recorded by in
      rw (in_event, old, was.reading, record_same, same) refl

module _ {DP DM DE DT SP SM SE ST : Type 0} (kinds : ClubRules DP DM DE DT SP SM SE ST)
    (are_draughts : AreRules kinds.draughts) (are_shogi : AreRules kinds.shogi)
    (reads_draughts : ReadsGames kinds.draughts kinds.draughts_records)
    (reads_shogi : ReadsGames kinds.shogi kinds.shogi_records) where
  as-again : (s t : State DM SM) (moment again : ℕ) (given : Import) (kind : GameKind) (after : State DM SM)
      (reply : Reply) → import_as kinds s moment given kind ≡ accepted after reply → IsLater kinds after t
      → import_as kinds t again given kind ≡ repeated reply
  as-again s t moment again given Draughts =
      looked-up-again kinds kinds.draughts are_draughts kinds.draughts_records reads_draughts draughts draughts_in
      (λ g. refl) (λ g. refl) (λ g. refl) (λ g new is. is) s t moment again given
  as-again s t moment again given Shogi =
      looked-up-again kinds kinds.shogi are_shogi kinds.shogi_records reads_shogi shogi shogi_in (λ g. refl) (λ g. refl)
      (λ g. refl) (λ g new is. is) s t moment again given

  -- an import that is accepted found its event
  found-event : (s : State DM SM) (moment : ℕ) (given : Import) (kind : GameKind) (after : State DM SM) (reply : Reply)
      → import_as kinds s moment given kind ≡ accepted after reply → (o : Option ℕ)
      → find_id (has_event_name given.event) s.events ≡ o → (id : ℕ)
      × (find_id (has_event_name given.event) s.events ≡ Some id)
  found-event s moment given kind after reply is (Some id) found = (id, found)
  found-event s moment given Draughts after reply is None found = absurd (let none = rw found at is in cc)
  found-event s moment given Shogi after reply is None found = absurd (let none = rw found at is in cc)

  pub import-again : RepeatsImport kinds
  import-again s t moment again who given after reply is to_t later =
      let kind = event_kind s.events given.event in
      let by = officer-accepted who (import_as kinds s moment given kind) after reply is in
      let (id, found) = found-event s moment given kind after reply by.1
      (find_id (has_event_name given.event) s.events) refl in
      let same : event_kind t.events given.event ≡ kind =
      kind-later given.event s.events t.events id to_t.events found in
      rw (by.0, same) (as-again s t moment again given kind after reply by.1 later)
