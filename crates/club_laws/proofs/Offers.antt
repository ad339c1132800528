-- An accepted offer of a draw that comes again once a move came since is refused.
use Rattle.std.proofs.Common.{◌≡◌, ◌≢◌, ℕ, ◌+◌, List, length, Option, Some, None, Bool, true, false, ◌&&◌, refl, ap}
use Rattle.std.proofs.Common.{sym}
use Rattle.std.proofs.Common.{◌∙◌, IfSome}
use Rattle.std.specs.Prelude.{max, if◌then◌else◌}
use Rattle.std.proofs.Math.Bool.{and-false}
use Rattle.squares.specs.internal.DraughtsMarks.{nat_eq_other}
use Rattle.squares.specs.declared.sides.Side.{Side}
use Rattle.squares.specs.Sides.{same_side}
use Rattle.club_rules.specs.GameRules.{GameRules}
use Rattle.club_rules.specs.declared.names.GameKind.{GameKind}
use Rattle.club_rules.specs.declared.names.GameKind.TheVariants.{Draughts, Shogi}
use Rattle.club_requests.specs.declared.requests.Caller.{Caller}
use Rattle.club_requests.specs.declared.refusals.Refusal.TheVariants.{GameOver, WrongPly}
use Rattle.club_requests.specs.Outcome.{Reply, Outcome, accepted, refused, map_outcome, unless}
use Rattle.club_core.specs.ClubRules.{ClubRules}
use Rattle.club_core.specs.declared.rows.Offer.{Offer}
use Rattle.club_core.specs.Game.{Game}
use Rattle.club_core.specs.Legal.{IsOffer}
use Rattle.club_core.specs.LegalState.{IsGameOf, IsLegalIn, IsLegalState}
use Rattle.club_core.specs.Step.{offer_draw, has_offer, is_over, is_next_ply, step_offer, game_step}
use Rattle.club_core.specs.State.{AnyGame, draughts, shogi, State, on_game, Request, place, terms_at}
use Rattle.club_core.specs.State.{with_game, caller_of, step_game, step, fold}
use Rattle.club_laws.specs.Laws.{HasNextPly, IsSentAgain, passed_offer, is_over_in}
use Rattle.club_laws.proofs.GameSteps.{IsLaterGame}
use Rattle.club_laws.proofs.LegalSteps.{in-place}
use Rattle.club_laws.proofs.Later.{IsLater, IsLaterAny, fold-later}
use Rattle.club_laws.proofs.Repeats.{stands-later, by-accepted}

-- an offer at the next ply is none of another ply
no-offer : (o : Option Offer) (next : ℕ) (side : Side) (ply : ℕ) → IfSome o (λ offer. offer.ply ≡ next) → ply ≢ next
    → has_offer o side ply ≡ false
no-offer None next side ply at other = refl
no-offer (Some offer) next side ply at other =
    ap (λ b. same_side offer.side side && b) (nat_eq_other offer.ply ply (λ e. other (sym e ∙ at)))
    ∙ and-false (same_side offer.side side)

by-over : {S : Type 0} (b : Bool) (o : Outcome S)
    → unless (if b then Some GameOver else Some WrongPly) o ≡ refused (passed_offer b)
by-over true o = refl
by-over false o = refl

next-offer : {P M E T : Type 0} (laws : GameRules P M E T) (game : Game M) (o : Option Offer)
    → IfSome o (λ offer. IsOffer laws game offer) → IfSome o (λ offer. offer.ply ≡ length game.entries + 1)
next-offer laws game None is = tt
next-offer laws game (Some offer) is = is.next_ply

module _ {P M E T : Type 0} (laws : GameRules P M E T) (later : Game M) where
  offer-passed : (side : Side) (ply : ℕ) → laws.has_draw_offers ≡ true
      → IfSome later.offer (λ offer. IsOffer laws later offer) → ply ≢ length later.entries + 1
      → step_offer laws later side ply ≡ refused (passed_offer (is_over laws later))
  offer-passed side ply draws offer other =
      let none : has_offer later.offer side ply ≡ false =
      no-offer later.offer (length later.entries + 1) side ply (next-offer laws later later.offer offer) other in
      let passed : is_next_ply laws later ply ≡ false = nat_eq_other ply (length later.entries + 1) other in
      rw (draws, none, passed) (by-over (is_over laws later) _)

-- in a game of one kind
module _ {DP DM DE DT SP SM SE ST P M E T : Type 0} (kinds : ClubRules DP DM DE DT SP SM SE ST)
    (laws : GameRules P M E T) (kind : GameKind) (wrap : Game M → AnyGame DM SM)
    (unwrap : (g : Game M) (new : AnyGame DM SM) → IsLaterAny kinds (wrap g) new → (later : Game M)
    × (new ≡ wrap later) × IsLaterGame laws g later)
    (as_game : (s : State DM SM) (g : Game M) → IsLegalIn kinds s (wrap g) → IsGameOf laws kind s g)
    (next_of : (ply : ℕ) (g : Game M) → ply ≡ length g.entries + 1 → HasNextPly ply (Some (wrap g))) where
  game-passed : (s t : State DM SM) (moment again id : ℕ) (who : Caller) (ply : ℕ) (game : Game M)
      (after : State DM SM) (reply : Reply) → IsLegalState kinds t → place s.games id ≡ Some (wrap game)
      → map_outcome (λ new. with_game s moment id (wrap new))
      (game_step laws (terms_at (place s.events game.event)) game moment who (offer_draw ply)) ≡ accepted after reply
      → IsLater kinds after t → ¬ HasNextPly ply (place t.games id) → (later : Game M)
      × (place t.games id ≡ Some (wrap later))
      × (map_outcome (λ new. with_game t again id (wrap new))
      (game_step laws (terms_at (place t.events later.event)) later again who (offer_draw ply))
      ≡ refused (passed_offer (is_over laws later)))
  game-passed s t moment again id who ply game after reply legal at is since other =
      let there = stands-later kinds laws wrap unwrap s t moment id game who (offer_draw ply) after reply at is since in
      let later = there.later in
      let of : IsGameOf laws kind t later =
      as_game t later (in-place (IsLegalIn kinds t) t.games id (wrap later) legal.games there.stands) in
      let passed : ply ≢ length later.entries + 1 = λ e. (rw there.stands at other) (next_of ply later e) in
      let refuses = offer-passed laws later there.was.side ply there.was.found.1 of.legal.offer passed in
      (later, there.stands, rw (there.was.may, there.of_side, refuses) refl)

module _ {DP DM DE DT SP SM SE ST : Type 0} (kinds : ClubRules DP DM DE DT SP SM SE ST) where
  in-game : (s t : State DM SM) (moment again id : ℕ) (who : Caller) (ply : ℕ) (g : Option (AnyGame DM SM))
      (after : State DM SM) (reply : Reply) → IsLegalState kinds t → place s.games id ≡ g
      → step_game kinds s moment id who (offer_draw ply) g ≡ accepted after reply → IsLater kinds after t
      → ¬ HasNextPly ply (place t.games id)
      → step_game kinds t again id who (offer_draw ply) (place t.games id)
      ≡ refused (passed_offer (is_over_in kinds (place t.games id)))
  in-game s t moment again id who ply None after reply legal at is since other = cc
  in-game s t moment again id who ply (Some (draughts game)) after reply legal at is since other =
      let (later, stands, so) = game-passed kinds kinds.draughts Draughts draughts (λ g new is. is)
      (λ s g of. of) (λ ply g e. e) s t moment again id who ply game after reply legal at is since other in
      rw stands so
  in-game s t moment again id who ply (Some (shogi game)) after reply legal at is since other =
      let (later, stands, so) = game-passed kinds kinds.shogi Shogi shogi (λ g new is. is) (λ s g of. of)
      (λ ply g e. e) s t moment again id who ply game after reply legal at is since other in
      rw stands so

  pub offers-passed : (s after : State DM SM) (r again : Request) (id ply : ℕ) (reply : Reply)
      (between : List Request) → IsLegalState kinds s → IsLegalState kinds (fold kinds after between)
      → r.command ≡ on_game id (offer_draw ply) → step kinds s r ≡ accepted after reply
      → IsSentAgain s (fold kinds after between) r again
      → ¬ HasNextPly ply (place (fold kinds after between).games id) → step kinds (fold kinds after between) again
      ≡ refused (passed_offer (is_over_in kinds (place (fold kinds after between).games id)))
  offers-passed s after r again id ply reply between legal later_legal asks is sent other =
      let t = fold kinds after between in
      let (who, who_is, step_is) = by-accepted kinds s after (max r.moment s.last) (on_game id (offer_draw ply)) reply
      (caller_of s.members r.who) (rw asks at is) in
      rw (sent.command, asks, sent.caller, who_is)
      (in-game s t (max r.moment s.last) (max again.moment t.last) id who ply (place s.games id) after reply later_legal
      refl
      step_is (fold-later kinds after between) other)
