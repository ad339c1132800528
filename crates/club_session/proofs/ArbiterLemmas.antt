-- A club with an arbiter and the same club without one give each request the same outcome.
use Rattle.std.proofs.Common.{◌≡◌, ℕ, List, [], ◌∷◌, Bool, true, false, Option, Some, None, map, refl, sym, ap, ap₂, ◌∙◌}
use Rattle.std.specs.List.{count_by}
use Rattle.club_rules.specs.declared.names.GameKind.{GameKind}
use Rattle.club_rules.specs.declared.names.GameKind.TheVariants.{Draughts, Shogi}
use Rattle.club_requests.specs.declared.requests.Caller.{Caller}
use Rattle.club_requests.specs.declared.requests.Caller.TheVariants.{Officer, Member}
use Rattle.club_requests.specs.declared.rulings.Ruling.{Ruling}
use Rattle.club_requests.specs.Outcome.{Outcome, accepted, by_member, by_officer, games_swept, map_outcome, refused, repeated}
use Rattle.club_core.specs.ClubRules.{ClubRules}
use Rattle.club_core.specs.declared.challenges.Challenge.{Challenge}
use Rattle.club_core.specs.Imports.{Import}
use Rattle.club_core.specs.State.{AnyGame, State, Command, Request, add_member, add_event, answer_challenge, caller_of}
use Rattle.club_core.specs.State.{close_event, draughts, fold, import_as, import_record, is_late_any, new_key, next}
use Rattle.club_core.specs.State.{on_game, open_challenge, place, seat, shogi, state_after, step, step_by, step_command}
use Rattle.club_core.specs.State.{rule, step_game, step_ruling, swept_any, sweep, with_answer, withdraw_challenge}
use Rattle.club_core.specs.Step.{GameCommand}

-- the state of a club with an arbiter, or without one
abbrev pub with_arbiter : {DM SM : Type 0} → Bool → State DM SM → State DM SM
with_arbiter arbiter s = record s { has_arbiter = arbiter }

-- two changes of the new state are one
mapped_twice : {A B C : Type 0} (f : B → C) (g : A → B) (o : Outcome A)
    → map_outcome (λ a. f (g a)) o ≡ map_outcome f (map_outcome g o)
mapped_twice f g (accepted new reply) = refl
mapped_twice f g _ = refl

officer_alike : {S T : Type 0} (f : S → T) (who : Caller) (o : Outcome T) (given : Outcome S)
    → o ≡ map_outcome f given → by_officer who o ≡ map_outcome f (by_officer who given)
officer_alike f Officer o given same = same
officer_alike f (Member id) o given same = refl

member_alike : {S T : Type 0} (f : S → T) (who : Caller) (o : ℕ → Outcome T) (given : ℕ → Outcome S)
    → ((id : ℕ) → o id ≡ map_outcome f (given id)) → by_member who o ≡ map_outcome f (by_member who given)
member_alike f Officer o given same = refl
member_alike f (Member id) o given same = same id

module _ {DP DM DE DT SP SM SE ST : Type 0} (rules : ClubRules DP DM DE DT SP SM SE ST) (arbiter : Bool)
    (s : State DM SM) (moment : ℕ) where
  -- the state with an arbiter, or without one
  abbrev As : State DM SM → State DM SM
  As = with_arbiter arbiter

  game_alike : (id : ℕ) (who : Caller) (command : GameCommand) (game : Option (AnyGame DM SM))
      → step_game rules (As s) moment id who command game
      ≡ map_outcome As (step_game rules s moment id who command game)
  game_alike id who command None = refl
  game_alike id who command (Some (draughts g)) = mapped_twice As _ _
  game_alike id who command (Some (shogi g)) = mapped_twice As _ _

  ruling_alike : (id number : ℕ) (ruling : Ruling) (game : Option (AnyGame DM SM))
      → step_ruling rules (As s) moment id number ruling game
      ≡ map_outcome As (step_ruling rules s moment id number ruling game)
  ruling_alike id number ruling None = refl
  ruling_alike id number ruling (Some (draughts g)) = mapped_twice As _ _
  ruling_alike id number ruling (Some (shogi g)) = mapped_twice As _ _

  import_alike : (given : Import) (kind : GameKind)
      → import_as rules (As s) moment given kind ≡ map_outcome As (import_as rules s moment given kind)
  import_alike given Draughts = mapped_twice As _ _
  import_alike given Shogi = mapped_twice As _ _

  late_at : (g : AnyGame DM SM) → is_late_any rules (As s) moment g ≡ is_late_any rules s moment g
  late_at (draughts g) = refl
  late_at (shogi g) = refl

  swept_at : (g : AnyGame DM SM) → swept_any rules (As s) moment g ≡ swept_any rules s moment g
  swept_at (draughts g) = refl
  swept_at (shogi g) = refl

  answer_alike : (accept : Bool) (o : Outcome Challenge)
      → map_outcome (with_answer (As s) moment accept) o ≡ map_outcome As (map_outcome (with_answer s moment accept) o)
  answer_alike true o = mapped_twice As _ o
  answer_alike false o = mapped_twice As _ o

  command_alike : (who : Caller) (command : Command)
      → step_command rules (As s) moment who command ≡ map_outcome As (step_command rules s moment who command)
  command_alike who (add_member name key) = officer_alike As who _ _ (mapped_twice As _ _)
  command_alike who (add_event event) = officer_alike As who _ _ (mapped_twice As _ _)
  command_alike who (seat key event first second) = officer_alike As who _ _ (mapped_twice As _ _)
  command_alike who (import_record given) = officer_alike As who _ _ (import_alike given _)
  command_alike who (on_game id command) = game_alike id who command (place s.games id)
  command_alike who sweep =
      officer_alike As who _ _
      (ap₂ (λ (late : AnyGame DM SM → Bool) (swept : AnyGame DM SM → AnyGame DM SM).
      accepted (record (As s) { last = moment; games = map swept s.games }) (games_swept (count_by late s.games)))
      (λ i g. late_at g i) (λ i g. swept_at g i))
  command_alike who (open_challenge number event other first) = member_alike As who _ _ (λ id. mapped_twice As _ _)
  command_alike who (withdraw_challenge number) = member_alike As who _ _ (λ id. mapped_twice As _ _)
  command_alike who (answer_challenge challenger number accept) = member_alike As who _ _ (λ id. answer_alike accept _)
  command_alike who (new_key name number key) = officer_alike As who _ _ (mapped_twice As _ _)
  command_alike who (close_event event) = officer_alike As who _ _ (mapped_twice As _ _)
  command_alike who (rule id number ruling) =
      officer_alike As who _ _ (ruling_alike id number ruling (place s.games id))

  by_alike : (who : Option Caller) (command : Command)
      → step_by rules (As s) moment who command ≡ map_outcome As (step_by rules s moment who command)
  by_alike None command = refl
  by_alike (Some who) command = command_alike who command

module _ {DP DM DE DT SP SM SE ST : Type 0} (rules : ClubRules DP DM DE DT SP SM SE ST) (arbiter : Bool) where
  pub step_alike : (s : State DM SM) (r : Request)
      → step rules (with_arbiter arbiter s) r ≡ map_outcome (with_arbiter arbiter) (step rules s r)
  step_alike s r = by_alike rules arbiter s _ (caller_of s.members r.who) r.command

  after_alike : (s : State DM SM) (o : Outcome (State DM SM))
      → state_after (with_arbiter arbiter s) (map_outcome (with_arbiter arbiter) o)
      ≡ with_arbiter arbiter (state_after s o)
  after_alike s (accepted new reply) = refl
  after_alike s _ = refl

  next_alike : (s : State DM SM) (r : Request)
      → next rules (with_arbiter arbiter s) r ≡ with_arbiter arbiter (next rules s r)
  next_alike s r = ap (state_after (with_arbiter arbiter s)) (step_alike s r) ∙ after_alike s (step rules s r)

  pub fold_alike : (s : State DM SM) (rs : List Request)
      → fold rules (with_arbiter arbiter s) rs ≡ with_arbiter arbiter (fold rules s rs)
  fold_alike s [] = refl
  fold_alike s (r ∷ rs) = ap (λ t. fold rules t rs) (next_alike s r) ∙ fold_alike (next rules s r) rs
