-- What an accepted ruling found and what it leaves, which is a later game in which the ruling has its number.
use Rattle.std.proofs.Common.{◌≡◌, ℕ, zero, suc, ◌+◌, ◌≤◌, List, [], ◌∷◌, ◌++◌, length, Option, Some, None, Bool, true}
use Rattle.std.proofs.Common.{false, ◌&&◌, refl, ap, ◌∙◌, arith}
use Rattle.std.specs.Prelude.{is_some, nat_le, slice_get, if◌then◌else◌}
use Rattle.std.specs.Cmp.Derive.{both_true}
use Rattle.std.proofs.lemmas.Bool.{eq-eqb, not-false}
use Rattle.squares.specs.internal.Sides.{same_score-itself, same_side-itself}
use Rattle.club_rules.specs.GameRules.{GameRules}
use Rattle.club_requests.specs.declared.outside_end.OutsideEnd.{OutsideEnd}
use Rattle.club_requests.specs.declared.rulings.Ruling.{Ruling}
use Rattle.club_requests.specs.declared.rulings.Ruling.TheVariants.{Grant, Award, Void}
use Rattle.club_requests.specs.declared.rulings.Verdict.{Verdict}
use Rattle.club_requests.specs.Outcome.{Reply, ruling_given, accepted}
use Rattle.club_requests.specs.Rulings.{has_grant_time, is_grant, same_ruling, verdict_in}
use Rattle.club_core.specs.Rulings.{GivenRuling, is_given, later_verdict, ruling_in, ruling_under, verdict_of}
use Rattle.club_core.specs.Game.{Game, end_with, rule_end}
use Rattle.club_core.specs.Step.{is_over, is_ruling_number, repeat_of_ruling, ruled, ruling_refusal, ruling_step}
use Rattle.club_core.specs.Step.{ruling_tests}
use Rattle.club_core.proofs.Proved.{NoneHolds, end-ruled, none-holds, not-some}
use Rattle.club_laws.proofs.Accepts.{accepted-same, unless-accepted}
use Rattle.club_laws.proofs.ArbiterSteps.{next-number, none-past}
use Rattle.club_laws.proofs.GameSteps.{IsLaterGame, begins-refl}
use Rattle.club_laws.proofs.Lists.{at-last, both-true, get-append, or-false}

none-in : (o : Option GivenRuling) → is_some (ruling_in o) ≡ false → is_some o ≡ false
none-in None is = refl
none-in (Some r) is = cc

-- a fresh number is the next one
number-next : (rs : List GivenRuling) (number : ℕ) → is_some (ruling_under rs number) ≡ false
    → (nat_le 1 number && nat_le number (length rs + 1)) ≡ true → number ≡ suc (length rs)
number-next rs zero fresh good = cc
number-next rs (suc n) fresh good =
    ap suc (next-number n (length rs) (none-past rs n (none-in (slice_get rs n) fresh)) good)

same_ruling-itself : (ruling : Ruling) → same_ruling ruling ruling ≡ true
same_ruling-itself (Grant side seconds) = both_true (same_side-itself side) (eq-eqb seconds seconds refl)
same_ruling-itself (Award score) = same_score-itself score
same_ruling-itself Void = refl

over-later : {E : Type 0} (e : Option E) (v more : Option Verdict) (o : Option OutsideEnd)
    → is_some (end_with e v o) ≡ true → is_some (end_with e (later_verdict v more) o) ≡ true
over-later (Some e) v more o over = refl
over-later None v None o over = over
over-later None v (Some verdict) o over = refl

module _ {P M E T : Type 0} (laws : GameRules P M E T) (game : Game M) (number : ℕ) (ruling : Ruling) (moment : ℕ) where
  pub record WasRuled (new : Game M) (reply : Reply) : Type 0 where
    pub tests : NoneHolds (ruling_tests laws game number ruling)
    pub stands : ruled game ruling moment ≡ new
    pub answer : ruling_given number ≡ reply

  pub was-ruled : (new : Game M) (reply : Reply) → ruling_step laws game number ruling moment ≡ accepted new reply
      → WasRuled new reply
  was-ruled new reply is =
      let parts = unless-accepted (repeat_of_ruling laws game number ruling) (ruling_refusal laws game number ruling) _
      new reply is in
      let same = accepted-same (ruled game ruling moment) new (ruling_given number) reply parts.2 in
      record {
        tests = none-holds (ruling_tests laws game number ruling) parts.1;
        stands = same.0;
        answer = same.1;
      }

  -- a game with one more ruling is a later one
  pub ruled-later : IsLaterGame laws game (ruled game ruling moment)
  ruled-later =
      let r : GivenRuling = record { ruling = ruling; moment = moment; plies = length game.entries } in
      let itself : length game.entries ≤ length game.entries = omega arith in
      record {
        head = refl;
        entries = begins-refl game.entries;
        over = λ is. (
          refl,
          ap (λ e. is_some e) (end-ruled laws game ruling moment)
              ∙ over-later (rule_end laws game) (verdict_of game.rulings) (verdict_in ruling) game.outside is,
        );
        rulings = (r ∷ [], refl, (itself, tt));
        offered = λ offer at next same. at;
      }

  pub was-ruled-later : (new : Game M) (reply : Reply) → WasRuled new reply → IsLaterGame laws game new
  was-ruled-later new reply was = rw (← was.stands) ruled-later

  -- it has the next number, and what it grants is within the limits
  pub ruling-next : NoneHolds (ruling_tests laws game number ruling)
      → (number ≡ suc (length game.rulings)) × (has_grant_time ruling ≡ true)
  ruling-next tests =
      let good = both-true (is_ruling_number game number) (has_grant_time ruling) (not-false _ tests.1.1.0) in
      (number-next game.rulings number tests.1.0 good.0, good.1)

  -- no rule of the game had ended it
  pub ruling-before-end : NoneHolds (ruling_tests laws game number ruling) → rule_end laws game ≡ None
  ruling-before-end tests =
      let early = or-false (is_some (rule_end laws game)) (is_grant ruling && is_over laws game) tests.0 in
      not-some (rule_end laws game) early.0

  -- the ruling that was given has its number in each later game
  pub ruling-there : (later : Game M) → NoneHolds (ruling_tests laws game number ruling)
      → IsLaterGame laws (ruled game ruling moment) later
      → repeat_of_ruling laws later number ruling ≡ Some (ruling_given number)
  ruling-there later tests since =
      let r : GivenRuling = record { ruling = ruling; moment = moment; plies = length game.entries } in
      let (more, grown, _) = since.rulings in
      let next : number ≡ suc (length game.rulings) = (ruling-next tests).0 in
      let at : slice_get later.rulings (length game.rulings) ≡ Some r =
      rw grown (get-append (game.rulings ++ r ∷ []) more (length game.rulings) r (at-last game.rulings r)) in
      let under : ruling_under later.rulings number ≡ Some ruling =
      ap (ruling_under later.rulings) next ∙ ap ruling_in at in
      let given : is_given ruling (ruling_under later.rulings number) ≡ true =
      ap (is_given ruling) under ∙ same_ruling-itself ruling in
      ap (λ b. if b then Some (ruling_given number) else None) given
