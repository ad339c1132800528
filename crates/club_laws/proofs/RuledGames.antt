-- A legal game on which the arbiter gave a ruling that nothing refuses is legal.
use Rattle.std.proofs.Common.{◌≡◌, ℕ, zero, suc, ◌+◌, ◌<◌, ◌≤◌, List, [], ◌∷◌, ◌++◌, length, map, Option, Some, None}
use Rattle.std.proofs.Common.{Bool, true, false, not, ◌&&◌, refl, sym, ap, subst, ◌∙◌, arith, length-append}
use Rattle.std.specs.Prelude.{IsSome, IfSome, is_some, nat_le, slice_get}
use Rattle.std.proofs.lemmas.List.{length-map}
use Rattle.squares.specs.declared.sides.Score.{Score}
use Rattle.squares.specs.declared.sides.Side.TheVariants.{First}
use Rattle.club_rules.specs.GameRules.{GameRules}
use Rattle.club_requests.specs.declared.outside_end.OutsideEnd.{OutsideEnd}
use Rattle.club_requests.specs.declared.outside_end.OutsideEnd.TheVariants.{Resigned, Agreed, Time, Declared, Recorded}
use Rattle.club_requests.specs.declared.rulings.Ruling.{Ruling}
use Rattle.club_requests.specs.declared.rulings.Ruling.TheVariants.{Grant, Award, Void}
use Rattle.club_requests.specs.declared.rulings.Verdict.{Verdict}
use Rattle.club_requests.specs.Limits.{most_rulings}
use Rattle.club_requests.specs.Rulings.{has_grant_time, is_grant, verdict_in}
use Rattle.club_core.specs.declared.rows.Offer.{Offer}
use Rattle.club_core.specs.Events.{Terms}
use Rattle.club_core.specs.Rulings.{GivenRuling, first_verdict, verdict_of}
use Rattle.club_core.specs.Game.{Entry, Game, Clocks, clocks_of, end_with, left_of, opening_clocks, rule_end, turn_of}
use Rattle.club_core.specs.Legal.{AreLegalRulings, IsLegalGame, IsOffer, IsRulingOf, IsVerdict, MayEndBy, moment_at}
use Rattle.club_core.specs.Legal.{moment_or}
use Rattle.club_core.specs.LegalState.{Each}
use Rattle.club_core.specs.Step.{is_over, is_ruling_number, ruled, ruling_tests}
use Rattle.club_core.proofs.Proved.{NoneHolds, both-hold, clocks-ruled, first_verdict-append, is_timely-more}
use Rattle.club_core.proofs.Proved.{none-verdict, not-some, verdict-leaves}
use Rattle.club_laws.proofs.AddedSteps.{IsLegalAt}
use Rattle.club_laws.proofs.Lists.{each-append, or-false, some-is}
use Rattle.club_laws.proofs.SeatSteps.{nat_le-false}

-- a game with a verdict or an end from outside is over
some-verdict-over : {E : Type 0} (e : Option E) (v : Option Verdict) (o : Option OutsideEnd) → is_some v ≡ true
    → is_some (end_with e v o) ≡ true
some-verdict-over (Some e) v o some = refl
some-verdict-over None (Some v) o some = refl
some-verdict-over None None o some = cc

some-outside-over : {E : Type 0} (e : Option E) (v : Option Verdict) (o : OutsideEnd)
    → is_some (end_with e v (Some o)) ≡ true
some-outside-over (Some e) v o = refl
some-outside-over None (Some v) o = refl
some-outside-over None None o = refl

-- what is allowed after an end is no grant
no-grant : (ruling : Ruling) (over : Bool) → (is_grant ruling && over) ≡ false → over ≡ true
    → is_some (verdict_in ruling) ≡ true
no-grant (Grant side seconds) over allowed is = let both : false ≡ true = sym allowed ∙ is in absurd cc
no-grant (Award score) over allowed is = refl
no-grant Void over allowed is = refl

-- where a ruling gives a verdict, there is one
some-verdict : (rs : List GivenRuling) (n : ℕ) (r : GivenRuling) → slice_get rs n ≡ Some r → IsVerdict r
    → (v : Option Verdict) → verdict_of rs ≡ v → is_some v ≡ true
some-verdict rs n r at is (Some v) found = refl
some-verdict rs n r at is None found =
    let clash : false ≡ true = rw (none-verdict rs found n r at) at is in
    absurd cc

-- timestamps that are looked up are not after one that no entry is after
or-until : {M : Type 0} (start last : ℕ) (o : Option (Entry M)) → start ≤ last
    → ((e : Entry M) → o ≡ Some e → e.moment ≤ last) → moment_or start o ≤ last
or-until start last None within each = within
or-until start last (Some e) within each = each e refl

at-until : {M : Type 0} (start last : ℕ) (entries : List (Entry M)) (plies : ℕ) → start ≤ last
    → Each (λ e. e.moment ≤ last) entries → moment_at start entries plies ≤ last
at-until start last entries zero within each = within
at-until start last entries (suc n) within each = or-until start last (slice_get entries n) within (each n)

none-after : {A : Type 0} (xs : List A) → slice_get xs (length xs) ≡ None
none-after [] = refl
none-after (x ∷ xs) = none-after xs

-- what holds of neighbours in a list, and of each element and a further one, holds of neighbours then
neighbours-append : (Is : GivenRuling → GivenRuling → Type 0) (rs : List GivenRuling) (new : GivenRuling)
    → ((n : ℕ) (a b : GivenRuling) → slice_get rs n ≡ Some a → slice_get rs (suc n) ≡ Some b → Is a b)
    → ((n : ℕ) (a : GivenRuling) → slice_get rs n ≡ Some a → Is a new)
    → (n : ℕ) (a b : GivenRuling) → slice_get (rs ++ new ∷ []) n ≡ Some a
    → slice_get (rs ++ new ∷ []) (suc n) ≡ Some b → Is a b
neighbours-append Is [] new between last n a b at next = cc
neighbours-append Is (x ∷ []) new between last zero a b at next =
    let same : new ≡ b = cc in
    rw (← same) (last 0 a at)
neighbours-append Is (x ∷ []) new between last (suc n) a b at next = cc
neighbours-append Is (x ∷ (y ∷ rs)) new between last zero a b at next = between 0 a b at next
neighbours-append Is (x ∷ (y ∷ rs)) new between last (suc n) a b at next =
    neighbours-append Is (y ∷ rs) new (λ k c d. between (suc k) c d) (λ k c. last (suc k) c) n a b at next

module _ {P M E T : Type 0} (laws : GameRules P M E T) (terms : Terms) (game : Game M) (number moment : ℕ)
    (ruling : Ruling) (own : IsLegalAt laws terms moment game) (start : game.start ≤ moment)
    (tests : NoneHolds (ruling_tests laws game number ruling)) where
  abbrev given : GivenRuling
  given = record { ruling = ruling; moment = moment; plies = length game.entries }

  early : (is_some (rule_end laws game) ≡ false) × ((is_grant ruling && is_over laws game) ≡ false)
  early = or-false (is_some (rule_end laws game)) (is_grant ruling && is_over laws game) tests.0

  no-rule : rule_end laws game ≡ None
  no-rule = not-some (rule_end laws game) early.0

  -- after an end it is a verdict
  after-end : is_over laws game ≡ true → IsVerdict given
  after-end over = no-grant ruling (is_over laws game) early.1 over

  after-verdict : (n : ℕ) (r : GivenRuling) → slice_get game.rulings n ≡ Some r → IsVerdict r → IsVerdict given
  after-verdict n r at is =
      after-end
      (some-verdict-over (rule_end laws game) (verdict_of game.rulings) game.outside
      (some-verdict game.rulings n r at is (verdict_of game.rulings) refl))

  after-outside : (o : OutsideEnd) → game.outside ≡ Some o → IsVerdict given
  after-outside o at =
      after-end
      (ap (λ x. is_some (end_with (rule_end laws game) (verdict_of game.rulings) x)) at
      ∙ some-outside-over (rule_end laws game) (verdict_of game.rulings) o)

  -- a verdict leaves the clocks
  same-clocks : IsVerdict given → clocks_of (ruled game ruling moment) terms ≡ clocks_of game terms
  same-clocks is =
      let (v, gives) = some-is (verdict_in ruling) is in
      clocks-ruled game ruling moment terms ∙ verdict-leaves ruling v gives (clocks_of game terms)

  ruling-stays : (r : GivenRuling) → IsRulingOf game r → IsRulingOf (ruled game ruling moment) r
  ruling-stays r is =
      record {
        plies = is.plies;
        after_move = is.after_move;
        before_move = is.before_move;
        time = is.time;
        last = is.last;
      }

  is-ruling : IsRulingOf (ruled game ruling moment) given
  is-ruling =
      record {
        plies = omega arith;
        after_move = at-until game.start moment game.entries (length game.entries) start own.entries;
        before_move = rw (none-after game.entries) tt;
        time = both-hold (is_ruling_number game number) (has_grant_time ruling) tests.1.1.0;
        last = λ is. refl;
      }

  -- more seconds had gone than the side that lost by time had left
  abbrev IsPast : Clocks → ℕ → Type 0
  IsPast c when = c.since + left_of (turn_of laws game) c < when

  are-ruled : AreLegalRulings laws terms (ruled game ruling moment)
  are-ruled =
      let old = own.legal.rulings in
      let count : length (game.rulings ++ given ∷ []) ≡ length game.rulings + 1 = simp length-append in
      let room : length game.rulings < most_rulings = nat_le-false _ _ tests.1.1.1.0 in
      record {
        count = omega (arith, count, room);
        each = each-append (IsRulingOf (ruled game ruling moment)) game.rulings given
            (λ n r at. ruling-stays r (old.each n r at)) is-ruling;
        in_order = neighbours-append
            (λ a b. (a.plies ≤ b.plies) × (a.moment ≤ b.moment) × (IsVerdict a → IsVerdict b)) game.rulings given
            old.in_order
            (λ n r at.
            let of = old.each n r at in
            (of.plies, own.rulings n r at, after-verdict n r at));
        verdict_alone = λ some. no-rule;
        before_rule_end = λ ended. let clash : false ≡ true = rw no-rule at ended in absurd cc;
        recorded = λ score is. each-append IsVerdict game.rulings given (old.recorded score is)
            (after-outside (Recorded score) is);
        lost_by_time = λ is.
            let clocks = same-clocks (after-outside Time is) in
            subst (λ c. IfSome (first_verdict (game.rulings ++ given ∷ [])) (λ r. IsPast c r.moment)) (sym clocks)
            (first_verdict-append (λ r. IsPast (clocks_of game terms) r.moment) game.rulings given
            (old.lost_by_time is) (own.lost_by_time is));
      }

  offer-stays : (offer : Option Offer) → IfSome offer (λ o. IsOffer laws game o)
      → IfSome offer (λ o. IsOffer laws (ruled game ruling moment) o)
  offer-stays None is = tt
  offer-stays (Some offer) is =
      record { allowed = is.allowed; next_ply = is.next_ply; no_rule_end = is.no_rule_end }

  outside-stays : (outside : Option OutsideEnd) → IfSome outside (λ end. MayEndBy laws terms game end)
      → IfSome outside (λ end. MayEndBy laws terms (ruled game ruling moment) end)
  outside-stays None is = tt
  outside-stays (Some Resigned) is = tt
  outside-stays (Some Agreed) is = is
  outside-stays (Some Time) is = tt
  outside-stays (Some Declared) is = is
  outside-stays (Some (Recorded score)) is =
      record { keyed = is.keyed; no_offer = is.no_offer; at_once = is.at_once }

  ruled-game : IsLegalGame laws terms (ruled game ruling moment)
  ruled-game =
      let legal = own.legal in
      let moments : length (map (λ e. e.moment) game.entries) ≡ length game.entries = simp length-map in
      let itself : length game.entries ≤ length game.entries = omega arith in
      record {
        line = legal.line;
        plies = legal.plies;
        timely = is_timely-more terms.increment game.rulings (given ∷ []) 0 (length game.entries) First
            (map (λ e. e.moment) game.entries) (opening_clocks game terms) (omega (arith, moments)) (itself, tt)
            legal.timely;
        outside_alone = legal.outside_alone;
        offer = offer-stays game.offer legal.offer;
        outside = outside-stays game.outside legal.outside;
        players = legal.players;
        rulings = are-ruled;
      }

  pub ruled-legal : IsLegalAt laws terms moment (ruled game ruling moment)
  ruled-legal =
      record {
        legal = ruled-game;
        entries = own.entries;
        rulings = each-append (λ r. r.moment ≤ moment) game.rulings given own.rulings (omega arith);
        lost_by_time = λ is. subst (λ c. IsPast c moment) (sym (same-clocks (after-outside Time is)))
            (own.lost_by_time is);
      }
