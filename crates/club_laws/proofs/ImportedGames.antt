-- The game of a record is legal, and its result is the record's.
use Rattle.std.proofs.Common.{◌≡◌, ◌≢◌, ℕ, zero, suc, ◌<◌, ◌≤◌, List, [], ◌∷◌, length, map, take, Option, Some, None}
use Rattle.std.proofs.Common.{Bool, true, false, not, ◌&&◌, refl, ap, sym, ◌∙◌, subst, arith}
use Rattle.std.specs.Prelude.{IsSome, IfSome, is_some, slice_get, if◌then◌else◌}
use Rattle.std.proofs.lemmas.List.{length-map, length-take-le}
use Rattle.squares.specs.declared.sides.Side.{Side}
use Rattle.squares.specs.declared.sides.Side.TheVariants.{First, Second}
use Rattle.squares.specs.declared.sides.Score.{Score}
use Rattle.squares.specs.Sides.{other}
use Rattle.squares.specs.internal.Sides.{same_score-itself}
use Rattle.club_rules.specs.declared.record_refusals.RecordRefusal.TheVariants.{ResultDiffers}
use Rattle.club_rules.specs.declared.records.RecordFormat.{RecordFormat}
use Rattle.club_rules.specs.GameRules.{GameRules, ply_limit}
use Rattle.club_rules.specs.Line.{position_after, IsLegalLine, IsPlayedLine}
use Rattle.club_rules.specs.Records as record_is
use Rattle.club_rules.specs.Records.{Recorded, Reading, IsGameByRules}
use Rattle.club_requests.specs.declared.outside_end.OutsideEnd.{OutsideEnd}
use Rattle.club_requests.specs.declared.outside_end.OutsideEnd.TheVariants.{Recorded as by_record}
use Rattle.club_core.specs.Events.{Terms}
use Rattle.club_core.specs.declared.seats.Pairing.{Pairing}
use Rattle.club_core.specs.Game.{Entry, Clocks, spend, end_with, score_with, result_of}
use Rattle.club_core.specs.Imports.{recorded_end, has_score, same_moves, is_record_of, imported, read_in}
use Rattle.club_core.specs.Legal.{IsTimely, IsLegalGame, MayEndBy}
use Rattle.club_core.specs.Step.{is_over}
use Rattle.club_core.proofs.Proved.{AreRules, no-rulings}

-- the moves of a record, all at one moment
abbrev pub entries_at : {M : Type 0} → ℕ → List M → List (Entry M)
entries_at moment ms = map (λ m. record { made = m; moment = moment }) ms

pub made-again : {M : Type 0} (moment : ℕ) (ms : List M) → map (λ e. e.made) (entries_at moment ms) ≡ ms
made-again moment [] = refl
made-again moment (m ∷ ms) = ap (λ l. m ∷ l) (made-again moment ms)

pub each-at : {M : Type 0} (moment : ℕ) (ms : List M) (n : ℕ) (e : Entry M)
    → slice_get (entries_at moment ms) n ≡ Some e → e.moment ≡ moment
each-at moment [] n e at = cc
each-at moment (m ∷ ms) zero e at = let same : record { made = m; moment = moment } ≡ e = cc in
    ap (λ x. x.moment) (sym same)
each-at moment (m ∷ ms) (suc n) e at = each-at moment ms n e at

-- the clocks after a move run from its moment
pub spend-since : (increment : ℕ) (side : Side) (m : ℕ) (c : Clocks) → (spend increment side m c).since ≡ m
spend-since increment First m c = refl
spend-since increment Second m c = refl

-- moves at the moment from which the clocks run are made in time
at-once : {M : Type 0} (increment plies : ℕ) (side : Side) (moment : ℕ) (ms : List M) (c : Clocks) → c.since ≡ moment
    → IsTimely increment [] plies side (map (λ e. e.moment) (entries_at moment ms)) c
at-once increment plies side moment [] c since = tt
at-once increment plies side moment (m ∷ ms) c since = (
  omega (arith, since),
  omega (arith, since),
  at-once increment (suc plies) (other side) moment ms (spend increment side moment c)
      (spend-since increment side moment c),
)

outside-only : {E : Type 0} (end : Option E) (result : Score) → IsSome (recorded_end end result) → end ≡ None
outside-only None result is = refl
outside-only (Some end) result is = cc

-- the end of a record's game, where the rules gave none, is as recorded
pub as-recorded : {E : Type 0} (end : Option E) (result : Score) (outside : OutsideEnd)
    → recorded_end end result ≡ Some outside → by_record result ≡ outside
as-recorded None result outside is = cc
as-recorded (Some end) result outside is = cc

-- a game that is read in an event was read
pub read-game : {M : Type 0} (format : RecordFormat) (declares : Bool) (read : Reading M) (r : Recorded M)
    → read_in format declares read ≡ record_is.game r → read ≡ record_is.game r
read-game format declares (record_is.game g) r is = here (g.declared && not declares) is
  where
    here : (b : Bool)
        → (if b then record_is.refused (ResultDiffers format) else record_is.game g) ≡ record_is.game r
        → record_is.game g ≡ record_is.game r
    here true differs = cc
    here false same = same
read-game format declares record_is.no_part r is = cc
read-game format declares (record_is.refused refusal) r is = cc

some-none : {A : Type 0} (o : Option A) → IsSome o → o ≡ None → ⊥
some-none None some none = cc
some-none (Some x) some none = cc

module _ {P M E T : Type 0} (laws : GameRules P M E T) where
  legal-take : (k : ℕ) (p : P) (ms : List M) → IsLegalLine laws p ms → IsLegalLine laws p (take k ms)
  legal-take zero p ms line = tt
  legal-take (suc k) p [] line = tt
  legal-take (suc k) p (m ∷ ms) line = (line.0, legal-take k (laws.play p m) ms line.1)

  score-of : (end : Option E) (turn : Side) (result : Score) → ((e : E) → end ≡ Some e → result ≡ laws.outcome e turn)
      → score_with laws (end_with end None (recorded_end end result)) turn ≡ Some result
  score-of None turn result says = refl
  score-of (Some e) turn result says = ap Some (sym (says e refl))

  -- the result of a record's game is the record's
  pub imported-result : (key : Option (List ℕ)) (pairing : Pairing) (moment : ℕ) (r : Recorded M) → IsGameByRules laws r
      → result_of laws (imported laws key pairing moment r) ≡ Some r.score
  imported-result key pairing moment r by =
      let end = laws.judge laws.start r.moves in
      ap
      (λ ms. score_with laws (end_with (laws.judge laws.start ms) None (recorded_end end r.score))
      (laws.turn (position_after laws laws.start ms))) (made-again moment r.moves)
      ∙ score-of end (laws.turn (position_after laws laws.start r.moves)) r.score by.score

  over-recorded : (end : Option E) (result : Score) → is_some (end_with end None (recorded_end end result)) ≡ true
  over-recorded None result = refl
  over-recorded (Some e) result = refl

  -- and it is over
  pub imported-over : (key : Option (List ℕ)) (pairing : Pairing) (moment : ℕ) (r : Recorded M)
      → is_over laws (imported laws key pairing moment r) ≡ true
  imported-over key pairing moment r =
      let end = laws.judge laws.start r.moves in
      ap (λ ms. is_some (end_with (laws.judge laws.start ms) None (recorded_end end r.score)))
      (made-again moment r.moves)
      ∙ over-recorded end r.score

  module _ (are_rules : AreRules laws) where
    pub within-limit : (ms : List M) → IsPlayedLine laws laws.start ms → length ms ≤ ply_limit
    within-limit ms line =
        let none_more : ply_limit < length ms → ⊥ = λ more.
        let count : length (take ply_limit ms) ≡ ply_limit = length-take-le ply_limit ms (omega (arith, more)) in
        some-none (laws.judge laws.start (take ply_limit ms))
        (are_rules.ends_at_limit (take ply_limit ms) (legal-take ply_limit laws.start ms line.legal) count)
        (line.unended ply_limit more) in
        omega (arith, none_more)

    same_moves-itself : (ms : List M) → same_moves laws ms ms ≡ true
    same_moves-itself [] = refl
    same_moves-itself (m ∷ ms) = λ i. (are_rules.same_is m m).1 refl i && same_moves-itself ms i

    -- the record is that of its game
    pub record-of-itself : (key : Option (List ℕ)) (pairing : Pairing) (moment : ℕ) (r : Recorded M)
        → IsGameByRules laws r → is_record_of laws (imported laws key pairing moment r) r ≡ true
    record-of-itself key pairing moment r by =
        let moves = ap (λ ms. same_moves laws ms r.moves) (made-again moment r.moves) ∙ same_moves-itself r.moves in
        let result = ap (λ o. has_score o r.score) (imported-result key pairing moment r by)
        ∙ same_score-itself r.score in
        λ i. result i && moves i

    -- a record's game is legal
    pub imported-legal : (terms : Terms) (key : List ℕ) (pairing : Pairing) (moment : ℕ) (r : Recorded M)
        → IsGameByRules laws r → pairing.first ≢ pairing.second
        → IsLegalGame laws terms (imported laws (Some key) pairing moment r)
    imported-legal terms key pairing moment r by apart =
        let moves : map (λ e. e.made) (entries_at moment r.moves) ≡ r.moves = made-again moment r.moves in
        let end = laws.judge laws.start r.moves in
        let count : length (entries_at moment r.moves) ≡ length r.moves =
        length-map r.moves (λ m. record { made = m; moment = moment }) in
        let few = within-limit r.moves by.line in
        record {
          line = subst (λ ms. IsPlayedLine laws laws.start ms) (sym moves) by.line;
          plies = omega (arith, count, few);
          timely = at-once terms.increment 0 First moment r.moves
              (record { left_first = terms.budget; left_second = terms.budget; since = moment }) refl;
          outside_alone = λ some. ap (laws.judge laws.start) moves ∙ outside-only end r.score some;
          offer = tt;
          outside = record-fits end r.score;
          players = apart;
          rulings = no-rulings laws terms (imported laws (Some key) pairing moment r) refl;
        }
      where
        record-fits : (end : Option E) (score : Score)
            → IfSome (recorded_end end score) (λ o. MayEndBy laws terms (imported laws (Some key) pairing moment r) o)
        record-fits None score = record { keyed = refl; no_offer = refl; at_once = each-at moment r.moves }
        record-fits (Some by_rule) score = tt
