-- Whether the rulings on a replayed game are legal, by what is tested of them.
use Rattle.std.proofs.Common.{◌≡◌, ℕ, zero, suc, pos, ◌+◌, ◌<◌, ◌≤◌, List, [], ◌∷◌, length, map, Option, Some, None}
use Rattle.std.proofs.Common.{Bool, true, false, not, ◌&&◌, ◌||◌, refl, ap, sym, ◌∙◌, arith, add-one, subst, codes, bytes_eq}
use Rattle.std.specs.Prelude.{◌==◌, IsSome, IfSome, is_some, int_le, nat_lt, slice_get}
use Rattle.std.specs.List.{list_all}
use Rattle.std.specs.Option.{option_map}
use Rattle.std.proofs.lemmas.Bool.{and_from, and_parts, cases_Bool}
use Rattle.std.proofs.lemmas.Bool.Decides.{nat_tests}
use Rattle.std.proofs.lemmas.Option.{slice_get_within}
use Rattle.squares.specs.declared.sides.Side.{Side}
use Rattle.squares.specs.declared.sides.Side.TheVariants.{First, Second}
use Rattle.squares.specs.declared.sides.Score.{Score}
use Rattle.club_rules.specs.GameRules.{GameRules}
use Rattle.club_requests.specs.declared.outside_end.OutsideEnd.{OutsideEnd}
use Rattle.club_requests.specs.declared.outside_end.OutsideEnd.TheVariants.{Time, Recorded}
use Rattle.club_requests.specs.declared.rulings.Verdict.{Verdict}
use Rattle.club_requests.specs.Rulings.{has_grant_time, verdict_in}
use Rattle.club_core.specs.Events.{Terms}
use Rattle.club_core.specs.Game.{Entry, Game, clocks_of, left_of, moves_of, rule_end, turn_of}
use Rattle.club_core.specs.Legal.{AreLegalRulings, IsRulingOf, IsVerdict, moment_at}
use Rattle.club_core.specs.Legal as core
use Rattle.club_core.specs.Rulings.{GivenRuling, first_verdict, later_verdict, verdict_of}
use Rattle.club_core.proofs.Proved.{no-first_verdict}
use Rattle.club_laws.proofs.Proved.{map-at}
use Rattle.store_tables.specs.Cells.{move_cells}
use Rattle.store_tables.specs.declared.rows.MoveRow.{MoveRow}
use Rattle.club_rows.specs.Replay.{IsPlayedAs}
use Rattle.club_rows.specs.Rulings.{ArePossible}
use Rattle.club_rows.specs.Tables.{at_start}
use Rattle.club_rows.specs.internal.Replay.{Replays, left_in}
use Rattle.club_rows.specs.internal.Ruled.{are_legal, is_after_loss, is_before, is_later, is_recorded, may_be_given}
use Rattle.club_rows.specs.internal.Ruled.{moment_in, moment_or, names_record}
use Rattle.club_rows.specs.internal.Rulings.{given_of, rulings_given}
use Rattle.club_rows.specs.declared.replay.Replayed.{Replayed}
use Rattle.club_rows.specs.declared.rulings.GameRulings.{GameRulings}
use Rattle.club_rows.proofs.NextLemmas.{six-parts}
use Rattle.club_rows.proofs.WholeLemmas.{played-count, rows-from}

-- ---- tests of all

pub list_all-each : {A : Type 0} (test : A → Bool) (xs : List A) → list_all test xs ≡ true → (n : ℕ) (x : A)
    → slice_get xs n ≡ Some x → test x ≡ true
list_all-each test [] all n x at = cc
list_all-each test (y ∷ ys) all zero x at =
    let e : y ≡ x = cc in
    rw (← e) (and_parts (test y) (list_all test ys) all).0
list_all-each test (y ∷ ys) all (suc n) x at =
    list_all-each test ys (and_parts (test y) (list_all test ys) all).1 n x at

list_all-from : {A : Type 0} (test : A → Bool) (xs : List A)
    → ((n : ℕ) (x : A) → slice_get xs n ≡ Some x → test x ≡ true) → list_all test xs ≡ true
list_all-from test [] each = refl
list_all-from test (y ∷ ys) each =
    and_from (test y) (list_all test ys) (each 0 y refl) (list_all-from test ys (λ n x at. each (suc n) x at))

pub list_all-mapped : {A B : Type 0} (f : A → B) (test : B → Bool) (xs : List A)
    → list_all (λ x. test (f x)) xs ≡ list_all test (map f xs)
list_all-mapped f test [] = refl
list_all-mapped f test (x ∷ xs) = ap (λ rest. test (f x) && rest) (list_all-mapped f test xs)

later-some : (w v : Option Verdict) → v ≡ None → IsSome (later_verdict v w) → IsSome w
later-some None v none some = rw none at some
later-some (Some w) v none some = refl

none-recorded : (judged ruled named : Bool) → (not judged && not ruled && named) ≡ true
    → (judged ≡ false) × (ruled ≡ false) × (named ≡ true)
none-recorded judged ruled named test = grind arith

pub not-given : {A : Type 0} (o : Option A) → is_some o ≡ false → o ≡ None
not-given None is = refl
not-given (Some x) is = cc

got-none : {A : Type 0} (xs : List A) (n : ℕ) → n < length xs → slice_get xs n ≡ None → ⊥
got-none [] n within none = omega (arith, within)
got-none (x ∷ xs) zero within none = absurd cc
got-none (x ∷ xs) (suc n) within none =
    got-none xs n (omega (arith, within, add-one n, add-one (length xs))) none

-- ---- one ruling

-- what is tested of a ruling, beside the timestamps of the moves
pub record MayBeGiven (plies : ℕ) (ruled recorded : Bool) (after before : Bool) (r : GivenRuling) : Type 0 where
  pub within : r.plies ≤ plies
  pub before_end : ruled ≡ true → r.plies < plies
  pub last : IsVerdict r → r.plies ≡ plies
  pub no_grant : recorded ≡ true → IsVerdict r
  pub after_move : after ≡ true
  pub before_move : before ≡ true

module _ (start : ℕ) (moves : List MoveRow) (ruled recorded : Bool) (r : GivenRuling) where
  abbrev is_after : Bool
  is_after = int_le (moment_in start moves r.plies) (pos r.moment)

  abbrev is_next : Bool
  is_next = is_before r.moment (slice_get moves r.plies)

  pub may-told : may_be_given start moves ruled recorded r ≡ true
      → MayBeGiven (length moves) ruled recorded is_after is_next r
  may-told may = grind (arith, nat_tests, may)

  may-from : MayBeGiven (length moves) ruled recorded is_after is_next r
      → may_be_given start moves ruled recorded r ≡ true
  may-from is = grind (arith, nat_tests, is)

-- ---- timestamps

module _ {P M E T : Type 0} (rules : GameRules P M E T) (terms : Terms) (id from : ℕ) (moves : List MoveRow)
    (game : Game M) (played : IsPlayedAs rules terms id from moves game) where
  row-moment : (n : ℕ) (row : MoveRow) → slice_get moves n ≡ Some row
      → (e : Entry M) × (slice_get game.entries n ≡ Some e) × (row.moment ≡ pos e.moment)
  row-moment n row at =
      let cells = rw played.moves at (map-at move_cells moves n row at) in
      let got = rows-from rules terms id (at_start game) game.entries n (move_cells row) cells in
      let parts = six-parts _ _ _ _ _ _ _ _ _ _ _ _ got.2 in
      (got.0, got.1, parts.d_is)

  count : length moves ≡ length game.entries
  count = played-count rules terms id from moves game played

  no-row : (n : ℕ) → slice_get moves n ≡ None → slice_get game.entries n ≡ None
  no-row n none = told (slice_get game.entries n) refl
    where
      told : (o : Option (Entry M)) → slice_get game.entries n ≡ o → o ≡ None
      told None is = refl
      told (Some e) is =
          let inside = slice_get_within game.entries n e is in
          absurd (got-none moves n (omega (arith, inside, count)) none)

  last-moment : (plies : ℕ) → moment_in game.start moves plies ≡ pos (moment_at game.start game.entries plies)
  last-moment zero = refl
  last-moment (suc n) = told (slice_get moves n) refl
    where
      told : (o : Option MoveRow) → slice_get moves n ≡ o
          → moment_or game.start (slice_get moves n) ≡ pos (core.moment_or game.start (slice_get game.entries n))
      told None is = rw (is, no-row n is) refl
      told (Some row) is =
          let (e, at, same) = row-moment n row is in
          rw (is, at) same

  next-moment : (moment plies : ℕ)
      → is_before moment (slice_get moves plies) ≡ true → IfSome (slice_get game.entries plies) (λ e. moment ≤ e.moment)
  next-moment moment plies before = told (slice_get moves plies) refl
    where
      told : (o : Option MoveRow) → slice_get moves plies ≡ o
          → IfSome (slice_get game.entries plies) (λ e. moment ≤ e.moment)
      told None is = rw (no-row plies is) tt
      told (Some row) is =
          let (e, at, same) = row-moment plies row is in
          let test : int_le (pos moment) (pos e.moment) ≡ true = rw (is, same) at before in
          rw at (grind (arith, nat_tests, test))

  next-tested : (moment plies : ℕ) → IfSome (slice_get game.entries plies) (λ e. moment ≤ e.moment)
      → is_before moment (slice_get moves plies) ≡ true
  next-tested moment plies before = told (slice_get moves plies) refl
    where
      told : (o : Option MoveRow) → slice_get moves plies ≡ o → is_before moment (slice_get moves plies) ≡ true
      told None is = rw is refl
      told (Some row) is =
          let (e, at, same) = row-moment plies row is in
          let low : moment ≤ e.moment = rw at at before in
          rw (is, same) (grind (arith, nat_tests, low))

  -- ---- the rulings on the game

  module _ {R : Type 0} (replayed : Replayed R P M E T) (replays : Replays rules game (clocks_of game terms) replayed)
      (read : GameRulings) (end : Option (List ℕ)) (rulings_are : game.rulings ≡ rulings_given read.given.items)
      (verdict_is : read.verdict ≡ verdict_of (rulings_given read.given.items))
      (first_is : option_map given_of read.first ≡ first_verdict (rulings_given read.given.items))
      (beneath_alone : read.verdict ≡ None → read.beneath ≡ None)
      (outside_is : IsSome read.verdict → game.outside ≡ read.beneath) where
    abbrev ruled : Bool
    ruled = is_some (rules.judge rules.start replayed.line.items)

    abbrev recorded : Bool
    recorded = is_recorded read.beneath (is_some read.verdict) ruled end

    abbrev deadline : ℕ
    deadline = replayed.since + left_in replayed (rules.turn replayed.position)

    ruled-is : ruled ≡ is_some (rule_end rules game)
    ruled-is = ap (λ ms. is_some (rules.judge rules.start ms)) replays.line

    judged-is : read.verdict ≡ verdict_of game.rulings
    judged-is = verdict_is ∙ ap verdict_of (sym rulings_are)

    first-given : option_map given_of read.first ≡ first_verdict game.rulings
    first-given = first_is ∙ ap first_verdict (sym rulings_are)

    deadline-is : deadline ≡ (clocks_of game terms).since + left_of (turn_of rules game) (clocks_of game terms)
    deadline-is =
        let turn : rules.turn replayed.position ≡ turn_of rules game = ap rules.turn replays.position in
        let left : (side : Side) → left_in replayed side ≡ left_of side (clocks_of game terms) = λ side. each side in
        let since = ap (λ c. c.since) replays.clocks_are in
        rw (turn, since, left (turn_of rules game)) refl
      where
        each : (side : Side) → left_in replayed side ≡ left_of side (clocks_of game terms)
        each First = ap (λ c. c.left_first) replays.clocks_are
        each Second = ap (λ c. c.left_second) replays.clocks_are

    -- ---- what is tested holds

    module _ (possible : ArePossible game.rulings)
        (recorded_is : read.verdict ≡ None → (score : Score) → game.outside ≡ Some (Recorded score)
        → (ruled ≡ false) × (names_record end ≡ true))
        (tests : are_legal rules read replayed game.start moves end ≡ true) where
      both-tests : (list_all (λ r. may_be_given game.start moves ruled recorded (given_of r)) read.given.items ≡ true)
          × (is_after_loss read.beneath (option_map given_of read.first) deadline ≡ true)
      both-tests = and_parts _ _ tests

      each-given : (n : ℕ) (r : GivenRuling) → slice_get game.rulings n ≡ Some r
          → MayBeGiven (length moves) ruled recorded (is_after game.start moves ruled recorded r)
          (is_next game.start moves ruled recorded r) r
      each-given n r at =
          may-told game.start moves ruled recorded r
          (list_all-each (may_be_given game.start moves ruled recorded) (rulings_given read.given.items)
          (sym (list_all-mapped given_of (may_be_given game.start moves ruled recorded) read.given.items) ∙ both-tests.0) n r
          (rw rulings_are at at))

      ruling-legal : (n : ℕ) (r : GivenRuling) → slice_get game.rulings n ≡ Some r → IsRulingOf game r
      ruling-legal n r at =
          let given = each-given n r at in
          let after : int_le (pos (moment_at game.start game.entries r.plies)) (pos r.moment) ≡ true =
          rw (last-moment r.plies) at given.after_move in
          record {
            plies = omega (arith, given.within, count);
            after_move = grind (arith, nat_tests, after);
            before_move = next-moment r.moment r.plies given.before_move;
            time = possible.time n r at;
            last = λ verdict. given.last verdict ∙ count;
          }

      recorded-test : (v : Option Verdict) (score : Score) → read.verdict ≡ v → game.outside ≡ Some (Recorded score)
          → recorded ≡ true
      recorded-test (Some v) score is outside =
          let beneath : read.beneath ≡ Some (Recorded score) = sym (outside_is (ap is_some is)) ∙ outside in
          rw beneath refl
      recorded-test None score is outside =
          let (running, named) = recorded_is is score outside in
          rw (beneath_alone is, is, running, named) refl

      is-later : (first : Option GivenRuling) → is_later deadline first ≡ true
          → IfSome first (λ r. deadline < r.moment)
      is-later None later = tt
      is-later (Some first) later = grind (arith, nat_tests, later)

      after-loss : (v : Option Verdict) → read.verdict ≡ v → game.outside ≡ Some Time
          → IfSome (first_verdict game.rulings) (λ r. deadline < r.moment)
      after-loss None is outside = rw (no-first_verdict game.rulings (sym judged-is ∙ is)) tt
      after-loss (Some v) is outside =
          let beneath : read.beneath ≡ Some Time = sym (outside_is (ap is_some is)) ∙ outside in
          let later : is_later deadline (option_map given_of read.first) ≡ true = rw beneath at both-tests.1 in
          subst (λ first. IfSome first (λ r. deadline < r.moment)) first-given
          (is-later (option_map given_of read.first) later)

      some-verdict : (rs : List GivenRuling) → IsSome (verdict_of rs)
          → (n : ℕ) × (r : GivenRuling) × (slice_get rs n ≡ Some r) × IsVerdict r
      some-verdict [] some = cc
      some-verdict (r ∷ rs) some = by-head (verdict_in r.ruling) refl (λ rest. some-verdict rs rest)
        where
          by-head : (v : Option Verdict) → verdict_in r.ruling ≡ v
              → (IsSome (verdict_of rs)
              → (n : ℕ) × (x : GivenRuling) × (slice_get rs n ≡ Some x) × IsVerdict x)
              → (n : ℕ) × (x : GivenRuling) × (slice_get (r ∷ rs) n ≡ Some x) × IsVerdict x
          by-head (Some v) is rest = (0, r, refl, ap is_some is)
          by-head None is rest =
              let (n, x, at, verdict) = rest (later-some (verdict_of rs) (verdict_in r.ruling) is some) in
              (suc n, x, at, verdict)

      verdict-alone : (o : Option E) → rule_end rules game ≡ o → IsSome (verdict_of game.rulings) → o ≡ None
      verdict-alone None is some = refl
      verdict-alone (Some e) is some =
          let (n, r, at, verdict) = some-verdict game.rulings some in
          let given = each-given n r at in
          let before = given.before_end (ruled-is ∙ ap is_some is) in
          let last = given.last verdict in
          absurd (omega (arith, before, last))

      pub ruled-legal : AreLegalRulings rules terms game
      ruled-legal = record {
        count = possible.count;
        each = ruling-legal;
        in_order = λ n r next at at_next.
            let follows = possible.in_order n r next at at_next in
            (follows.plies, follows.moment, λ verdict. (follows.verdict verdict).0);
        verdict_alone = λ some. verdict-alone (rule_end rules game) refl some;
        before_rule_end = λ ended n r at.
            let before = (each-given n r at).before_end (ruled-is ∙ ended) in
            omega (arith, before, count);
        recorded = λ score outside n r at. (each-given n r at).no_grant (recorded-test read.verdict score refl outside);
        lost_by_time = λ outside. rw (← deadline-is) (after-loss read.verdict refl outside);
      }

    -- ---- what holds is tested

    module _ (legal : AreLegalRulings rules terms game)
        (recorded_back : read.verdict ≡ None → ruled ≡ false → names_record end ≡ true → (n : ℕ) (r : GivenRuling)
        → slice_get game.rulings n ≡ Some r → IsVerdict r) where
      some-beneath : (v : Option Verdict) (o : OutsideEnd) → read.verdict ≡ v → read.beneath ≡ Some o
          → game.outside ≡ Some o
      some-beneath None o is beneath = let none = beneath_alone is in absurd cc
      some-beneath (Some v) o is beneath = outside_is (ap is_some is) ∙ beneath

      no-grants : (o : Option OutsideEnd) → read.beneath ≡ o → is_recorded o (is_some read.verdict) ruled end ≡ true
          → (n : ℕ) (r : GivenRuling) → slice_get game.rulings n ≡ Some r → IsVerdict r
      no-grants (Some (Recorded score)) is test n r at =
          legal.recorded score (some-beneath read.verdict (Recorded score) refl is) n r at
      no-grants None is test n r at =
          let parts = none-recorded (is_some read.verdict) ruled (names_record end) test in
          recorded_back (not-given read.verdict parts.0) parts.1 parts.2 n r at
      no-grants (Some o) is test n r at = cc

      given-each : (n : ℕ) (r : GivenRuling) → slice_get game.rulings n ≡ Some r
          → may_be_given game.start moves ruled recorded r ≡ true
      given-each n r at =
          let is = legal.each n r at in
          let after : int_le (moment_in game.start moves r.plies) (pos r.moment) ≡ true =
          rw (last-moment r.plies) (grind (arith, nat_tests, is.after_move)) in
          may-from game.start moves ruled recorded r
          (record {
            within = omega (arith, is.plies, count);
            before_end = λ ended.
                let before = legal.before_rule_end (sym ruled-is ∙ ended) n r at in
                omega (arith, before, count);
            last = λ verdict. is.last verdict ∙ sym count;
            no_grant = λ test. no-grants read.beneath refl test n r at;
            after_move = after;
            before_move = next-tested r.moment r.plies is.before_move;
          })

      later-tested : (first : Option GivenRuling) → IfSome first (λ r. deadline < r.moment)
          → is_later deadline first ≡ true
      later-tested None later = refl
      later-tested (Some first) later = grind (arith, nat_tests, later)

      loss-tested : (o : Option OutsideEnd) → read.beneath ≡ o
          → is_after_loss o (option_map given_of read.first) deadline ≡ true
      loss-tested None is = refl
      loss-tested (Some Time) is =
          let outside = some-beneath read.verdict Time refl is in
          later-tested (option_map given_of read.first)
          (rw (first-given, deadline-is) (legal.lost_by_time outside))
      loss-tested (Some _) is = refl

      pub legal-ruled : are_legal rules read replayed game.start moves end ≡ true
      legal-ruled =
          and_from _ _
          (list_all-mapped given_of (may_be_given game.start moves ruled recorded) read.given.items
          ∙ list_all-from (may_be_given game.start moves ruled recorded) (rulings_given read.given.items)
          (λ n r at. given-each n r (rw rulings_are at)))
          (loss-tested read.beneath refl)
