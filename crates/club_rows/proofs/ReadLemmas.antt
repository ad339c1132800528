-- The rulings that are read from their rows, row by row.
use Rattle.std.proofs.Common.{◌≡◌, ◌≢◌, ℕ, zero, suc, pos, ◌+◌, ◌-◌, ◌<◌, ◌≤◌, List, [], ◌∷◌, ◌++◌, length, map, take}
use Rattle.std.proofs.Common.{Option, Some, None, true, refl, ap, sym, ◌∙◌, arith, subst, length-append, add-one, inl, inr}
use Rattle.std.specs.Prelude.{IsSome, slice_get, string_bytes}
use Rattle.std.specs.Option.{option_map}
use Rattle.std.proofs.Math.Seq.{take-length}
use Rattle.std.proofs.lemmas.List.{length-map, length-take-le, map-append, take-map}
use Rattle.std.proofs.lemmas.Option.{same_Some, slice_get_within}
use Rattle.sqlite.specs.Order.{Row}
use Rattle.squares.specs.declared.sides.Side.{Side}
use Rattle.squares.specs.Sides.{score_text}
use Rattle.club_requests.specs.declared.outside_end.OutsideEnd.{OutsideEnd}
use Rattle.club_requests.specs.declared.rulings.Ruling.{Ruling}
use Rattle.club_requests.specs.declared.rulings.Verdict.{Verdict}
use Rattle.club_requests.specs.OutsideEnd.{outside_score, outside_text}
use Rattle.club_requests.specs.Limits.{last_moment, most_rulings}
use Rattle.club_requests.specs.Rulings.{has_grant_time, verdict_in}
use Rattle.club_core.specs.Game.{Game, side_after}
use Rattle.club_core.specs.Legal.{IsVerdict}
use Rattle.club_core.specs.LegalState.{Each}
use Rattle.club_core.specs.Rulings.{GivenRuling, ruling_in, ruling_under, verdict_of}
use Rattle.club_core.proofs.Proved.{no-first_verdict, verdict_of-append}
use Rattle.club_laws.proofs.Proved.{each-append, got-append, map-at}
use Rattle.store_tables.specs.Cells.{ruling_cells}
use Rattle.store_tables.specs.declared.rows.RulingRow.{RulingRow}
use Rattle.club_rows.specs.Rulings.{ArePossible, AreRulingRows, MayFollow}
use Rattle.club_rows.specs.Tables.{awarded_score, granted_seconds, kept_by, replaced_by, ruling_number, ruling_row}
use Rattle.club_rows.specs.Tables.{ruling_rows, ruling_rows_from}
use Rattle.club_rows.proofs.ColumnLemmas.{same-pos}
use Rattle.club_rows.specs.internal.Rulings.{Adds, AreRead, HasGiven, IsBeneath, IsBeneathIn, IsFirstOver, IsNextRuling}
use Rattle.club_rows.specs.internal.Rulings.{MayFollowAll, earlier, given_of, rulings_given}
use Rattle.club_rows.specs.declared.rulings.GameRulings.{GameRulings}
use Rattle.club_core.specs.declared.rulings.GivenRuling as read
use Rattle.club_rows.proofs.RulingRowLemmas.{first-more, later-none, no-verdict, rows-ruled, ruling-at, ruling-count}
use Rattle.club_rows.proofs.RulingRowLemmas.{rulings-stay, rulings-take, rulings-told}
use Rattle.club_rows.proofs.WholeLemmas.{take-got}

-- ---- one row

-- the row of a ruling, by its columns
pub record HasRuling (row : RulingRow) (game number : ℕ) (r : GivenRuling) (over : Option OutsideEnd) : Type 0 where
  pub game_is : row.game ≡ pos game
  pub number_is : row.number ≡ pos number
  pub given : HasGiven row r
  pub beneath : IsBeneathIn row (side_after r.plies) over

pub ruling-cells : (row : RulingRow) (game number : ℕ) (r : GivenRuling) (over : Option OutsideEnd)
    → HasRuling row game number r over → ruling_cells row ≡ ruling_row game number r over
ruling-cells row game number r over has = grind arith

pub cells-ruling : (row : RulingRow) (game number : ℕ) (r : GivenRuling) (over : Option OutsideEnd)
    → ruling_cells row ≡ ruling_row game number r over → HasRuling row game number r over
cells-ruling row game number r over is = grind arith

ruling-one : (a b : Ruling) → pos (ruling_number a) ≡ pos (ruling_number b)
    → pos (granted_seconds a) ≡ pos (granted_seconds b)
    → option_map score_text (awarded_score a) ≡ option_map score_text (awarded_score b) → a ≡ b
ruling-one a b kind seconds score = grind arith

outside-one : (turn : Side) (o p : Option OutsideEnd) → option_map outside_text o ≡ option_map outside_text p
    → option_map (λ e. score_text (outside_score e turn)) o ≡ option_map (λ e. score_text (outside_score e turn)) p
    → o ≡ p
outside-one turn o p name score = grind arith

-- ---- one more row

module _ (game k : ℕ) (rows : List RulingRow) (row : RulingRow) (at : slice_get rows k ≡ Some row) (old : GameRulings)
    (are : AreRead game (take k rows) old) where
  abbrev before : List GivenRuling
  before = rulings_given old.given.items

  pub count : length before ≡ k
  count =
      let inside = slice_get_within rows k row at in
      let rulings : length before ≡ length (map ruling_cells (take k rows)) =
      sym (ruling-count game 1 old.beneath before) ∙ ap length (sym are.rows_are) in
      rulings ∙ (length-map (take k rows) ruling_cells ∙ length-take-le k rows (omega (arith, inside)))

  -- the end beneath with one more ruling
  beneath-more : (v : Option Verdict) (w : Option Verdict) (first : Option GivenRuling) (over kept new : Option OutsideEnd)
      → new ≡ earlier over kept → (v ≡ None → kept ≡ None) → (first ≡ None → v ≡ None) → (IsSome over → (first ≡ None)
      × IsSome w) → replaced_by w (kept_by v new) ≡ over
  beneath-more None None first None kept new is alone none over_first = refl
  beneath-more None None first (Some o) kept new is alone none over_first = let some = (over_first refl).1 in absurd cc
  beneath-more None (Some w) first None kept new is alone none over_first = is ∙ alone refl
  beneath-more None (Some w) first (Some o) kept new is alone none over_first = is
  beneath-more (Some v) None first None kept new is alone none over_first = refl
  beneath-more (Some v) None first (Some o) kept new is alone none over_first =
      let none_first = none (over_first refl).0 in absurd cc
  beneath-more (Some v) (Some w) first None kept new is alone none over_first = refl
  beneath-more (Some v) (Some w) first (Some o) kept new is alone none over_first =
      let none_first = none (over_first refl).0 in absurd cc

  module _ (r : GivenRuling) (over : Option OutsideEnd) (new : GameRulings) (few : k < most_rulings)
      (next : IsNextRuling game (rulings_given old.given.items) old.first row r over) (adds : Adds old r over new) where
    none-before : option_map given_of old.first ≡ None → verdict_of before ≡ None
    none-before none = no-verdict before (sym are.first_is ∙ none)

    rows-before : (v : Option Verdict) → verdict_of before ≡ v
        → ruling_rows_from game 1 new.beneath before ≡ ruling_rows_from game 1 old.beneath before
    rows-before None none = rulings-stay game 1 new.beneath old.beneath before none
    rows-before (Some v) some = ap (λ o. ruling_rows_from game 1 o before) (adds.beneath ∙ nothing over refl)
      where
        nothing : (o : Option OutsideEnd) → over ≡ o → earlier over old.beneath ≡ old.beneath
        nothing None is = ap (λ o. earlier o old.beneath) is
        nothing (Some o) is =
            let none = none-before (ap (option_map given_of) (next.may_come.over_first (rw is refl)).0) in
            absurd cc

    all-rows : map ruling_cells (take (k + 1) rows) ≡ ruling_rows_from game 1 new.beneath (rulings_given new.given.items)
    all-rows =
        let over_is : replaced_by (verdict_in r.ruling) (kept_by (verdict_of before) new.beneath) ≡ over =
        beneath-more (verdict_of before) (verdict_in r.ruling) (option_map given_of old.first) over old.beneath
        new.beneath adds.beneath (λ none. are.beneath_alone (are.verdict_is ∙ none)) none-before
        (λ some. (ap (option_map given_of) (next.may_come.over_first some).0, (next.may_come.over_first some).1)) in
        let place : 1 + length before ≡ length before + 1 = omega arith in
        let last : ruling_cells row
        ≡ ruling_row game (1 + length before) r
        (replaced_by (verdict_in r.ruling) (kept_by (verdict_of before) new.beneath)) =
        rw (over_is, place)
        (ruling-cells row game (length before + 1) r over (record {
          game_is = next.game_is;
          number_is = next.number_is;
          given = next.given;
          beneath = next.beneath;
        })) in
        rw (take-got rows k row at, map-append, adds.given, rows-ruled game 1 new.beneath before r)
        (ap (λ l. l ++ ruling_cells row ∷ []) (are.rows_are ∙ sym (rows-before (verdict_of before) refl))
        ∙ ap (λ x. ruling_rows_from game 1 new.beneath before ++ x ∷ []) last)

    in-order : (n : ℕ) (a b : GivenRuling) → slice_get (before ++ r ∷ []) n ≡ Some a
        → slice_get (before ++ r ∷ []) (suc n) ≡ Some b → MayFollow a b
    in-order n a b at_a at_b = elim (got-append before r (suc n) b at_b) [
      | inl old_b ↦ elim (got-append before r n a at_a) [
        | inl old_a ↦ are.possible.in_order n a b old_a old_b
        | inr last ↦
            let inside = slice_get_within before (suc n) b old_b in
            absurd (omega (arith, inside, last.0, add-one n))
      ]
      | inr last_b ↦ elim (got-append before r n a at_a) [
        | inl old_a ↦
            let place : length before - 1 ≡ n = omega (arith, last_b.0, add-one n) in
            rw (← last_b.1) (next.may_come.follows a (rw place old_a))
        | inr last_a ↦ absurd (omega (arith, last_a.0, last_b.0, add-one n))
      ]
    ]

    beneath-alone : new.verdict ≡ None → new.beneath ≡ None
    beneath-alone none =
        let both = later-none old.verdict (verdict_in r.ruling) (sym adds.verdict ∙ none) in
        adds.beneath ∙ nothing over refl both
      where
        nothing : (o : Option OutsideEnd) → over ≡ o → (old.verdict ≡ None) × (verdict_in r.ruling ≡ None)
            → earlier over old.beneath ≡ None
        nothing None is both = ap (λ o. earlier o old.beneath) is ∙ are.beneath_alone both.0
        nothing (Some o) is both = let some = (next.may_come.over_first (rw is refl)).1 in absurd cc

    -- with one more row one more ruling is read
    pub read-more : AreRead game (take (k + 1) rows) new
    read-more = record {
      rows_are = all-rows;
      possible = rw adds.given (record {
        count = omega (arith, count, few, length-append before (r ∷ []));
        time = each-append (λ x. has_grant_time x.ruling ≡ true) before r are.possible.time next.may_come.time;
        moments = each-append (λ x. x.moment ≤ last_moment) before r are.possible.moments next.moment;
        in_order = in-order;
      });
      verdict_is = rw (adds.given, adds.verdict, are.verdict_is) (sym (verdict_of-append before r));
      first_is = rw (adds.given, adds.first, are.first_is) (sym (first-more before r));
      beneath_alone = beneath-alone;
    }

  replaced-some : (v w : Option Verdict) (o : Option OutsideEnd) → IsSome (replaced_by v (kept_by w o))
      → (w ≡ None) × IsSome v
  replaced-some None w o some = absurd cc
  replaced-some (Some v) None o some = (refl, refl)
  replaced-some (Some v) (Some w) o some = absurd cc

  none-mapped : option_map given_of old.first ≡ None → old.first ≡ None
  none-mapped none = grind arith

  -- the ruling in the next row, where the rows are those of rulings
  pub next-read : (all : List GivenRuling) → AreRulingRows game rows all
      → (r : GivenRuling) × (over : Option OutsideEnd)
      × IsNextRuling game (rulings_given old.given.items) old.first row r over
  next-read all is =
      let cells = rw is.rows_are at (map-at ruling_cells rows k row at) in
      let (r, got, row_is) = ruling-at game 1 is.outside all k (ruling_cells row) cells in
      let first_rows : ruling_rows_from game 1 old.beneath before ≡ ruling_rows_from game 1 is.outside (take k all) =
      sym are.rows_are
      ∙ (sym (take-map ruling_cells k rows) ∙ (ap (take k) is.rows_are ∙ rulings-take game 1 is.outside k all)) in
      let same : before ≡ take k all = (rulings-told game 1 old.beneath is.outside before (take k all) first_rows).0 in
      let over = replaced_by (verdict_in r.ruling) (kept_by (verdict_of (take k all)) is.outside) in
      let has = cells-ruling row game (1 + k) r over row_is in
      let place : 1 + k ≡ length before + 1 = omega (arith, count) in (
        r,
        over,
        record {
          game_is = has.game_is;
          number_is = has.number_is ∙ ap pos place;
          given = has.given;
          beneath = has.beneath;
          moment = is.possible.moments k r got;
          may_come = record {
            time = is.possible.time k r got;
            follows = λ a last. follows-last a r (is.possible) k got count
                (subst (λ (xs : List GivenRuling). slice_get xs (length before - 1) ≡ Some a) same last);
            over_first = λ some.
                let parts = replaced-some (verdict_in r.ruling) (verdict_of (take k all)) is.outside some in
                let none : verdict_of before ≡ None = ap verdict_of same ∙ parts.0 in
                (none-mapped (are.first_is ∙ no-first_verdict before none), parts.1);
          };
        },
      )
    where
      take-at : {A : Type 0} (n m : ℕ) (xs : List A) (x : A) → slice_get (take n xs) m ≡ Some x
          → slice_get xs m ≡ Some x
      take-at zero m xs x got = cc
      take-at (suc n) m [] x got = cc
      take-at (suc n) zero (y ∷ ys) x got = got
      take-at (suc n) (suc m) (y ∷ ys) x got = take-at n m ys x got

      follows-last : (a r : GivenRuling) {all : List GivenRuling} → ArePossible all → (n : ℕ) → slice_get all n ≡ Some r
          → length before ≡ n → slice_get (take k all) (length before - 1) ≡ Some a → MayFollow a r
      follows-last a r {all} possible zero got long last =
          let none : k ≡ zero = sym count ∙ long in
          let empty : slice_get [] (length before - 1) ≡ Some a = rw none at last in
          absurd cc
      follows-last a r {all} possible (suc n) got long last =
          let place : length before - 1 ≡ n = omega (arith, long, add-one n) in
          possible.in_order n a r (take-at k n all a (rw place at last)) got

-- ---- all rows

-- no ruling was read of no rows
pub read-none : (game : ℕ) (rows : List RulingRow) (read : GameRulings) → read.given.items ≡ [] → read.verdict ≡ None
    → read.first ≡ None → read.beneath ≡ None → AreRead game (take 0 rows) read
read-none game rows read given verdict first beneath =
    let nothing : rulings_given read.given.items ≡ [] = ap rulings_given given in
    record {
      rows_are = rw nothing refl;
      possible = rw nothing (record {
        count = omega arith;
        time = λ n r at. cc;
        moments = λ n r at. cc;
        in_order = λ n r next at at_next. cc;
      });
      verdict_is = rw nothing verdict;
      first_is = rw (nothing, first) refl;
      beneath_alone = λ none. beneath;
    }

-- what was read of the rows of a game are its rulings, and the end beneath its verdict
pub read-told : {M : Type 0} (id : ℕ) (rows : List RulingRow) (read : GameRulings) (game : Game M) → AreRead id rows read
    → map ruling_cells rows ≡ ruling_rows id game
    → (rulings_given read.given.items ≡ game.rulings) × IsBeneath game read.beneath
read-told id rows read game are is =
    let told = rulings-told id 1 read.beneath game.outside (rulings_given read.given.items) game.rulings
    (sym are.rows_are ∙ is) in
    (told.0, λ some. told.1 (rw told.0 some))

-- rulings have as many rows
pub rows-long : (id : ℕ) (rows : List RulingRow) (rulings : List GivenRuling) → AreRulingRows id rows rulings
    → length rows ≤ most_rulings
rows-long id rows rulings are =
    let long : length rows ≡ length rulings =
    sym (length-map rows ruling_cells) ∙ (ap length are.rows_are ∙ ruling-count id 1 are.outside rulings) in
    let few : length rulings ≤ 99 = are.possible.count in
    omega (arith, long, few)

pub take-over : {A : Type 0} (xs : List A) (k : ℕ) → length xs ≤ k → take k xs ≡ xs
take-over [] zero over = refl
take-over [] (suc k) over = refl
take-over (x ∷ xs) zero over = absurd (omega (arith, over))
take-over (x ∷ xs) (suc k) over = ap (λ l. x ∷ l) (take-over xs k (omega (arith, over, add-one k, add-one (length xs))))

-- a ruling, and the end beneath it, are told by the columns of its row
pub given-told : (row : RulingRow) (r s : GivenRuling) → HasGiven row r → HasGiven row s → r ≡ s
given-told row r s one other =
    let ruling = ruling-one r.ruling s.ruling (sym one.ruling_is.kind_is ∙ other.ruling_is.kind_is)
    (sym one.ruling_is.seconds_is ∙ other.ruling_is.seconds_is)
    (sym one.ruling_is.score_is ∙ other.ruling_is.score_is) in
    let moment : r.moment ≡ s.moment = same-pos _ _ (sym one.moment_is ∙ other.moment_is) in
    let plies : r.plies ≡ s.plies = same-pos _ _ (sym one.plies_is ∙ other.plies_is) in
    λ i. record { ruling = ruling i; moment = moment i; plies = plies i }

pub beneath-told : (row : RulingRow) (turn : Side) (o p : Option OutsideEnd) → IsBeneathIn row turn o
    → IsBeneathIn row turn p → o ≡ p
beneath-told row turn o p one other =
    outside-one turn o p (sym one.name_is ∙ other.name_is) (sym one.score_is ∙ other.score_is)

-- the last ruling that was read
pub last-given : (rulings : List read.GivenRuling) (r : read.GivenRuling)
    → slice_get rulings (length rulings - 1) ≡ Some r
    → slice_get (rulings_given rulings) (length (rulings_given rulings) - 1) ≡ Some (given_of r)
last-given rulings r at =
    let long : length (rulings_given rulings) ≡ length rulings = length-map rulings given_of in
    rw long (map-at given_of rulings (length rulings - 1) r at)

-- the score of an end that may be none
pub fused : (turn : Side) (o : Option OutsideEnd) → option_map (λ e. score_text (outside_score e turn)) o
    ≡ option_map score_text (option_map (λ e. outside_score e turn) o)
fused turn None = refl
fused turn (Some e) = refl

-- the ruling under a number is that at the place before
pub under-place : (rulings : List read.GivenRuling) (number place : ℕ) → number ≢ 0 → place ≡ number - 1
    → ruling_under (rulings_given rulings) number ≡ ruling_in (slice_get (rulings_given rulings) place)
under-place rulings zero place some is = absurd (some refl)
under-place rulings (suc n) place some is =
    let here : place ≡ n = is ∙ omega arith in
    ap (λ k. ruling_in (slice_get (rulings_given rulings) k)) (sym here)

pub under-some : (rulings : List read.GivenRuling) (number place : ℕ) (r : read.GivenRuling) → number ≢ 0
    → place ≡ number - 1 → slice_get rulings place ≡ Some r
    → Some r.ruling ≡ ruling_under (rulings_given rulings) number
under-some rulings number place r some is at =
    sym (under-place rulings number place some is ∙ ap ruling_in (map-at given_of rulings place r at))

pub under-none : (rulings : List read.GivenRuling) (number place : ℕ) → number ≢ 0 → place ≡ number - 1
    → slice_get rulings place ≡ None → None ≡ ruling_under (rulings_given rulings) number
under-none rulings number place some is none =
    sym (under-place rulings number place some is ∙ ap ruling_in (mapped-none rulings place none))
  where
    mapped-none : (xs : List read.GivenRuling) (n : ℕ) → slice_get xs n ≡ None → slice_get (rulings_given xs) n ≡ None
    mapped-none [] n none = refl
    mapped-none (x ∷ xs) zero none = cc
    mapped-none (x ∷ xs) (suc n) none = mapped-none xs n none
