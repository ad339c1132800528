-- The rows of the rulings on a game: what tells them, one ruling more, and what legal rulings fulfil by themselves.
use Rattle.std.proofs.Common.{◌≡◌, ℕ, zero, suc, ◌+◌, ◌≤◌, List, [], ◌∷◌, ◌++◌, length, map, take, Option, Some, None}
use Rattle.std.proofs.Common.{true, false, refl, ap, sym, ◌∙◌, arith, inl, inr}
use Rattle.std.specs.Prelude.{IsSome, slice_get}
use Rattle.std.proofs.lemmas.Option.{same_Some}
use Rattle.sqlite.specs.Order.{Row, column}
use Rattle.sqlite_rules.specs.Lists.{Has}
use Rattle.club_rules.specs.GameRules.{GameRules}
use Rattle.club_requests.specs.declared.outside_end.OutsideEnd.{OutsideEnd}
use Rattle.club_requests.specs.declared.rulings.Ruling.{Ruling}
use Rattle.club_requests.specs.declared.rulings.Verdict.{Verdict}
use Rattle.club_requests.specs.Limits.{last_moment}
use Rattle.club_requests.specs.Rulings.{verdict_in}
use Rattle.club_core.specs.Events.{Terms}
use Rattle.club_core.specs.Game.{Game}
use Rattle.club_core.specs.Legal.{AreLegalRulings, IsVerdict}
use Rattle.club_core.specs.LegalState.{Each}
use Rattle.club_core.specs.Rulings.{GivenRuling, first_verdict, later_verdict, verdict_of, verdict_or}
use Rattle.club_rows.specs.Rulings.{ArePossible}
use Rattle.club_rows.specs.Tables.{kept_by, number, replaced_by, ruling_row, ruling_rows_from}
use Rattle.club_rows.specs.internal.Rulings.{earlier}

-- ---- verdicts

pub later-none : (a b : Option Verdict) → later_verdict a b ≡ None → (a ≡ None) × (b ≡ None)
later-none a None is = (is, refl)
later-none a (Some v) is = cc

or-none : (v : Option Verdict) (r : GivenRuling) (rest : Option GivenRuling) → verdict_or v r rest ≡ None → (v ≡ None)
    × (rest ≡ None)
or-none None r rest is = (refl, is)
or-none (Some v) r rest is = cc

both-none : (a b : Option Verdict) → a ≡ None → b ≡ None → later_verdict a b ≡ None
both-none a b one other = ap (later_verdict a) other ∙ one

-- where there is no first verdict, there is none
pub no-verdict : (rs : List GivenRuling) → first_verdict rs ≡ None → verdict_of rs ≡ None
no-verdict [] none = refl
no-verdict (r ∷ rs) none =
    let both = or-none (verdict_in r.ruling) r (first_verdict rs) none in
    both-none (verdict_in r.ruling) (verdict_of rs) both.0 (no-verdict rs both.1)

or-earlier : (v : Option Verdict) (r : GivenRuling) (a b : Option GivenRuling)
    → verdict_or v r (earlier a b) ≡ earlier (verdict_or v r a) b
or-earlier None r a b = refl
or-earlier (Some v) r a b = refl

-- the first verdict with one more ruling
pub first-more : (rs : List GivenRuling) (r : GivenRuling)
    → first_verdict (rs ++ r ∷ []) ≡ earlier (first_verdict rs) (verdict_or (verdict_in r.ruling) r None)
first-more [] r = refl
first-more (x ∷ rs) r =
    ap (verdict_or (verdict_in x.ruling) x) (first-more rs r)
    ∙ or-earlier (verdict_in x.ruling) x (first_verdict rs) (verdict_or (verdict_in r.ruling) r None)

-- ---- the end outside the rules in the rows

kept-later : (a b : Option Verdict) (o : Option OutsideEnd) → kept_by b (kept_by a o) ≡ kept_by (later_verdict a b) o
kept-later a None o = refl
kept-later None (Some v) o = refl
kept-later (Some w) (Some v) o = refl

-- without a verdict the rows do not depend on the end outside the rules
pub rulings-stay : (id n : ℕ) (o p : Option OutsideEnd) (rs : List GivenRuling) → verdict_of rs ≡ None
    → ruling_rows_from id n o rs ≡ ruling_rows_from id n p rs
rulings-stay id n o p [] none = refl
rulings-stay id n o p (r ∷ rs) none =
    let both = later-none (verdict_in r.ruling) (verdict_of rs) none in
    rw both.0 (ap (λ l. ruling_row id n r None ∷ l) (rulings-stay id (suc n) o p rs both.1))

-- ---- more rulings

-- the rows with one more ruling
pub rows-ruled : (id n : ℕ) (o : Option OutsideEnd) (rs : List GivenRuling) (r : GivenRuling)
    → ruling_rows_from id n o (rs ++ r ∷ [])
    ≡ ruling_rows_from id n o rs
    ++ ruling_row id (n + length rs) r (replaced_by (verdict_in r.ruling) (kept_by (verdict_of rs) o)) ∷ []
rows-ruled id n o [] r =
    let here : n ≡ n + 0 = omega arith in
    ap (λ k. ruling_row id k r (replaced_by (verdict_in r.ruling) o) ∷ []) here
rows-ruled id n o (x ∷ rs) r =
    let v = verdict_in x.ruling in
    let place : suc n + length rs ≡ n + suc (length rs) = omega arith in
    let kept = kept-later v (verdict_of rs) o in
    let head = ruling_row id n x (replaced_by v o) in
    let rest = ruling_rows_from id (suc n) (kept_by v o) rs in
    ap (λ l. head ∷ l)
    (rows-ruled id (suc n) (kept_by v o) rs r
    ∙ (ap (λ k. rest ++ ruling_row id k r
    (replaced_by (verdict_in r.ruling) (kept_by (verdict_of rs) (kept_by v o))) ∷ []) place
    ∙ ap (λ e. rest ++ ruling_row id (n + suc (length rs)) r (replaced_by (verdict_in r.ruling) e) ∷ []) kept))

pub ruling-count : (id n : ℕ) (o : Option OutsideEnd) (rs : List GivenRuling)
    → length (ruling_rows_from id n o rs) ≡ length rs
ruling-count id n o [] = refl
ruling-count id n o (r ∷ rs) = ap suc (ruling-count id (suc n) (kept_by (verdict_in r.ruling) o) rs)

-- the rows of the first rulings
pub rulings-take : (id n : ℕ) (o : Option OutsideEnd) (k : ℕ) (rs : List GivenRuling)
    → take k (ruling_rows_from id n o rs) ≡ ruling_rows_from id n o (take k rs)
rulings-take id n o zero rs = refl
rulings-take id n o (suc k) [] = refl
rulings-take id n o (suc k) (r ∷ rs) =
    ap (λ l. ruling_row id n r (replaced_by (verdict_in r.ruling) o) ∷ l)
    (rulings-take id (suc n) (kept_by (verdict_in r.ruling) o) k rs)

-- the row at a place is that of the ruling there
pub ruling-at : (id n : ℕ) (o : Option OutsideEnd) (rs : List GivenRuling) (k : ℕ) (row : Row)
    → slice_get (ruling_rows_from id n o rs) k ≡ Some row
    → (r : GivenRuling) × (slice_get rs k ≡ Some r)
    × (row ≡ ruling_row id (n + k) r (replaced_by (verdict_in r.ruling) (kept_by (verdict_of (take k rs)) o)))
ruling-at id n o [] k row at = cc
ruling-at id n o (r ∷ rs) zero row at =
    let here : n ≡ n + 0 = omega arith in (
      r,
      refl,
      sym (same_Some _ row at) ∙ ap (λ k. ruling_row id k r (replaced_by (verdict_in r.ruling) o)) here,
    )
ruling-at id n o (x ∷ rs) (suc k) row at =
    let v = verdict_in x.ruling in
    let (r, got, is) = ruling-at id (suc n) (kept_by v o) rs k row at in
    let place : suc n + k ≡ n + suc k = omega arith in
    let kept = kept-later v (verdict_of (take k rs)) o in (
      r,
      got,
      is
          ∙ (ap (λ m. ruling_row id m r
          (replaced_by (verdict_in r.ruling) (kept_by (verdict_of (take k rs)) (kept_by v o)))) place
          ∙ ap (λ e. ruling_row id (n + suc k) r (replaced_by (verdict_in r.ruling) e)) kept),
    )

-- each row begins with the id of its game
pub rulings-begin : (id n : ℕ) (o : Option OutsideEnd) (rs : List GivenRuling) (z : Row)
    → Has (ruling_rows_from id n o rs) z → column z 0 ≡ number id
rulings-begin id n o [] z h = absurd h
rulings-begin id n o (r ∷ rs) z (inl is) = rw is refl
rulings-begin id n o (r ∷ rs) z (inr h) = rulings-begin id (suc n) (kept_by (verdict_in r.ruling) o) rs z h

-- ---- what tells rulings

-- a ruling and the end beneath it are told by its row
pub ruling-told : (id n : ℕ) (r s : GivenRuling) (o p : Option OutsideEnd)
    → ruling_row id n r o ≡ ruling_row id n s p → (r ≡ s) × (o ≡ p)
ruling-told id n r s o p is = grind arith

replaced-told : (v w : Option Verdict) (o p : Option OutsideEnd) → replaced_by v o ≡ replaced_by v p
    → (IsSome w → kept_by v o ≡ kept_by v p) → IsSome (later_verdict v w) → o ≡ p
replaced-told None None o p here later some = cc
replaced-told None (Some w) o p here later some = later refl
replaced-told (Some v) w o p here later some = here

-- rulings are told by their rows, and so is the end beneath a verdict
pub rulings-told : (id n : ℕ) (o p : Option OutsideEnd) (rs ss : List GivenRuling)
    → ruling_rows_from id n o rs ≡ ruling_rows_from id n p ss → (rs ≡ ss) × (IsSome (verdict_of rs) → o ≡ p)
rulings-told id n o p [] [] is = (refl, λ some. cc)
rulings-told id n o p (r ∷ rs) (s ∷ ss) is =
    let v = verdict_in r.ruling in
    let head : ruling_row id n r (replaced_by v o) ≡ ruling_row id n s (replaced_by (verdict_in s.ruling) p) = cc in
    let (one, over) = ruling-told id n r s (replaced_by v o) (replaced_by (verdict_in s.ruling) p) head in
    let same : verdict_in s.ruling ≡ v = ap (λ x. verdict_in x.ruling) (sym one) in
    let tail : ruling_rows_from id (suc n) (kept_by v o) rs
    ≡ ruling_rows_from id (suc n) (kept_by (verdict_in s.ruling) p) ss = cc in
    let rest = rulings-told id (suc n) (kept_by v o) (kept_by v p) rs ss (rw same at tail) in (
      λ i. one i ∷ rest.0 i,
      replaced-told v (verdict_of rs) o p (over ∙ ap (λ x. replaced_by x p) same) rest.1,
    )
rulings-told id n o p rs ss is = absurd cc

-- ---- legal rulings by themselves

module _ {P M E T : Type 0} (rules : GameRules P M E T) (terms : Terms) (game : Game M)
    (legal : AreLegalRulings rules terms game) where
  same-ply : (n : ℕ) (r next : GivenRuling) → slice_get game.rulings n ≡ Some r
      → slice_get game.rulings (suc n) ≡ Some next → IsVerdict r → IsVerdict next × (next.plies ≡ r.plies)
  same-ply n r next at at_next verdict =
      let later = (legal.in_order n r next at at_next).2 verdict in
      (later, (legal.each (suc n) next at_next).last later ∙ sym ((legal.each n r at).last verdict))

  -- legal rulings are possible whatever was played
  pub legal-possible : Each (λ r. r.moment ≤ last_moment) game.rulings → ArePossible game.rulings
  legal-possible moments = record {
    count = legal.count;
    time = λ n r at. (legal.each n r at).time;
    moments = moments;
    in_order = λ n r next at at_next.
        let order = legal.in_order n r next at at_next in
        record { plies = order.0; moment = order.1; verdict = same-ply n r next at at_next };
  }
