-- The first of the tables that is wrong: those before it, one after another, and the first of two.
use Rattle.std.proofs.Common.{◌≡◌, ◌<◌, ℕ, suc, Option, Some, None, refl, sym, subst, arith, inl, inr}
use Rattle.std.proofs.lemmas.Bool.{cases_eq}
use Rattle.store_tables.specs.declared.names.Table.{Table}
use Rattle.store_tables.specs.declared.names.Table.TheVariants.{Members, Events, EventRules, Challenges, Moves, Games}
use Rattle.store_tables.specs.declared.names.Table.TheVariants.{Seen, Scores, Meta, Keys, Rulings, Closings}
use Rattle.club_audit.specs.FirstWrong.{order}
use Rattle.club_audit.specs.internal.FirstWrong.{IsFirstWrong, Precedes}

-- tables with one place in the order are one
same-order : (t u : Table) → order t ≡ order u → t ≡ u
same-order Members Members is = refl
same-order Events Events is = refl
same-order EventRules EventRules is = refl
same-order Challenges Challenges is = refl
same-order Moves Moves is = refl
same-order Games Games is = refl
same-order Seen Seen is = refl
same-order Scores Scores is = refl
same-order Meta Meta is = refl
same-order Keys Keys is = refl
same-order Rulings Rulings is = refl
same-order Closings Closings is = refl
same-order _ _ is = absurd (omega arith)

-- there are twelve
in-order : (t : Table) → order t < 12
in-order Members = omega arith
in-order _ = omega arith

module _ (R : Table → Type 0) where
  -- each table before this place in the order is right
  abbrev pub UpTo : ℕ → Type 0
  UpTo n = (t : Table) → order t < n → R t

  pub up-to-none : UpTo 0
  up-to-none t low = absurd (omega arith)

  -- and so is the one at this place
  pub with-next : (t : Table) → UpTo (order t) → R t → UpTo (suc (order t))
  with-next t before right u low = elim (cases_eq (order u) (order t)) [
    | inl same ↦ subst R (same-order t u (sym same)) right
    | inr other ↦ before u (omega (arith, low, other))
  ]

  pub up-to-closings : R Members → R Keys → R Events → R EventRules → UpTo 4
  up-to-closings a b c d =
      with-next EventRules (with-next Events (with-next Keys (with-next Members up-to-none a) b) c) d

  pub up-to-moves : R Members → R Keys → R Events → R EventRules → R Closings → R Challenges → UpTo 6
  up-to-moves a b c d e f = with-next Challenges (with-next Closings (up-to-closings a b c d) e) f

  pub up-to-meta : UpTo 6 → R Moves → R Rulings → R Games → R Seen → R Scores → UpTo 11
  up-to-meta early a b c d e =
      with-next Scores (with-next Seen (with-next Games (with-next Rulings (with-next Moves early a) b) c) d) e

  pub all-tables : UpTo 12 → (t : Table) → R t
  all-tables right t = right t (in-order t)

-- where no table is named, all are right
pub all-right : (R : Table → Type 0) (wrong : Option Table) → IsFirstWrong R wrong → wrong ≡ None → (t : Table) → R t
all-right R wrong first none t = first.before t (subst (Precedes t) (sym none) tt)

-- where all are right, none is named
pub none-named : (R : Table → Type 0) (wrong : Option Table) → IsFirstWrong R wrong → ((t : Table) → R t)
    → wrong ≡ None
none-named R None first all = refl
none-named R (Some t) first all = absurd (first.named (all t))

-- ---- two tests

-- the same of what says as much of each table
pub first-as : (P Q : Table → Type 0) (wrong : Option Table) → ((t : Table) → P t → Q t) → ((t : Table) → Q t → P t)
    → IsFirstWrong P wrong → IsFirstWrong Q wrong
first-as P Q None to back first = record { before = λ t low. to t (first.before t low); named = tt }
first-as P Q (Some u) to back first =
    record { before = λ t low. to t (first.before t low); named = λ right. first.named (back u right) }
