-- Rows that are numbered by the places of what has them.
use Rattle.std.proofs.Common.{◌≡◌, ℕ, suc, zero, ◌+◌, List, [], ◌∷◌, map, Option, Some, None, refl, ap, subst}
use Rattle.std.proofs.Common.{subst₂, ◌∙◌, inl, inr, arith, true, pos}
use Rattle.std.specs.Prelude.{slice_get, ◌⊎◌, ℤ}
use Rattle.std.specs.List.{AllByRecursion}
use Rattle.std.specs.Cmp.{tied_itself}
use Rattle.std.proofs.lemmas.Bool.{and_parts, and_from}
use Rattle.sqlite.specs.Collation.TheVariants.{Binary}
use Rattle.sqlite.specs.Order.{Row, column}
use Rattle.sqlite.specs.Table.{Table as Definition}
use Rattle.sqlite.specs.Tree.{Trees}
use Rattle.sqlite.specs.Values.{or_null}
use Rattle.sqlite_rules.specs.Lists.{Has}
use Rattle.sqlite_schema.specs.Rules.{equal}
use Rattle.sqlite_value.proofs.OrderLemmas.{value_cmp_total}
use Rattle.sqlite_value.specs.Keys.{first_key}
use Rattle.sqlite_value.specs.declared.value.Value.TheVariants.{Int, Null}
use Rattle.store_tables.proofs.Proved.{equal_from, equal_ints}
use Rattle.store_tables.specs.Cells.{IsChallenge}
use Rattle.store_tables.specs.Content.{Keeps, same_key}
use Rattle.club_core.specs.ClubRules.{ClubRules}
use Rattle.club_core.specs.Events.{Event, Terms}
use Rattle.club_core.specs.Game.{Entry, Game}
use Rattle.club_core.specs.State.{AnyGame, draughts, shogi, place, terms_at}
use Rattle.club_core.specs.declared.challenges.Challenge.{Challenge}
use Rattle.club_rules.specs.GameRules.{GameRules}
use Rattle.club_rows.specs.Tables.{at_start, challenge_row, entry_rows, game_started, number, numbered_from}
use Rattle.club_rows.specs.Tables.{rows_of_moves, with_entry}
pub use Rattle.club_rows.proofs.Proved.{gathered-had as gathered_had, gathered-has as gathered_has, take-got as take_next}

-- one table, and those after it
infixr 30 ◌&◌
pub ◌&◌ : {A B : Type 0} → A → B → A × B
one & more = (one, more)

-- two lists of the rows of one table
pub moved : (table : Definition) (db : Trees) (xs ys : List Row) → Keeps table db xs → Keeps table db ys → (z : Row)
    → Has xs z → Has ys z
moved table db xs ys one two z h = let r = one.stored z h in subst (Has ys) r.2 (two.only r.0 r.1)

-- ---- ids

pub ids_agree : (a b : Row) (m : ℕ) → column a 0 ≡ number m → column b 0 ≡ number m → same_key (0 ∷ []) a b ≡ true
unfolding first_key
ids_agree a b m p q =
    rw (p, q) (and_from _ _ (equal_from (number m) (number m) refl refl (tied_itself value_cmp_total (number m))) refl)

pub ids_same : (a b : Row) (m n : ℕ) → column a 0 ≡ number m → column b 0 ≡ number n → same_key (0 ∷ []) a b ≡ true
    → m ≡ n
unfolding first_key
ids_same a b m n p q same =
    let is : pos m ≡ pos n =
    equal_ints (pos m) (pos n) (subst₂ (λ x y. equal Binary x y ≡ true) p q (and_parts _ _ same).0) in
    cc

-- ---- a row for each element

module _ {A : Type 0} (row : ℕ → A → Row) where
  pub numbered_had : (id : ℕ) (xs : List A) (z : Row) → Has (numbered_from row id xs) z → (n : ℕ) × (x : A)
      × (slice_get xs n ≡ Some x) × (z ≡ row (id + n) x)
  numbered_had id [] z h = absurd h
  numbered_had id (x ∷ xs) z (inl is) =
      let here : id ≡ id + 0 = omega arith in (0, x, refl, is ∙ ap (λ k. row k x) here)
  numbered_had id (x ∷ xs) z (inr h) =
      let (n, y, at, is) = numbered_had (suc id) xs z h in
      let later : suc id + n ≡ id + suc n = omega arith in
      (suc n, y, at, is ∙ ap (λ k. row k y) later)

  pub numbered_has : (id : ℕ) (xs : List A) (n : ℕ) (x : A) → slice_get xs n ≡ Some x
      → Has (numbered_from row id xs) (row (id + n) x)
  numbered_has id [] n x at = cc
  numbered_has id (y ∷ ys) zero x at =
      let here : id + 0 ≡ id = omega arith in
      let same : x ≡ y = cc in
      inl (ap (λ k. row k x) here ∙ ap (row id) same)
  numbered_has id (y ∷ ys) (suc n) x at =
      let later : suc id + n ≡ id + suc n = omega arith in
      inr (subst (λ k. Has (numbered_from row (suc id) ys) (row k x)) later (numbered_has (suc id) ys n x at))

-- ---- challenges

started-typed : (o : Option ℕ) → (or_null number o ≡ Null) ⊎ ((n : ℤ) × (or_null number o ≡ Int n))
started-typed None = inl refl
started-typed (Some id) = inr (_, refl)

pub challenges_typed : (cs : List Challenge) → AllByRecursion IsChallenge (map challenge_row cs)
challenges_typed [] = tt
challenges_typed (c ∷ cs) = (
  record {
    width = refl;
    member = (_, refl);
    number = (_, refl);
    event = (_, refl);
    other = (_, refl);
    first = (_, refl);
    state = (_, refl);
    game = started-typed (game_started c.standing);
  },
  challenges_typed cs,
)

-- ---- moves

entries-had : {P M E T : Type 0} (rules : GameRules P M E T) (terms : Terms) (id : ℕ) (game : Game M)
    (es : List (Entry M)) (z : Row) → Has (entry_rows rules terms id game es) z → column z 0 ≡ number id
entries-had rules terms id game [] z h = absurd h
entries-had rules terms id game (e ∷ es) z (inl is) = ap (λ w. column w 0) is
entries-had rules terms id game (e ∷ es) z (inr h) = entries-had rules terms id (with_entry game e) es z h

-- a row of a game's moves has the game's number
pub moves_had : {DP DM DE DT SP SM SE ST : Type 0} (kinds : ClubRules DP DM DE DT SP SM SE ST) (events : List Event)
    (id : ℕ) (g : AnyGame DM SM) (z : Row) → Has (rows_of_moves kinds events id g) z → column z 0 ≡ number id
moves_had kinds events id (draughts g) z h =
    entries-had kinds.draughts (terms_at (place events g.event)) id (at_start g) g.entries z h
moves_had kinds events id (shogi g) z h =
    entries-had kinds.shogi (terms_at (place events g.event)) id (at_start g) g.entries z h
