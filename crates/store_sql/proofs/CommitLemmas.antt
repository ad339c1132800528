-- What a transaction that is committed leaves, now and after a stop.
use Rattle.std.proofs.Common.{◌≡◌, ◌⊎◌, ◌<◌, ℕ, arith, refl, sym, ap, subst, true, false, true≢false, IsTrue, inl, inr}
use Rattle.std.proofs.Common.{List, [], ◌∷◌, length, Result, Ok, Err, OnOk, ◌∙◌, ℤ, pos, SFits, w64, Option, Some, None}
use Rattle.std.specs.Option.{option_map}
use Rattle.std.proofs.lemmas.Int.{ints}
use Rattle.sqlite.specs.Held.{Held, state}
use Rattle.sqlite.specs.State.{Shows}
use Rattle.store_tables.specs.Club.{Leaves}
use Rattle.store_tables.specs.Contents.{Content, Holds, IsExactlyEmpty}
use Rattle.store_tables.specs.Over.{HoldsClubAmong, LeavesBeside, Neighbours, alone, over}
use Rattle.store_tables.specs.Names.{tree_of}
use Rattle.store_tables.specs.internal.Cells.{meta_cells}
use Rattle.store_tables.specs.internal.Contents.{put_in}
use Rattle.store_tables.specs.internal.Over.{HoldsBeside, StepsBeside}
use Rattle.store_tables.specs.Placed.{TakesClub}
use Rattle.store_tables.specs.Room.{HasRoom, IsWithoutClub}
use Rattle.store_tables.specs.Sql.{Database, HasCleanDisk, Schema, State, Survives, Trees}
use Rattle.store_tables.specs.internal.Changed.{FitsVersion, meta_at, put_maybe}
use Rattle.store_tables.specs.internal.Tables.{has_table}
use Rattle.store_tables.specs.Tables.{IsServed, schema_after, schema_number}
use Rattle.store_tables.specs.declared.rows.Changes.{Changes}
use Rattle.store_tables.specs.declared.rows.MetaRow.{MetaRow}
use Rattle.store_tables.specs.declared.names.Table.TheVariants.{Challenges, Closings, EventRules, Events, Games, Keys}
use Rattle.store_tables.specs.declared.names.Table.TheVariants.{Members, Meta, Moves, Rulings, Scores, Seen}
use Rattle.store_tables.specs.declared.names.Version.{Version}
use Rattle.store_tables.specs.declared.names.Version.TheVariants.{V1, V2, V3}
use Rattle.store_tables.proofs.Proved.{alone_leaves, alone_room, alone_takes, commits, holds_nothing, leaves_of}
use Rattle.store_tables.proofs.Proved.{room_takes}
use Rattle.sqlite.proofs.Callers.{survives_begin}
use Rattle.sqlite.proofs.StateLemmas.{survives_then}
use Rattle.sqlite_trees.specs.declared.store.Store.{Ghosts}

-- Nothing was committed before the commit, which makes what the transaction came to.
pub commit_survives : {S : Type 0} (g : Ghosts S) (old last end new : Held S) (P : Trees → Type 0) → end ≡ new
    → Survives (state g (record old { in_transaction = true })) (state g last) (λ _. ⊥)
    → Survives (state g last) (state g end) (λ db. db ≡ (state g last).now.trees)
    → (HasCleanDisk (state g last) → P (state g last).now.trees) → Survives (state g old) (state g new) P
commit_survives g old last end new P same inside commit leads =
    subst (λ h. Survives (state g old) (state g h) P) same
    (survives_then (state g old) (state g last) (state g end) _ _ P (λ _ db none. absurd none)
    (λ clean db is. subst P (sym is) (leads (omega (arith, commit.clean))))
    (survives_begin g old (state g last) _ inside) commit)

-- A club among its neighbours that a transaction came to is what a stop leaves after the commit.
pub left_beside : (them : Neighbours) (content : Content) (db : Database) → TakesClub them.version them.schema
    → HoldsBeside them content db → LeavesBeside them content db.trees
left_beside them content db clear holds = record {
  clear = clear;
  leaves = leaves_of them.schema db (over them content) holds;
}

pub commits_beside : {S : Type 0} (g : Ghosts S) (them : Neighbours) (content : Content) (last end new : Held S)
    → end ≡ new → TakesClub them.version them.schema → HoldsBeside them content (state g last).now
    → Shows (state g last) (state g end) (state g last).now (state g last).now false
    → ((db : Trees) → IsTrue (state g end).is_open → (state g end).may_leave db → db ≡ (state g end).committed.trees)
    → HoldsClubAmong them content (state g new)
commits_beside g them content last end new same clear holds shown settled =
    subst (λ h. HoldsClubAmong them content (state g h)) same (record {
      clear = clear;
      exactly = commits them.schema (over them content) (state g last) (state g end) holds shown
          settled;
    })

-- where there is room for a club of this version, the database comes to hold this content of one
abbrev pub Fits : Version → Content → Database → Database → Type 0
Fits version content old new =
    (schema : Schema) (them : Neighbours) → them.version ≡ version → HasRoom schema them → Holds schema old them.rows
    → HoldsBeside them content new

module _ (version : Version) (content : Content) (old : State) (new : Database)
    (fits : Fits version content old.now new) where
  pub fits_alone : IsServed version → IsExactlyEmpty old → HoldsBeside (alone version) content new
  fits_alone served k =
      fits (schema_after 0) (alone version) refl (alone_room version served) (holds_nothing (schema_after 0) _ k.now)

  pub left_alone : IsServed version → IsExactlyEmpty old → Leaves version content new.trees
  left_alone served k = alone_leaves version content new.trees
      (left_beside (alone version) content new (alone_takes version) (fits_alone served k))

  pub left_behind : (them : Neighbours) → them.version ≡ version → IsWithoutClub them old
      → LeavesBeside them content new.trees
  left_behind them is k =
      left_beside them content new (room_takes k.schema them k.before old.now k.exactly.now)
      (fits k.schema them is k.before k.exactly.now)

-- ---- the tables that a version has

pub has_meta : (version : Version) → IsTrue (has_table version Meta)
has_meta V1 = refl
has_meta V2 = refl
has_meta V3 = refl

-- a served version has the tables of schema 2
pub record HasServed (version : Version) : Type 0 where
  pub members : IsTrue (has_table version Members)
  pub events : IsTrue (has_table version Events)
  pub event_rules : IsTrue (has_table version EventRules)
  pub challenges : IsTrue (has_table version Challenges)
  pub games : IsTrue (has_table version Games)
  pub moves : IsTrue (has_table version Moves)
  pub seen : IsTrue (has_table version Seen)
  pub scores : IsTrue (has_table version Scores)

pub served_has : (version : Version) → IsServed version → HasServed version
served_has V1 served = absurd (true≢false (sym served))
served_has V2 served = record {
  members = refl;
  events = refl;
  event_rules = refl;
  challenges = refl;
  games = refl;
  moves = refl;
  seen = refl;
  scores = refl;
}
served_has V3 served = record {
  members = refl;
  events = refl;
  event_rules = refl;
  challenges = refl;
  games = refl;
  moves = refl;
  seen = refl;
  scores = refl;
}

-- a version that takes the changes is served
pub served_of : (version : Version) (changes : Changes) → FitsVersion version changes → IsServed version
served_of V1 changes fits = absurd fits
served_of V2 changes fits = refl
served_of V3 changes fits = refl

-- and has the arbiter's tables, or there are no rows of them
pub fits_has : (version : Version) (changes : Changes) → FitsVersion version changes
    → (IsTrue (has_table version Keys) ⊎ (changes.keys.items ≡ []))
    × (IsTrue (has_table version Rulings) ⊎ (changes.rulings.items ≡ []))
    × (IsTrue (has_table version Closings) ⊎ (changes.closings.items ≡ []))
fits_has V1 changes fits = absurd fits
fits_has V2 changes (keys, rulings, closings) = (inr keys, inr rulings, inr closings)
fits_has V3 changes fits = (inl refl, inl refl, inl refl)

-- where a row is put there is one
pub not_empty : {A : Type 0} {P : Type 0} (rows : List A) (i : ℕ) → i < length rows → P ⊎ (rows ≡ []) → P
not_empty rows i within (inl there) = there
not_empty rows i within (inr none) =
    let short : length rows ≡ 0 = ap length none in
    absurd (omega (arith, within, short))

-- what follows of an answer
pub on_ok : {T E : Type 0} (r : Result T E) {P Q : Type 0} → (P → Q) → OnOk r P → OnOk r Q
on_ok (Ok x) f p = f p
on_ok (Err e) f p = tt

-- rows that are none are none under another name
pub also_none : {A P : Type 0} {xs ys : List A} → xs ≡ ys → P ⊎ (ys ≡ []) → P ⊎ (xs ≡ [])
also_none same (inl there) = inl there
also_none same (inr none) = inr (same ∙ none)

-- the number of a schema fits an `i64`
pub small : (version : Version) (n : ℤ) → n ≡ pos (schema_number version) → SFits w64 n
small V1 n is = subst (SFits w64) (sym is) (let it : SFits w64 (pos 1) = omega (arith, ints) in it)
small V2 n is = subst (SFits w64) (sym is) (let it : SFits w64 (pos 2) = omega (arith, ints) in it)
small V3 n is = subst (SFits w64) (sym is) (let it : SFits w64 (pos 3) = omega (arith, ints) in it)

-- a row of `meta` that is put is the one of the changes, and none is put where there is none
module _ (version : Version) (old new : State) where
  pub meta_steps : (o : Option ℤ) (found : Option MetaRow) (row : MetaRow)
      → option_map meta_cells found ≡ option_map (meta_at version) o → found ≡ Some row
      → StepsBeside version (put_in (tree_of Meta) (0 ∷ []) (meta_cells row)) old new
      → StepsBeside version (put_maybe version o) old new
  meta_steps None found row same is steps = cc
  meta_steps (Some last) found row same is steps =
      let e : meta_cells row ≡ meta_at version last = cc in
      subst (λ r. StepsBeside version (put_in (tree_of Meta) (0 ∷ []) r) old new) e steps

  pub meta_stays : (o : Option ℤ) (found : Option MetaRow)
      → option_map meta_cells found ≡ option_map (meta_at version) o → found ≡ None
      → StepsBeside version (λ content. content) old new → StepsBeside version (put_maybe version o) old new
  meta_stays None found same is steps = steps
  meta_stays (Some last) found same is steps = cc
