use Rattle.std.proofs.Common.{◌∙◌, inl, inr, refl, sym}
use Rattle.sqlite.specs.Held.{state}
use Rattle.store_tables.proofs.Proved.{beside_alone}
use Rattle.store_tables.specs.Club.{IsExactly, Leaves}
use Rattle.store_tables.specs.Over.{alone, HoldsClubAmong, LeavesBeside}
use Rattle.store.specs.Clubs.{version_with}
use Rattle.store.proofs.OpeningLemmas.{opening-of, served-as}
use Rattle.store.proofs.HistoryLemmas.{made_led, made_stands, opening_led, with_served}
use Rattle.store.proofs.club.create.Goals as goal

pub returns-in-Ok-clause-stored : goal.returns-in-Ok-clause-stored
returns-in-Ok-clause-stored g c clean k =
    opening-of c.args.has_arbiter c.version_of.ensures
    (λ v rows. IsExactly v rows (state g.S.Store c.create_tables.new.conn))
    (λ serves. (rw c.in-Ok.is at c.create_tables.ensures.stored clean) serves k)

pub returns-in-Ok-clause-begins : goal.returns-in-Ok-clause-begins
returns-in-Ok-clause-begins g c clean k =
    let version = version_with c.args.has_arbiter in
    made_stands version (with_served c.args.has_arbiter) (alone version) _ refl
    (beside_alone version _ _ (returns-in-Ok-clause-stored g c clean k))

pub returns-in-Err-clause-empty : goal.returns-in-Err-clause-empty
returns-in-Err-clause-empty g c clean k =
    let serves = served-as c.args.has_arbiter c.version_of.ensures in
    c.fault_of.ensures.store ((rw c.in-Err.is at c.create_tables.ensures.known clean) serves k)

pub returns-in-Err-clause-fault : goal.returns-in-Err-clause-fault
returns-in-Err-clause-fault g c clean k db left =
    let serves = served-as c.args.has_arbiter c.version_of.ensures in
    elim ((rw c.in-Err.is at c.create_tables.ensures.fault clean) serves k db left) [
      | inl empty ↦ inl empty
      | inr made ↦
          inr (opening-of c.args.has_arbiter c.version_of.ensures (λ v rows. Leaves v rows db) (λ served. made))
    ]

pub returns-in-Err-clause-after_crash : goal.returns-in-Err-clause-after_crash
returns-in-Err-clause-after_crash g c clean k db left =
    elim (returns-in-Err-clause-fault g c clean k db left) [
      | inl empty ↦ inl empty
      | inr made ↦
          inr (opening_led (version_with c.args.has_arbiter) (with_served c.args.has_arbiter) db made)
    ]

pub returns-in-Err-clause-refused : goal.returns-in-Err-clause-refused
returns-in-Err-clause-refused g c clean is = elim (rw c.in-Err.is at c.create_tables.ensures.refused clean) [
  | inl plain ↦ absurd (c.fault_of.ensures.foreign is plain)
  | inr kept ↦ kept
]

-- ---- behind the tables of other programs

pub returns-in-Ok-clause-behind : goal.returns-in-Ok-clause-behind
returns-in-Ok-clause-behind g c clean them version k =
    let here = version ∙ sym c.version_of.ensures in
    made_stands (version_with c.args.has_arbiter) (with_served c.args.has_arbiter) them _ version
    (opening-of c.args.has_arbiter c.version_of.ensures
    (λ v rows. HoldsClubAmong them rows (state g.S.Store c.create_tables.new.conn))
    (λ serves. (rw c.in-Ok.is at c.create_tables.ensures.behind clean) them here k))

pub returns-in-Err-clause-behind_fault : goal.returns-in-Err-clause-behind_fault
returns-in-Err-clause-behind_fault g c clean them version k =
    let here = version ∙ sym c.version_of.ensures in (
      c.fault_of.ensures.store ((rw c.in-Err.is at c.create_tables.ensures.known_behind clean) them here k),
      λ db left. elim ((rw c.in-Err.is at c.create_tables.ensures.behind_fault clean) them here k db left) [
        | inl none ↦ inl none
        | inr made ↦
            inr (made_led (version_with c.args.has_arbiter) (with_served c.args.has_arbiter) them db version
            (opening-of c.args.has_arbiter c.version_of.ensures (λ v rows. LeavesBeside them rows db)
            (λ serves. made)))
      ],
    )
