-- A savepoint of nothing and its commit: what a stop leaves of the store was left of it before.
use Rattle.std.proofs.Common.{◌≡◌, ◌∙◌, false, IsTrue, Result, Ok, Err, OnOk, OnErr, IfErr, inl, inr, sym, ap, subst}
use Rattle.std.specs.Prelude.{⊤}
use Rattle.std.proofs.lemmas.Bool.{cases_Bool, both_ways}
use Rattle.sqlite_disk.specs.declared.Disk.{Ghosts}
use Rattle.sqlite_wal.proofs.LogLemmas.{SeenMayStay}
use Rattle.sqlite_trees.specs.declared.error.StoreError.{StoreError}
use Rattle.sqlite_trees.specs.View.{View, IsClean, IsFailure, Marks, OnlyCommits, IsRolledBack}
use Rattle.sqlite_store.specs.declared.store.FileStore.{FileStore}
use Rattle.sqlite_store.specs.FileStore.{view, recovers}
use Rattle.sqlite_store.specs.Laws.{stays_at, shut_is_broken}

-- a transaction that is sound after a savepoint was so before it, and sees the same
marked : (old new : View) (r : Result ⊤ StoreError) → OnOk r (IsClean new → Marks old new)
    → IfErr r (IsFailure old new) → IsClean new → new.is_broken ≡ false
    → (new.trees ≡ old.trees) × (old.is_broken ≡ false)
marked old new (Ok x) ok err clean sound =
    let m = ok clean in (ap (λ (v : View). v.trees) m.is, m.sound)
marked old new (Err e) ok err clean sound =
    let same = err.unchanged sound in
    (ap (λ (v : View). v.trees) same, sym (ap (λ (v : View). v.is_broken) same) ∙ sound)

-- a commit numbers the trees as they were
pub committed_numbered : (old new : View) (r : Result ⊤ StoreError)
    → OnOk r (IsClean new → OnlyCommits old new) → OnErr r (IsRolledBack old new) → IsClean new
    → new.is_numbered ≡ old.is_numbered
committed_numbered old new (Ok x) ok err clean = ap (λ (v : View). v.is_numbered) (ok clean)
committed_numbered old new (Err e) ok err clean = err.numbered

module _ {D : Type 0} {g : Ghosts D} (stays : SeenMayStay g) (first back begun : FileStore D g) where
  -- what the commit may add is what the last commit left
  pub nothing_new : IsClean (view back) → IsRolledBack (view first) (view back)
      → (r : Result ⊤ StoreError) → OnOk r (IsClean (view begun) → Marks (view back) (view begun))
      → IfErr r (IsFailure (view back) (view begun)) → IsClean (view begun)
      → (view begun).is_broken ≡ false → recovers back (view begun).trees
  nothing_new clean undone r ok err still sound =
      let m = marked (view back) (view begun) r ok err still sound in
      let on : IsTrue (view back).is_open = elim (cases_Bool (view back).is_open) [
        | inl on ↦ on
        | inr shut ↦ absurd (both_ways _ m.1 (shut_is_broken back shut))
      ] in
      let same : (view begun).trees ≡ (view back).committed =
      m.0 ∙ (undone.undone on).0 ∙ sym ((undone.kept clean).committed on) in
      subst (recovers back) (sym same) (stays_at back stays on)
