use Rattle.std.proofs.Common.{◌≡◌, ◌≢◌, ◌||◌, List, ℕ, Bool, true, false, inl, refl}
use Rattle.std.proofs.lemmas.Result.{IfErr-weaker}
use Rattle.std.proofs.lemmas.Slice.Eq.{bytes_eq-Decides}
use Rattle.std.specs.Bool.{Decides}
use Rattle.std.specs.Str.{bytes_eq}
use Rattle.cli.proofs.SaidLemmas.{told_weaker}
use Rattle.cli.proofs.words.task_of.Goals as goal

false_of : {P : Type 0} (test : Bool) → Decides test P → (P → ⊥) → test ≡ false
false_of false decides differs = refl
false_of true decides differs = absurd (differs (decides.0 refl))

-- a name that is none of the others is none of them and this one
other_than : (name x : List ℕ) (is_other : Bool) → name ≢ x → is_other ≡ false → bytes_eq name x || is_other ≡ false
other_than name x is_other differs rest =
    rw (false_of (bytes_eq name x) (bytes_eq-Decides name x) differs) rest

pub returns-in_default-clause-err : goal.returns-in_default-clause-err
returns-in_default-clause-err c =
    let is = c.in_default in
    let other =
    other_than _ _ _ is.not-init
    (other_than _ _ _ is.not-legal
    (other_than _ _ _ is.not-export
    (other_than _ _ _ is.not-show
    (other_than _ _ _ is.not-text
    (other_than _ _ _ is.not-table
    (other_than _ _ _ is.not-members
    (other_than _ _ _ is.not-events
    (other_than _ _ _ is.not-games
    (other_than _ _ _ is.not-challenges
    (other_than _ _ _ is.not-verify
    (other_than _ _ _ is.not-upgrade
    (other_than _ _ _ is.not-backup
    (other_than _ _ _ is.not-rulings
    (other_than _ _ _ is.not-retire
    (other_than _ _ false is.not-extend refl))))))))))))))) in
    IfErr-weaker c.request_of.result _ _ (λ told no. told_weaker _ _ told (λ none. inl (other, none)) no)
    c.request_of.ensures.err
