use Rattle.std.proofs.Common.{◌≡◌, ℕ, ◌+◌, ◌-◌, ◌<◌, List, [], ◌∷◌, length, drop, refl, sym, ap, ◌∙◌, arith}
use Rattle.std.proofs.lemmas.List.{drop_all}
use Rattle.sfen.specs.declared.usi_reading.UsiField.{UsiField}
use Rattle.sfen.specs.UsiReading.{reach}
use Rattle.sfen.proofs.UsiOffsetLemmas.{reach-stops, reach-empty}
use Rattle.sfen.proofs.usi_reading.reach.Goals as goal
use Rattle.sfen.proofs.usi_reading.reach.Goals.{else-loop-place-test, then-loop-place-test+in_default}
use Rattle.sfen.proofs.usi_reading.reach.Goals.{then-loop-place-test+in_default-2}

nothing : (xs : List ℕ) → length xs < 1 → xs ≡ []
nothing [] h = refl
nothing (x ∷ xs) h = absurd (omega (arith, h))

at-end : (places : List UsiField) (text rest : List ℕ) (k : ℕ)
    → reach places text + length rest ≡ length text + reach (drop k places) rest → reach (drop k places) rest ≡ 0
    → length text - length rest ≡ reach places text
at-end places text rest k h e = omega (arith, h, e)

pub returns-clause-value : goal.returns-clause-value
returns-clause-value c =
    let places : List UsiField = c.args.places.now in
    let text : List ℕ = c.args.text.now in
    let rest : List ℕ = c.loop-place.rest.now in
    let k : ℕ = c.loop-place.place-index in
    at-end places text rest k c.loop-place.invariant.count (elim c.loop-place-test.branch [
      | else-loop-place-test w ↦ ap (λ ps. reach ps rest) (drop_all k places w.loop-place-test.false)
      | then-loop-place-test+in_default w ↦ ap (reach (drop k places)) (nothing rest w.in_default.len_below)
          ∙ reach-empty (drop k places)
      | then-loop-place-test+in_default-2 w ↦ reach-stops places k _ rest w.loop-place-test.true
          w.in-len1-up.len_at_least (sym w.fits.ensures ∙ w.if-fits.false)
    ])
