use Rattle.std.proofs.Common.{sym, ap, subst, ◌∙◌, ℕ}
use Rattle.sfen.specs.internal.UsiText.{IsNoUsi}
use Rattle.sfen.specs.UsiReading.{usi_reading, usi_reach}
use Rattle.sfen.proofs.UsiTextLemmas.{usi_reading-sound}
use Rattle.sfen.proofs.UsiOffsetLemmas.{no-usi}
use Rattle.sfen.proofs.usi_reading.read_usi.Goals as goal

pub returns-in-Some-clause-played : goal.returns-in-Some-clause-played
returns-in-Some-clause-played c =
    usi_reading-sound c.args.text.now c.in-Some.played
    (ap usi_reading (sym c.as_bytes-bytes.ensures.value) ∙ sym c.in-Some.ensures)

pub returns-in-None-clause-fault : goal.returns-in-None-clause-fault
returns-in-None-clause-fault c =
    let none = no-usi c.args.text.now (ap usi_reading (sym c.as_bytes-bytes.ensures.value) ∙ sym c.in-None.ensures) in
    let bytes = c.usi_reach.ensures ∙ ap usi_reach c.as_bytes-bytes.ensures.value in
    subst (λ (n : ℕ). IsNoUsi c.args.text.now n) (sym bytes) none
