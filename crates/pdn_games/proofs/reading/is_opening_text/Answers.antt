use Rattle.std.proofs.Common.{◌≡◌, ℕ, List, true, false, sym, subst, ◌∙◌}
use Rattle.squares.specs.DraughtsOpening.{opening}
use Rattle.squares.specs.DraughtsBoard.{Position}
use Rattle.pdn.specs.declared.faults.FenFault.{FenFault}
use Rattle.pdn.specs.declared.faults.FenFault.TheVariants as fault
use Rattle.pdn.specs.ReadFen.{IsFen}
use Rattle.pdn.specs.internal.ReadFen.{HasFenFault}
use Rattle.pdn.specs.internal.Laws.{ReadsOnePosition}
use Rattle.pdn_games.proofs.FenTextLemmas.{fen-utf8}
use Rattle.pdn_games.proofs.reading.is_opening_text.Goals as goal

-- a text with such a fault is none of a position's
no-fen : ReadsOnePosition → (text read : List ℕ) (f : FenFault) → read ≡ text → HasFenFault read f → IsFen text opening
    → f ≡ fault.Memory
no-fen laws text read f same h fen = (laws opening text fen).1 f (subst (λ t. HasFenFault t f) same h)

pub returns-in-Err : goal.returns-in-Err
returns-in-Err c = (
  λ e. absurd (let never : false ≡ true = e in cc),
  λ fen. absurd (c.in-Err.ensures.cases.0 (fen-utf8 c.fen_forms_are_texts.ensures c.args.text.now opening fen)),
)

pub returns-in-Ok-read_fen : goal.returns-in-Ok-read_fen
returns-in-Ok-read_fen c =
    let text : List ℕ = c.args.text.now in
    let p : Position = c.in-Ok-read_fen.position in
    let read : IsFen text p = subst (λ t. IsFen t p) c.in-Ok.ensures.cases.0 c.in-Ok-read_fen.ensures.read in (
      λ t. subst (IsFen text) (c.is_opening.ensures.0 t) read,
      λ fen. c.is_opening.ensures.1 ((c.reads_one_position.ensures opening text fen).0 p read),
    )

pub returns-in-Err-BadText : goal.returns-in-Err-BadText
returns-in-Err-BadText c = (
  λ e. absurd (let never : false ≡ true = e in cc),
  λ fen.
      absurd (let memory : c.in-Err-BadText.field-0 ≡ fault.Memory =
      no-fen c.reads_one_position.ensures c.args.text.now c.in-Ok.text.now c.in-Err-BadText.field-0
      c.in-Ok.ensures.cases.0 c.in-Err-BadText.ensures.fault fen in
      let never : fault.BadText c.in-Err-BadText.field-0-0 ≡ fault.Memory = sym c.in-Err-BadText.field-0-is ∙ memory in
      cc),
)
