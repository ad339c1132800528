-- The lines and the objects of rulings, one after another.
use Rattle.std.proofs.Common.{◌≡◌, ◌+◌, ◌<◌, ℕ, suc, List, [], ◌∷◌, ◌++◌, length, map, drop, get_or, refl, ap, sym, ◌∙◌}
use Rattle.std.proofs.Common.{subst, append_assoc, append-nil, arith}
use Rattle.std.proofs.Math.Seq.{drop-cons}
use Rattle.serde_json.specs.Data.{Data}
use Rattle.std.specs.Prelude.{string_bytes, Result, Ok, Err, IfOk}
use Rattle.std.specs.declared.alloc.Global.{Global}
use Rattle.std.specs.declared.string.String.{String}
use Rattle.club_core.specs.Rulings.{GivenRuling}
use Rattle.club_core.specs.declared.rulings.GivenRuling as declared
use Rattle.club_lists.specs.Dates.{IsDate}
use Rattle.club_lists.specs.RulingTexts.{AreRulingLines, IsRulingLine, ruling_data_of, ruling_line, rulings_from}
use Rattle.club_lists.specs.internal.RulingViews.{given_by, rulings_by}
use Rattle.club_lists.proofs.Picked.{text_push}

pub line_is : {E : Type 0} (number : ℕ) (given : GivenRuling) (date : List ℕ) (made : Result (String Global) E)
    → IsDate given.moment date → IfOk made (λ line. string_bytes line ≡ ruling_line number date given)
    → IfOk made (λ line. IsRulingLine number given (string_bytes line))
line_is number given date (Ok line) dated is = (date, dated, is)
line_is number given date (Err e) dated is = is

module _ (all : List GivenRuling) where
  -- what is to come, put behind what is there, makes the whole
  abbrev pub Ahead : ℕ → List GivenRuling → List ℕ → Type 0
  Ahead number left text =
      (rest : List ℕ) → AreRulingLines number left rest → AreRulingLines 1 all (text ++ rest)

  pub ahead_more : (number later : ℕ) (left next : List GivenRuling) (given : GivenRuling) (text line after : List ℕ)
      → left ≡ given ∷ next → later ≡ suc number → IsRulingLine number given line → after ≡ text ++ line
      → Ahead number left text → Ahead later next after
  ahead_more number later left next given text line after at count is grown ahead rest come =
      let here = subst (λ l. AreRulingLines number l (line ++ rest)) (sym at)
      (line, rest, is, subst (λ n. AreRulingLines n next rest) count come, refl) in
      subst (AreRulingLines 1 all)
      (sym (append_assoc text line rest) ∙ ap (λ t. t ++ rest) (sym grown))
      (ahead (line ++ rest) here)

  pub ahead_all : (number : ℕ) (left : List GivenRuling) (text : List ℕ) → left ≡ [] → Ahead number left text
      → AreRulingLines 1 all text
  ahead_all number left text none ahead =
      subst (AreRulingLines 1 all) (append-nil text)
      (ahead [] (subst (λ l. AreRulingLines number l []) (sym none) refl))

module _ {S : Type 0} (view : S → Data) (all : List declared.GivenRuling) (k : ℕ) (given : declared.GivenRuling)
    (within : k < length all) (is : given ≡ get_or all k given) where
  -- the object of one more ruling is put behind those before it
  pub value_more : (values after : List S) (value : S) (whole : List Data)
      → map view values ++ rulings_from (k + 1) (rulings_by (drop k all)) ≡ whole
      → view value ≡ ruling_data_of (k + 1) (given_by given) given.ruling → after ≡ values ++ value ∷ []
      → map view after ++ rulings_from (k + 1 + 1) (rulings_by (drop (k + 1) all)) ≡ whole
  value_more values after value whole before item grown =
      let next : suc k ≡ k + 1 = omega arith in
      let later : k + 1 + 1 ≡ suc (k + 1) = omega arith in
      let here : drop k all ≡ given ∷ drop (k + 1) all =
      drop-cons all k given within ∙ (λ i. sym is i ∷ drop (next i) all) in
      (λ i. map view (grown i) ++ rulings_from (later i) (rulings_by (drop (k + 1) all)))
      ∙ (text_push view values value (rulings_from (suc (k + 1)) (rulings_by (drop (k + 1) all)))
      ∙ (ap (λ t. map view values ++ (t ∷ rulings_from (suc (k + 1)) (rulings_by (drop (k + 1) all)))) item
      ∙ (ap (λ l. map view values ++ rulings_from (k + 1) (rulings_by l)) (sym here) ∙ before)))
