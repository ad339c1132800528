-- The offsets of syntax errors in FEN texts. No promise of the program rests on these definitions.
use Rattle.std.specs.Prelude.{◌↔◌, ◌<◌, ◌≤◌, ℕ, List, ◌++◌, length, take, Err}
use Rattle.pdn.specs.FenForm.{FenForm, ReadsForm}
use Rattle.pdn.specs.internal.FenGrammar.{HasFenForm}

-- a prefix of some FEN text
abbrev pub BeginsFen : List ℕ → Type 0
BeginsFen text = (rest : List ℕ) × (form : FenForm) × HasFenForm (text ++ rest) form

-- the length in bytes of the longest prefix that can begin a FEN text
pub record IsLongestFenBeginning (text : List ℕ) (bytes : ℕ) : Type 0 where
  pub within : bytes ≤ length text
  pub begins : BeginsFen (take bytes text)
  pub longest : (n : ℕ) → bytes < n → n ≤ length text → BeginsFen (take n text) → ⊥

-- The parser fails with that length exactly if the text has no form.
abbrev pub FenOffsetsAreLongestBeginnings : Type 0
FenOffsetsAreLongestBeginnings = (text : List ℕ) (bytes : ℕ)
    → ReadsForm text (Err bytes) ↔ (((form : FenForm) → HasFenForm text form → ⊥) × IsLongestFenBeginning text bytes)
