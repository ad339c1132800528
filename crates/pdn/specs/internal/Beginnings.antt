-- The offsets of syntax errors in the texts of moves. No promise of the program rests on these definitions.
use Rattle.std.specs.Prelude.{◌≡◌, ◌↔◌, ◌<◌, ◌≤◌, ℕ, List, ◌++◌, length, take, Err}
use Rattle.pdn.specs.Forms.{Form, read_form}
use Rattle.pdn.specs.internal.Grammar.{HasForm}

-- a prefix of the text of some move
abbrev pub Begins : List ℕ → Type 0
Begins text = (rest : List ℕ) × (form : Form) × HasForm (text ++ rest) form

-- the length in bytes of the longest prefix that can begin a move's text
pub record IsLongestBeginning (text : List ℕ) (bytes : ℕ) : Type 0 where
  pub within : bytes ≤ length text
  pub begins : Begins (take bytes text)
  pub longest : (n : ℕ) → bytes < n → n ≤ length text → Begins (take n text) → ⊥

-- The parser's offset for a text without a form is that length.
abbrev pub SaysLongestBeginning : Type 0
SaysLongestBeginning = (text : List ℕ) (bytes : ℕ) → read_form text ≡ Err bytes → IsLongestBeginning text bytes

-- The parser fails with that offset exactly if the text has no form.
abbrev pub OffsetsAreLongestBeginnings : Type 0
OffsetsAreLongestBeginnings = (text : List ℕ) (bytes : ℕ)
    → (read_form text ≡ Err bytes) ↔ (((form : Form) → HasForm text form → ⊥) × IsLongestBeginning text bytes)
