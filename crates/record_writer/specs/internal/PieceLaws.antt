-- Lemmas about consecutive pieces: what was written so far is a prefix of the whole. No promise of the program rests on
-- these definitions.
use Rattle.std.specs.Prelude.{ℕ, Option, List, [], ◌++◌}
use Rattle.std.specs.Io.KnownBytes.{Appends}
use Rattle.std.proofs.Common.{append_assoc, append-nil, refl, ap, ◌∙◌, sym}
use Rattle.std.proofs.KnownBytes.{Appends-nil, Appends-trans}
use Rattle.record_writer.specs.Pieces.{AppendsSome}

-- Nothing was written.
pub begun-nothing : (known : Option (List ℕ)) (text : List ℕ) → AppendsSome known known text
begun-nothing known text = record { done = []; left = text; parts = refl; appended = Appends-nil known }

-- The whole text was written.
pub begun-whole : (before after : Option (List ℕ)) (text : List ℕ) → Appends before after text →
    AppendsSome before after text
begun-whole before after text h = record { done = text; left = []; parts = append-nil text; appended = h }

-- A text was written completely, then a prefix of the next one.
pub begun-next : (before mid after : Option (List ℕ)) (text next : List ℕ) → Appends before mid text
    → AppendsSome mid after next →
    AppendsSome before after (text ++ next)
begun-next before mid after text next h some = record {
  done = text ++ some.done;
  left = some.left;
  parts = append_assoc text some.done some.left ∙ ap (λ l. text ++ l) some.parts;
  appended = Appends-trans before mid after text some.done h some.appended;
}

-- A prefix of a text is a prefix of every longer text.
pub begun-longer : (before after : Option (List ℕ)) (text more : List ℕ) → AppendsSome before after text →
    AppendsSome before after (text ++ more)
begun-longer before after text more some = record {
  done = some.done;
  left = some.left ++ more;
  parts = sym (append_assoc some.done some.left more) ∙ ap (λ l. l ++ more) some.parts;
  appended = some.appended;
}
