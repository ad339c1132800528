-- A piece of which more and more bytes are written.
use Rattle.std.proofs.Common.{◌≡◌, ℕ, List, ◌++◌, ◌-◌, length, Option, None, Some, ap, ◌∙◌, take, drop, append_assoc}
use Rattle.std.proofs.Common.{take-append-drop}
use Rattle.std.specs.Io.KnownBytes.{Appends, Keeps}
use Rattle.std.proofs.lemmas.List.{take_rest}

-- what was appended, kept
pub appends_kept : (before mid after : Option (List ℕ)) (text : List ℕ) → Appends before mid text → Keeps mid after
    → Appends before after text
appends_kept None mid after text h kept = tt
appends_kept (Some xs) None after text h kept = absurd h
appends_kept (Some xs) (Some ys) None text h kept = absurd kept
appends_kept (Some xs) (Some ys) (Some zs) text h kept = kept ∙ h

-- so many bytes more
pub takes_front : (all done rest : List ℕ) (n : ℕ) → done ++ rest ≡ all → (done ++ take n rest) ++ drop n rest ≡ all
takes_front all done rest n e = append_assoc done (take n rest) (drop n rest)
    ∙ ap (λ l. done ++ l) (take-append-drop n rest) ∙ e

-- the same, as a slice has what is left
pub takes_slice : (all done rest : List ℕ) (n : ℕ) → done ++ rest ≡ all
    → (done ++ take n rest) ++ take (length rest - n) (drop n rest) ≡ all
takes_slice all done rest n e = ap (λ l. (done ++ take n rest) ++ l) (take_rest rest n) ∙ takes_front all done rest n e
