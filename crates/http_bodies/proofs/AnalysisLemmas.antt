-- The strings of an array, one after another.
use Rattle.std.proofs.Common.{◌≡◌, ℕ, zero, suc, List, [], ◌∷◌, ◌++◌, drop, map, Option, Some, None, refl, ap, sym, ◌∙◌}
use Rattle.std.proofs.Common.{append_assoc}
use Rattle.std.specs.Prelude.{slice_get}
use Rattle.std.proofs.lemmas.Option.{same_Some}
use Rattle.serde_json.specs.Find.{as_str}
use Rattle.serde_json.specs.View.{items_view, view}
use Rattle.serde_json.specs.declared.value.Value.{Value}
use Rattle.http_bodies.specs.Analyses.{strings_of, with_string}

-- strings that were read, and those of the rest
abbrev pub read_then : List (List ℕ) → Option (List (List ℕ)) → Option (List (List ℕ))
read_then done None = None
read_then done (Some texts) = Some (done ++ texts)

one_more : (done : List (List ℕ)) (text : List ℕ) (rest : Option (List (List ℕ)))
    → read_then done (with_string (Some text) rest) ≡ read_then (done ++ text ∷ []) rest
one_more done text None = refl
one_more done text (Some texts) = ap Some (sym (append_assoc done (text ∷ []) texts))

drop_here : {A : Type 0} (xs : List A) (i : ℕ) (x : A) → slice_get xs i ≡ Some x → drop i xs ≡ x ∷ drop (suc i) xs
drop_here [] i x at = cc
drop_here (y ∷ ys) zero x at = rw (same_Some y x at) refl
drop_here (y ∷ ys) (suc i) x at = drop_here ys i x at

-- the next value is a string
pub string_read : (values : List Value) (i : ℕ) (value : Value) (done : List (List ℕ)) (text : List ℕ)
    → slice_get values i ≡ Some value → as_str (view value) ≡ Some text
    → strings_of (items_view values) ≡ read_then done (strings_of (items_view (drop i values)))
    → strings_of (items_view values) ≡ read_then (done ++ text ∷ []) (strings_of (items_view (drop (suc i) values)))
string_read values i value done text at is so_far =
    so_far ∙ ap (λ vs. read_then done (strings_of (items_view vs))) (drop_here values i value at)
    ∙ ap (λ t. read_then done (with_string t (strings_of (items_view (drop (suc i) values))))) is
    ∙ one_more done text (strings_of (items_view (drop (suc i) values)))

-- it is none, so the array has something else
pub no_string : (values : List Value) (i : ℕ) (value : Value) (done : List (List ℕ))
    → slice_get values i ≡ Some value → as_str (view value) ≡ None
    → strings_of (items_view values) ≡ read_then done (strings_of (items_view (drop i values)))
    → None ≡ strings_of (items_view values)
no_string values i value done at is so_far =
    sym (so_far ∙ ap (λ vs. read_then done (strings_of (items_view vs))) (drop_here values i value at)
    ∙ ap (λ t. read_then done (with_string t (strings_of (items_view (drop (suc i) values))))) is)
