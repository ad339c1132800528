-- The rows of texts, one after another.
use Rattle.std.proofs.Common.{◌≡◌, ℕ, zero, suc, ◌+◌, ◌<◌, List, [], ◌∷◌, ◌++◌, length, map, take, drop, get_or, Bool}
use Rattle.std.proofs.Common.{true, false, refl, sym, ap, ◌∙◌, arith, add-one, append_assoc}
use Rattle.std.specs.Prelude.{◌||◌, string_bytes}
use Rattle.std.specs.declared.alloc.Global.{Global}
use Rattle.std.specs.declared.string.String.{String}
use Rattle.std.specs.List.{list_any}
use Rattle.std.specs.Str.{bytes_eq}
use Rattle.std.proofs.lemmas.List.{map-append, take-map}
use Rattle.sqlite.specs.Order.{Row}
use Rattle.club_rules.specs.GameRules.{GameRules}
use Rattle.club_rules.specs.Line.{position_after, positions}
use Rattle.club_rows.specs.Seen.{times_in, stood_before, seen_row, rows_from}
use Rattle.club_rows.proofs.Proved.{positions-append}
use Rattle.club_changes.specs.internal.MoveTexts.{bytes_of}
use Rattle.club_changes.proofs.MoveLemmas.{one-more}

-- the elements from a place on are the one there and the others
pub drop-mapped : {A B : Type 0} (f : A → B) (xs : List A) (k : ℕ) (x : A) → k < length xs → x ≡ get_or xs k x
    → drop k (map f xs) ≡ f x ∷ drop (suc k) (map f xs)
drop-mapped f [] k x within is = absurd (omega arith)
drop-mapped f (y ∷ ys) zero x within is = ap (λ z. f z ∷ map f ys) (sym is)
drop-mapped f (y ∷ ys) (suc k) x within is = drop-mapped f ys k x (omega (arith, within)) is

module _ (id : ℕ) (all : List (List ℕ)) (ply : ℕ) (text : List ℕ)
    (here : drop ply all ≡ text ∷ drop (suc ply) all) where
  -- a text that stood before has no row of its own
  pub seen-skipped : (rows : List Row) → stood_before all ply text ≡ true
      → rows ++ rows_from id all (ply + 1) (drop (ply + 1) all) ≡ rows ++ rows_from id all ply (drop ply all)
  seen-skipped rows stood = rw (here, stood, add-one ply)

  -- and one that did not has one
  pub seen-put : (rows new : List Row) → stood_before all ply text ≡ false
      → new ≡ rows ++ seen_row id text (times_in all text) ply ∷ []
      → new ++ rows_from id all (ply + 1) (drop (ply + 1) all) ≡ rows ++ rows_from id all ply (drop ply all)
  seen-put rows new stood more = rw (more, append_assoc, here, stood, add-one ply)

-- whether a text stood before, over the texts as they are kept
any-mapped : {A B : Type 0} (p : B → Bool) (f : A → B) (xs : List A)
    → list_any (λ x. p (f x)) xs ≡ list_any p (map f xs)
any-mapped p f [] = refl
any-mapped p f (x ∷ xs) = ap (λ b. p (f x) || b) (any-mapped p f xs)

pub stood-is : (texts : List (String Global)) (ply : ℕ) (text u : List ℕ) (found b : Bool)
    → found ≡ list_any (λ t. bytes_eq u (string_bytes t)) (take ply texts) → u ≡ text → found ≡ b
    → stood_before (bytes_of texts) ply text ≡ b
stood-is texts ply text u found b is same told =
    sym
    (is ∙ ap (λ v. list_any (λ t. bytes_eq v (string_bytes t)) (take ply texts)) same
    ∙ any-mapped (bytes_eq text) (λ t. string_bytes t) (take ply texts)
    ∙ ap (list_any (bytes_eq text)) (sym (take-map (λ t. string_bytes t) ply texts))) ∙ told

-- the texts of a line with one move more
pub texts-next : {P M E T : Type 0} (rules : GameRules P M E T) (ms : List M) (i : ℕ) (m : M) → i < length ms
    → m ≡ get_or ms i m → (old new : List (List ℕ)) (text : List ℕ) (q : P)
    → old ≡ map rules.write_position (positions rules rules.start (take i ms)) → new ≡ old ++ text ∷ []
    → text ≡ rules.write_position q
    → q ≡ position_after rules rules.start (take (i + 1) ms)
    → new ≡ map rules.write_position (positions rules rules.start (take (i + 1) ms))
texts-next rules ms i m within is old new text q was more text_is stands =
    let one = one-more rules ms i m within is in
    let last = text_is ∙ ap rules.write_position (stands ∙ ap (position_after rules rules.start) one) in
    rw (one, positions-append rules rules.start (take i ms) m, map-append) (more ∙ (λ j. was j ++ last j ∷ []))
