-- What the walk over a pattern that is filled takes: the parts that it is filled with.
use Rattle.std.proofs.Common.{◌≡◌, ◌∙◌, ℕ, suc, ◌+◌, ◌-◌, ◌<◌, ◌≤◌, List, [], ◌∷◌, ◌++◌, length, drop, get_or}
use Rattle.std.proofs.Common.{Bool, true, false, ◌==◌, ltb, leb, refl, sym, ap, arith}
use Rattle.std.proofs.Common.{get_or-drop, length-drop, length-append, drop-drop}
use Rattle.std.proofs.lemmas.Bool.{and_parts}
use Rattle.std.proofs.lemmas.Bool.Decides.{nat_tests}
use Rattle.std.proofs.Math.Seq.{take-append_seam, drop-append_seam}
use Rattle.matchit.specs.Rows.{param_token}
use Rattle.matchit.specs.Params.{walk, part_of, wild_from, wild_stop, after_token}
use Rattle.matchit.specs.Seek.{slash, segment, has_slash}
use Rattle.http_desk.proofs.FilledPaths.{filled, later, is_plain, ends_part, cond_none, HaveNoSlash}
use Rattle.http_desk.proofs.PartTexts.{parameters}

-- the names of a route with these parts
abbrev pub named_parts : List ℕ → List (ℕ × ℕ) → (ℕ → List ℕ) → List (List ℕ × List ℕ)
named_parts text [] parts = []
named_parts text (name ∷ names) parts =
    (part_of text name.0 name.1, parts 0) ∷ named_parts text names (later parts)

drop_next : (token x : ℕ) (pattern rest : List ℕ) → drop token pattern ≡ x ∷ rest → drop (token + 1) pattern ≡ rest
drop_next token x pattern rest at = sym (drop-drop 1 token pattern) ∙ ap (drop 1) at

within : (token x : ℕ) (pattern rest : List ℕ) → drop token pattern ≡ x ∷ rest
    → length pattern ≡ token + suc (length rest)
within token x pattern rest at =
    let left : length pattern - token ≡ suc (length rest) = sym (length-drop token pattern) ∙ ap length at in
    omega (arith, left)

first_token : (token x : ℕ) (pattern rest : List ℕ) → drop token pattern ≡ x ∷ rest → get_or pattern token 0 ≡ x
first_token token x pattern rest is =
    let same : token + 0 ≡ token = omega arith in
    sym (rw (is, same) at (get_or-drop token pattern 0 0))

-- a byte of a pattern is passed by
over_byte : (pattern rest path : List ℕ) (x token at : ℕ) → x < 128 → drop token pattern ≡ x ∷ rest → at < length path
    → wild_from (drop token pattern) (length path) token at
    ≡ wild_from (drop (token + 1) pattern) (length path) (token + 1) (at + 1)
over_byte pattern rest path x token at low is inside =
    let byte : ltb x param_token ≡ true = grind (arith, nat_tests) in
    let on : ltb at (length path) ≡ true = grind (arith, nat_tests) in
    rw (drop_next token x pattern rest is, is, byte, on) refl

-- where a part's segment ends
segment_of_part : (part rest : List ℕ) → has_slash part ≡ false
    → length (segment (part ++ slash ∷ rest)) ≡ length part + 1
segment_of_part [] rest none = refl
segment_of_part (b ∷ part) rest none =
    let e = cond_none (b == slash) _ none in
    rw (e.0, segment_of_part part rest e.1) (omega arith)

-- a part ends where the rest of the pattern begins
part_stop : (rest pattern path part : List ℕ) (parts : ℕ → List ℕ) (token at : ℕ) → ends_part rest ≡ true
    → has_slash part ≡ false → drop token pattern ≡ param_token ∷ rest → drop at path ≡ part ++ filled rest parts
    → length path ≡ at + length (part ++ filled rest parts) → wild_stop pattern token path at ≡ at + length part
part_stop [] pattern path part parts token at ends none is from long =
    let len = within token param_token pattern [] is in
    let here : ltb token (length pattern) ≡ true = grind (arith, nat_tests, len) in
    let last : ltb (token + 1) (length pattern) ≡ false = grind (arith, nat_tests, len) in
    let end : length path ≡ at + length part = omega (arith, long, length-append part []) in
    rw (here, first_token token param_token pattern [] is, last) end
part_stop (x ∷ rest) pattern path part parts token at ends none is from long =
    let same : x ≡ slash = grind (arith, nat_tests) in
    let is_slash : drop token pattern ≡ param_token ∷ slash ∷ rest = rw same at is in
    let from_slash : drop at path ≡ part ++ slash ∷ filled rest parts = rw same at from in
    let len = within token param_token pattern (slash ∷ rest) is_slash in
    let here : ltb token (length pattern) ≡ true = grind (arith, nat_tests, len) in
    let more : ltb (token + 1) (length pattern) ≡ true = grind (arith, nat_tests, len) in
    let seg = segment_of_part part (filled rest parts) none in
    rw (
      here,
      first_token token param_token pattern (slash ∷ rest) is_slash,
      more,
      drop_next token param_token pattern (slash ∷ rest) is_slash,
      from_slash,
      seg,
    ) (omega arith)

part_taken : (path part rest : List ℕ) (at : ℕ) → drop at path ≡ part ++ rest
    → length path ≡ at + length (part ++ rest) → part_of path at (at + length part) ≡ part
part_taken path part rest at from long =
    let len = length-append part rest in
    let one : leb at (at + length part) ≡ true = grind (arith, nat_tests) in
    let two : leb (at + length part) (length path) ≡ true = grind (arith, nat_tests, long, len) in
    let some : at + length part - at ≡ length part = omega arith in
    rw (one, two, some, from) (take-append_seam part rest)

-- what the walk from there on takes, wherever it is in the path
abbrev pub Walks : List ℕ → List ℕ → List ℕ → List ℕ → ℕ → Type 0
Walks rest text pattern path token =
    (names : List (ℕ × ℕ)) (at : ℕ) (parts : ℕ → List ℕ) → HaveNoSlash parts → drop at path ≡ filled rest parts
    → length path ≡ at + length (filled rest parts) → length names ≤ parameters rest
    → walk pattern text path names token at ≡ named_parts text names parts

pub walked : (rest text pattern path : List ℕ) (token : ℕ) → is_plain rest ≡ true → drop token pattern ≡ rest
    → length pattern ≤ 18446744073709551615 → Walks rest text pattern path token
walked rest text pattern path token plain is word [] at parts none from long few = refl
walked [] text pattern path token plain is word (name ∷ names) at parts none from long few = absurd (omega arith)
walked (x ∷ rest) text pattern path token plain is word (name ∷ names) at parts none from long few =
    by (x == param_token) refl
    (walked rest text pattern path (token + 1) (and_parts _ _ plain).1 (drop_next token x pattern rest is) word)
  where
    by : (v : Bool) → (x == param_token) ≡ v → Walks rest text pattern path (token + 1)
        → walk pattern text path (name ∷ names) token at ≡ named_parts text (name ∷ names) parts
    by true e more =
        let same : x ≡ param_token = grind (arith, nat_tests) in
        let here : drop token pattern ≡ param_token ∷ rest = is ∙ ap (λ x. x ∷ rest) same in
        let len = within token param_token pattern rest here in
        let ends : ends_part rest ≡ true = (and_parts _ (is_plain rest) (rw e at plain)).0 in
        let whole = rw e at from in
        let size = rw e at long in
        let stop = part_stop rest pattern path (parts 0) (later parts) token at ends (none 0) here whole size in
        let part = part_taken path (parts 0) (filled rest (later parts)) at whole size in
        let next : after_token token ≡ token + 1 = omega (arith, len) in
        let behind : drop (at + length (parts 0)) path ≡ filled rest (later parts) =
        sym (drop-drop (length (parts 0)) at path) ∙ ap (drop (length (parts 0))) whole
        ∙ drop-append_seam (parts 0) (filled rest (later parts)) in
        let left : length path ≡ at + length (parts 0) + length (filled rest (later parts)) =
        omega (arith, size, length-append (parts 0) (filled rest (later parts))) in
        let fewer : suc (length names) ≤ suc (parameters rest) = rw e at few in
        let on = more names (at + length (parts 0)) (later parts) (λ i. none (suc i)) behind left (omega arith) in
        rw (here, stop, part, next, on) refl
    by false e more =
        let byte : ltb x 128 ≡ true = (and_parts _ (is_plain rest) (rw e at plain)).0 in
        let low : x < 128 = grind (arith, nat_tests) in
        let size = rw e at long in
        let inside : at < length path = omega (arith, size) in
        let behind : drop (at + 1) path ≡ filled rest parts = drop_next at x path (filled rest parts) (rw e at from) in
        let left : length path ≡ at + 1 + length (filled rest parts) = omega (arith, size) in
        rw (over_byte pattern rest path x token at low is inside)
        (more (name ∷ names) (at + 1) parts none behind left (rw e at few))
