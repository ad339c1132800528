-- A head of httparse's grammar has one line for its start and one for each field, none of them empty.
use Rattle.std.proofs.Common.{◌≡◌, ◌≢◌, ℕ, suc, nat_lt, ◌+◌, ◌<◌, Bool, true, false, List, [], ◌∷◌, ◌++◌, length}
use Rattle.std.proofs.Common.{Some, None, Option, ◌==◌, IsTrue, sym, ◌∙◌, ap, refl, append_assoc, arith}
use Rattle.std.proofs.Common.{rules, true≢false}
use Rattle.std.specs.List.{AllByRecursion, flat_map}
use Rattle.std.proofs.lemmas.List.Elements.{recursion_from_All, All-weaker}
use Rattle.std.proofs.lemmas.Bool.{false_from_ne_true}
use Rattle.httparse.specs.Grammar.{LineEnd, crlf, lf, print_end, print_blank, print_version, Field, print_field}
use Rattle.httparse.specs.Grammar.{IsField, IsToken, AllPass, is_token_byte, is_value_byte, is_uri_byte, RequestHead}
use Rattle.httparse.specs.Grammar.{ReadsRequest}
use Rattle.httparse.proofs.GrammarLemmas.{print_request-append}
use Rattle.http_head.specs.declared.framing.LineState.{LineState}
use Rattle.http_head.specs.declared.framing.LineState.TheVariants.{Fresh, Filled}
use Rattle.http_head.specs.declared.framing.Scan.{Scan}
use Rattle.http_head.specs.Framing.{end_from, longer, scan_start}

abbrev at_line : ℕ → ℕ → LineState → Scan
at_line n k l = record { at = n; lines = k; line = l }

-- from the one line on, the scan comes to a fresh line with so many lines before it
abbrev Comes : ℕ → ℕ → LineState → List ℕ → ℕ → List ℕ → Type 0
Comes n k l bytes lines rest = (at : ℕ) × (end_from (at_line n k l) bytes ≡ end_from (at_line at lines Fresh) rest)

-- no LF
abbrev Plain : List ℕ → Type 0
Plain bytes = AllByRecursion (λ b. b ≢ 10) bytes

plain_byte : (n k : ℕ) (l : LineState) (x : ℕ) (rest : List ℕ) → x ≢ 10
    → end_from (at_line n k l) (x ∷ rest) ≡ end_from (at_line (n + 1) k (longer l x)) rest
plain_byte n k l x rest ne = let e : (x == 10) ≡ false = false_from_ne_true (x == 10) (λ h. ne (search (rules, h))) in
    rw e refl

-- the rest of a line that is not empty
filled : (n k : ℕ) (bytes : List ℕ) (e : LineEnd) (rest : List ℕ) → Plain bytes
    → Comes n k Filled (bytes ++ (print_end e ++ rest)) (k + 1) rest
filled n k [] crlf rest h = (n + 1 + 1, refl)
filled n k [] lf rest h = (n + 1, refl)
filled n k (x ∷ bytes) e rest h =
    let later = filled (n + 1) k bytes e rest h.1 in
    (later.0, plain_byte n k Filled x (bytes ++ (print_end e ++ rest)) h.0 ∙ later.1)

-- a line that is not empty
line : (n k x : ℕ) (bytes : List ℕ) (e : LineEnd) (rest : List ℕ) → x ≢ 10 → x ≢ 13 → Plain bytes
    → Comes n k Fresh (x ∷ (bytes ++ (print_end e ++ rest))) (k + 1) rest
line n k x bytes e rest ne nr h =
    let later = filled (n + 1) k bytes e rest h in
    let d : (x == 13) ≡ false = false_from_ne_true (x == 13) (λ q. nr (search (rules, q))) in
    let first : longer Fresh x ≡ Filled = rw d refl in
    (later.0, plain_byte n k Fresh x (bytes ++ (print_end e ++ rest)) ne ∙ rw first later.1)

-- one after the other
then_comes : (n k : ℕ) (l : LineState) (bytes : List ℕ) (middle : ℕ) (rest : List ℕ) (lines : ℕ) (last : List ℕ)
    → Comes n k l bytes middle rest → ((at : ℕ) → Comes at middle Fresh rest lines last) → Comes n k l bytes lines last
then_comes n k l bytes middle rest lines last first second = ((second first.0).0, first.1 ∙ (second first.0).1)

plain_of : (test : ℕ → Bool) → test 10 ≡ false → (bytes : List ℕ) → AllPass test bytes → Plain bytes
plain_of test never bytes h = recursion_from_All (λ b. b ≢ 10) bytes
    (All-weaker (λ b. IsTrue (test b)) (λ b. b ≢ 10) (λ b passes e. true≢false (sym passes ∙ (ap test e ∙ never)))
    bytes h)

plain_append : (a b : List ℕ) → Plain a → Plain b → Plain (a ++ b)
plain_append [] b p q = q
plain_append (x ∷ a) b p q = (p.0, plain_append a b p.1 q)

-- a line that begins with a token
token_line : (n k : ℕ) (token more : List ℕ) (e : LineEnd) (rest : List ℕ) → IsToken token → Plain more
    → Comes n k Fresh (token ++ (more ++ (print_end e ++ rest))) (k + 1) rest
unfolding is_token_byte
token_line n k [] more e rest h p = absurd (omega (arith, h.0))
token_line n k (x ∷ token) more e rest h p =
    let q = plain_of is_token_byte refl (x ∷ token) h.1 in
    let no_return : x ≢ 13 = λ e. true≢false (sym (h.1 0 x (omega arith)) ∙ ap is_token_byte e) in
    rw (← append_assoc token more (print_end e ++ rest))
    (line n k x (token ++ more) e rest q.0 no_return (plain_append token more q.1 p))

blanks : (n : ℕ) (ends : List LineEnd) (rest : List ℕ) → Comes n 0 Fresh (print_blank ends ++ rest) 0 rest
blanks n [] rest = (n, refl)
blanks n (crlf ∷ ends) rest = blanks (n + 1 + 1) ends rest
blanks n (lf ∷ ends) rest = blanks (n + 1) ends rest

fields_lines : (n k : ℕ) (fields : List Field) (rest : List ℕ) → AllByRecursion IsField fields
    → Comes n k Fresh (flat_map print_field fields ++ rest) (k + length fields) rest
fields_lines n k [] rest h =
    let same : k + 0 ≡ k = omega arith in
    rw same (n, refl)
fields_lines n k (f ∷ fields) rest h =
    let after_first : List ℕ = flat_map print_field fields ++ rest in
    let same : k + suc (length fields) ≡ k + 1 + length fields = omega arith in
    rw same (simp append_assoc (then_comes n k Fresh (f.name ++ ((58 ∷ f.raw) ++ (print_end f.end ++ after_first)))
    (k + 1) after_first (k + 1 + length fields) rest
    (token_line n k f.name (58 ∷ f.raw) f.end after_first h.0.name
    (omega arith, plain_of is_value_byte refl f.raw h.0.raw))
    (λ at. fields_lines at (k + 1) fields rest h.1)))

the_end : (n k : ℕ) (last : LineEnd) → 0 < k → (at : ℕ)
    × (end_from (at_line n k Fresh) (print_end last ++ []) ≡ Some (at, k))
the_end n k crlf h = let e : nat_lt 0 k ≡ true = search (rules, h) in (n + 1 + 1, rw e refl)
the_end n k lf h = let e : nat_lt 0 k ≡ true = search (rules, h) in (n + 1, rw e refl)

abbrev second : Option (ℕ × ℕ) → ℕ
second None = 0
second (Some p) = p.1

-- how many lines of a head are not empty
pub lines_of_head : (bytes : List ℕ) (h : RequestHead) (length_is lines : ℕ) → ReadsRequest bytes h []
    → end_from scan_start bytes ≡ Some (length_is, lines) → lines ≡ length h.fields + 1
lines_of_head bytes h length_is lines reads found =
    let more : List ℕ = (32 ∷ h.target) ++ (32 ∷ print_version h.minor) in
    let p : Plain more = (
      omega arith,
      plain_append h.target (32 ∷ print_version h.minor) (plain_of is_uri_byte refl h.target reads.0.target.1)
          (omega (arith, reads.0.minor)),
    ) in
    let last : List ℕ = print_end h.last ++ [] in
    let fields : List ℕ = flat_map print_field h.fields ++ last in
    let first : List ℕ = h.method ++ (more ++ (print_end h.line_end ++ fields)) in
    let whole : bytes ≡ print_blank h.blank ++ first = reads.1 ∙ print_request-append h [] ∙ simp append_assoc in
    let count : ℕ = 0 + 1 + length h.fields in
    let comes : Comes 0 0 Fresh bytes count last =
    rw whole (then_comes 0 0 Fresh (print_blank h.blank ++ first) 0 first count last (blanks 0 h.blank first) (λ at.
    then_comes at 0 Fresh first (0 + 1) fields count last
    (token_line at 0 h.method more h.line_end fields reads.0.method p) (λ later.
    fields_lines later (0 + 1) h.fields last (recursion_from_All IsField h.fields reads.0.fields)))) in
    let ends = the_end comes.0 count h.last (omega arith) in
    let same : lines ≡ count = ap second (sym found ∙ comes.1 ∙ ends.1) in
    omega (arith, same)
