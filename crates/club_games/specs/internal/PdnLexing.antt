-- The tokens of a text are the computed ones, and no others. No promise of the program rests on these definitions.
use Rattle.std.proofs.Common.{◌≡◌, ℕ, zero, suc, ◌-◌, ◌<◌, Bool, true, false, cond, ◌&&◌, nat_eq, nat_lt, List, [], ◌∷◌}
use Rattle.std.proofs.Common.{length, drop, Option, Some, None, refl, ap, subst, ◌∙◌, arith}
use Rattle.std.proofs.lemmas.Bool.Decides.{nat_tests}
use Rattle.std.proofs.lemmas.List.{length-append, length-drop}
use Rattle.pdn_games.specs.declared.results.ResultWord.{ResultWord}
use Rattle.pdn_games.specs.declared.results.ResultWord.TheVariants as word
use Rattle.pdn_games.specs.Lengths.{number_len, move_len}
use Rattle.pdn_games.specs.Results.{word_text, result_at}
use Rattle.pdn_games.specs.Skips.{past_skipped}
use Rattle.pdn_games.specs.internal.SkipGrammar.{IsSkipped, blank, comment, note, variation, marks, line_end}
use Rattle.pdn_games.specs.Tags.{TagFront, tag_front}
use Rattle.pdn_games.specs.Tokens.{TokenFront, tag_token, word_len, result_token, longest, token_front}
use Rattle.pdn_games.specs.Tokens.{LexStep, ended, skipped, found, stuck, found_front, front_with, front_at}
use Rattle.pdn_games.specs.Tokens.{begins_feed}
use Rattle.pdn_games.specs.Tokens.{lets_follow, PlacedToken, Lexes, at_end, stops, skips, takes}
use Rattle.pdn_games.proofs.Proved.{skipped-parts, tag-split}
use Rattle.club_games.specs.internal.PdnReading.{Lexed, with_token, after_front, lexed}

-- what is skipped has a byte at least
skipped-shorter : (line : Bool) (text rest : List ℕ) → IsSkipped line text rest → length rest < length text
skipped-shorter line text rest (blank c is split) = let long = ap length split in omega (arith, long)
skipped-shorter line text rest (comment inside lacks split) = omega (arith, simp length-append at (ap length split))
skipped-shorter line text rest (note digits some run split) = omega (arith, simp length-append at (ap length split))
skipped-shorter line text rest (variation inside is split) = omega (arith, simp length-append at (ap length split))
skipped-shorter line text rest (marks c run is are split) = omega (arith, simp length-append at (ap length split))
skipped-shorter line text rest (line_end c run is are split) = omega (arith, simp length-append at (ap length split))

-- what follows a front is shorter
abbrev FrontShorter : List ℕ → LexStep → Type 0
FrontShorter text ended = Unit {0}
FrontShorter text stuck = Unit {0}
FrontShorter text (skipped rest) = length rest < length text
FrontShorter text (found token rest) = length rest < length text

-- a token has a byte at least
abbrev IsShorter : List ℕ → Option TokenFront → Type 0
IsShorter text t = FrontShorter text (found_front t)

pick : {A : Type 0} (P : A → Type 0) (b : Bool) {x y : A} → (b ≡ true → P x) → (b ≡ false → P y) → P (cond b x y)
pick P true first second = first refl
pick P false first second = second refl

dropped : (c : ℕ) (rest : List ℕ) (k : ℕ) → 0 < k → length (drop k (c ∷ rest)) < length (c ∷ rest)
dropped c rest k some = let long = length-drop k (c ∷ rest) in omega (arith, long, some)

word-long : (w : ResultWord) → 0 < length (word_text w)
word-long word.TwoNil = omega arith
word-long _ = omega arith

result-shorter : (c : ℕ) (rest : List ℕ) (w : Option ResultWord) → IsShorter (c ∷ rest) (result_token (c ∷ rest) w)
result-shorter c rest None = tt
result-shorter c rest (Some w) = dropped c rest (length (word_text w)) (word-long w)

longest-shorter : (c : ℕ) (rest : List ℕ) (numbered moved : ℕ) (w : Option ResultWord)
    → IsShorter (c ∷ rest) (longest (c ∷ rest) numbered moved w)
longest-shorter c rest numbered moved w =
    pick (IsShorter (c ∷ rest)) (nat_lt moved numbered && nat_lt (word_len w) numbered)
    (λ e. dropped c rest numbered (grind (arith, nat_tests, e)))
    (λ e. pick (IsShorter (c ∷ rest)) (nat_lt (word_len w) moved)
    (λ f. dropped c rest moved (let more : word_len w < moved = grind (arith, nat_tests, f) in omega (arith, more)))
    (λ f. result-shorter c rest w))

tagged-shorter : (c : ℕ) (rest : List ℕ) (t : Option TagFront) → tag_front rest ≡ t → IsShorter (c ∷ rest) (tag_token t)
tagged-shorter c rest None is = tt
tagged-shorter c rest (Some t) is =
    let tag = tag-split rest t.name t.value t.rest is in omega (arith, simp length-append at (ap length tag.text_is))

token-shorter : (text : List ℕ) → IsShorter text (token_front text)
unfolding token_front
token-shorter [] = tt
token-shorter (c ∷ rest) =
    pick (IsShorter (c ∷ rest)) (nat_eq c 91) (λ e. tagged-shorter c rest (tag_front rest) refl)
    (λ e. longest-shorter c rest (number_len (c ∷ rest)) (move_len (c ∷ rest)) (result_at (c ∷ rest)))

with-shorter : (line free : Bool) (text : List ℕ) (past : Option (List ℕ)) → past_skipped line text ≡ past
    → FrontShorter text (front_with free text past)
with-shorter line free text (Some rest) is = skipped-shorter line text rest (skipped-parts line text rest is)
with-shorter line true text None is = token-shorter text
with-shorter line false text None is = tt

front-shorter : (line free : Bool) (text : List ℕ) → FrontShorter text (front_at line free text)
unfolding front_at
front-shorter line free [] = tt
front-shorter line free (c ∷ rest) = with-shorter line free (c ∷ rest) (past_skipped line (c ∷ rest)) refl

step-lexed : (n total : ℕ) (line free : Bool) (text : List ℕ) (front : LexStep) → front_at line free text ≡ front
    → lexed (suc n) total line free text
    ≡ after_front (total - length text) (λ rest. lexed n total (begins_feed text) true rest)
    (λ token rest. lexed n total false (lets_follow token) rest) front
step-lexed n total line free text front is =
    ap
    (after_front (total - length text) (λ rest. lexed n total (begins_feed text) true rest)
    (λ token rest. lexed n total false (lets_follow token) rest)) is

-- the tokens of a text that has fewer bytes than so many
pub lexes-lexed : (n total : ℕ) (line free : Bool) (text : List ℕ) (tokens : List PlacedToken) (stop : Option ℕ)
    → Lexes total line free text tokens stop → length text < n
    → lexed n total line free text ≡ record { tokens = tokens; stop = stop }
lexes-lexed zero total line free text tokens stop lexes few = absurd (omega (arith, few))
lexes-lexed (suc n) total line free text tokens stop (at_end l f t is) few = step-lexed n total l f t _ is
lexes-lexed (suc n) total line free text tokens stop (stops l f t is) few = step-lexed n total l f t _ is
lexes-lexed (suc n) total line free text tokens stop (skips l f t rest ts s is more) few =
    let less : length rest < length t = subst (FrontShorter t) is (front-shorter l f t) in
    step-lexed n total l f t _ is
    ∙ lexes-lexed n total (begins_feed t) true rest ts s more (omega (arith, few, less))
lexes-lexed (suc n) total line free text tokens stop (takes l f t rest token ts s is more) few =
    let less : length rest < length t = subst (FrontShorter t) is (front-shorter l f t) in
    step-lexed n total l f t _ is
    ∙ ap (with_token (total - length t) token)
    (lexes-lexed n total false (lets_follow token) rest ts s more (omega (arith, few, less)))

-- what a function lexed are the tokens of a text
abbrev LexesTo : ℕ → Bool → Bool → List ℕ → Lexed → Type 0
LexesTo total line free text l = Lexes total line free text l.tokens l.stop

module _ (total : ℕ) (line free : Bool) (text : List ℕ) (more : Bool → Bool → List ℕ → Lexed)
    (again : (l f : Bool) (rest : List ℕ) → length rest < length text → LexesTo total l f rest (more l f rest)) where
  front-lexes : (front : LexStep) → front_at line free text ≡ front
      → LexesTo total line free text
      (after_front (total - length text) (λ rest. more (begins_feed text) true rest)
      (λ token rest. more false (lets_follow token) rest) front)
  front-lexes ended is = at_end line free text is
  front-lexes stuck is = stops line free text is
  front-lexes (skipped rest) is =
      let less : length rest < length text = subst (FrontShorter text) is (front-shorter line free text) in
      skips line free text rest _ _ is (again (begins_feed text) true rest less)
  front-lexes (found token rest) is =
      let less : length rest < length text = subst (FrontShorter text) is (front-shorter line free text) in
      takes line free text rest token _ _ is (again false (lets_follow token) rest less)

-- a text that has fewer bytes than so many has the computed tokens
pub lexed-lexes : (n total : ℕ) (line free : Bool) (text : List ℕ) → length text < n
    → LexesTo total line free text (lexed n total line free text)
lexed-lexes zero total line free text few = absurd (omega (arith, few))
lexed-lexes (suc n) total line free text few =
    front-lexes total line free text (lexed n total)
    (λ l f rest less. lexed-lexes n total l f rest (omega (arith, few, less))) (front_at line free text) refl
