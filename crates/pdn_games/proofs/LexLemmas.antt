-- The tokens of a text have their forms.
use Rattle.std.proofs.Common.{◌≡◌, ℕ, ◌<◌, List, [], ◌∷◌, Option, Some, None, Bool, true, false, cond}
use Rattle.std.proofs.Common.{nat_eq, nat_lt, ◌&&◌, refl, subst, arith}
use Rattle.std.proofs.lemmas.Bool.Decides.{nat_tests}
use Rattle.pdn_games.specs.declared.results.ResultWord.{ResultWord}
use Rattle.pdn_games.specs.Lengths.{number_len, move_len}
use Rattle.pdn_games.specs.Results.{result_at}
use Rattle.pdn_games.specs.Skips.{past_skipped}
use Rattle.pdn_games.specs.Tags.{TagFront, tag_front}
use Rattle.pdn_games.specs.Tokens.{TokenFront, tag_token, word_len, result_token, longest, token_front}
use Rattle.pdn_games.specs.Tokens.{LexStep, ended, skipped, found, stuck, found_front, front_with, front_at, PlacedToken}
use Rattle.pdn_games.specs.Tokens.{Lexes, skips, takes}
use Rattle.pdn_games.specs.internal.Replaying.{HasItsForm, HaveForms}
use Rattle.pdn_games.proofs.TokenFormLemmas.{move-of}

-- a token that is found, if any, has its form
abbrev pub FormFound : Option TokenFront → Type 0
FormFound None = Unit {0}
FormFound (Some t) = HasItsForm t.token

tag-form : (t : Option TagFront) → FormFound (tag_token t)
tag-form None = tt
tag-form (Some t) = tt

result-form : (text : List ℕ) (w : Option ResultWord) → FormFound (result_token text w)
result-form text None = tt
result-form text (Some w) = tt

-- by cases of a test
cond-form : (b : Bool) (x y : Option TokenFront) → (b ≡ true → FormFound x) → (b ≡ false → FormFound y)
    → FormFound (cond b x y)
cond-form true x y yea nay = yea refl
cond-form false x y yea nay = nay refl

longest-form : (text : List ℕ) (numbered : ℕ) (w : Option ResultWord)
    → FormFound (longest text numbered (move_len text) w)
longest-form text numbered w =
    cond-form (nat_lt (move_len text) numbered && nat_lt (word_len w) numbered) _ _ (λ is. tt) (λ is.
    cond-form (nat_lt (word_len w) (move_len text)) _ _
    (λ e. move-of text (let more : word_len w < move_len text = grind (arith, nat_tests, e) in omega (arith, more)))
    (λ e. result-form text w))

front-form : (text : List ℕ) → FormFound (token_front text)
unfolding token_front
front-form [] = tt
front-form (c ∷ rest) =
    cond-form (nat_eq c 91) _ _ (λ is. tag-form (tag_front rest))
    (λ is. longest-form (c ∷ rest) (number_len (c ∷ rest)) (result_at (c ∷ rest)))

-- the same of a front
abbrev pub FormAt : LexStep → Type 0
FormAt ended = Unit {0}
FormAt (skipped rest) = Unit {0}
FormAt (found token rest) = HasItsForm token
FormAt stuck = Unit {0}

found-form : (t : Option TokenFront) → FormFound t → FormAt (found_front t)
found-form None h = tt
found-form (Some t) h = h

with-form : (free : Bool) (text : List ℕ) (past : Option (List ℕ)) → FormAt (front_with free text past)
with-form free text (Some rest) = tt
with-form true text None = found-form (token_front text) (front-form text)
with-form false text None = tt

at-form : (line free : Bool) (text : List ℕ) → FormAt (front_at line free text)
unfolding front_at
at-form line free [] = tt
at-form line free (c ∷ rest) = with-form free (c ∷ rest) (past_skipped line (c ∷ rest))

pub have-forms : (total : ℕ) (line free : Bool) (text : List ℕ) (tokens : List PlacedToken) (stop : Option ℕ)
    → Lexes total line free text tokens stop → HaveForms tokens
have-forms total line free text tokens stop (skips l f t rest ts s is more) = have-forms total _ _ rest ts s more
have-forms total line free text tokens stop (takes l f t rest token ts s is more) =
    (subst FormAt is (at-form l f t), have-forms total _ _ rest ts s more)
have-forms total line free text tokens stop _ = tt
