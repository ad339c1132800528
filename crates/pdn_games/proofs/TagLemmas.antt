-- A tag that is written is found as it was written.
use Rattle.std.proofs.Common.{◌≡◌, ℕ, ◌<◌, List, [], ◌∷◌, ◌++◌, length, Bool, true, false, refl, ap, ◌∙◌}
use Rattle.pdn_games.specs.internal.BackLaws.{IsPlain}
use Rattle.pdn_games.specs.Skips.{past_skipped}
use Rattle.pdn_games.specs.internal.SkipGrammar.{All}
use Rattle.pdn_games.specs.Tags.{is_name_byte, tag_front}
use Rattle.pdn_games.specs.internal.TagGrammar.{IsValue, nothing, byte}
use Rattle.pdn_games.specs.Tokens.{tag, tag_token, token_front, found, found_front, front_at}
use Rattle.pdn_games.proofs.TagGrammarLemmas.{split-tag}

plain-value : (text : List ℕ) → IsPlain text → IsValue text
plain-value [] plain = nothing
plain-value (c ∷ text) (no_quote, no_backslash, plain) = byte c text no_quote no_backslash (plain-value text plain)

opened : (line : Bool) (text : List ℕ) → front_at line true (91 ∷ text) ≡ found_front (tag_token (tag_front text))
unfolding front_at past_skipped token_front
opened true text = refl
opened false text = refl

-- a tag whose name has a byte and whose value is plain
pub tag-found : (line : Bool) (name value rest : List ℕ) → 0 < length name → All is_name_byte name → IsPlain value
    → front_at line true (91 ∷ name ++ (32 ∷ 34 ∷ value ++ (34 ∷ 93 ∷ rest))) ≡ found (tag name value) rest
tag-found line name value rest some named plain =
    let text : List ℕ = name ++ (32 ∷ 34 ∷ value ++ (34 ∷ 93 ∷ rest)) in
    opened line text
    ∙ ap (λ t. found_front (tag_token t))
    (split-tag text name value rest (record {
      first = [];
      second = 32 ∷ [];
      third = [];
      first_blank = tt;
      second_blank = (refl, tt);
      third_blank = tt;
      named = some;
      name_is = named;
      value_is = plain-value value plain;
      text_is = refl;
    }))
