-- A text has its tokens in one way.
use Rattle.std.proofs.Common.{◌≡◌, ℕ, ◌-◌, List, [], ◌∷◌, length, Option, Some, None, Bool, true, false, refl, sym, ap}
use Rattle.std.proofs.Common.{subst, ◌∙◌}
use Rattle.pdn_games.specs.Tokens.{LexStep, ended, skipped, found, stuck, front_at, begins_feed, lets_follow, PlacedToken}
use Rattle.pdn_games.specs.Tokens.{Lexes, at_end, stops, skips, takes}

-- one list of tokens, and one place where they stop
abbrev pub SameTokens : List PlacedToken → List PlacedToken → Option ℕ → Option ℕ → Type 0
SameTokens ts us s r = (ts ≡ us) × (s ≡ r)

-- what a front says of the tokens from there on
abbrev Follows : ℕ → Bool → Bool → List ℕ → List PlacedToken → Option ℕ → LexStep → Type 0
Follows total line free text ts s ended = SameTokens [] ts None s
Follows total line free text ts s stuck = SameTokens [] ts (Some (total - length text)) s
Follows total line free text ts s (skipped rest) = Lexes total (begins_feed text) true rest ts s
Follows total line free text ts s (found token rest) = (later : List PlacedToken)
    × (record { at = total - length text; token = token } ∷ later ≡ ts)
    × Lexes total false (lets_follow token) rest later s

follows : (total : ℕ) (line free : Bool) (text : List ℕ) (ts : List PlacedToken) (s : Option ℕ) (f : LexStep)
    → Lexes total line free text ts s → front_at line free text ≡ f → Follows total line free text ts s f
follows total line free text ts s f (at_end l g t is) e =
    subst (Follows total l g t ts s) (sym is ∙ e) (refl, refl)
follows total line free text ts s f (stops l g t is) e =
    subst (Follows total l g t ts s) (sym is ∙ e) (refl, refl)
follows total line free text ts s f (skips l g t rest w z is more) e =
    subst (Follows total l g t ts s) (sym is ∙ e) more
follows total line free text ts s f (takes l g t rest token w z is more) e =
    subst (Follows total l g t ts s) (sym is ∙ e) (w, refl, more)

pub tokens-one : (total : ℕ) (line free : Bool) (text : List ℕ) (ts us : List PlacedToken) (s r : Option ℕ)
    → Lexes total line free text ts s → Lexes total line free text us r → SameTokens ts us s r
tokens-one total line free text ts us s r (at_end l f t a) b = follows total l f t us r ended b a
tokens-one total line free text ts us s r (stops l f t a) b = follows total l f t us r stuck b a
tokens-one total line free text ts us s r (skips l f t rest w z a more) b =
    tokens-one total (begins_feed t) true rest w us z r more (follows total l f t us r (skipped rest) b a)
tokens-one total line free text ts us s r (takes l f t rest token w z a more) b =
    let (later, whole, lexes) = follows total l f t us r (found token rest) b a in
    let same = tokens-one total false (lets_follow token) rest w later z r more lexes in
    (ap (λ l. record { at = total - length t; token = token } ∷ l) same.0 ∙ whole, same.1)
