use Rattle.std.proofs.Common.{ℕ, ◌≤◌, ◌++◌, List, Option, length}
use Rattle.pdn_games.specs.Tokens.{PlacedToken, Lexes, TextTokens}
use Rattle.pdn_games.specs.internal.TokenValues.{all_placed}
use Rattle.pdn_games.proofs.tokens.tokens_of.Given as goal

abbrev pub invariant-loop-tokens : goal.invariant-loop-tokens
invariant-loop-tokens l =
    record {
      within : length l.rest ≤ length l.text;
      onward : (ts : List PlacedToken) (stop : Option ℕ) → Lexes (length l.text) l.begins_line l.free l.rest ts stop
          → TextTokens l.text (all_placed l.tokens.items ++ ts) stop;
    }

abbrev pub decreases-loop-tokens : goal.decreases-loop-tokens
decreases-loop-tokens l = length l.rest
