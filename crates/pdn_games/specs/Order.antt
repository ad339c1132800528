-- The order of the tokens in a game's text: tags, then move numbers and moves, then at most one result.
use Rattle.std.specs.Prelude.{ℕ, Option, Some, None, List, [], ◌∷◌}
use Rattle.std.specs.Option.{option_map_or}
use Rattle.pdn_games.specs.declared.order.GameStage.{GameStage}
use Rattle.pdn_games.specs.declared.order.GameStage.TheVariants as part
use Rattle.pdn_games.specs.Tokens.{Token, tag, number, move_by, result, PlacedToken}

-- tags come before all other tokens
abbrev pub after_tag : GameStage → Option GameStage
after_tag part.Tags = Some part.Tags
after_tag part.Moves = None
after_tag part.Over = None

-- move numbers and moves come before the result
abbrev pub after_move : GameStage → Option GameStage
after_move part.Tags = Some part.Moves
after_move part.Moves = Some part.Moves
after_move part.Over = None

-- the result is the last token
abbrev pub after_result : GameStage → Option GameStage
after_result part.Tags = Some part.Over
after_result part.Moves = Some part.Over
after_result part.Over = None

-- the state after a token, or None if it is out of order
abbrev pub next : GameStage → Token → Option GameStage
next p (tag name value) = after_tag p
next p number = after_move p
next p (move_by text) = after_move p
next p (result w) = after_result p

-- the offset of the first token out of order, from this state on
abbrev pub first_stray : GameStage → List PlacedToken → Option ℕ
first_stray p [] = None
first_stray p (placed ∷ more) = option_map_or (λ q. first_stray q more) (next p placed.token) (Some placed.at)

-- the first of two offsets that is present
abbrev pub or_else : Option ℕ → Option ℕ → Option ℕ
or_else (Some n) other = Some n
or_else None other = other

-- a text without tokens has its error at the offset 0
abbrev pub missing : List PlacedToken → Option ℕ
missing [] = Some 0
missing (placed ∷ more) = None

-- The offset of the first error, by the order of the tokens and the offset at which the lexer stopped.
abbrev pub bad_at : List PlacedToken → Option ℕ → Option ℕ
bad_at tokens stop = or_else (first_stray part.Tags tokens) (or_else stop (missing tokens))
