-- The moves of a text, token by token.
use Rattle.std.proofs.Common.{◌≡◌, ℕ, suc, zero, ◌+◌, ◌<◌, inl, inr, List, [], ◌∷◌, ◌++◌, length, take, drop, get_or}
use Rattle.std.proofs.Common.{refl, sym, ap, ◌∙◌, arith}
use Rattle.std.proofs.Math.Seq.{drop-cons}
use Rattle.std.proofs.lemmas.List.{append_assoc, take_more, take-append-drop, map-append}
use Rattle.squares.specs.declared.draughts.moves.DMove.{DMove}
use Rattle.pdn_games.specs.declared.faults.PdnFault.{PdnFault}
use Rattle.pdn_games.specs.declared.tokens.PlacedToken as read
use Rattle.pdn_games.specs.Tokens.{Token, move_by, PlacedToken}
use Rattle.pdn_games.specs.internal.TokenValues.{token_of, placed_of, all_placed}
use Rattle.pdn_games.specs.Contents.{texts_in, move_texts}
use Rattle.pdn_games.specs.Moves.{AreMoves}
use Rattle.pdn_games.specs.internal.Moves.{RefusesMoves}
use Rattle.pdn_games.specs.internal.Replaying.{HasItsForm, HaveForms, RefusesIn}

texts_in-append : (t : Token) (xs : List (List ℕ)) → texts_in t xs ≡ texts_in t [] ++ xs
texts_in-append (move_by text) xs = refl
texts_in-append _ xs = refl

move_texts-append : (xs ys : List PlacedToken) → move_texts (xs ++ ys) ≡ move_texts xs ++ move_texts ys
move_texts-append [] ys = refl
move_texts-append (x ∷ xs) ys =
    ap (texts_in x.token) (move_texts-append xs ys) ∙ texts_in-append x.token (move_texts xs ++ move_texts ys)
    ∙ sym (append_assoc (texts_in x.token []) (move_texts xs) (move_texts ys))
    ∙ ap (λ l. l ++ move_texts ys) (sym (texts_in-append x.token (move_texts xs)))

-- the texts of tokens after others
texts-after : (xs ys : List read.PlacedToken)
    → move_texts (all_placed (xs ++ ys)) ≡ move_texts (all_placed xs) ++ move_texts (all_placed ys)
texts-after xs ys = ap move_texts (map-append placed_of xs ys) ∙ move_texts-append (all_placed xs) (all_placed ys)

-- the texts round a token
text-parts : (placed : List read.PlacedToken) (k : ℕ) (d : read.PlacedToken) → k < length placed →
    move_texts (all_placed placed) ≡ move_texts (all_placed (take k placed))
    ++ (texts_in (token_of (get_or placed k d).token) [] ++ move_texts (all_placed (drop (suc k) placed)))
text-parts placed k d h =
    let back : List read.PlacedToken = drop (suc k) placed in
    ap (λ l. move_texts (all_placed l))
    (sym (take-append-drop k placed) ∙ ap (λ l. take k placed ++ l) (drop-cons placed k d h))
    ∙ texts-after (take k placed) (get_or placed k d ∷ back)
    ∙ ap (λ l. move_texts (all_placed (take k placed)) ++ l)
    (texts_in-append (token_of (get_or placed k d).token) (move_texts (all_placed back)))

-- one token more
pub texts-there : (placed : List read.PlacedToken) (k : ℕ) (d : read.PlacedToken) → k < length placed
    → move_texts (all_placed (take (k + 1) placed)) ≡ move_texts (all_placed (take k placed))
    ++ texts_in (token_of (get_or placed k d).token) []
texts-there placed k d h =
    ap (λ l. move_texts (all_placed l)) (take_more placed k d h)
    ∙ texts-after (take k placed) (get_or placed k d ∷ [])

-- what refuses a token after those before it refuses the text
pub refuses-there : (placed : List read.PlacedToken) (k : ℕ) (d : read.PlacedToken) (ms : List DMove) (f : PdnFault)
    → k < length placed → AreMoves (move_texts (all_placed (take k placed))) ms
    → RefusesIn ms (token_of (get_or placed k d).token) f → RefusesMoves (move_texts (all_placed placed)) f
refuses-there placed k d ms f h played (inl memory) = inl memory
refuses-there placed k d ms f h played (inr (refused, is, refuses)) =
    inr (record {
      before = move_texts (all_placed (take k placed));
      refused = refused;
      after = move_texts (all_placed (drop (suc k) placed));
      parts = text-parts placed k d h ∙ ap
          (λ l. move_texts (all_placed (take k placed)) ++ (l ++ move_texts (all_placed (drop (suc k) placed)))) is;
      moves = ms;
      played = played;
      refuses = refuses;
    })

-- a token among others that have their forms has its own
pub form-there : (placed : List read.PlacedToken) (k : ℕ) (d : read.PlacedToken) → k < length placed
    → HaveForms (all_placed placed) → HasItsForm (token_of (get_or placed k d).token)
form-there [] k d h forms = absurd (omega (arith, h))
form-there (p ∷ placed) zero d h forms = forms.0
form-there (p ∷ placed) (suc k) d h forms = form-there placed k d (omega (arith, h)) forms.1
