-- A text is read in one way.
use Rattle.std.proofs.Common.{◌≡◌, ℕ, List, length, Option, Some, None, true, false, Ok, Err, Result, refl, sym, ap}
use Rattle.std.proofs.Common.{subst, ◌∙◌}
use Rattle.squares.specs.declared.sides.Score.{Score}
use Rattle.squares.specs.DraughtsOpening.{opening}
use Rattle.pdn.specs.internal.Laws.{ReadsOneMove}
use Rattle.pdn_games.specs.declared.faults.PdnFault.{PdnFault}
use Rattle.pdn_games.specs.declared.faults.PdnFault.TheVariants as fault
use Rattle.pdn_games.specs.declared.game.PdnGame.{PdnGame}
use Rattle.pdn_games.specs.Tokens.{PlacedToken, TextTokens}
use Rattle.pdn_games.specs.Order.{bad_at}
use Rattle.pdn_games.specs.Contents.{move_texts}
use Rattle.pdn_games.specs.Reading.{score_in, AreTokens, EndFails, Fails, TextFails, IsRefused}
use Rattle.pdn_games.specs.internal.Reading.{IsGameOf, IsTextOf}
use Rattle.pdn_games.specs.internal.ReadingLaws.{SameGame}
use Rattle.pdn_games.proofs.OneTokenLemmas.{SameTokens, tokens-one}
use Rattle.pdn_games.proofs.OneMoveLemmas.{mean-one, moves-unrefused}

same-tokens : (text : List ℕ) (ts us : List PlacedToken) (s r : Option ℕ) → TextTokens text ts s → TextTokens text us r
    → SameTokens ts us s r
same-tokens text ts us s r a b = tokens-one (length text) true true text ts us s r a b

games-one : ReadsOneMove → (tokens : List PlacedToken) (g h : PdnGame) → IsGameOf tokens g → IsGameOf tokens h → SameGame g h
games-one one tokens g h a b =
    let moves : g.moves.items ≡ h.moves.items =
    mean-one one opening (move_texts tokens) g.moves.items h.moves.items a.plays.moves.mean b.plays.moves.mean in
    let scores : ◌≡◌ {A = Result Score PdnFault} (Ok g.score) (Ok h.score) = sym a.score ∙ ap (score_in tokens) moves
    ∙ b.score in
    (moves, (cc))

pub texts-one : ReadsOneMove → (text : List ℕ) (g h : PdnGame) → IsTextOf text g → IsTextOf text h → SameGame g h
texts-one one text g h (ts, are, is) (us, are_too, is_too) =
    let same = same-tokens text us ts None None are_too.whole are.whole in
    games-one one ts g h is (subst (λ l. IsGameOf l h) same.0 is_too)

-- tokens of a game fail for want of memory alone
end-unrefused : ReadsOneMove → (tokens : List PlacedToken) (g : PdnGame) (f : PdnFault) → IsGameOf tokens g
    → EndFails tokens f → ⊥
end-unrefused one tokens g f is h =
    let moves : h.moves ≡ g.moves.items = mean-one one opening (move_texts tokens) h.moves g.moves.items
    h.plays.moves.mean is.plays.moves.mean in
    let never : ◌≡◌ {A = Result Score PdnFault} (Err f) (Ok g.score) = sym h.score ∙ ap (score_in tokens) moves
    ∙ is.score in
    cc

game-unrefused : ReadsOneMove → (tokens : List PlacedToken) (g : PdnGame) (f : PdnFault) → IsGameOf tokens g → Fails tokens f
    → f ≡ fault.Memory
game-unrefused one tokens g fault.Memory is h = refl
game-unrefused one tokens g (fault.BadText offset) is h = absurd h
game-unrefused one tokens g fault.OtherType is h =
    absurd (let never : false ≡ true = sym is.plays.of_club.kind ∙ h in cc)
game-unrefused one tokens g fault.OtherOpening is h = absurd (h.1 is.plays.of_club.opening)
game-unrefused one tokens g fault.Unfinished is h = absurd (end-unrefused one tokens g _ is h)
game-unrefused one tokens g fault.ResultDiffers is h = absurd (end-unrefused one tokens g _ is h)
game-unrefused one tokens g f is h =
    absurd (moves-unrefused one (move_texts tokens) g.moves.items _ is.plays.moves h.refused)

fails-unrefused : ReadsOneMove → (text : List ℕ) (g : PdnGame) (f : PdnFault) → IsTextOf text g → TextFails text f
    → f ≡ fault.Memory
fails-unrefused one text g f (ts, are, is) (us, are_too, h) =
    let same = same-tokens text us ts None None are_too.whole are.whole in
    game-unrefused one ts g f is (subst (λ l. Fails l f) same.0 h)

form-unrefused : (text : List ℕ) (ts us : List PlacedToken) (stop : Option ℕ) (offset : ℕ) → AreTokens text ts
    → TextTokens text us stop → bad_at us stop ≡ Some offset → ⊥
form-unrefused text ts us stop offset are other bad =
    let same = same-tokens text us ts stop None other are.whole in
    let never : Some offset ≡ None = sym bad ∙ (λ i. bad_at (same.0 i) (same.1 i)) ∙ are.form in
    cc

pub text-unrefused : ReadsOneMove → (text : List ℕ) (g : PdnGame) (f : PdnFault) → IsTextOf text g → IsRefused text f
    → f ≡ fault.Memory
text-unrefused one text g fault.Memory is h = refl
text-unrefused one text g (fault.BadText offset) (ts, are, is) (us, stop, other, bad) =
    absurd (form-unrefused text ts us stop offset are other bad)
text-unrefused one text g f is h = fails-unrefused one text g f is h
