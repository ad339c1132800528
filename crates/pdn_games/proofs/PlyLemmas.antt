-- The moves of a written game are found as they were written.
use Rattle.std.proofs.Common.{◌≡◌, ℕ, ◌^◌, ◌<◌, ◌⊎◌, inl, inr, List, [], ◌∷◌, ◌++◌, Option, Some, None, Bool, true}
use Rattle.std.proofs.Common.{false, refl, sym, ap, subst, ◌∙◌, arith}
use Rattle.std.specs.Fmt.{decimal}
use Rattle.std.specs.Ordering.{nat_cmp}
use Rattle.std.specs.FinSet as set
use Rattle.squares.specs.declared.draughts.moves.DMove.{DMove}
use Rattle.squares.specs.declared.sides.Score.{Score}
use Rattle.squares.specs.declared.sides.Score.TheVariants as score
use Rattle.squares.specs.DraughtsBoard.{Position}
use Rattle.squares.specs.Sides.{score_text}
use Rattle.draughts_moves.specs.Legal.{QuietMove, Legal, play}
use Rattle.draughts_moves.specs.Listing.{step_to}
use Rattle.pdn.specs.Forms.{quiet, read_form, read_landings, read_up_to}
use Rattle.pdn.specs.ReadMove.{StandsFor, IsRead}
use Rattle.pdn.specs.MoveValue.{move_text}
use Rattle.pdn.proofs.Proved.{read_form-text, reads-back, text-is}
use Rattle.pdn_games.specs.declared.order.GameStage.TheVariants as part
use Rattle.pdn_games.specs.declared.results.ResultWord.{ResultWord}
use Rattle.pdn_games.specs.declared.results.ResultWord.TheVariants as word
use Rattle.pdn_games.specs.Results.{word_text, result_at}
use Rattle.pdn_games.specs.Lengths.{number_len, move_len, landings_len, landings_within}
use Rattle.pdn_games.specs.Skips.{past_skipped}
use Rattle.pdn_games.specs.Tokens.{number, move_by, result, token_front, found, front_at, PlacedToken, Lexes, at_end, skips}
use Rattle.pdn_games.specs.Tokens.{takes}
use Rattle.pdn_games.specs.Order.{first_stray}
use Rattle.pdn_games.specs.Contents.{first_tag, move_texts, result_in}
use Rattle.pdn_games.proofs.FrontLemmas.{number-front, move-front}

-- the written text of a legal move is a form that is read as the move
pub written-read : (p : Position) (m : DMove) → Legal p m → IsRead p (move_text p m) m
written-read p m legal = reads-back p m (move_text p m) legal (text-is p m legal)

stands-still : (p : Position) (n : ℕ) → QuietMove p n n → ⊥
stands-still p n q = let never : Some q.piece ≡ None = sym q.stands ∙ q.lands in cc

-- no legal move goes nowhere and takes nothing
no-step : (p : Position) (m : DMove) → m ≡ step_to 1 1 → Legal p m → ⊥
no-step p m is (inr q) = stands-still p 1 (subst (λ x. QuietMove p x.from x.to) is q.1.0)
no-step p m is (inl c) =
    let some : 0 < set.len m.taken = c.takes in
    let none : set.len m.taken ≡ 0 = ap (λ x. set.len x.taken) is ∙ set.len-empty nat_cmp in
    omega (arith, some, none)

-- no legal move is written as a result
no-word : (p : Position) (m : DMove) (w : ResultWord) → Legal p m → IsRead p (word_text w) m → ⊥
unfolding read_form read_landings read_up_to
no-word p m word.OneOne legal (form, read, stands) =
    let is : quiet 1 1 ≡ form = cc in
    no-step p m (subst (λ f. StandsFor p f m) (sym is) stands).0 legal
no-word p m _ legal (form, read, stands) = cc

-- a line feed is skipped
pub past-feed : (total : ℕ) (line free : Bool) (rest : List ℕ) (tokens : List PlacedToken) (stop : Option ℕ)
    → Lexes total true true rest tokens stop → Lexes total line free (10 ∷ rest) tokens stop
unfolding front_at past_skipped
past-feed total line free rest tokens stop h = skips line free (10 ∷ rest) rest tokens stop refl h

-- the result of a score
abbrev pub word_for : Score → ResultWord
word_for score.FirstWins = word.TwoNil
word_for score.Draw = word.OneOne
word_for score.SecondWins = word.NilTwo

score-front : (line : Bool) (s : Score) → front_at line true (score_text s ++ 10 ∷ [])
    ≡ found (result (word_for s)) (10 ∷ [])
unfolding front_at past_skipped token_front number_len move_len landings_len landings_within result_at
score-front true score.FirstWins = refl
score-front false score.FirstWins = refl
score-front _ _ = refl

-- the texts of moves
abbrev pub texts_of : Position → List DMove → List (List ℕ)
texts_of p [] = []
texts_of p (m ∷ ms) = move_text p m ∷ texts_of (play p m) ms

-- each move is legal in its position
abbrev pub AllLegal : Position → List DMove → Type 0
AllLegal p [] = Unit {0}
AllLegal p (m ∷ ms) = Legal p m × AllLegal (play p m) ms

-- tokens of moves with these texts, and of a result
pub record AreOf (texts : List (List ℕ)) (w : ResultWord) (tokens : List PlacedToken) : Type 0 where
  pub first : first_stray part.Tags tokens ≡ None
  pub later : first_stray part.Moves tokens ≡ None
  pub moves : move_texts tokens ≡ texts
  pub ends : result_in tokens ≡ Some w
  pub untagged : (name : List ℕ) → first_tag name tokens ≡ None

-- tokens of the rest of a text
abbrev pub Found : ℕ → Bool → Bool → List ℕ → List (List ℕ) → ResultWord → Type 0
Found total line free text texts w = (tokens : List PlacedToken) × Lexes total line free text tokens None
    × AreOf texts w tokens

pub score-found : (total : ℕ) (line : Bool) (s : Score)
    → Found total line true (score_text s ++ 10 ∷ []) [] (word_for s)
unfolding front_at
score-found total line s = (
  record { at = _; token = result (word_for s) } ∷ [],
  takes line true (score_text s ++ 10 ∷ []) (10 ∷ []) (result (word_for s)) [] None (score-front line s)
      (past-feed total false false [] [] None (at_end true true [] refl)),
  record { first = refl; later = refl; moves = refl; ends = refl; untagged = λ name. refl },
)

pub feed-found : (total : ℕ) (line free : Bool) (rest : List ℕ) (texts : List (List ℕ)) (w : ResultWord)
    → Found total true true rest texts w → Found total line free (10 ∷ rest) texts w
feed-found total line free rest texts w (tokens, lexes, are) =
    (tokens, past-feed total line free rest tokens None lexes, are)

pub blank-found : (total : ℕ) (line free : Bool) (rest : List ℕ) (texts : List (List ℕ)) (w : ResultWord)
    → Found total false true rest texts w → Found total line free (32 ∷ rest) texts w
unfolding front_at past_skipped
blank-found total line free rest texts w (tokens, lexes, are) =
    (tokens, skips line free (32 ∷ rest) rest tokens None refl lexes, are)

pub number-found : (total : ℕ) (line : Bool) (n : ℕ) (rest : List ℕ) (texts : List (List ℕ)) (w : ResultWord)
    → n < 2 ^ 64 → Found total false true (32 ∷ rest) texts w
    → Found total line true (decimal n ++ 46 ∷ 32 ∷ rest) texts w
number-found total line n rest texts w fits (tokens, lexes, are) = (
  record { at = _; token = number } ∷ tokens,
  takes line true (decimal n ++ 46 ∷ 32 ∷ rest) (32 ∷ rest) number tokens None (number-front line n rest fits) lexes,
  record { first = are.later; later = are.later; moves = are.moves; ends = are.ends; untagged = are.untagged },
)

pub move-found : (total : ℕ) (line : Bool) (p : Position) (m : DMove) (c : ℕ) (rest : List ℕ) (texts : List (List ℕ))
    (w : ResultWord) → Legal p m → (c ≡ 32) ⊎ (c ≡ 10) → Found total false false (c ∷ rest) texts w
    → Found total line true (move_text p m ++ c ∷ rest) (move_text p m ∷ texts) w
move-found total line p m c rest texts w legal ends (tokens, lexes, are) =
    let text : List ℕ = move_text p m in
    let read = written-read p m legal in
    let front = move-front line text read.0 c rest (read_form-text text read.0 read.1)
    (λ w is. no-word p m w legal (subst (λ t. IsRead p t m) is read)) ends in (
      record { at = _; token = move_by text } ∷ tokens,
      takes line true (text ++ c ∷ rest) (c ∷ rest) (move_by text) tokens None front lexes,
      record {
        first = are.later;
        later = are.later;
        moves = ap (λ l. text ∷ l) are.moves;
        ends = are.ends;
        untagged = are.untagged;
      },
    )
