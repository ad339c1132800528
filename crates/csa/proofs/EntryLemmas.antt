-- Moves with their seconds, one after another.
use Rattle.std.proofs.Common.{◌≡◌, ℕ, suc, ◌+◌, ◌<◌, List, [], ◌∷◌, ◌++◌, length, take, drop, get_or, Some, sym}
use Rattle.std.proofs.Common.{ap, ◌∙◌, add-one, arith}
use Rattle.std.proofs.lemmas.List.{append_assoc, take_more, length-map, get_or-map}
use Rattle.std.proofs.lemmas.Option.{slice_get-get_or}
use Rattle.std.proofs.Math.Seq.{drop-cons}
use Rattle.game_history.proofs.Proved.{last_position-append}
use Rattle.squares.specs.declared.shogi.moves.SMove.{SMove}
use Rattle.squares.specs.ShogiSets.{ShogiPosition}
use Rattle.squares.specs.ShogiOpening.{opening}
use Rattle.shogi_moves.specs.Rules.{Legal, play}
use Rattle.shogi_repetition.specs.Line.{last_position}
use Rattle.shogi_repetition.specs.Faults.{IsPlayed}
use Rattle.csa.specs.internal.BackLaws.{moves_of}
use Rattle.csa.specs.Writing.{entry_text, entries_text}

move-at : (es : List (SMove × ℕ)) (i : ℕ) (e : SMove × ℕ) → i < length es → e ≡ get_or es i e
    → get_or (moves_of es) i e.0 ≡ e.0
move-at es i e h is = get_or-map (λ x. x.0) es i e e.0 h ∙ ap (λ x. x.0) (sym is)

-- the next move of a line that is played by the rules is legal
pub next-legal : (es : List (SMove × ℕ)) (i : ℕ) (e : SMove × ℕ) → i < length es → e ≡ get_or es i e
    → IsPlayed opening (moves_of es) (length es) → Legal (last_position opening (take i (moves_of es))) e.0
next-legal es i e h is played =
    (played i h).legal e.0 (slice_get-get_or (moves_of es) i e.0 (omega (arith, length-map es (λ x. x.0)))
    ∙ ap (λ m. Some m) (move-at es i e h is))

-- the position after one move more
pub next-position : (es : List (SMove × ℕ)) (i : ℕ) (e : SMove × ℕ) → i < length es → e ≡ get_or es i e
    → last_position opening (take (i + 1) (moves_of es)) ≡ play (last_position opening (take i (moves_of es))) e.0
next-position es i e h is =
    let longer : take (i + 1) (moves_of es) ≡ take i (moves_of es) ++ e.0 ∷ [] =
    take_more (moves_of es) i e.0 (omega (arith, length-map es (λ x. x.0)))
    ∙ ap (λ m. take i (moves_of es) ++ m ∷ []) (move-at es i e h is) in
    ap (last_position opening) longer ∙ last_position-append play opening (take i (moves_of es)) e.0

-- one entry more
pub entries-grow : (p : ShogiPosition) (es : List (SMove × ℕ)) (i : ℕ) (e : SMove × ℕ) (old new whole : List ℕ)
    → i < length es → e ≡ get_or es i e → new ≡ old ++ entry_text p e.0 e.1 → old ++ entries_text p (drop i es) ≡ whole
    → new ++ entries_text (play p e.0) (drop (i + 1) es) ≡ whole
entries-grow p es i e old new whole h is grown kept =
    let next : drop (suc i) es ≡ drop (i + 1) es = ap (λ k. drop k es) (sym (add-one i)) in
    let here : drop i es ≡ e ∷ drop (i + 1) es = drop-cons es i e h ∙ ap (λ x. x ∷ drop (suc i) es) (sym is)
    ∙ ap (λ l. e ∷ l) next in
    let rest : List ℕ = entries_text (play p e.0) (drop (i + 1) es) in
    ap (λ l. l ++ rest) grown ∙ append_assoc old (entry_text p e.0 e.1) rest
    ∙ ap (λ l. old ++ l) (sym (ap (entries_text p) here)) ∙ kept
