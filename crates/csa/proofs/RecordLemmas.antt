-- The moves of a record, statement by statement, and the records of a text, one after another.
use Rattle.std.proofs.Common.{◌≡◌, ℕ, suc, zero, ◌+◌, ◌<◌, inl, inr, List, [], ◌∷◌, ◌++◌, length, take, drop, get_or}
use Rattle.std.proofs.Common.{map, Bool, true, false, cond, refl, sym, ap, ◌∙◌, append-nil, arith}
use Rattle.std.proofs.lemmas.List.{take-append-drop, take_more, length-map, get_or-map, append_assoc as assoc}
use Rattle.std.proofs.Math.Seq.{drop-cons}
use Rattle.squares.specs.declared.shogi.moves.SMove.{SMove}
use Rattle.csa.specs.declared.faults.CsaFault.{CsaFault}
use Rattle.csa.specs.declared.game.CsaGame.{CsaGame}
use Rattle.csa.specs.declared.lines.NumberedStatement.{NumberedStatement}
use Rattle.csa.specs.Replays.{written_in, written_moves, AreMoves}
use Rattle.csa.specs.internal.Replays.{RefusesMoves}
use Rattle.csa.specs.internal.Replaying.{RefusesIn}
use Rattle.csa.specs.Records.{RecordFails}
use Rattle.csa.specs.internal.Records.{IsRecordOf}
use Rattle.csa.specs.Reading.{AreOfGames, has_statement, without_bare_last}
use Rattle.csa.specs.internal.Reading.{AreRecordsOf, FailsOrMemory}

written_moves-append : (xs ys : List NumberedStatement) → written_moves (xs ++ ys) ≡ written_moves xs ++ written_moves ys
written_moves-append [] ys = refl
written_moves-append (x ∷ xs) ys =
    ap (λ l. written_in x.statement ++ l) (written_moves-append xs ys)
    ∙ sym (assoc (written_in x.statement) (written_moves xs) (written_moves ys))

-- the written moves round a statement
written-parts : (placed : List NumberedStatement) (k : ℕ) (each : NumberedStatement) → k < length placed → each ≡ get_or placed k each
    → written_moves placed ≡ written_moves (take k placed)
    ++ (written_in each.statement ++ written_moves (drop (suc k) placed))
written-parts placed k each h is =
    ap written_moves (sym (take-append-drop k placed)
    ∙ ap (λ l. take k placed ++ l) (drop-cons placed k each h ∙ ap (λ e. e ∷ drop (suc k) placed) (sym is)))
    ∙ written_moves-append (take k placed) (each ∷ drop (suc k) placed)

-- one statement more
pub written-more : (placed : List NumberedStatement) (k : ℕ) (each : NumberedStatement) → k < length placed
    → take (k + 1) placed ≡ take k placed ++ each ∷ []
    → written_moves (take (k + 1) placed) ≡ written_moves (take k placed) ++ written_in each.statement
written-more placed k each h longer =
    ap written_moves longer ∙ written_moves-append (take k placed) (each ∷ [])
    ∙ ap (λ l. written_moves (take k placed) ++ l) (append-nil (written_in each.statement))

-- what refuses a statement after those before it refuses the record
pub refuses-record : (placed : List NumberedStatement) (k : ℕ) (each : NumberedStatement) (ms : List SMove) (f : CsaFault) → k < length placed
    → each ≡ get_or placed k each → AreMoves (written_moves (take k placed)) ms → RefusesIn ms each.statement f
    → RefusesMoves (written_moves placed) f
refuses-record placed k each ms f h is played (inl memory) = inl memory
refuses-record placed k each ms f h is played (inr refused) =
    inr (record {
      before = written_moves (take k placed);
      refused = refused.0;
      after = written_moves (drop (suc k) placed);
      parts = written-parts placed k each h is
          ∙ ap (λ l. written_moves (take k placed) ++ (l ++ written_moves (drop (suc k) placed))) refused.1;
      moves = ms;
      played = played;
      refuses = refused.2;
    })

-- a last part with a statement is a record, and one without is none
last-part : (parts : List (List NumberedStatement)) (n : ℕ) (b : Bool) → length parts ≡ suc n
    → has_statement (get_or parts n []) ≡ b → without_bare_last parts ≡ take (cond b (suc n) n) parts
last-part [] n b long is = absurd (omega (arith, long))
last-part (part ∷ []) zero true long is = ap (λ b. cond b (part ∷ []) []) is
last-part (part ∷ []) zero false long is = ap (λ b. cond b (part ∷ []) []) is
last-part (part ∷ []) (suc n) b long is = absurd (omega (arith, long))
last-part (part ∷ next ∷ more) zero b long is = absurd (omega (arith, long))
last-part (part ∷ next ∷ more) (suc n) true long is =
    ap (λ l. part ∷ l) (last-part (next ∷ more) n true (omega (arith, long)) is)
last-part (part ∷ next ∷ more) (suc n) false long is =
    ap (λ l. part ∷ l) (last-part (next ∷ more) n false (omega (arith, long)) is)

-- what stands at a place of a list to which a function was applied
mapped-at : {A B : Type 0} (xs : List A) (f : A → B) (i : ℕ) (x : A) (d : B) → i < length xs → x ≡ get_or xs i x
    → get_or (map f xs) i d ≡ f x
mapped-at xs f i x d h is = get_or-map f xs i x d h ∙ ap f (sym is)

-- records of games are each that of a game
of-games : (records : List (List NumberedStatement)) (games : List CsaGame) → AreRecordsOf records games
    → AreOfGames records
of-games [] [] all = tt
of-games (r ∷ records) (g ∷ games) all =
    ((g.moves.items, g.score, g.declared, all.0), of-games records games all.1)
of-games _ _ all = absurd all

-- The records of parts that are given in some form.
module _ {A : Type 0} (given : List A) (at : A → List NumberedStatement) where
  abbrev all : List (List NumberedStatement)
  all = map at given

  -- the records are the parts, or all but the last
  pub records-are : (n : ℕ) (x : A) (b : Bool) → length given ≡ suc n → x ≡ get_or given n x → has_statement (at x) ≡ b
      → take (cond b (suc n) n) all ≡ without_bare_last all
  records-are n x b long is says =
      sym (last-part all n b (length-map given at ∙ long)
      (ap has_statement (mapped-at given at n x [] (omega (arith, long)) is) ∙ says))

  module _ (i : ℕ) (x : A) (games : List CsaGame) (h : i < length given) (is : x ≡ get_or given i x)
      (read : AreRecordsOf (take i all) games) where
    here : get_or all i (at x) ≡ at x
    here = mapped-at given at i x (at x) h is

    inside : i < length all
    inside = omega (arith, h, length-map given at)

    -- one record more
    pub records-more : (game : CsaGame) → IsRecordOf (at x) game → AreRecordsOf (take (i + 1) all) (games ++ game ∷ [])
    records-more game one =
        rw (take_more all i (at x) inside, here) (more (take i all) games read)
      where
        more : (records : List (List NumberedStatement)) (games : List CsaGame) → AreRecordsOf records games
            → AreRecordsOf (records ++ at x ∷ []) (games ++ game ∷ [])
        more [] [] all = (one, tt)
        more (r ∷ records) (g ∷ games) all = (all.0, more records games all.1)
        more _ _ all = absurd all

    -- a record that fails after those that are read
    pub fails-record : (f : CsaFault) → RecordFails (at x) f → FailsOrMemory all f
    fails-record f fails =
        inr (record {
          before = take i all;
          failing = at x;
          after = drop (suc i) all;
          parts = sym (take-append-drop i all)
              ∙ ap (λ l. take i all ++ l) (drop-cons all i (at x) inside ∙ ap (λ r. r ∷ drop (suc i) all) here);
          read = of-games (take i all) games read;
          fails = fails;
        })
