-- The text of a game that ended is read as that game, and that of a game that goes on is refused as unfinished.
use Rattle.std.proofs.Common.{◌≡◌, ◌⊎◌, inl, inr, ℕ, List, [], ◌∷◌, ◌++◌, true, false, cond, ◌&&◌, Option, Some, None}
use Rattle.std.proofs.Common.{Result, Ok, Err, refl, sym, ap, subst, ◌∙◌}
use Rattle.squares.specs.declared.sides.Side.{Side}
use Rattle.squares.specs.declared.sides.Side.TheVariants.{First}
use Rattle.squares.specs.declared.sides.Score.{Score}
use Rattle.squares.specs.declared.sides.Score.TheVariants as score
use Rattle.squares.specs.declared.shogi.moves.SMove.{SMove}
use Rattle.squares.specs.Sides.{loses, other, same_score}
use Rattle.squares.specs.internal.Sides.{same_score-itself}
use Rattle.squares.specs.ShogiSets.{ShogiPosition}
use Rattle.squares.specs.ShogiOpening.{opening}
use Rattle.shogi_moves.specs.internal.Declaring.{CanDeclareIs}
use Rattle.shogi_moves.specs.internal.Laws.{CheckIs}
use Rattle.shogi_repetition.specs.declared.ends.SEnd.{SEnd}
use Rattle.shogi_repetition.specs.declared.ends.SEnd.TheVariants as by_rule
use Rattle.shogi_repetition.specs.Line.{last_position}
use Rattle.shogi_repetition.specs.Ends.{outcome_of}
use Rattle.shogi_repetition.specs.internal.Laws.{NoLineHasTwoEnds}
use Rattle.csa.specs.declared.end_words.EndWord.{EndWord}
use Rattle.csa.specs.declared.end_words.EndWord.TheVariants as word
use Rattle.csa.specs.declared.faults.CsaFault.{CsaFault}
use Rattle.csa.specs.declared.faults.CsaFault.TheVariants as fault
use Rattle.csa.specs.declared.head.CsaEnd.{CsaEnd}
use Rattle.csa.specs.declared.head.CsaEnd.TheVariants as csa_end
use Rattle.csa.specs.declared.lines.NumberedStatement.{NumberedStatement}
use Rattle.csa.specs.Endings.{claimed, fits_rules, agrees, claim_settled, ending, says_declared}
use Rattle.csa.specs.Lines.{text_statements}
use Rattle.csa.specs.Records.{Plays, score_in, RecordFails}
use Rattle.csa.specs.internal.Records.{IsRecordOf}
use Rattle.csa.specs.Reading.{records_of, FailsAfter, Refuses}
use Rattle.csa.specs.internal.Reading.{AreRecordsOf}
use Rattle.csa.specs.Writing.{recorded_word, rule_word, word_of}
use Rattle.csa.specs.internal.WrittenGame.{TellsEnd}
use Rattle.csa.specs.internal.BackLaws.{IsKept, moves_of, score_of, is_declared, WrittenIsRead, RunningIsRefused}
use Rattle.csa.proofs.OneReadingLemmas.{record-refuses, text-refuses}
use Rattle.csa.proofs.BackGameLemmas.{IsWhole, text-whole, played-all}

-- ---- what the end is read as

-- a claim that is settled
settles : (w : EndWord) (p : ShogiPosition) (claim : Score) (end : Option SEnd) → claimed w p.turn ≡ Some claim
    → fits_rules w p end ≡ true → agrees claim p.turn end ≡ true → ending (Some w) p end ≡ Ok claim
settles w p claim end says fits agreed =
    ap (λ c. claim_settled w c p end) says
    ∙ ap (λ b. cond (b && agrees claim p.turn end) (Ok claim) (Err fault.ResultDiffers)) fits
    ∙ ap (λ b. cond b (Ok claim) (Err fault.ResultDiffers)) agreed

-- the word of a recorded score says that score, fits what the rules say, and is no declaration
recorded : (claim : Score) (turn : Side) (p : ShogiPosition) (end : Option SEnd)
    → (claimed (recorded_word claim turn) turn ≡ Some claim) × (fits_rules (recorded_word claim turn) p end ≡ true)
    × (says_declared (Some (recorded_word claim turn)) ≡ false)
recorded score.Draw First p end = (refl, refl, refl)
recorded score.SecondWins First p end = (refl, refl, refl)
recorded score.FirstWins First p end = (refl, refl, refl)
recorded _ _ p end = (refl, refl, refl)

-- so does the word of an end by the rules
ruled : (end : SEnd) (p : ShogiPosition)
    → (claimed (rule_word end) p.turn ≡ Some (outcome_of end p.turn)) × (fits_rules (rule_word end) p (Some end) ≡ true)
    × (says_declared (Some (rule_word end)) ≡ false)
ruled by_rule.NoMove p = (refl, refl, refl)
ruled (by_rule.PerpetualCheck First) p = (refl, refl, refl)
ruled _ p = (refl, refl, refl)

-- an end that fits the rules is read as its score
end-back : CanDeclareIs → (end : CsaEnd) (p : ShogiPosition) (given : Option SEnd) → TellsEnd given (Some end) p
    → ending (Some (word_of (Some end) p.turn)) p given ≡ Ok (score_of end p.turn)
end-back declares (csa_end.Rule told) p None tells = absurd tells
end-back declares csa_end.Declared p None tells =
    settles word.Declared p (loses (other p.turn)) None refl ((declares p).1 tells) refl
end-back declares (csa_end.Recorded claim) p None tells =
    let says = recorded claim p.turn p None in
    settles (recorded_word claim p.turn) p claim None says.0 says.1 refl
end-back declares (csa_end.Rule told) p (Some given) tells =
    let says = ruled told p in
    settles (rule_word told) p (outcome_of told p.turn) (Some given) says.0
    (subst (λ e. fits_rules (rule_word told) p (Some e) ≡ true) tells says.1)
    (ap (λ e. same_score (outcome_of told p.turn) (outcome_of e p.turn)) (sym tells)
    ∙ same_score-itself (outcome_of told p.turn))
end-back declares (csa_end.Recorded claim) p (Some given) tells =
    let says = recorded claim p.turn p (Some given) in
    settles (recorded_word claim p.turn) p claim (Some given) says.0 says.1
    (ap (same_score claim) (sym tells) ∙ same_score-itself claim)
end-back declares _ p None tells = refl
end-back declares _ p (Some given) tells = absurd tells

-- the word of an end says a declaration exactly where the end is one
declared-back : (end : CsaEnd) (p : ShogiPosition) → says_declared (Some (word_of (Some end) p.turn)) ≡ is_declared end
declared-back (csa_end.Rule end) p = (ruled end p).2
declared-back (csa_end.Recorded claim) p = (recorded claim p.turn p None).2
declared-back _ p = refl

-- ---- the game

-- the record of a kept game plays its moves to the end that the rules give them
plays : (event black white : List ℕ) (end : Option CsaEnd) (es : List (SMove × ℕ)) (w : EndWord) (ss : List NumberedStatement)
    (kept : IsKept event black white end es) → IsWhole (moves_of es) w ss → Plays ss (moves_of es) kept.fits.0
plays event black white end es w ss kept whole = record {
  even = whole.even;
  moves = record { mean = whole.mean; played = played-all es kept.played };
  ends = kept.fits.1;
}

pub written-back : CanDeclareIs → WrittenIsRead
written-back declares = λ event black white start end es text game kept is of.
    let ss : List NumberedStatement = text_statements text in
    let ms : List SMove = moves_of es in
    let last : ShogiPosition = last_position opening ms in
    let turn : Side = last.turn in
    let whole : IsWhole ms (word_of (Some end) turn) ss =
    text-whole event black white start (Some end) es text kept is in
    let given : Option SEnd = kept.fits.0 in
    let said : score_in ss ms given ≡ Ok (score_of end turn) = ap (λ w. ending w last given) whole.end
    ∙ end-back declares end last given kept.fits.2 in
    let one : IsRecordOf ss game = record {
      end = given;
      plays = subst (λ l. Plays ss l given) (sym of.moves)
          (plays event black white (Some end) es (word_of (Some end) turn) ss kept whole);
      score = ap (λ l. score_in ss l given) of.moves ∙ said ∙ ap (λ s. Ok s) (sym of.score);
      declared = of.declared ∙ sym (ap says_declared whole.end ∙ declared-back end last);
    } in
    record { ordered = whole.ordered; records = subst (λ rs. AreRecordsOf rs (game ∷ [])) (sym whole.alone) (one, tt) }

-- ---- a game that goes on

abbrev IsUnfinished : CsaFault → Type 0
IsUnfinished f = (f ≡ fault.Memory) ⊎ (f ≡ fault.Unfinished)

-- the fault of the one record
of-one : (ss failing : List NumberedStatement) (before after : List (List NumberedStatement)) (f : CsaFault)
    → ss ∷ [] ≡ before ++ failing ∷ after → RecordFails failing f → RecordFails ss f
of-one ss failing [] after f parts fails = let is : ss ≡ failing = cc in
    subst (λ l. RecordFails l f) (sym is) fails
of-one ss failing (b ∷ []) after f parts fails = let never : [] ≡ failing ∷ after = cc in absurd (cc)
of-one ss failing (b ∷ c ∷ before) after f parts fails = let never : [] ≡ c ∷ (before ++ failing ∷ after) = cc in
    absurd (cc)

one-fails : (ms : List SMove) (w : EndWord) (ss : List NumberedStatement) (f : CsaFault) → IsWhole ms w ss
    → FailsAfter (records_of ss) f → RecordFails ss f
one-fails ms w ss f whole h = of-one ss h.failing h.before h.after f (sym whole.alone ∙ h.parts) h.fails

text-unfinished : CheckIs → NoLineHasTwoEnds
    → (ms : List SMove) (w : EndWord) (ss : List NumberedStatement) (given : Option SEnd) (f : CsaFault)
    → IsWhole ms w ss → Plays ss ms given → score_in ss ms given ≡ Err fault.Unfinished → Refuses ss f → IsUnfinished f
text-unfinished laws one ms w ss given f whole p said h = elim (text-refuses ss f whole.ordered h) [
  | inl memory ↦ inl memory
  | inr fails ↦ elim (record-refuses laws one ss ms given f p (one-fails ms w ss f whole fails)) [
    | inl memory ↦ inl memory
    | inr bad ↦
        let same : ◌≡◌ {A = Result Score CsaFault} (Err fault.Unfinished) (Err f) = sym said ∙ bad in
        let is : f ≡ fault.Unfinished = cc in
        inr is
  ]
]

pub running-back : CheckIs → NoLineHasTwoEnds → RunningIsRefused
running-back laws one = λ event black white start es text kept is.
    let ss : List NumberedStatement = text_statements text in
    let ms : List SMove = moves_of es in
    let last : ShogiPosition = last_position opening ms in
    let whole : IsWhole ms word.Interrupted ss = text-whole event black white start None es text kept is in
    let given : Option SEnd = kept.fits.0 in
    let p : Plays ss ms given = plays event black white None es word.Interrupted ss kept whole in
    let said : score_in ss ms given ≡ Err fault.Unfinished = ap (λ w. ending w last given) whole.end in
    let fails : FailsAfter (records_of ss) fault.Unfinished = record {
      before = [];
      failing = ss;
      after = [];
      parts = whole.alone;
      read = tt;
      fails = record { moves = ms; end = given; plays = p; score = said };
    } in
    ((whole.ordered, fails), λ f h. text-unfinished laws one ms word.Interrupted ss given f whole p said h)
