-- A text is read in one way, as one list of games, or refused.
use Rattle.std.proofs.Common.{◌≡◌, inl, inr, List, [], ◌∷◌, ◌++◌, length, take, Bool, true, false, Some, None, refl}
use Rattle.std.proofs.Common.{sym, ap, subst, ◌∙◌, arith, ◌⊎◌, ℕ, Option, Result, Ok, Err}
use Rattle.std.specs.Prelude.{slice_get}
use Rattle.std.specs.FinMap as map
use Rattle.std.proofs.lemmas.List.{length-append}
use Rattle.std.proofs.lemmas.Option.{slice_get-get_or}
use Rattle.std.proofs.Math.Seq.{take-append_seam, get_or-append_seam}
use Rattle.squares.specs.declared.shogi.piece.HandKind.{HandKind}
use Rattle.squares.specs.declared.shogi.piece.HandKind.TheVariants as in_hand
use Rattle.squares.specs.declared.shogi.piece.Role.{Role}
use Rattle.squares.specs.declared.shogi.piece.SPiece.{SPiece}
use Rattle.squares.specs.declared.shogi.moves.SMove.{SMove}
use Rattle.squares.specs.declared.shogi.moves.SMove.TheVariants.{Step, Drop}
use Rattle.squares.specs.ShogiPieces.{kind_of, hand_kind}
use Rattle.squares.specs.ShogiSets.{ShogiPosition}
use Rattle.squares.specs.ShogiOpening.{opening}
use Rattle.shogi_moves.specs.Rules.{Legal, dropped_role, play}
use Rattle.shogi_moves.specs.internal.Laws.{CheckIs}
use Rattle.shogi_repetition.specs.Line.{last_position}
use Rattle.shogi_repetition.specs.Ends.{EndsSo}
use Rattle.shogi_repetition.specs.Faults.{IsPlayed}
use Rattle.shogi_repetition.specs.internal.Faults.{GoesOn}
use Rattle.shogi_repetition.specs.internal.Laws.{NoLineHasTwoEnds}
use Rattle.csa.specs.declared.faults.CsaFault.{CsaFault}
use Rattle.csa.specs.declared.faults.CsaFault.TheVariants as fault
use Rattle.csa.specs.declared.statements.WrittenMove.{WrittenMove}
use Rattle.csa.specs.Moves.{CodedAs, Means, MeanAll}
use Rattle.csa.specs.Replays.{AreMoves, RefusesNext, RefusesMove, written_moves}
use Rattle.csa.proofs.ReplayLemmas.{legal-unbroken}
use Rattle.squares.specs.declared.sides.Score.{Score}
use Rattle.shogi_repetition.specs.declared.ends.SEnd.{SEnd}
use Rattle.csa.specs.declared.game.CsaGame.{CsaGame}
use Rattle.csa.specs.declared.lines.NumberedStatement.{NumberedStatement}
use Rattle.csa.specs.declared.statements.Statement.TheVariants as statement
use Rattle.csa.specs.Lines.{text_statements}
use Rattle.csa.specs.Records.{Plays, score_in, RecordFails}
use Rattle.csa.specs.internal.Records.{IsRecordOf}
use Rattle.csa.specs.Reading.{records_of, AreOrdered, FailsAfter, Refuses, IsRefused}
use Rattle.csa.specs.internal.Reading.{AreRecordsOf, IsTextOf}
use Rattle.csa.specs.internal.ReadingLaws.{SameGame, SameGames}

-- ---- the moves

promotes-one : (q : SPiece) (b d : Bool) (code : Role) → CodedAs q b code → CodedAs q d code → b ≡ d
promotes-one q false false code x y = refl
promotes-one q true true code x y = refl
promotes-one q false true code x y = absurd (y.own refl x.after)
promotes-one q true false code x y = absurd (x.own refl y.after)

kind-back : (k : HandKind) → hand_kind (kind_of (dropped_role k)) ≡ Some k
kind-back in_hand.Rook = refl
kind-back _ = refl

kind-one : (k l : HandKind) → dropped_role k ≡ dropped_role l → k ≡ l
kind-one k l same = let both : Some k ≡ Some l = sym (kind-back k) ∙ ap (λ r. hand_kind (kind_of r)) same
    ∙ kind-back l in cc

-- a written move means one move
means-one : (p : ShogiPosition) (w : WrittenMove) (m n : SMove) → Means p w m → Means p w n → m ≡ n
means-one p w (Step f t b) (Step g u d) (s, t_is, f_is, x) (r, u_is, g_is, y) =
    let from : f ≡ g = let both : Some f ≡ Some g = sym f_is ∙ g_is in cc in
    let to : t ≡ u = sym t_is ∙ u_is in
    let piece : x.0 ≡ y.0 = let both : Some x.0 ≡ Some y.0 = sym x.1 ∙ ap (λ n. map.get p.board n) from ∙ y.1 in cc in
    let promote : b ≡ d = promotes-one x.0 b d w.role x.2 (subst (λ q. CodedAs q d w.role) (sym piece) y.2) in
    cc
means-one p w (Step f t b) (Drop k u) (s, t_is, f_is, x) (r, u_is, none, y) = let never : Some f ≡ None = sym f_is
    ∙ none in absurd (cc)
means-one p w (Drop k u) (Step f t b) (r, u_is, none, y) (s, t_is, f_is, x) = let never : Some f ≡ None = sym f_is
    ∙ none in absurd (cc)
means-one p w (Drop k t) (Drop l u) (s, t_is, none, x) (r, u_is, none_too, y) =
    let to : t ≡ u = sym t_is ∙ u_is in
    let kind : k ≡ l = kind-one k l (sym x ∙ y) in
    cc

-- written moves mean one line
mean-one : (p : ShogiPosition) (ws : List WrittenMove) (ms ns : List SMove) → MeanAll p ws ms → MeanAll p ws ns
    → ms ≡ ns
mean-one p [] [] [] a b = refl
mean-one p (w ∷ ws) (m ∷ ms) (n ∷ ns) a b =
    let head : m ≡ n = means-one p w m n a.0 b.0 in
    let tail : ms ≡ ns = mean-one (play p m) ws ms ns a.1 (subst (λ x. MeanAll (play p x) ws ns) (sym head) b.1) in
    cc
mean-one p _ _ _ a b = search

-- the moves up to a written move, and the one that it means
record Parted (p : ShogiPosition) (before : List WrittenMove) (w : WrittenMove) (ms : List SMove) : Type 0 where
  front : List SMove
  made : SMove
  back : List SMove
  parts : ms ≡ front ++ made ∷ back
  mean : MeanAll p before front
  means : Means (last_position p front) w made

parted : (p : ShogiPosition) (before after : List WrittenMove) (w : WrittenMove) (ms : List SMove)
    → MeanAll p (before ++ w ∷ after) ms → Parted p before w ms
parted p [] after w (m ∷ ms) a = record { front = []; made = m; back = ms; parts = refl; mean = tt; means = a.0 }
parted p (v ∷ before) after w (m ∷ ms) a =
    let rest = parted (play p m) before after w ms a.1 in
    record {
      front = m ∷ rest.front;
      made = rest.made;
      back = rest.back;
      parts = ap (λ l. m ∷ l) rest.parts;
      mean =
          (a.0, rest.mean);
      means = rest.means;
    }
parted p _ after w _ a = absurd a

-- a move that goes on is not refused
goes-on-unrefused : CheckIs → NoLineHasTwoEnds → (front : List SMove) (m : SMove) (w : WrittenMove) (f : CsaFault)
    → Means (last_position opening front) w m → EndsSo opening front None → Legal (last_position opening front) m
    → RefusesNext front w f → ⊥
goes-on-unrefused laws one front m w (fault.AfterEnd ply) means on legal h = let never : None ≡ Some h.1 =
    one opening front None (Some h.1) on h.2 in cc
goes-on-unrefused laws one front m w (fault.Illegal ply cause) means on legal h =
    elim h.2 [
      | inl broken ↦ legal-unbroken laws (last_position opening front) broken.0 cause
          (subst (λ n. Legal (last_position opening front) n)
          (means-one (last_position opening front) w m broken.0 means broken.1) legal) broken.2
      | inr nothing ↦ nothing.1 m means
    ]
goes-on-unrefused laws one front m w _ means on legal h = h

-- written moves of a game are not refused
moves-unrefused : CheckIs → NoLineHasTwoEnds → (ws : List WrittenMove) (ms : List SMove) (f : CsaFault)
    → AreMoves ws ms → RefusesMove ws f → ⊥
moves-unrefused laws one ws ms f are r =
    let all : MeanAll opening (r.before ++ r.refused ∷ r.after) ms =
    subst (λ l. MeanAll opening l ms) r.parts are.mean in
    let at = parted opening r.before r.after r.refused ms all in
    let front : at.front ≡ r.moves = mean-one opening r.before at.front r.moves at.mean r.played.mean in
    let whole : List SMove = at.front ++ at.made ∷ at.back in
    let long = length-append at.front (at.made ∷ at.back) in
    let played : IsPlayed opening whole (length whole) =
    subst (λ l. IsPlayed opening l (length l)) at.parts are.played in
    let here : GoesOn opening whole (length at.front) = played (length at.front) (omega (arith, long)) in
    let seam : take (length at.front) whole ≡ at.front = take-append_seam at.front (at.made ∷ at.back) in
    let there : slice_get whole (length at.front) ≡ Some at.made =
    slice_get-get_or whole (length at.front) at.made (omega (arith, long))
    ∙ ap (λ x. Some x) (get_or-append_seam at.front at.made at.back at.made) in
    goes-on-unrefused laws one at.front at.made r.refused f at.means
    (subst (λ l. EndsSo opening l None) seam here.unended)
    (subst (λ l. Legal (last_position opening l) at.made) seam (here.legal at.made there))
    (subst (λ l. RefusesNext l r.refused f) (sym front) r.refuses)

-- ---- the games

-- what a record comes to is one: its moves, and what its end says
pub same-score : NoLineHasTwoEnds → (placed : List NumberedStatement) (ms ns : List SMove) (d e : Option SEnd) → Plays placed ms d
    → Plays placed ns e → (ms ≡ ns) × (score_in placed ms d ≡ score_in placed ns e)
same-score one placed ms ns d e a b =
    let moves : ms ≡ ns = mean-one opening (written_moves placed) ms ns a.moves.mean b.moves.mean in
    let ends : d ≡ e = one opening ns d e (subst (λ l. EndsSo opening l d) moves a.ends) b.ends in
    (moves, ap (λ l. score_in placed l d) moves ∙ ap (λ x. score_in placed ns x) ends)

record-one : NoLineHasTwoEnds → (placed : List NumberedStatement) (g h : CsaGame) → IsRecordOf placed g → IsRecordOf placed h
    → SameGame g h
record-one one placed g h a b =
    let same = same-score one placed g.moves.items h.moves.items a.end b.end a.plays b.plays in
    let scores : ◌≡◌ {A = Result Score CsaFault} (Ok g.score) (Ok h.score) = sym a.score ∙ same.1 ∙ b.score in
    let score : g.score ≡ h.score = cc in
    (same.0, score, a.declared ∙ sym b.declared)

pub records-one : NoLineHasTwoEnds → (rs : List (List NumberedStatement)) (gs hs : List CsaGame) → AreRecordsOf rs gs
    → AreRecordsOf rs hs → SameGames gs hs
records-one one [] [] [] a b = tt
records-one one (r ∷ rs) (g ∷ gs) (h ∷ hs) a b = (record-one one r g h a.0 b.0, records-one one rs gs hs a.1 b.1)
records-one one _ _ _ a b = search

-- the faults of a record whose moves are played: memory, or that of its end
pub record-refuses : CheckIs → NoLineHasTwoEnds → (placed : List NumberedStatement) (ms : List SMove) (end : Option SEnd)
    (f : CsaFault) → Plays placed ms end → RecordFails placed f
    → (f ≡ fault.Memory) ⊎ (score_in placed ms end ≡ Err f)
record-refuses laws one placed ms end fault.Memory p h = inl refl
record-refuses laws one placed ms end fault.OtherOpening p h = let never : true ≡ false = sym p.even ∙ h in absurd (cc)
record-refuses laws one placed ms end (fault.Illegal ply cause) p h =
    absurd (moves-unrefused laws one (written_moves placed) ms (fault.Illegal ply cause) p.moves h.1)
record-refuses laws one placed ms end (fault.AfterEnd ply) p h =
    absurd (moves-unrefused laws one (written_moves placed) ms (fault.AfterEnd ply) p.moves h.1)
record-refuses laws one placed ms end fault.Unfinished p h =
    inr ((same-score one placed ms h.moves end h.end p h.plays).1 ∙ h.score)
record-refuses laws one placed ms end fault.ResultDiffers p h =
    inr ((same-score one placed ms h.moves end h.end p h.plays).1 ∙ h.score)
record-refuses laws one placed ms end (fault.BadText line) p h = absurd h
record-refuses laws one placed ms end fault.Version p h = absurd h

record-unrefused : CheckIs → NoLineHasTwoEnds → (placed : List NumberedStatement) (g : CsaGame) (f : CsaFault)
    → IsRecordOf placed g → RecordFails placed f → f ≡ fault.Memory
record-unrefused laws one placed g f a h = elim (record-refuses laws one placed g.moves.items a.end f a.plays h) [
  | inl memory ↦ memory
  | inr bad ↦ let never : ◌≡◌ {A = Result Score CsaFault} (Ok g.score) (Err f) = sym a.score ∙ bad in absurd (cc)
]

game-at : (before after : List (List NumberedStatement)) (r : List NumberedStatement) (gs : List CsaGame)
    → AreRecordsOf (before ++ r ∷ after) gs → (g : CsaGame) × IsRecordOf r g
game-at [] after r (g ∷ gs) a = (g, a.0)
game-at (b ∷ before) after r (g ∷ gs) a = game-at before after r gs a.1
game-at _ after r _ a = absurd a

-- the faults of an ordered text: memory, or that of a record
pub text-refuses : (ss : List NumberedStatement) (f : CsaFault) → AreOrdered ss → Refuses ss f
    → (f ≡ fault.Memory) ⊎ FailsAfter (records_of ss) f
text-refuses ss fault.Memory o h = inl refl
text-refuses ss (fault.BadText line) o (inl empty) =
    let never : Some statement.Version ≡ None = sym o.version ∙ empty.0 in absurd (cc)
text-refuses ss (fault.BadText line) o (inr stray) =
    let never : None ≡ Some line = sym o.order ∙ stray.1 in absurd (cc)
text-refuses ss fault.Version o h =
    let both : Some statement.Version ≡ Some h.0 = sym o.version ∙ h.1 in
    let is : h.0 ≡ statement.Version = cc in
    absurd (h.2 is)
text-refuses ss _ o h = inr h.1

pub text-unrefused : CheckIs → NoLineHasTwoEnds → (text : List ℕ) (gs : List CsaGame) (f : CsaFault) → IsTextOf text gs
    → IsRefused text f → f ≡ fault.Memory
text-unrefused laws one text gs f a h = elim (text-refuses (text_statements text) f a.ordered h) [
  | inl memory ↦ memory
  | inr fails ↦
      let all = subst (λ rs. AreRecordsOf rs gs) fails.parts a.records in
      let at = game-at fails.before fails.after fails.failing gs all in
      record-unrefused laws one fails.failing at.0 f at.1 fails.fails
]
