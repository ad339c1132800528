-- A text is read in one way.
use Rattle.std.proofs.Common.{◌≡◌, ℕ, List, Ok, Err, IsOk, refl, sym, ◌∙◌, subst}
use Rattle.squares.specs.declared.draughts.moves.DMove.{DMove}
use Rattle.squares.specs.DraughtsBoard.{Position}
use Rattle.draughts_moves.specs.declared.checking.Illegal.{Illegal}
use Rattle.draughts_moves.specs.declared.checking.Illegal.TheVariants.{NoSuchMove, MustCapture, NotLongest}
use Rattle.draughts_moves.specs.Legal.{Legal}
use Rattle.draughts_moves.specs.Listing.{step_to}
use Rattle.draughts_moves.specs.Check.{Answer}
use Rattle.draughts_moves.specs.internal.Check.{check_of}
use Rattle.draughts_moves.proofs.Proved.{check_of-is}
use Rattle.pdn.specs.declared.faults.MoveFault.{MoveFault}
use Rattle.pdn.specs.declared.faults.MoveFault.TheVariants as fault
use Rattle.pdn.specs.Forms.{Form, quiet, capture, read_form}
use Rattle.pdn.specs.ReadMove.{StandsFor, IsAmbiguous, IsRefused, IsRead, HasReadFault}

stands-one : (p : Position) (f : Form) (m n : DMove) → StandsFor p f m → StandsFor p f n → n ≡ m
stands-one p (quiet from to) m n h k = k.0 ∙ sym h.0
stands-one p (capture from middle to) m n h k = h.2 n k.0 k.1

pub one_form : (text : List ℕ) (f g : Form) → read_form text ≡ Ok f → read_form text ≡ Ok g → g ≡ f
one_form text f g e k = cc

pub reads-one : (p : Position) (text : List ℕ) (m n : DMove) → IsRead p text m → IsRead p text n → n ≡ m
reads-one p text m n h k = stands-one p h.0 m n h.2 (subst (λ f. StandsFor p f n) (one_form text h.0 k.0 h.1 k.1) k.2)

not_ambiguous : (p : Position) (f : Form) (m : DMove) → StandsFor p f m → IsAmbiguous p f → ⊥
not_ambiguous p (quiet from to) m h never = never
not_ambiguous p (capture from middle to) m h two = two.6 (h.2 two.0 two.2 two.3 ∙ sym (h.2 two.1 two.4 two.5))

not_err : (a : Answer) (cause : Illegal) → IsOk a → a ≡ Err cause → ⊥
not_err (Ok u) cause ok e = cc
not_err (Err c) cause ok e = cc

not_refused : (p : Position) (f : Form) (m : DMove) (cause : Illegal) → StandsFor p f m → IsRefused p f cause → ⊥
not_refused p (quiet from to) m cause h e =
    not_err (check_of p (step_to from to)) cause ((check_of-is p (step_to from to)).legal.1 (subst (Legal p) h.0 h.1)) e
not_refused p (capture from middle to) m NoSuchMove h e = e.0 m h.0 h.1
not_refused p (capture from middle to) m MustCapture h e = e
not_refused p (capture from middle to) m NotLongest h e = e.0 m h.0 h.1

pub reads-well : (p : Position) (text : List ℕ) (m : DMove) (e : MoveFault) → IsRead p text m → HasReadFault p text e
    → e ≡ fault.Memory
reads-well p text m fault.Memory h k = refl
reads-well p text m (fault.BadText offset) h k = let e = h.1 in cc
reads-well p text m fault.Ambiguous h k =
    absurd (not_ambiguous p h.0 m h.2 (subst (IsAmbiguous p) (one_form text h.0 k.0 h.1 k.1) k.2))
reads-well p text m (fault.Illegal cause) h k =
    absurd (not_refused p h.0 m cause h.2 (subst (λ f. IsRefused p f cause) (one_form text h.0 k.0 h.1 k.1) k.2))
