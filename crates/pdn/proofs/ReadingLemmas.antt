-- What the choice among the legal moves says of a text.
use Rattle.std.proofs.Common.{◌≡◌, ℕ, ◌<◌, length, List, [], ◌∷◌, ◌++◌, Some, None, Result, Ok, Err, inl, inr, sym}
use Rattle.std.proofs.Common.{subst, length-append, arith}
use Rattle.std.specs.Prelude.{◌↔◌, IfOk, IfErr}
use Rattle.std.specs.List.{Contains}
use Rattle.std.specs.FinSet as set
use Rattle.std.proofs.lemmas.Bool.{cases_lt}
use Rattle.squares.specs.declared.draughts.moves.DMove.{DMove}
use Rattle.squares.specs.DraughtsBoard.{Position}
use Rattle.squares.specs.internal.In.{In, In-Contains, Contains-In}
use Rattle.draughts_moves.specs.internal.Capture.{IsMost}
use Rattle.draughts_moves.specs.Legal.{IsCapture, Legal}
use Rattle.draughts_moves.specs.Search.{most}
use Rattle.draughts_moves.proofs.Proved.{Capture-len, IsMost-most}
use Rattle.pdn.specs.declared.faults.MoveFault.{MoveFault}
use Rattle.pdn.specs.declared.faults.MoveFault.TheVariants as fault
use Rattle.pdn.specs.Forms.{Form, capture, read_form}
use Rattle.pdn.specs.internal.Choice.{IsChoice, IsChoiceFault}
use Rattle.pdn.specs.ReadMove.{Fits, NoneFits, ShortFits, StandsFor, IsRead, HasReadFault}
use Rattle.pdn.specs.internal.ReadMove.{SomeFits, IsFormFault}

module _ (p : Position) (from : ℕ) (middle : List ℕ) (to : ℕ) where
  fits-IsCapture : (m : DMove) → Fits p from middle to m → IsCapture p m
  fits-IsCapture m f =
      let size = Capture-len p m.from m.to (f.before ++ to ∷ []) m.taken f.route in
      let some : 0 < length (f.before ++ to ∷ []) = omega (arith, length-append f.before (to ∷ [])) in
      record { landings = f.before ++ to ∷ []; capture = f.route; takes = omega (arith, size) }

  -- a capture that is not legal takes fewer than another
  pub short-fits : NoneFits p from middle to → SomeFits p from middle to → ShortFits p from middle to
  short-fits none w =
      let m = w.0 in
      let here = fits-IsCapture m w.1 in
      let greatest : IsMost p (most p) = IsMost-most p in
      elim (cases_lt (set.len m.taken) (most p)) [
        | inl less ↦
            let r = greatest.reached (omega arith) in
            let longer : DMove = record { from = r.0; to = r.1; taken = r.3 } in (
              m,
              record {
                short = here;
                longer = longer;
                is_capture = record { landings = r.2; capture = r.4; takes = omega (arith, r.5) };
                takes_more = omega (arith, r.5);
              },
              w.1,
            )
        | inr all ↦ absurd (none m (inl (record {
          landings = here.landings;
          capture = here.capture;
          takes = here.takes;
          most = λ x y ls t c. omega (arith, greatest.bounds x y ls t c);
        })) w.1)
      ]

  pub ShortFits-SomeFits : ShortFits p from middle to → SomeFits p from middle to
  ShortFits-SomeFits w = (w.0, w.2)

  module _ (moves items : List DMove) (is : moves ≡ items) (members : (n : DMove) → Contains items n ↔ Legal p n) where
    listed : (n : DMove) → Legal p n → In n moves
    listed n legal = subst (λ ms. In n ms) (sym is) (Contains-In n items ((members n).1 legal))

    legal : (n : DMove) → In n moves → Legal p n
    legal n h = (members n).0 (In-Contains n items (subst (λ ms. In n ms) is h))

    pub chosen : (m : DMove) → IsChoice (Fits p from middle to) moves (Some m) → StandsFor p (capture from middle to) m
    chosen m choice = (legal m choice.0, choice.1, λ n h fits. choice.2 n (listed n h) fits)

    pub none-chosen : IsChoice (Fits p from middle to) moves None → NoneFits p from middle to
    none-chosen none = λ n h fits. none n (listed n h) fits

    pub choice-fault : (e : MoveFault) → IsChoiceFault (Fits p from middle to) moves e
        → IsFormFault p (capture from middle to) e
    choice-fault fault.Memory h = tt
    choice-fault (fault.BadText offset) h = absurd h
    choice-fault fault.Ambiguous h = (h.0, h.1, legal h.0 h.2, h.3, legal h.1 h.4, h.5, h.6)
    choice-fault (fault.Illegal cause) h = absurd h

module _ (p : Position) (text : List ℕ) (form : Form) (is : read_form text ≡ Ok form) where
  pub read-form : (r : Result DMove MoveFault) → IfOk r (λ m. StandsFor p form m) → IfOk r (λ m. IsRead p text m)
  read-form (Ok m) h = (form, is, h)
  read-form (Err e) h = h

  with_form : (e : MoveFault) → IsFormFault p form e → HasReadFault p text e
  with_form fault.Memory h = tt
  with_form (fault.BadText offset) h = absurd h
  with_form fault.Ambiguous h = (form, is, h)
  with_form (fault.Illegal cause) h = (form, is, h)

  pub read-fault : (r : Result DMove MoveFault) → IfErr r (λ e. IsFormFault p form e)
      → IfErr r (λ e. HasReadFault p text e)
  read-fault (Ok m) h = h
  read-fault (Err e) h = with_form e h
