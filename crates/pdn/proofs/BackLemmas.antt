-- What is written for a legal move stands for that move.
use Rattle.std.proofs.Common.{◌≡◌, ◌≢◌, ℕ, ◌-◌, ◌<◌, ◌≤◌, inl, inr, true, false, List, [], ◌∷◌, ◌++◌, length, take}
use Rattle.std.proofs.Common.{length-append, Ok, refl, sym, ap, ◌∙◌, subst, arith}
use Rattle.std.specs.FinSet as set
use Rattle.squares.specs.declared.draughts.moves.DMove.{DMove}
use Rattle.squares.specs.DraughtsBoard.{Position}
use Rattle.std.specs.Ordering.{nat_cmp}
use Rattle.squares.specs.internal.DraughtsOnBoard.{AllOnBoard, ray-on_board, ray-off}
use Rattle.squares.specs.internal.DraughtsGeometry.{OnBoard}
use Rattle.draughts_moves.specs.Capture.{Capture, Route, without, LegalCapture}
use Rattle.draughts_moves.specs.Legal.{QuietMove, Legal}
use Rattle.draughts_moves.proofs.Proved.{is_positive, Capture-len, own_at-own}
use Rattle.pdn.specs.Forms.{quiet, capture, read_form}
use Rattle.pdn.specs.Subsequence.{IsSubsequence}
use Rattle.pdn.specs.MoveText.{HasRival, IsMoveText, capture_text, short, long}
use Rattle.pdn.specs.MoveText as written
use Rattle.pdn.specs.ReadMove.{Fits, StandsFor, IsRead}
use Rattle.pdn.specs.Choice.{same_move}
use Rattle.pdn.proofs.ChoiceLemmas.{same_move-same, same_move-itself}
use Rattle.pdn.proofs.PassingLemmas.{split-route}
use Rattle.pdn.proofs.LandingLemmas.{inside, Route-taken, Route-on, Route-from_on, front-on}
use Rattle.pdn.proofs.TextLemmas.{read_form-quiet_text, read_form-capture_text}

-- a list is found in itself, and a list of its length that is found in it is the same
whole : (xs : List ℕ) → IsSubsequence xs xs
whole [] = tt
whole (x ∷ xs) = inl (refl, whole xs)

no_longer : (xs ys : List ℕ) → IsSubsequence xs ys → length xs ≤ length ys
no_longer [] ys h = omega arith
no_longer (x ∷ xs) [] h = absurd h
no_longer (x ∷ xs) (y ∷ ys) (inl h) = omega (arith, no_longer xs ys h.1)
no_longer (x ∷ xs) (y ∷ ys) (inr h) = omega (arith, no_longer (x ∷ xs) ys h)

same_length : (xs ys : List ℕ) → IsSubsequence xs ys → length xs ≡ length ys → xs ≡ ys
same_length [] [] h e = refl
same_length [] (y ∷ ys) h e = absurd (omega arith)
same_length (x ∷ xs) [] h e = absurd h
same_length (x ∷ xs) (y ∷ ys) (inl h) e = λ i. h.0 i ∷ same_length xs ys h.1 (omega arith) i
same_length (x ∷ xs) (y ∷ ys) (inr h) e = absurd (omega (arith, no_longer (x ∷ xs) ys h))

takes-legal : (p : Position) (m : DMove) → Legal p m → 0 < set.len m.taken → LegalCapture p m.from m.to m.taken
takes-legal p m (inl legal) takes = legal
takes-legal p m (inr q) takes = absurd (omega (arith, takes, ap set.len q.1.1, set.len-empty nat_cmp))

module _ (p : Position) (m : DMove) (before : List ℕ) (c : Capture p m.from (before ++ m.to ∷ []) m.taken m.to) where
  from-on : OnBoard m.from
  from-on = Route-from_on (without p.board m.from) c.piece (before ++ m.to ∷ []) set.empty m.from m.taken m.to
      (omega (arith, length-append before (m.to ∷ []))) c.route

  landings-on : AllOnBoard before × OnBoard m.to
  landings-on =
      front-on before m.to
      (Route-on (without p.board m.from) c.piece (before ++ m.to ∷ []) set.empty m.from m.taken m.to c.route)

  pub takes-something : 0 < set.len m.taken
  takes-something =
      omega (arith, length-append before (m.to ∷ []), Capture-len p m.from m.to (before ++ m.to ∷ []) m.taken c)

  pub reads-all : read_form (capture_text m.from (before ++ m.to ∷ [])) ≡ Ok (capture m.from before m.to)
  reads-all = let on = landings-on in read_form-capture_text m.from before m.to from-on on.0 on.1

  pub reads-short : read_form (capture_text m.from (m.to ∷ [])) ≡ Ok (capture m.from [] m.to)
  reads-short = read_form-capture_text m.from [] m.to from-on tt (landings-on.1)

  pub fits-whole : Fits p m.from before m.to m
  fits-whole = record { leaves = refl; comes = refl; before = before; route = c; passes = whole before }

  pub fits-short : Fits p m.from [] m.to m
  fits-short = record { leaves = refl; comes = refl; before = before; route = c; passes = tt }

  -- a legal move that passes all landings of another is that move
  module _ (legal : Legal p m) (n : DMove) (n_legal : Legal p n) (fits : Fits p m.from before m.to n) where
    route : Capture p m.from (fits.before ++ m.to ∷ []) n.taken n.to
    route = subst (λ x. Capture p x (fits.before ++ m.to ∷ []) n.taken n.to) fits.leaves fits.route

    sizes : set.len m.taken ≡ set.len n.taken
    sizes =
        let size = Capture-len p n.from n.to (fits.before ++ m.to ∷ []) n.taken fits.route in
        let n_takes : 0 < set.len n.taken = omega (arith, size, length-append fits.before (m.to ∷ [])) in
        let mine = takes-legal p m legal takes-something in
        let other = takes-legal p n n_legal n_takes in
        omega (
          arith,
          mine.most n.from n.to (fits.before ++ m.to ∷ []) n.taken fits.route,
          other.most m.from m.to (before ++ m.to ∷ []) m.taken c,
        )

    same_before : before ≡ fits.before
    same_before =
        same_length before fits.before fits.passes
        (omega (
          arith,
          sizes,
          length-append before (m.to ∷ []),
          length-append fits.before (m.to ∷ []),
          Capture-len p m.from m.to (before ++ m.to ∷ []) m.taken c,
          Capture-len p n.from n.to (fits.before ++ m.to ∷ []) n.taken fits.route,
        ))

    same_taken : m.taken ≡ n.taken
    same_taken =
        let other = subst (λ xs. Capture p m.from (xs ++ m.to ∷ []) n.taken n.to) (sym same_before) route in
        let here = own_at-own p m.from c.piece c.stands c.own in
        let there = own_at-own p m.from other.piece other.stands other.own in
        let piece : other.piece ≡ c.piece = cc in
        let moved = subst (λ d. Route (without p.board m.from) d set.empty m.from (before ++ m.to ∷ []) n.taken n.to)
        piece other.route in
        Route-taken (without p.board m.from) c.piece (before ++ m.to ∷ []) set.empty m.from m.taken n.taken m.to n.to
        c.route moved

    pub same-move : n ≡ m
    same-move = λ i. record { from = fits.leaves i; to = fits.comes i; taken = sym same_taken i }

-- a legal move with the from and to of one that has no rival is that move
no_rival : (p : Position) (m : DMove) → (HasRival p m → ⊥) → (n : DMove) → Legal p n → n.from ≡ m.from → n.to ≡ m.to
    → n ≡ m
no_rival p m none n legal from to =
    elim (same_move n m) as (λ b. same_move n m ≡ b → n ≡ m) [
      | true ↦ λ e. same_move-same n m e
      | false ↦ λ e.
          absurd
          (none (
            n,
            record {
              legal = legal;
              from = from;
              to = to;
              differs = λ same. let itself = same_move-itself n m same in
                  cc;
            },
          ))
    ] refl

not_nil : (xs ys : List ℕ) (y : ℕ) → xs ++ y ∷ ys ≡ [] → ⊥
not_nil [] ys y e = cc
not_nil (x ∷ xs) ys y e = cc

-- a quiet move is from a square to a square
pub quiet-on : (p : Position) (from to : ℕ) → QuietMove p from to → OnBoard from × OnBoard to
quiet-on p from to q = (
  elim (ray-off q.toward from) [
    | inl on ↦ on
    | inr none ↦
        absurd (not_nil q.before q.after to (sym q.along ∙ none))
  ],
  inside q.before q.after to (subst AllOnBoard q.along (ray-on_board q.toward from)),
)

-- a legal move that takes nothing is quiet
legal-quiet : (p : Position) (m : DMove) → Legal p m → m.taken ≡ set.empty → QuietMove p m.from m.to
legal-quiet p m (inl legal) none = absurd (omega (arith, legal.takes, ap set.len none, set.len-empty nat_cmp))
legal-quiet p m (inr q) none = q.1.0

quiet-back : (p : Position) (m : DMove) → Legal p m → m.taken ≡ set.empty → StandsFor p (quiet m.from m.to) m
quiet-back p m legal none = (λ i. record { from = m.from; to = m.to; taken = none i }, legal)

not-empty : (m : DMove) (ls : List ℕ) → m.taken ≢ set.empty → set.len m.taken ≡ length ls → 0 < length ls
not-empty m ls takes size = omega (arith, size, is_positive m.taken takes)

pub reads-back : (p : Position) (m : DMove) (text : List ℕ) → Legal p m → IsMoveText p m text → IsRead p text m
reads-back p m text legal (written.quiet none is) =
    let on = quiet-on p m.from m.to (legal-quiet p m legal none) in
    (quiet m.from m.to, ap read_form is ∙ read_form-quiet_text m.from m.to on.0 on.1, quiet-back p m legal none)
reads-back p m text legal (short takes none is) =
    let here = takes-legal p m legal (is_positive m.taken takes) in
    let before = take (length here.landings - 1) here.landings in
    let split = split-route p m here.landings here.capture
    (not-empty m here.landings takes (Capture-len p m.from m.to here.landings m.taken here.capture)) in
    let c = subst (λ xs. Capture p m.from xs m.taken m.to) split here.capture in (
      capture m.from [] m.to,
      ap read_form is ∙ reads-short p m before c,
      (legal, fits-short p m before c, λ n n_legal fits. no_rival p m none n n_legal fits.leaves fits.comes),
    )
reads-back p m text legal (long takes rival landings first is) =
    let before = take (length landings - 1) landings in
    let split = split-route p m landings first.route
    (not-empty m landings takes (Capture-len p m.from m.to landings m.taken first.route)) in
    let c = subst (λ xs. Capture p m.from xs m.taken m.to) split first.route in (
      capture m.from before m.to,
      ap read_form (is ∙ ap (capture_text m.from) split)
          ∙ reads-all p m before c,
      (legal, fits-whole p m before c, λ n n_legal fits. same-move p m before c legal n n_legal fits),
    )
