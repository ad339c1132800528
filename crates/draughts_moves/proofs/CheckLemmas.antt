-- What the check of a move has to answer.
use Rattle.std.proofs.Common.{◌≡◌, ℕ, ◌<◌, ◌≢◌, Bool, true, false, cond, ◌&&◌, nat_eq, inl, inr, refl, sym, ap, ◌∙◌}
use Rattle.std.proofs.Common.{subst, arith}
use Rattle.std.specs.Prelude.{nat_lt, Ok, Err, IsOk, IsTrue, ◌↔◌}
use Rattle.std.specs.Ordering.{nat_cmp}
use Rattle.std.specs.FinSet as set
use Rattle.std.proofs.lemmas.Bool.{cases_lt, cases_eq, and_parts, false≢true, ltb-true, ltb-false}
use Rattle.squares.specs.declared.draughts.moves.DMove.{DMove}
use Rattle.squares.specs.DraughtsBoard.{Position}
use Rattle.squares.specs.DraughtsSets.{Squares, same_squares}
use Rattle.squares.specs.internal.DraughtsMarks.{nat_eq_same, nat_eq_other, nat_eq-same}
use Rattle.squares.specs.internal.DraughtsSameSquares.{same_squares-same, same_squares-itself}
use Rattle.draughts_moves.specs.declared.checking.Illegal.TheVariants.{NoSuchMove, MustCapture, NotLongest}
use Rattle.draughts_moves.specs.Capture.{without, Route, LegalCapture, HasCapture}
use Rattle.draughts_moves.specs.internal.Capture.{IsMost}
use Rattle.draughts_moves.specs.Legal.{IsQuiet, IsCapture, Legal}
use Rattle.draughts_moves.specs.Search.{own_at, routes_of}
use Rattle.draughts_moves.specs.internal.Search.{is_step}
use Rattle.draughts_moves.specs.Check.{Answer, IsCheck}
use Rattle.draughts_moves.specs.internal.Check.{is_capture, check_of}
use Rattle.squares.specs.internal.In.{In, list_any-found, list_any-finds}
use Rattle.draughts_moves.proofs.Basics.{option_cases}
use Rattle.draughts_moves.proofs.RouteLemmas.{routes_of-sound, routes_of-complete}
use Rattle.draughts_moves.proofs.MostLemmas.{Capture-len, Capture-by, Capture-own, Capture-legal, IsMost-most}
use Rattle.draughts_moves.proofs.MostLemmas.{LegalCapture-size, HasCapture-most, most-HasCapture}
use Rattle.draughts_moves.proofs.StepLemmas.{is_step-sound, is_step-complete}

pub is_positive : (s : Squares) → s ≢ set.empty → 0 < set.len s
is_positive s some_square = elim (cases_lt 0 (set.len s))
    [ inl h ↦ h | inr h ↦ absurd (some_square (set.empty_of_len s (omega arith))) ]

module _ (p : Position) (m : DMove) where
  quiet_or_capture : IsQuiet p m → IsCapture p m → ⊥
  quiet_or_capture q c = omega (arith, ap set.len q.1, set.len-empty nat_cmp, c.takes)

  pub LegalCapture-IsCapture : LegalCapture p m.from m.to m.taken → IsCapture p m
  LegalCapture-IsCapture c = record { landings = c.landings; capture = c.capture; takes = c.takes }

  -- a move is not legal that is no capture, and no quiet move where nothing can be taken
  not_legal : Legal p m → (IsCapture p m → ⊥) → ((HasCapture p → ⊥) → IsQuiet p m → ⊥) → ⊥
  not_legal (inl c) not_capture not_quiet = not_capture (LegalCapture-IsCapture c)
  not_legal (inr w) not_capture not_quiet = not_quiet w.0 w.1

  answer-no_such : (IsQuiet p m → ⊥) → (IsCapture p m → ⊥) → IsCheck p m (Err NoSuchMove)
  answer-no_such not_quiet not_capture =
      record {
        legal = (λ ok. cc, λ l. absurd (not_legal l not_capture (λ _ q. not_quiet q)));
        must_capture = (λ e. cc, λ w. absurd (not_quiet w.0));
        not_longest = (λ e. cc, λ s. absurd (not_capture s.short));
      }

  module _ {n : ℕ} (most_is : IsMost p n) where
    -- the answer to a move that takes nothing, by whether the piece goes so and whether something can be taken
    pub answer_quiet : m.taken ≡ set.empty → (goes takes : Bool) → is_step p m.from m.to ≡ goes → nat_lt 0 n ≡ takes
        → IsCheck p m (cond goes (cond takes (Err MustCapture) (Ok tt)) (Err NoSuchMove))
    answer_quiet none false takes is some =
        answer-no_such (λ q. false≢true (sym is ∙ is_step-complete p m.from m.to q.0))
        (λ c. omega (arith, ap set.len none, set.len-empty nat_cmp, c.takes))
    answer_quiet none true true is some =
        let q : IsQuiet p m = (is_step-sound p m.from m.to is, none) in
        let h = HasCapture-most p most_is (ltb-true 0 n some) in
        record {
          legal = (λ ok. cc, λ l. absurd (not_legal l (quiet_or_capture q) (λ free _. free h)));
          must_capture = (λ _. (q, h), λ _. refl);
          not_longest = (λ e. cc, λ s. absurd (quiet_or_capture q s.short));
        }
    answer_quiet none true false is some =
        let q : IsQuiet p m = (is_step-sound p m.from m.to is, none) in
        let free : HasCapture p → ⊥ = λ h. omega (arith, most-HasCapture p most_is h, ltb-false 0 n some) in
        record {
          legal = (λ _. inr (free, q), λ _. refl);
          must_capture = (λ e. cc, λ w. absurd (free w.1));
          not_longest = (λ e. cc, λ s. absurd (quiet_or_capture q s.short));
        }

    -- the answer to a move that takes something, by whether it is a capture and whether another takes more
    pub answer_capture : 0 < set.len m.taken → (takes fewer : Bool) → (IsTrue takes ↔ IsCapture p m)
        → nat_lt (set.len m.taken) n ≡ fewer
        → IsCheck p m (cond takes (cond fewer (Err NotLongest) (Ok tt)) (Err NoSuchMove))
    answer_capture some false fewer is less =
        answer-no_such (λ q. omega (arith, ap set.len q.1, set.len-empty nat_cmp)) (λ c. false≢true (is.1 c))
    answer_capture some true true is less =
        let c = is.0 refl in
        let short = ltb-true (set.len m.taken) n less in
        let w = most_is.reached (omega arith) in
        let longer : DMove = record { from = w.0; to = w.1; taken = w.3 } in
        record {
          legal = (
            λ ok. cc,
            λ l. elim l [
              | inl k ↦ absurd (omega (arith, short, LegalCapture-size p most_is k))
              | inr v ↦ absurd (quiet_or_capture v.1 c)
            ],
          );
          must_capture = (λ e. cc, λ v. absurd (quiet_or_capture v.0 c));
          not_longest = (
            λ _. record {
              short = c;
              longer = longer;
              is_capture = record { landings = w.2; capture = w.4; takes = omega (arith, w.5) };
              takes_more = omega (arith, short, w.5);
            },
            λ _. refl,
          );
        }
    answer_capture some true false is less =
        let c = is.0 refl in
        let enough = ltb-false (set.len m.taken) n less in
        record {
          legal = (λ _. inl (Capture-legal p most_is c.capture enough some), λ _. refl);
          must_capture = (λ e. cc, λ w. absurd (quiet_or_capture w.0 c));
          not_longest = (
            λ e. cc,
            λ s. absurd (omega (arith, enough, s.takes_more, most_is.bounds _ _ _ _ s.is_capture.capture)),
          );
        }

  passes : (a : Answer) → IsOk a → a ≡ Ok tt
  passes (Ok u) h = refl
  passes (Err e) h = cc

  -- there is one answer
  pub IsCheck-same : (a b : Answer) → IsCheck p m a → IsCheck p m b → a ≡ b
  IsCheck-same (Ok u) b w v = sym (passes b (v.legal.1 (w.legal.0 refl)))
  IsCheck-same (Err MustCapture) b w v = sym (v.must_capture.1 (w.must_capture.0 refl))
  IsCheck-same (Err NotLongest) b w v = sym (v.not_longest.1 (w.not_longest.0 refl))
  IsCheck-same (Err NoSuchMove) (Ok u) w v = passes (Err NoSuchMove) (w.legal.1 (v.legal.0 refl))
  IsCheck-same (Err NoSuchMove) (Err MustCapture) w v = w.must_capture.1 (v.must_capture.0 refl)
  IsCheck-same (Err NoSuchMove) (Err NotLongest) w v = w.not_longest.1 (v.not_longest.0 refl)
  IsCheck-same (Err NoSuchMove) (Err NoSuchMove) w v = refl

  abbrev fits : Squares × ℕ → Bool
  fits e = same_squares e.0 m.taken && nat_eq e.1 m.to

  is_capture-sound : 0 < set.len m.taken → is_capture p m ≡ true → IsCapture p m
  unfolding is_capture
  is_capture-sound takes e = elim (option_cases (own_at p m.from)) [
    | inl none ↦ absurd (false≢true (rw none at e))
    | inr v ↦
        let b = without p.board m.from in
        let q = v.0 in
        let w = list_any-found fits (routes_of b q (set.len m.taken) set.empty m.from) (rw v.1 at e) in
        let r = routes_of-sound b q (set.len m.taken) set.empty m.from w.0.0 w.0.1 w.1 in
        let is = and_parts (same_squares w.0.0 m.taken) (nat_eq w.0.1 m.to) w.2 in
        let all : Route b q set.empty m.from r.0 m.taken w.0.1 =
        subst (λ t. Route b q set.empty m.from r.0 t w.0.1) (same_squares-same w.0.0 m.taken is.0) r.2 in
        let route : Route b q set.empty m.from r.0 m.taken m.to =
        subst (λ y. Route b q set.empty m.from r.0 m.taken y) (nat_eq-same w.0.1 m.to is.1) all in
        record { landings = r.0; capture = Capture-by p m.from q v.1 route; takes = takes }
  ]

  is_capture-complete : IsCapture p m → is_capture p m ≡ true
  unfolding is_capture
  is_capture-complete c =
      let b = without p.board m.from in
      let q = c.capture.piece in
      let found = routes_of-complete b q c.landings set.empty m.from m.taken m.to c.capture.route in
      let size = Capture-len p m.from m.to c.landings m.taken c.capture in
      let found' = subst (λ k. In (m.taken, m.to) (routes_of b q k set.empty m.from)) (sym size) found in
      let same : fits (m.taken, m.to) ≡ true =
      λ i. same_squares-itself m.taken i && nat_eq_same m.to m.to refl i in
      rw (Capture-own p c.capture)
      (list_any-finds fits (routes_of b q (set.len m.taken) set.empty m.from) (m.taken, m.to) found' same)

  -- the computed answer is the one by the rules
  pub check_of-is : IsCheck p m (check_of p m)
  unfolding check_of
  check_of-is = elim (cases_eq (set.len m.taken) 0) [
    | inl e ↦ rw (nat_eq_same (set.len m.taken) 0 e)
        (answer_quiet (IsMost-most p) (set.empty_of_len m.taken e) _ _ refl refl)
    | inr d ↦
        let some : 0 < set.len m.taken = omega arith in
        rw (nat_eq_other (set.len m.taken) 0 d)
        (answer_capture (IsMost-most p) some _ _ (is_capture-sound some, is_capture-complete) refl)
  ]
