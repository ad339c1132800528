-- The texts of the grammar are those that are read, and each other text is read up to where it goes wrong.
use Rattle.std.proofs.Common.{◌≡◌, ℕ, zero, suc, ◌+◌, ◌-◌, ◌*◌, ◌<◌, ◌≤◌, inl, inr, true, false, cond, nat_eq, ◌||◌}
use Rattle.std.proofs.Common.{List, [], ◌∷◌, ◌++◌, length, Ok, Err, refl, sym, ap, ◌∙◌, subst, append_assoc, append-nil}
use Rattle.std.proofs.Common.{arith, length-append}
use Rattle.squares.specs.internal.DraughtsMarks.{nat_eq-same, nat_eq_other}
use Rattle.pdn.specs.SquareText.{FrontReading, is_digit, square_text, read_square}
use Rattle.pdn.specs.Forms.{Form, FormReading, quiet, capture, Landings, LandingsReading, is_cross, after_squares}
use Rattle.pdn.specs.Forms.{at_cross, after_landing, read_landings, capture_of, quiet_of, at_mark, read_from, read_form}
use Rattle.pdn.specs.internal.Grammar.{IsSquareText, IsCross, AreLandings, HasForm}
use Rattle.pdn.specs.internal.Beginnings.{Begins}
use Rattle.pdn.proofs.StopLemmas.{first, Goes, Halts, Begun, after, halts-after}
use Rattle.pdn.proofs.NumberLemmas.{good, digit-text, digits-text, IsLast, Outcome, square-outcome, square-read}
use Rattle.pdn.proofs.FormLemmas.{read_landings-step, landings-by, crossed, not_crossed, form-by, at_hyphen, at_capture}
use Rattle.pdn.proofs.FormLemmas.{at_other}

-- the text of a number of one digit, and of two
pub one_digit : (d : ℕ) → d < 10 → square_text d ≡ (48 + d) ∷ []
one_digit d h = digit-text d h

pub two_digits : (d e : ℕ) → 1 ≤ d → e < 10 → square_text (10 * d + e) ≡ (48 + d) ∷ (48 + e) ∷ []
two_digits d e h k = digits-text d e h k

-- crosses
cross-test : (c : ℕ) → IsCross c → is_cross c ≡ true
cross-test c (inl e) = subst (λ x. is_cross x ≡ true) (sym e) refl
cross-test c (inr e) = subst (λ x. is_cross x ≡ true) (sym e) refl

cross-no_hyphen : (c : ℕ) → IsCross c → nat_eq c 45 ≡ false
cross-no_hyphen c (inl e) = subst (λ x. nat_eq x 45 ≡ false) (sym e) refl
cross-no_hyphen c (inr e) = subst (λ x. nat_eq x 45 ≡ false) (sym e) refl

cross-ends : (c : ℕ) → IsCross c → is_digit c ≡ false
cross-ends c (inl e) = subst (λ x. is_digit x ≡ false) (sym e) refl
cross-ends c (inr e) = subst (λ x. is_digit x ≡ false) (sym e) refl

test-cross : (c : ℕ) → is_cross c ≡ true → IsCross c
test-cross c e =
    elim (nat_eq c 120) as (λ b. nat_eq c 120 ≡ b → (b || nat_eq c 58) ≡ true → IsCross c) [
      | true ↦ λ f g. inl (nat_eq-same c 120 f)
      | false ↦ λ f g. inr (nat_eq-same c 58 g)
    ] refl e

-- landing squares that were read stand in the text, after a cross
abbrev pub LandingsParts : Landings → List ℕ → Type 0
LandingsParts l text = (c : ℕ) → IsCross c → AreLandings (l.middle ++ l.to ∷ []) (c ∷ text)

alone : (n : ℕ) (square : List ℕ) → IsSquareText n square
    → LandingsParts (record { middle = []; to = n }) (square ++ [])
alone n square is = λ c cross. (c ∷ square, [], (c, square, cross, is, refl), refl, refl)

before-more : (n : ℕ) (square : List ℕ) (m : ℕ) (t : List ℕ) (l : Landings) → IsSquareText n square
    → is_cross m ≡ true → LandingsParts l t
    → LandingsParts (record { middle = n ∷ l.middle; to = l.to }) (square ++ m ∷ t)
before-more n square m t l is e parts =
    λ c cross. (c ∷ square, m ∷ t, (c, square, cross, is, refl), parts m (test-cross m e), refl)

abbrev pub LandingsOutcome : List ℕ → LandingsReading → Type 0
LandingsOutcome text (Ok l) = LandingsParts l text
LandingsOutcome text (Err k) = Halts 0 (Begun Landings LandingsParts)
    (λ t. ◌≡◌ {A = LandingsReading} (read_landings t) (Err k)) text k

-- a square was read, and this follows it
abbrev pub SquareGoes : List ℕ → ℕ → List ℕ → Type 0
SquareGoes text n rest = Goes (IsLast 0 n) (λ t r. ◌≡◌ {A = FrontReading} (read_square t) (good n r)) text rest

module _ (text : List ℕ) where
  module _ (n m : ℕ) (more : List ℕ) (g : SquareGoes text n (m ∷ more)) where
    size : length text ≡ length g.written + (1 + length more)
    size = omega (arith, ap length g.split, length-append g.written (m ∷ more))

    after-cross : is_cross m ≡ true → (r : LandingsReading) → LandingsOutcome more r
        → LandingsOutcome text (after_squares (n ∷ []) (length text - length more) r)
    after-cross e (Ok l) parts =
        subst (LandingsParts (record { middle = n ∷ l.middle; to = l.to })) (sym g.split)
        (before-more n g.written m more l g.is.0 e parts)
    after-cross e (Err k) h =
        halts-after (λ t. g.written ++ m ∷ t) (λ x y. append_assoc g.written (m ∷ x) y) more text g.split h
        (λ t s. omega (arith, length-append g.written (m ∷ t), size))
        (λ t b. record {
          more = b.more;
          value = record { middle = n ∷ b.value.middle; to = b.value.to };
          is = subst (LandingsParts (record { middle = n ∷ b.value.middle; to = b.value.to }))
              (sym (append_assoc g.written (m ∷ t) b.more))
              (before-more n g.written m (t ++ b.more) b.value g.is.0 e b.is);
        })
        (λ t alike s.
        landings-by (g.written ++ m ∷ t) (good n (m ∷ t)) (g.reads (m ∷ t) refl)
        ∙ crossed (length (g.written ++ m ∷ t)) n m t e
        ∙ ap (after_squares (n ∷ []) (length (g.written ++ m ∷ t) - length t)) s
        ∙ ap Err (omega (arith, length-append g.written (m ∷ t), size)))

    no_cross : is_cross m ≡ false → LandingsOutcome text (Err (length text - (length more + 1)))
    no_cross e =
        record {
          written = g.written;
          rest = m ∷ more;
          split = g.split;
          size = omega (arith, size);
          begins = record { more = []; value = record { middle = []; to = n }; is = alone n g.written g.is.0 };
          reads = λ r alike. landings-by (g.written ++ r) (good n r) (g.reads r alike) ∙ stops r alike;
        }
      where
        stops : (r : List ℕ) → first r ≡ first (m ∷ more) → at_cross read_landings (length (g.written ++ r)) n r
            ≡ Err (length text - (length more + 1))
        stops [] alike = cc
        stops (c ∷ z) alike =
            let same : m ≡ c = cc in
            not_crossed (length (g.written ++ c ∷ z)) n c z (ap is_cross (sym same) ∙ e)
            ∙ ap Err (omega (arith, length-append g.written (c ∷ z), size))

  landings-step : ((t : List ℕ) → length t < length text → LandingsOutcome t (read_landings t)) → (r : FrontReading)
      → Outcome read_square (IsLast 0) text r → LandingsOutcome text (after_landing read_landings (length text) r)
  landings-step later (Err bytes) h =
      halts-after (λ t. t) (λ x y. refl) text text refl h (λ t s. s)
      (λ t b. record {
        more = b.more;
        value = record { middle = []; to = b.value };
        is = subst (LandingsParts (record { middle = []; to = b.value })) (append-nil (t ++ b.more))
            (alone b.value (t ++ b.more) b.is.0);
      }) (λ t alike s. landings-by t (Err bytes) s)
  landings-step later (Ok front) g = by_rest front.square front.rest g
    where
      by_rest : (n : ℕ) (rest : List ℕ) → SquareGoes text n rest
          → LandingsOutcome text (at_cross read_landings (length text) n rest)
      by_rest n [] g = subst (LandingsParts (record { middle = []; to = n })) (sym g.split) (alone n g.written g.is.0)
      by_rest n (m ∷ more) g =
          elim (is_cross m) as (λ b. is_cross m ≡ b → LandingsOutcome text
          (cond b (after_squares (n ∷ []) (length text - length more) (read_landings more))
          (Err (length text - (length more + 1))))) [
            | true ↦ λ e. after-cross n m more g e (read_landings more) (later more (omega (arith, size n m more g)))
            | false ↦ λ e. no_cross n m more g e
          ] refl

-- how far landing squares are read
landings-outcome : (fuel : ℕ) (text : List ℕ) → length text ≤ fuel → LandingsOutcome text (read_landings text)
landings-outcome zero text fits =
    subst (LandingsOutcome text) (sym (read_landings-step text))
    (landings-step text (λ t h. absurd (omega arith)) (read_square text) (square-outcome text))
landings-outcome (suc fuel) text fits =
    subst (LandingsOutcome text) (sym (read_landings-step text))
    (landings-step text (λ t h. landings-outcome fuel t (omega arith)) (read_square text) (square-outcome text))

-- how far a whole text is read
abbrev pub FormOutcome : List ℕ → FormReading → Type 0
FormOutcome text (Ok form) = HasForm text form
FormOutcome text (Err k) = Halts 0 Begins (λ t. ◌≡◌ {A = FormReading} (read_form t) (Err k)) text k

-- a quiet move's text that goes on
over_err : (n total t c : ℕ) (z : List ℕ) → quiet_of n 0 total (good t (c ∷ z)) ≡ Err (total - length (c ∷ z))
over_err n total t c z =
    let some : nat_eq (length (c ∷ z)) 0 ≡ false = nat_eq_other (length (c ∷ z)) 0 (λ e. omega arith) in
    ap (λ b. cond b (Ok (quiet n t)) (Err (total - length (c ∷ z)))) some

-- a square goes on to a quiet move to the square 1
to-one : (n : ℕ) (square : List ℕ) → IsSquareText n square → HasForm (square ++ 45 ∷ 49 ∷ []) (quiet n 1)
to-one n square is = (square, 49 ∷ [], is, ((omega arith, omega arith), inl refl), refl)

module _ (text : List ℕ) where
  form-stops : (n : ℕ) (rest : List ℕ) (k : ℕ) → SquareGoes text n rest → k ≡ length text - length rest
      → ((r : List ℕ) (total : ℕ) → first r ≡ first rest → at_mark n total r ≡ Err (total - length r))
      → FormOutcome text (Err k)
  form-stops n rest k g place stops =
      record {
        written = g.written;
        rest = rest;
        split = g.split;
        size = omega (arith, ap length g.split, length-append g.written rest);
        begins = (45 ∷ 49 ∷ [], quiet n 1, to-one n g.written g.is.0);
        reads = λ r alike.
            form-by (g.written ++ r) (good n r) (g.reads r alike) ∙ stops r (length (g.written ++ r)) alike
            ∙ ap Err (omega (arith, ap length g.split, length-append g.written rest, length-append g.written r));
      }

  module _ (n m : ℕ) (more : List ℕ) (g : SquareGoes text n (m ∷ more)) where
    onward : (t : List ℕ) → read_form (g.written ++ m ∷ t) ≡ at_mark n (length (g.written ++ m ∷ t)) (m ∷ t)
    onward t = form-by (g.written ++ m ∷ t) (good n (m ∷ t)) (g.reads (m ∷ t) refl)

    after-hyphen : nat_eq m 45 ≡ true → (r : FrontReading) → Outcome read_square (IsLast 0) more r
        → FormOutcome text (quiet_of n (length text - length more) (length text) r)
    after-hyphen e (Err bytes) h =
        halts-after (λ t. g.written ++ m ∷ t) (λ x y. append_assoc g.written (m ∷ x) y) more text g.split h
        (λ t s. omega (arith, length-append g.written (m ∷ t), size text n m more g))
        (λ t b. (
          b.more,
          quiet n b.value,
          (
            g.written,
            t ++ b.more,
            g.is.0,
            b.is.0,
            append_assoc g.written (m ∷ t) b.more
                ∙ ap (λ x. g.written ++ x ∷ (t ++ b.more)) (nat_eq-same m 45 e),
          ),
        ))
        (λ t alike s.
        onward t ∙ at_hyphen n (length (g.written ++ m ∷ t)) m t e
        ∙ ap (quiet_of n (length (g.written ++ m ∷ t) - length t) (length (g.written ++ m ∷ t))) s
        ∙ ap Err (omega (arith, length-append g.written (m ∷ t), size text n m more g)))
    after-hyphen e (Ok front) w = by_rest front.square front.rest w
      where
        by_rest : (to : ℕ) (rest : List ℕ) → SquareGoes more to rest
            → FormOutcome text (quiet_of n 0 (length text) (good to rest))
        by_rest to rest w = ends rest both
          where
            both : Goes (λ t. HasForm t (quiet n to))
                (λ t r. ◌≡◌ {A = FormReading} (read_form t) (quiet_of n 0 (length t) (good to r))) text rest
            both =
                after (λ t. g.written ++ m ∷ t) (λ x y. append_assoc g.written (m ∷ x) y) more text g.split rest w
                (λ t h. (g.written, t, g.is.0, h.0, ap (λ x. g.written ++ x ∷ t) (nat_eq-same m 45 e)))
                (λ t r alike same s.
                onward t ∙ at_hyphen n (length (g.written ++ m ∷ t)) m t e
                ∙ ap (quiet_of n (length (g.written ++ m ∷ t) - length t) (length (g.written ++ m ∷ t))) s)

            ends : (rest : List ℕ) → Goes (λ t. HasForm t (quiet n to))
                (λ t r. ◌≡◌ {A = FormReading} (read_form t) (quiet_of n 0 (length t) (good to r))) text rest
                → FormOutcome text (quiet_of n 0 (length text) (good to rest))
            ends [] q = subst (λ t. HasForm t (quiet n to)) (sym (q.split ∙ append-nil q.written)) q.is
            ends (d ∷ over) q =
                subst (FormOutcome text) (sym (over_err n (length text) to d over))
                (record {
                  written = q.written;
                  rest = d ∷ over;
                  split = q.split;
                  size = omega (arith, ap length q.split, length-append q.written (d ∷ over));
                  begins = ([], quiet n to, subst (λ t. HasForm t (quiet n to)) (sym (append-nil q.written)) q.is);
                  reads = λ r alike. q.reads r alike ∙ stops r alike;
                })
              where
                stops : (r : List ℕ) → first r ≡ first (d ∷ over)
                    → quiet_of n 0 (length (q.written ++ r)) (good to r) ≡ Err (length text - length (d ∷ over))
                stops [] alike = cc
                stops (c ∷ z) alike =
                    over_err n (length (q.written ++ c ∷ z)) to c z
                    ∙ ap Err
                    (omega (
                      arith,
                      ap length q.split,
                      length-append q.written (d ∷ over),
                      length-append q.written (c ∷ z),
                    ))

    after-cross-form : nat_eq m 45 ≡ false → is_cross m ≡ true → (r : LandingsReading) → LandingsOutcome more r
        → FormOutcome text (capture_of n (length text - length more) r)
    after-cross-form e f (Ok l) parts = (g.written, m ∷ more, g.is.0, parts m (test-cross m f), g.split)
    after-cross-form e f (Err k) h =
        halts-after (λ t. g.written ++ m ∷ t) (λ x y. append_assoc g.written (m ∷ x) y) more text g.split h
        (λ t s. omega (arith, length-append g.written (m ∷ t), size text n m more g))
        (λ t b. (
          b.more,
          capture n b.value.middle b.value.to,
          (g.written, m ∷ (t ++ b.more), g.is.0, b.is m (test-cross m f), append_assoc g.written (m ∷ t) b.more),
        ))
        (λ t alike s.
        onward t ∙ at_capture n (length (g.written ++ m ∷ t)) m t e f
        ∙ ap (capture_of n (length (g.written ++ m ∷ t) - length t)) s
        ∙ ap Err (omega (arith, length-append g.written (m ∷ t), size text n m more g)))

  form-rest : (n : ℕ) (rest : List ℕ) → SquareGoes text n rest → FormOutcome text (at_mark n (length text) rest)
  form-rest n [] g = form-stops n [] (length text) g (omega arith) stops
    where
      stops : (r : List ℕ) (total : ℕ) → first r ≡ first [] → at_mark n total r ≡ Err (total - length r)
      stops [] total alike = ap Err (omega arith)
      stops (c ∷ z) total alike = cc
  form-rest n (m ∷ more) g =
      elim (nat_eq m 45) as (λ b. nat_eq m 45 ≡ b → FormOutcome text
      (cond b (quiet_of n (length text - length more) (length text) (read_square more))
      (cond (is_cross m) (capture_of n (length text - length more) (read_landings more))
      (Err (length text - (length more + 1)))))) [
        | true ↦ λ e. after-hyphen n m more g e (read_square more) (square-outcome more)
        | false ↦ λ e. elim (is_cross m) as (λ b. is_cross m ≡ b → FormOutcome text
            (cond b (capture_of n (length text - length more) (read_landings more))
            (Err (length text - (length more + 1))))) [
              | true ↦ λ f. after-cross-form n m more g e f (read_landings more)
                  (landings-outcome (length more) more (omega arith))
              | false ↦ λ f. form-stops n (m ∷ more) (length text - (length more + 1)) g (omega arith) (stops e f)
            ] refl
      ] refl
    where
      stops : nat_eq m 45 ≡ false → is_cross m ≡ false → (r : List ℕ) (total : ℕ) → first r ≡ first (m ∷ more)
          → at_mark n total r ≡ Err (total - length r)
      stops e f [] total alike = cc
      stops e f (c ∷ z) total alike =
          let same : m ≡ c = cc in
          at_other n total c z (ap (λ x. nat_eq x 45) (sym same) ∙ e) (ap is_cross (sym same) ∙ f)

  form-from : (r : FrontReading) → Outcome read_square (IsLast 0) text r
      → FormOutcome text (read_from (length text) r)
  form-from (Err bytes) h =
      halts-after (λ t. t) (λ x y. refl) text text refl h (λ t s. s)
      (λ t b. (
        b.more ++ 45 ∷ 49 ∷ [],
        quiet b.value 1,
        subst (λ x. HasForm x (quiet b.value 1)) (append_assoc t b.more (45 ∷ 49 ∷ []))
            (to-one b.value (t ++ b.more) b.is.0),
      )) (λ t alike s. form-by t (Err bytes) s)
  form-from (Ok front) g = form-rest front.square front.rest g

pub form-outcome : (text : List ℕ) → FormOutcome text (read_form text)
unfolding read_form
form-outcome text = form-from text (read_square text) (square-outcome text)

pub read_form-text : (text : List ℕ) (form : Form) → read_form text ≡ Ok form → HasForm text form
read_form-text text form e = subst (FormOutcome text) e (form-outcome text)

-- and landing squares that stand in a text are read
pub record LandingsRead (text middle : List ℕ) (to : ℕ) : Type 0 where
  pub cross : ℕ
  pub more : List ℕ
  pub is_cross : IsCross cross
  pub split : text ≡ cross ∷ more
  pub read : ◌≡◌ {A = LandingsReading} (read_landings more) (Ok (record { middle = middle; to = to }))

landings-read : (middle : List ℕ) (to : ℕ) (text : List ℕ) → AreLandings (middle ++ to ∷ []) text
    → LandingsRead text middle to
landings-read [] to text (landing, rest, (cross, square, crosses, is, landing_is), rest_is, split) =
    record {
      cross = cross;
      more = square ++ [];
      is_cross = crosses;
      split = split ∙ (λ i. landing_is i ++ rest_is i);
      read = landings-by (square ++ []) (good to []) (square-read to square [] is tt);
    }
landings-read (n ∷ middle) to text (landing, rest, (cross, square, crosses, is, landing_is), rest_are, split) =
    let later = landings-read middle to rest rest_are in
    let more = square ++ later.cross ∷ later.more in
    record {
      cross = cross;
      more = more;
      is_cross = crosses;
      split = split ∙ (λ i. landing_is i ++ later.split i);
      read =
          landings-by more (good n (later.cross ∷ later.more))
          (square-read n square (later.cross ∷ later.more) is (cross-ends later.cross later.is_cross))
          ∙ crossed (length more) n later.cross later.more (cross-test later.cross later.is_cross)
          ∙ ap (after_squares (n ∷ []) (length more - length later.more)) later.read;
    }

-- and a text that has a form is read as it
pub text-read_form : (text : List ℕ) (form : Form) → HasForm text form → read_form text ≡ Ok form
text-read_form text (quiet from to) (first, second, from_is, to_is, split) =
    let t = first ++ 45 ∷ second in
    ap read_form split ∙ form-by t (good from (45 ∷ second)) (square-read from first (45 ∷ second) from_is refl)
    ∙ ap (quiet_of from (length t - length second) (length t))
    (ap read_square (sym (append-nil second)) ∙ square-read to second [] to_is tt)
text-read_form text (capture from middle to) (first, landings, from_is, are, split) =
    let l = landings-read middle to landings are in
    let t = first ++ l.cross ∷ l.more in
    ap read_form (split ∙ ap (λ x. first ++ x) l.split)
    ∙ form-by t (good from (l.cross ∷ l.more))
    (square-read from first (l.cross ∷ l.more) from_is (cross-ends l.cross l.is_cross))
    ∙ at_capture from (length t) l.cross l.more (cross-no_hyphen l.cross l.is_cross) (cross-test l.cross l.is_cross)
    ∙ ap (capture_of from (length t - length l.more)) l.read
