-- Landing squares are read one after another.
use Rattle.std.proofs.Common.{◌≡◌, ℕ, zero, suc, ◌+◌, ◌-◌, ◌<◌, ◌≤◌, Bool, true, false, cond, nat_eq, List, [], ◌∷◌}
use Rattle.std.proofs.Common.{◌++◌, length, Some, None, Ok, Err, refl, sym, ap, ◌∙◌, append_assoc, append-nil, arith}
use Rattle.std.proofs.Common.{length-append}
use Rattle.pdn.specs.SquareText.{FrontReading, read_square}
use Rattle.pdn.specs.Forms.{FormReading, capture, LandingsReading, is_cross, after_squares}
use Rattle.pdn.specs.internal.Forms.{past_hyphen, past_cross}
use Rattle.pdn.specs.Forms.{at_cross, after_landing, read_up_to, read_landings, capture_of, quiet_of, at_mark}
use Rattle.pdn.specs.Forms.{read_from, read_form}
use Rattle.pdn.proofs.NumberLemmas.{Outcome, IsLast, square-outcome, square-some}

-- what follows a square that was read is shorter than n
abbrev pub Shorter : ℕ → FrontReading → Type 0
Shorter n (Err bytes) = Unit {0}
Shorter n (Ok front) = length front.rest < n

read_square-shorter : (text : List ℕ) → Shorter (length text) (read_square text)
read_square-shorter text = by_outcome (read_square text) (square-outcome text)
  where
    by_outcome : (r : FrontReading) → Outcome read_square (IsLast 0) text r → Shorter (length text) r
    by_outcome (Err bytes) h = tt
    by_outcome (Ok front) g =
        omega (
          arith,
          ap length g.split,
          length-append g.written front.rest,
          square-some front.square g.written g.is.0,
        )

-- What reads on is asked of shorter texts alone.
at_cross-same : (f g : List ℕ → LandingsReading) (total square n : ℕ) (text : List ℕ) → length text < n
    → ((t : List ℕ) → length t < n → f t ≡ g t) → at_cross f total square text ≡ at_cross g total square text
at_cross-same f g total square n [] h same = refl
at_cross-same f g total square n (c ∷ rest) h same =
    ap (λ r. cond (is_cross c) (after_squares (square ∷ []) (total - length rest) r) (Err (total - (length rest + 1))))
    (same rest (omega arith))

after_landing-same : (f g : List ℕ → LandingsReading) (total n : ℕ) (r : FrontReading) → Shorter n r
    → ((t : List ℕ) → length t < n → f t ≡ g t) → after_landing f total r ≡ after_landing g total r
after_landing-same f g total n (Err bytes) h same = refl
after_landing-same f g total n (Ok front) h same = at_cross-same f g total front.square n front.rest h same

enough : (j k : ℕ) (text : List ℕ) → length text ≤ j → length text ≤ k → read_up_to j text ≡ read_up_to k text
unfolding read_up_to
enough zero zero text hj hk = refl
enough zero (suc k) [] hj hk = refl
enough zero (suc k) (c ∷ text) hj hk = absurd (omega arith)
enough (suc j) zero [] hj hk = refl
enough (suc j) zero (c ∷ text) hj hk = absurd (omega arith)
enough (suc j) (suc k) text hj hk = after_landing-same (read_up_to j) (read_up_to k) (length text) (length text)
    (read_square text) (read_square-shorter text) (λ t h. enough j k t (omega arith) (omega arith))

-- landing squares: the first, and then the rest
pub read_landings-step : (text : List ℕ)
    → read_landings text ≡ after_landing read_landings (length text) (read_square text)
unfolding read_landings read_up_to
read_landings-step [] = refl
read_landings-step (c ∷ text) =
    after_landing-same (read_up_to (length text)) read_landings (length (c ∷ text)) (length (c ∷ text))
    (read_square (c ∷ text)) (read_square-shorter (c ∷ text))
    (λ t h. enough (length text) (length t) t (omega arith) (omega arith))

nothing_left : (rest : List ℕ) → length rest ≡ 0 → rest ≡ []
nothing_left [] e = refl
nothing_left (c ∷ rest) e = absurd (omega arith)

-- what follows a mark, by whether it is one
pub is_past : (b : Bool) (r rest : List ℕ) → cond b (Some r) None ≡ Some rest → (b ≡ true) × (r ≡ rest)
is_past true r rest e = (refl, cc)
is_past false r rest e = cc

pub not_past : (b : Bool) (r : List ℕ) → cond b (Some r) None ≡ None → b ≡ false
not_past true r e = cc
not_past false r e = refl

pub landings-by : (text : List ℕ) (r : FrontReading) → read_square text ≡ r
    → read_landings text ≡ after_landing read_landings (length text) r
landings-by text r e = read_landings-step text ∙ ap (after_landing read_landings (length text)) e

pub crossed : (total square c : ℕ) (rest : List ℕ) → is_cross c ≡ true → at_cross read_landings total square (c ∷ rest)
    ≡ after_squares (square ∷ []) (total - length rest) (read_landings rest)
crossed total square c rest e = ap (λ b. cond b (after_squares (square ∷ []) (total - length rest) (read_landings rest))
    (Err (total - (length rest + 1)))) e

pub not_crossed : (total square c : ℕ) (rest : List ℕ) → is_cross c ≡ false
    → at_cross read_landings total square (c ∷ rest) ≡ Err (total - length (c ∷ rest))
not_crossed total square c rest e = ap (λ b. cond b (after_squares (square ∷ []) (total - length rest)
    (read_landings rest)) (Err (total - (length rest + 1)))) e ∙ ap (λ n. Err (total - n)) (omega arith)

pub past_cross-shorter : (text rest : List ℕ) → past_cross text ≡ Some rest → length rest < length text
past_cross-shorter [] rest e = cc
past_cross-shorter (c ∷ r) rest e = omega (arith, ap length (is_past (is_cross c) r rest e).1)

-- the capture that a text goes on with, after these squares
abbrev pub goes_on : ℕ → ℕ → List ℕ → List ℕ → FormReading
goes_on from total middle text = capture_of from (total - length text) (after_squares middle 0 (read_landings text))

module _ (from total : ℕ) where
  none_before : (before : ℕ) (r : LandingsReading)
      → capture_of from before r ≡ capture_of from before (after_squares [] 0 r)
  none_before before (Err bytes) = ap (λ n. Err (before + n)) (omega arith)
  none_before before (Ok l) = refl

  pub goes_on-start : (text : List ℕ) → capture_of from (total - length text) (read_landings text)
      ≡ goes_on from total [] text
  goes_on-start text = none_before (total - length text) (read_landings text)

  one_more : (middle : List ℕ) (square long short : ℕ) (r : LandingsReading) → short ≤ long → long ≤ total
      → capture_of from (total - long) (after_squares middle 0 (after_squares (square ∷ []) (long - short) r))
      ≡ capture_of from (total - short) (after_squares (middle ++ square ∷ []) 0 r)
  one_more middle square long short (Err bytes) h k = ap Err (omega arith)
  one_more middle square long short (Ok l) h k =
      ap (λ m. Ok (capture from m l.to)) (sym (append_assoc middle (square ∷ []) l.middle))

  module _ (middle text : List ℕ) (within : length text ≤ total) where
    pub goes_on-bad : (bytes : ℕ) → read_square text ≡ Err bytes
        → goes_on from total middle text ≡ Err (total - length text + bytes)
    goes_on-bad bytes e = ap (λ r. capture_of from (total - length text) (after_squares middle 0 r))
        (read_landings-step text ∙ ap (after_landing read_landings (length text)) e) ∙ ap Err (omega arith)

    module _ (square : ℕ) (rest : List ℕ)
        (is : ◌≡◌ {A = FrontReading} (read_square text) (Ok (record { square = square; rest = rest })))
        (shorter : length rest < length text) where
      read : goes_on from total middle text ≡ capture_of from (total - length text)
          (after_squares middle 0 (at_cross read_landings (length text) square rest))
      read = ap (λ r. capture_of from (total - length text) (after_squares middle 0 r))
          (read_landings-step text ∙ ap (after_landing read_landings (length text)) is)

      pub goes_on-last : length rest ≡ 0 → goes_on from total middle text ≡ Ok (capture from middle square)
      goes_on-last e =
          read
          ∙ ap
          (λ r. capture_of from (total - length text)
          (after_squares middle 0 (at_cross read_landings (length text) square r))) (nothing_left rest e)
          ∙ ap (λ m. Ok (capture from m square)) (append-nil middle)

      pub goes_on-stops : 0 < length rest → past_cross rest ≡ None
          → goes_on from total middle text ≡ Err (total - length rest)
      goes_on-stops h e =
          read ∙ ap (λ r. capture_of from (total - length text) (after_squares middle 0 r)) (stops rest h e)
          ∙ ap Err (omega arith)
        where
          stops : (r : List ℕ) → 0 < length r → past_cross r ≡ None
              → at_cross read_landings (length text) square r ≡ Err (length text - length r)
          stops [] h e = absurd (omega arith)
          stops (c ∷ r) h e = not_crossed (length text) square c r (not_past (is_cross c) r e)

      pub goes_on-more : (more : List ℕ) → past_cross rest ≡ Some more → length more ≤ length text
          → goes_on from total middle text ≡ goes_on from total (middle ++ square ∷ []) more
      goes_on-more more e less =
          read ∙ ap (λ r. capture_of from (total - length text) (after_squares middle 0 r)) (goes rest e)
          ∙ one_more middle square (length text) (length more) (read_landings more) less within
        where
          goes : (r : List ℕ) → past_cross r ≡ Some more → at_cross read_landings (length text) square r
              ≡ after_squares (square ∷ []) (length text - length more) (read_landings more)
          goes [] e = cc
          goes (c ∷ r) e =
              let w = is_past (is_cross c) r more e in
              crossed (length text) square c r w.0
              ∙ ap (λ t. after_squares (square ∷ []) (length text - length t) (read_landings t)) w.1

-- what a text that begins with a square goes on with
pub form-by : (text : List ℕ) (r : FrontReading) → read_square text ≡ r → read_form text ≡ read_from (length text) r
unfolding read_form
form-by text r e = ap (read_from (length text)) e

module _ (from total c : ℕ) (rest : List ℕ) where
  by_mark : (b d : Bool) → nat_eq c 45 ≡ b → is_cross c ≡ d
      → at_mark from total (c ∷ rest) ≡ cond b (quiet_of from (total - length rest) total (read_square rest))
      (cond d (capture_of from (total - length rest) (read_landings rest)) (Err (total - (length rest + 1))))
  by_mark b d e f = λ i. cond (e i) (quiet_of from (total - length rest) total (read_square rest))
      (cond (f i) (capture_of from (total - length rest) (read_landings rest)) (Err (total - (length rest + 1))))

  pub at_hyphen : nat_eq c 45 ≡ true
      → at_mark from total (c ∷ rest) ≡ quiet_of from (total - length rest) total (read_square rest)
  at_hyphen e = by_mark true (is_cross c) e refl

  pub at_capture : nat_eq c 45 ≡ false → is_cross c ≡ true
      → at_mark from total (c ∷ rest) ≡ capture_of from (total - length rest) (read_landings rest)
  at_capture e f = by_mark false true e f

  pub at_other : nat_eq c 45 ≡ false → is_cross c ≡ false
      → at_mark from total (c ∷ rest) ≡ Err (total - length (c ∷ rest))
  at_other e f = by_mark false false e f ∙ ap (λ n. Err (total - n)) (omega arith)

module _ (text : List ℕ) (square : ℕ) (rest : List ℕ)
    (is : ◌≡◌ {A = FrontReading} (read_square text) (Ok (record { square = square; rest = rest }))) where
  pub read_form-quiet : (more : List ℕ) → past_hyphen rest ≡ Some more
      → read_form text ≡ quiet_of square (length text - length more) (length text) (read_square more)
  read_form-quiet more e = form-by text (Ok (record { square = square; rest = rest })) is ∙ hyphen (length text) rest e
    where
      hyphen : (total : ℕ) (t : List ℕ) → past_hyphen t ≡ Some more
          → at_mark square total t ≡ quiet_of square (total - length more) total (read_square more)
      hyphen total [] e = cc
      hyphen total (c ∷ r) e =
          let w = is_past (nat_eq c 45) r more e in
          at_hyphen square total c r w.0 ∙ ap (λ t. quiet_of square (total - length t) total (read_square t)) w.1

  pub read_form-capture : (more : List ℕ) → past_hyphen rest ≡ None → past_cross rest ≡ Some more
      → read_form text ≡ capture_of square (length text - length more) (read_landings more)
  read_form-capture more e f = form-by text (Ok (record { square = square; rest = rest })) is
      ∙ cross (length text) rest e f
    where
      cross : (total : ℕ) (t : List ℕ) → past_hyphen t ≡ None → past_cross t ≡ Some more
          → at_mark square total t ≡ capture_of square (total - length more) (read_landings more)
      cross total [] e f = cc
      cross total (c ∷ r) e f =
          let w = is_past (is_cross c) r more f in
          at_capture square total c r (not_past (nat_eq c 45) r e) w.0
          ∙ ap (λ t. capture_of square (total - length t) (read_landings t)) w.1

  pub read_form-stops : past_hyphen rest ≡ None → past_cross rest ≡ None
      → read_form text ≡ Err (length text - length rest)
  read_form-stops e f = form-by text (Ok (record { square = square; rest = rest })) is ∙ other (length text) rest e f
    where
      other : (total : ℕ) (t : List ℕ) → past_hyphen t ≡ None → past_cross t ≡ None
          → at_mark square total t ≡ Err (total - length t)
      other total [] e f = ap Err (omega arith)
      other total (c ∷ r) e f = at_other square total c r (not_past (nat_eq c 45) r e) (not_past (is_cross c) r f)

pub read_form-bad : (text : List ℕ) (bytes : ℕ) → read_square text ≡ Err bytes → read_form text ≡ Err bytes
read_form-bad text bytes e = form-by text (Err bytes) e
