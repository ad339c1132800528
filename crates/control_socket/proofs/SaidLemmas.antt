-- An order is read off as it was said.
use Rattle.std.proofs.Common.{◌≡◌, ◌≢◌, ◌<◌, ◌+◌, ◌^◌, ◌⊎◌, ℕ, List, [], ◌∷◌, ◌++◌, codes, inl, inr}
use Rattle.std.proofs.Common.{length, take, decimal, refl, sym, ap, ◌∙◌, arith, append_assoc, append-nil}
use Rattle.std.proofs.Common.{length-append}
use Rattle.std.proofs.lemmas.List.{append_cancel_left, nil_from_length}
use Rattle.std.proofs.Math.Seq.{take-append_seam}
use Rattle.std.proofs.lemmas.Fmt.{decimal_injective}
use Rattle.control_socket.specs.internal.Reading.{IsCut, Lacks}
use Rattle.control_socket.specs.internal.Said.{IsLine, IsFrameOf, IsWhole, IsWithin, DecodesOrder, line_of}
use Rattle.control_socket.specs.internal.Said.{encode_order}
use Rattle.control_socket.specs.declared.frames.Frame.{Frame}
use Rattle.control_socket.specs.declared.frames.Frame.TheVariants.{Part, File, Order, Nothing}
use Rattle.control_socket.proofs.ReadingLemmas.{cut_unique, decimal_lacks, lacks_append, lacks_cons, lacks_cut}
use Rattle.control_socket.proofs.ReadingLemmas.{apart, lacks_each, number_unique}

-- ---- the first line

module _ (line r0 : List ℕ) (l0 : line ≡ codes "order " ++ r0) where
  pub line_is : (m0 w0 t0 : ℕ) (r1 r2 : List ℕ) → (r0 ≡ decimal m0 ++ 32 ∷ r1) × (m0 < 2 ^ 64)
      → (r1 ≡ decimal w0 ++ 32 ∷ r2) × (w0 < 2 ^ 64) → (r2 ≡ decimal t0) × (t0 < 2 ^ 64) → IsLine line m0 w0 t0
  line_is m0 w0 t0 r1 r2 n0 n1 n2 =
      record { is = rw (l0, n0.0, n1.0, n2.0) refl; moment = n0.1; words = n1.1; text = n2.1 }

  -- what stands behind the words of a line, and behind its numbers
  pub behind_order : (m w t : ℕ) → IsLine line m w t → r0 ≡ decimal m ++ 32 ∷ (decimal w ++ 32 ∷ decimal t)
  behind_order m w t is =
      append_cancel_left (codes "order ") r0 (decimal m ++ 32 ∷ (decimal w ++ 32 ∷ decimal t)) (sym l0 ∙ is.is)

  pub behind_moment : (m0 : ℕ) (r1 : List ℕ) → (r0 ≡ decimal m0 ++ 32 ∷ r1) × (m0 < 2 ^ 64) → (m w t : ℕ)
      → IsLine line m w t → r1 ≡ decimal w ++ 32 ∷ decimal t
  behind_moment m0 r1 n0 m w t is =
      (number_unique 32 m0 m r1 _ (omega arith) n0.1 is.moment (sym n0.0 ∙ behind_order m w t is)).1

  pub behind_words : (m0 w0 : ℕ) (r1 r2 : List ℕ) → (r0 ≡ decimal m0 ++ 32 ∷ r1) × (m0 < 2 ^ 64)
      → (r1 ≡ decimal w0 ++ 32 ∷ r2) × (w0 < 2 ^ 64) → (m w t : ℕ) → IsLine line m w t → r2 ≡ decimal t
  behind_words m0 w0 r1 r2 n0 n1 m w t is =
      (number_unique 32 w0 w r2 _ (omega arith) n1.1 is.words (sym n1.0 ∙ behind_moment m0 r1 n0 m w t is)).1

-- the three numbers of a line
pub record AreNumbers (m w t n v u : ℕ) : Type 0 where
  pub moment : m ≡ n
  pub words : w ≡ v
  pub text : t ≡ u

line_unique : (line : List ℕ) (m w t n v u : ℕ) → IsLine line m w t → IsLine line n v u → AreNumbers m w t n v u
line_unique line m w t n v u is was =
    let rest = append_cancel_left (codes "order ") (decimal m ++ 32 ∷ (decimal w ++ 32 ∷ decimal t)) _
    (sym is.is ∙ was.is) in
    let first = number_unique 32 m n _ _ (omega arith) is.moment was.moment rest in
    let second = number_unique 32 w v _ _ (omega arith) is.words was.words first.1 in
    record { moment = first.0; words = second.0; text = decimal_injective t u is.text was.text second.1 }

line_lacks : (line : List ℕ) (m w t : ℕ) → IsLine line m w t → Lacks 10 (line_of m w t)
line_lacks line m w t is =
    let last = lacks_cons 10 32 (decimal t) (omega arith) (decimal_lacks t 10 is.text (omega arith)) in
    let second = lacks_append 10 (decimal w) (32 ∷ decimal t) (decimal_lacks w 10 is.words (omega arith)) last in
    let third = lacks_cons 10 32 (decimal w ++ 32 ∷ decimal t) (omega arith) second in
    let numbers = lacks_append 10 (decimal m) _ (decimal_lacks m 10 is.moment (omega arith)) third in
    lacks_append 10 (codes "order ") (decimal m ++ 32 ∷ (decimal w ++ 32 ∷ decimal t))
    (lacks_each 10 (codes "order ") (omega arith)) numbers

-- ---- all that is said

-- the whole that begins with a line and its rest
pub record IsOrderOf (line rest more : List ℕ) : Type 0 where
  pub moment : ℕ
  pub words : List ℕ
  pub text : List ℕ
  pub within : IsWithin moment (length words) (length text)
  pub line_is : IsLine line moment (length words) (length text)
  pub rest_is : rest ++ more ≡ words ++ text

abbrev IsFileOf : (line rest more : List ℕ) → Type 0
IsFileOf line rest more = (line ≡ codes "file") × (rest ++ more ≡ [])

order_line : (m w t : ℕ) → IsWithin m w t → IsLine (line_of m w t) m w t
order_line m w t within = record {
  is = refl;
  moment = omega (arith, within.moment);
  words = omega (arith, within.words);
  text = omega (arith, within.text);
}

whole_cut : (said line rest more : List ℕ) → IsCut 10 said line rest → IsWhole (said ++ more)
    → IsFileOf line rest more ⊎ IsOrderOf line rest more
whole_cut said line rest more cut (inl file) =
    inl (cut_unique 10 line (rest ++ more) (codes "file") [] cut.first (lacks_each 10 (codes "file") (omega arith))
    (rw (cut.is, append_assoc line (10 ∷ rest) more) at file))
whole_cut said line rest more cut (inr order) =
    let own = order_line order.moment (length order.words) (length order.text) order.within in
    let same = cut_unique 10 line (rest ++ more) (line_of order.moment (length order.words) (length order.text))
    (order.words ++ order.text) cut.first (line_lacks _ _ _ _ own)
    (rw (cut.is, append_assoc line (10 ∷ rest) more) at order.is) in
    inr (record {
      moment = order.moment;
      words = order.words;
      text = order.text;
      within = order.within;
      line_is = rw same.0 own;
      rest_is = same.1;
    })

-- no line has ended yet
pub no_line : (said : List ℕ) → Lacks 10 said → IsWhole said → ⊥
no_line said none (inl file) = lacks_cut 10 said (codes "file") [] none file
no_line said none (inr order) =
    lacks_cut 10 said (line_of order.moment (length order.words) (length order.text)) (order.words ++ order.text) none
    order.is

-- a first line that is none of an order
pub other_line : (said line rest : List ℕ) → IsCut 10 said line rest → said ≢ codes "file\n"
    → ((m w t : ℕ) → IsLine line m w t → ⊥) → (more : List ℕ) → IsWhole (said ++ more) → ⊥
other_line said line rest cut differs none more whole = elim (whole_cut said line rest more cut whole) [
  | inl file ↦
      let end : rest ≡ [] = nil_from_length rest (omega (arith, ap length file.1, length-append rest more)) in
      differs (rw (file.0, end) at cut.is)
  | inr order ↦ none order.moment (length order.words) (length order.text) order.line_is
]

-- what stands behind such a line
pub record IsRest (m w t : ℕ) (rest more : List ℕ) : Type 0 where
  pub within : IsWithin m w t
  pub long : length rest + length more ≡ w + t

pub whole_rest : {said line rest : List ℕ} {m w t : ℕ} → IsCut 10 said line rest → IsLine line m w t → (more : List ℕ)
    → IsWhole (said ++ more) → IsRest m w t rest more
whole_rest {line = line} {rest = rest} {m = m} {w = w} {t = t} cut is more whole =
    elim (whole_cut _ line rest more cut whole) [
      | inl file ↦ absurd (apart 111 102 _ _ (omega arith) (sym is.is ∙ file.0))
      | inr order ↦
          let same = line_unique line m w t order.moment (length order.words) (length order.text) is order.line_is in
          omega (arith, same, order.within, ap length order.rest_is, length-append {A = ℕ})
    ]

-- a whole that has come already
pub whole_now : {said line rest : List ℕ} {m w t : ℕ} → IsCut 10 said line rest → IsLine line m w t → IsWhole said
    → length rest ≡ w + t
whole_now {said = said} cut is whole = omega (arith, (whole_rest cut is [] (rw (append-nil said) whole)).long)

-- ---- an order is read as it was said

-- an order that begins with another is that one
pub record AreOrders (m n : ℕ) (w v t u more : List ℕ) : Type 0 where
  pub moment : m ≡ n
  pub words : w ≡ v
  pub text : t ≡ u
  pub end : length more ≡ 0

orders_are : (m n : ℕ) (w v t u more : List ℕ) → IsWithin m (length w) (length t)
    → IsWithin n (length v) (length u) → encode_order m w t ++ more ≡ encode_order n v u → AreOrders m n w v t u more
orders_are m n w v t u more within other_within e =
    let own = order_line m (length w) (length t) within in
    let given = order_line n (length v) (length u) other_within in
    let line = line_of m (length w) (length t) in
    let cut = cut_unique 10 line ((w ++ t) ++ more) (line_of n (length v) (length u)) (v ++ u)
    (line_lacks _ _ _ _ own) (line_lacks _ _ _ _ given) (rw (append_assoc line (10 ∷ (w ++ t)) more) at e) in
    let numbers = line_unique line m (length w) (length t) n (length v) (length u) own (rw cut.0 given) in
    let none : length more ≡ 0 = omega (arith, numbers, ap length cut.1, length-append {A = ℕ}) in
    let whole : w ++ t ≡ v ++ u = rw (nil_from_length more none, append-nil (w ++ t)) at cut.1 in
    let first : w ≡ v =
    sym (take-append_seam w t)
    ∙ (λ i. take (numbers.words i) (whole i))
    ∙ take-append_seam v u in
    record {
      moment = numbers.moment;
      words = first;
      text = append_cancel_left v t u (rw first at whole);
      end = none;
    }

pub says_order : (bytes : List ℕ) (said : Frame) → IsFrameOf bytes said → (n : ℕ) (v u : List ℕ)
    → IsWithin n (length v) (length u) → bytes ≡ encode_order n v u → DecodesOrder said n v u
says_order bytes File is n v u within e = absurd (apart 111 102 _ _ (omega arith) (sym e ∙ is))
says_order bytes (Order given) is n v u within e =
    let same = orders_are given.moment n given.words.now v given.text.now u [] is.0 within
    (append-nil (encode_order given.moment given.words.now given.text.now) ∙ (sym is.1 ∙ e)) in
    (same.moment, same.words, same.text)
says_order bytes Part is n v u within e =
    absurd (is (inr (record { moment = n; words = v; text = u; within = within; is = e })))
says_order bytes Nothing is n v u within e =
    absurd (is [] (inr (record { moment = n; words = v; text = u; within = within; is = append-nil bytes ∙ e })))

pub says_part : (bytes : List ℕ) (said : Frame) → IsFrameOf bytes said → (n : ℕ) (v u more : List ℕ)
    → IsWithin n (length v) (length u) → 0 < length more → bytes ++ more ≡ encode_order n v u → said ≡ Part
says_part bytes File is n v u more within some e = absurd (apart 102 111 _ _ (omega arith) (rw is at e))
says_part bytes (Order given) is n v u more within some e =
    let same = orders_are given.moment n given.words.now v given.text.now u more is.0 within (rw is.1 at e) in
    absurd (omega (arith, some, same.end))
says_part bytes Part is n v u more within some e = refl
says_part bytes Nothing is n v u more within some e =
    absurd (is more (inr (record { moment = n; words = v; text = u; within = within; is = e })))
