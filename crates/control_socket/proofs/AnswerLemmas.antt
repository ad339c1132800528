-- An answer is read off as it was told.
use Rattle.std.proofs.Common.{◌≡◌, ◌≢◌, ◌<◌, ◌^◌, ℕ, Bool, true, false, List, [], ◌∷◌, ◌++◌, Option, Some, None}
use Rattle.std.proofs.Common.{length, drop, decimal, refl, sym, ap, ◌∙◌, arith, append_assoc, append-nil}
use Rattle.std.proofs.Common.{length-append}
use Rattle.std.proofs.lemmas.List.{nil_from_length}
use Rattle.control_socket.specs.Answers.{status_text, encode_answer}
use Rattle.control_socket.specs.internal.Answers.{ReadsAnswer, IsAnswerIn, Tells}
use Rattle.control_socket.specs.declared.answers.OrderAnswer.{OrderAnswer}
use Rattle.control_socket.proofs.ReadingLemmas.{apart, number_unique}

pub status_cut : (d e : Bool) (x y : List ℕ) → status_text d ++ x ≡ status_text e ++ y → (d ≡ e) × (x ≡ y)
status_cut true true x y h = (refl, ap (drop 2) h)
status_cut false false x y h = (refl, ap (drop 2) h)
status_cut true false x y h = absurd (apart 48 49 _ _ (omega arith) h)
status_cut false true x y h = absurd (apart 49 48 _ _ (omega arith) h)

-- ---- where it is no answer

pub other_length : (d : Bool) (n : ℕ) (said rest text : List ℕ) → said ≡ status_text d ++ rest
    → rest ≡ decimal n ++ 10 ∷ text → n < 2 ^ 64 → n ≢ length text → IsAnswerIn said None
other_length d n said rest text is number fits differs done given small e =
    let same = number_unique 10 n (length given) text given (omega arith) fits small
    (sym number ∙ (status_cut d done rest _ (sym is ∙ e)).1) in
    differs (same.0 ∙ sym (ap length same.1))

-- ---- a part of an answer

pub record AreSame (d e : Bool) (t u m : List ℕ) : Type 0 where
  pub done : d ≡ e
  pub text : t ≡ u
  pub more : m ≡ []

pub told_cut : (d e : Bool) (t u more : List ℕ) → length t < 2 ^ 64 → length u < 2 ^ 64
    → encode_answer d t ++ more ≡ encode_answer e u → AreSame d e t u more
told_cut d e t u more ft fu h =
    let status = status_cut d e _ _ (simp append_assoc at h) in
    let same = number_unique 10 (length t) (length u) (t ++ more) u (omega arith) ft fu status.1 in
    let none = nil_from_length more (omega (arith, same.0, ap length same.1, length-append t more)) in
    record { done = status.0; text = rw (none, append-nil t) at same.1; more = none }

no_part : (said : List ℕ) (answer : Option OrderAnswer) → IsAnswerIn said answer → (done : Bool) (text more : List ℕ)
    → length text < 2 ^ 64 → 0 < length more → said ++ more ≡ encode_answer done text → answer ≡ None
no_part said None is done text more fits some e = refl
no_part said (Some a) is done text more fits some e =
    let same = told_cut a.is_done done a.text.items text more is.1 fits (rw is.0 at e) in
    absurd (omega (arith, some, ap length same.more))

tells : (said : List ℕ) (answer : Option OrderAnswer) → IsAnswerIn said answer → (done : Bool) (text : List ℕ)
    → length text < 2 ^ 64 → said ≡ encode_answer done text → Tells answer done text
tells said None is done text fits e = is done text fits e
tells said (Some a) is done text fits e =
    let same = told_cut a.is_done done a.text.items text [] is.1 fits
    (append-nil (encode_answer a.is_done a.text.items) ∙ (sym is.0 ∙ e)) in
    (same.done, same.text)

pub hears : (said : List ℕ) (answer : Option OrderAnswer) → IsAnswerIn said answer → ReadsAnswer said answer
hears said None is = record { sound = tt; whole = tells said None is; part = no_part said None is }
hears said (Some a) is = record { sound = is.0; whole = tells said (Some a) is; part = no_part said (Some a) is }
