-- The wire format of answers: exit status and output. No promise of the program rests on these definitions.
use Rattle.std.specs.Prelude.{◌≡◌, ◌≢◌, ◌<◌, ◌++◌, ◌^◌, ℕ, Bool, List, Option, Some, None, IfSome}
use Rattle.std.specs.Prelude.{length}
use Rattle.control_socket.specs.declared.answers.OrderAnswer.{OrderAnswer}
use Rattle.control_socket.specs.Answers.{encode_answer}

-- the bytes are this answer, or no answer
abbrev pub IsAnswerIn : List ℕ → Option OrderAnswer → Type 0
IsAnswerIn said None = (done : Bool) (text : List ℕ) → length text < 2 ^ 64 → said ≢ encode_answer done text
IsAnswerIn said (Some answer) =
    (said ≡ encode_answer answer.is_done answer.text.items) × (length answer.text.items < 2 ^ 64)

-- the answer has this status and this output
abbrev pub Tells : Option OrderAnswer → Bool → List ℕ → Type 0
Tells None done text = ⊥
Tells (Some answer) done text = (answer.is_done ≡ done) × (answer.text.items ≡ text)

-- The client receives what the server sent: the answer if it is complete, nothing if it was cut off.
pub record ReadsAnswer (said : List ℕ) (answer : Option OrderAnswer) : Type 0 where
  pub sound : IfSome answer (λ a. said ≡ encode_answer a.is_done a.text.items)
  pub whole : (done : Bool) (text : List ℕ) → length text < 2 ^ 64 → said ≡ encode_answer done text
      → Tells answer done text
  pub part : (done : Bool) (text more : List ℕ) → length text < 2 ^ 64 → 0 < length more
      → said ++ more ≡ encode_answer done text → answer ≡ None
