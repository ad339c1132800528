-- The wire format of answers: exit status and output.
use Rattle.std.specs.Prelude.{◌++◌, ℕ, Bool, List, codes, decimal}
use Rattle.std.specs.Prelude.{length, if◌then◌else◌}

-- exit status 0 if the order was done, now or before; 1 if it was refused
abbrev pub status_text : Bool → List ℕ
status_text done = if done then codes "0 " else codes "1 "

-- exit status, length of the output, and the output
abbrev pub encode_answer : Bool → List ℕ → List ℕ
encode_answer done text = status_text done ++ (decimal (length text) ++ (codes "\n" ++ text))
