-- A command with the text that was read for it. No promise of the program rests on these definitions.
use Rattle.std.specs.Prelude.{◌≡◌, ◌≢◌, ◌-◌, ◌==◌, ℕ, List, [], ◌∷◌, length, take, codes, string_bytes}
use Rattle.std.specs.Prelude.{if◌then◌else◌}
use Rattle.std.specs.List.{ends_with}
use Rattle.std.specs.Str.{IsUtf8}
use Rattle.std.specs.declared.alloc.Global.{Global}
use Rattle.std.specs.declared.string.String.{String}
use Rattle.std.specs.declared.vec.Vec.{Vec}
use Rattle.club_requests.specs.declared.requests.Command.{Command}
use Rattle.club_requests.specs.declared.requests.Command.TheVariants as command
use Rattle.club_requests.specs.declared.requests.NewKey.{NewKey}
use Rattle.cli.specs.declared.words.Task.{Task}
use Rattle.cli.specs.declared.words.Task.TheVariants as task

-- the text without one line end, LF or CR LF, at its end
abbrev pub without_line_end : List ℕ → List ℕ
without_line_end text =
    if ends_with (λ a b. a == b) text (13 ∷ 10 ∷ []) then take (length text - 2) text
    else if ends_with (λ a b. a == b) text (10 ∷ []) then take (length text - 1) text else text

-- the key `-` is replaced by the text, if that is UTF-8; another key stays
pub record IsKeyRead (text : List ℕ) (before after : String Global) : Type 0 where
  pub read : string_bytes before ≡ codes "-" → IsUtf8 text → string_bytes after ≡ text
  pub unreadable : ¬ (IsUtf8 text) → after ≡ before
  pub other : string_bytes before ≢ codes "-" → after ≡ before

-- the second command is the first one with a key that was read
pub record HasKeyOf (text : List ℕ) (before : NewKey) (after : Command) : Type 0 where
  pub key : String Global
  pub is_read : IsKeyRead text before.key key
  pub is : after ≡ command.NewKey (record before { key = key })

-- the second command is the first one with this text: the record of an import, or the key that is given as `-`
abbrev pub HasTextOf : Vec ℕ Global → (before after : Command) → Type 0
HasTextOf text (command.Import c) after = after ≡ command.Import (record c { text = text })
HasTextOf text (command.NewKey c) after = HasKeyOf text.items c after
HasTextOf text other after = after ≡ other

-- the second task is the first one with this text
abbrev pub IsTaskWith : Vec ℕ Global → (before after : Task) → Type 0
IsTaskWith text (task.Request command) after =
    (given : Command) × HasTextOf text command given × (after ≡ task.Request given)
IsTaskWith text other after = after ≡ other
