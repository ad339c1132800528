-- The wire format of messages: a lease request, or an order. No promise of the program rests on these definitions.
use Rattle.std.specs.Prelude.{◌≡◌, ◌⊎◌, ◌<◌, ◌≤◌, ◌++◌, ◌^◌, ℕ, List, codes, decimal, length}
use Rattle.control_socket.specs.declared.frames.Frame.{Frame}
use Rattle.control_socket.specs.declared.frames.Frame.TheVariants.{Part, File, Order, Nothing}

-- the first line of an order: timestamp, and lengths of command line and record in bytes
abbrev pub line_of : ℕ → ℕ → ℕ → List ℕ
line_of moment words text =
    codes "order " ++ (decimal moment ++ (codes " " ++ (decimal words ++ (codes " " ++ decimal text))))

-- the line of three numbers of 64 bits
pub record IsLine (line : List ℕ) (m w t : ℕ) : Type 0 where
  pub is : line ≡ line_of m w t
  pub moment : m < 2 ^ 64
  pub words : w < 2 ^ 64
  pub text : t < 2 ^ 64

-- an order: that line, the command line, and the record
abbrev pub encode_order : ℕ → List ℕ → List ℕ → List ℕ
encode_order moment words text =
    line_of moment (length words) (length text) ++ (codes "\n" ++ (words ++ text))

-- a valid timestamp, and lengths within the limits
pub record IsWithin (m w t : ℕ) : Type 0 where
  pub moment : m ≤ 253402300799
  pub words : w ≤ 65536
  pub text : t ≤ 65537

pub record IsOrder (bytes : List ℕ) : Type 0 where
  pub moment : ℕ
  pub words : List ℕ
  pub text : List ℕ
  pub within : IsWithin moment (length words) (length text)
  pub is : bytes ≡ encode_order moment words text

-- a complete message
abbrev pub IsWhole : List ℕ → Type 0
IsWhole bytes = (bytes ≡ codes "file\n") ⊎ IsOrder bytes

-- the bytes are decoded to this order
abbrev pub DecodesOrder : Frame → ℕ → List ℕ → List ℕ → Type 0
DecodesOrder (Order given) moment words text =
    (given.moment ≡ moment) × (given.words.now ≡ words) × (given.text.now ≡ text)
DecodesOrder _ moment words text = ⊥

-- the result of parsing a prefix: a message, incomplete, or malformed whatever follows
abbrev pub IsFrameOf : List ℕ → Frame → Type 0
IsFrameOf bytes File = bytes ≡ codes "file\n"
IsFrameOf bytes (Order given) =
    IsWithin given.moment (length given.words.now) (length given.text.now)
    × (bytes ≡ encode_order given.moment given.words.now given.text.now)
IsFrameOf bytes Part = IsWhole bytes → ⊥
IsFrameOf bytes Nothing = (more : List ℕ) → IsWhole (bytes ++ more) → ⊥
