-- The command line before it is parsed: the file may begin with a hyphen if it follows `--`. No promise of the
-- program rests on these definitions.
use Rattle.std.specs.Prelude.{ℕ, Bool, List, [], ◌∷◌, ◌+◌, ◌++◌, ◌||◌, Option, None, Some, codes, drop}
use Rattle.std.specs.Prelude.{option_map, take, if◌then◌else◌}
use Rattle.std.specs.Str.{bytes_eq}

-- `--explain` or `--now=SECONDS`
abbrev pub is_option : List ℕ → Bool
is_option word = bytes_eq word (codes "--explain") || bytes_eq (take 6 word) (codes "--now=")

-- number of words of the option that these words begin with; `--now SECONDS` is two words
abbrev pub option_words : List (List ℕ) → ℕ
option_words [] = 0
option_words (word ∷ words) = if is_option word then 1 else if bytes_eq word (codes "--now") then 2 else 0

-- index of the word behind the program's name and at most two options
abbrev pub file_at : List (List ℕ) → ℕ
file_at words =
    1 + option_words (drop 1 words) + option_words (drop (1 + option_words (drop 1 words)) words)

-- path of the same file that does not begin with a hyphen
abbrev pub plain_path : List ℕ → List ℕ
plain_path path = if bytes_eq (take 1 path) (codes "-") then codes "./" ++ path else path

-- file behind the `--` that these words begin with
abbrev pub file_behind : List (List ℕ) → Option (List ℕ)
file_behind [] = None
file_behind (mark ∷ []) = None
file_behind (mark ∷ file ∷ words) = if bytes_eq mark (codes "--") then Some file else None

-- options and the words behind them, with this path in place of `--` and the word behind it
abbrev pub with_file : List (List ℕ) → List (List ℕ) → Option (List ℕ) → List (List ℕ)
with_file options rest None = options ++ rest
with_file options rest (Some path) = options ++ (path ∷ drop 2 rest)

-- words to parse, of those that were given
abbrev pub plain_words : List (List ℕ) → List (List ℕ)
plain_words words =
    with_file (take (file_at words) words) (drop (file_at words) words)
    (option_map plain_path (file_behind (drop (file_at words) words)))
