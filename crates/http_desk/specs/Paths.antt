-- The path of a request target, and its segments.
use Rattle.std.specs.Prelude.{ℕ, Bool, ◌+◌, ◌&&◌, ◌==◌, List, [], ◌∷◌, Option, Some, None, codes, length, take, drop}
use Rattle.std.specs.Prelude.{nat_lt, if◌then◌else◌}
use Rattle.std.specs.Str.{bytes_eq}

-- the byte between the segments of a path
abbrev pub slash : ℕ
slash = 47

-- the bytes before the first `b`
abbrev pub before : ℕ → List ℕ → List ℕ
before b [] = []
before b (x ∷ bytes) = if x == b then [] else x ∷ before b bytes

-- the bytes after the first `b`
abbrev pub rest_after : ℕ → List ℕ → List ℕ
rest_after b bytes = drop (length (before b bytes) + 1) bytes

-- the bytes begin with these
abbrev pub starts_with : List ℕ → List ℕ → Bool
starts_with bytes front = bytes_eq (take (length front) bytes) front

-- the path after an authority; neither is empty
abbrev pub path_after_authority : ℕ → List ℕ → Option (List ℕ)
path_after_authority n bytes = if nat_lt 0 n && nat_lt n (length bytes) then Some (drop n bytes) else None

-- the path of a target in origin form, or in absolute form with scheme `http`
abbrev pub path_among : List ℕ → Option (List ℕ)
path_among bytes = if starts_with bytes (codes "/") then Some
    bytes else (if starts_with bytes (codes "http://") then path_after_authority (length (before slash (drop 7 bytes)))
    (drop 7 bytes) else None)

-- the path of a target, without its query
abbrev pub path_of : List ℕ → Option (List ℕ)
path_of target = path_among (before 63 target)

-- a byte in front of the first segment
abbrev pub with_byte : ℕ → List (List ℕ) → List (List ℕ)
with_byte x [] = (x ∷ []) ∷ []
with_byte x (segment ∷ more) = (x ∷ segment) ∷ more

-- the segments of a path: what is between its slashes
abbrev pub segments : List ℕ → List (List ℕ)
segments [] = [] ∷ []
segments (x ∷ path) = if x == slash then [] ∷ segments path else with_byte x (segments path)
