-- The policy for releasing the file. No promise of the program rests on these definitions.
use Rattle.std.specs.Prelude.{ℕ, Bool, ◌&&◌, ◌||◌, ◌==◌}

-- The file is released to a waiting process once the requests that were queued during the opening are served.
abbrev pub should_release : Bool → ℕ → ℕ → Bool
should_release is_asked owed ready = is_asked && (owed == 0 || ready == 0)
