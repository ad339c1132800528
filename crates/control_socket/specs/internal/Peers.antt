-- Whose server a command line sends an order to. No promise of the program rests on these definitions.
use Rattle.std.specs.Prelude.{ℕ, Bool, ◌||◌, ◌==◌}

-- the user id of root
abbrev pub root : ℕ
root = 0

-- The server's user owns the club's file, or is root. Another one would receive keys, and could answer that an order
-- was done.
abbrev pub is_trusted : (server owner : ℕ) → Bool
is_trusted server owner = server == owner || server == root
