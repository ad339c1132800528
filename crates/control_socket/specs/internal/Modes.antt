-- Who may connect to the control socket. No promise of the program rests on these definitions.
use Rattle.std.specs.Prelude.{ℕ, ◌/◌, ◌%◌, nat_le, if◌then◌else◌}

-- The mode of the control socket of a file with this mode, in octal: 660 (432) if the group's digit is 6 or 7, so that
-- the group may read and write the file; else 600 (384).
abbrev pub socket_mode : ℕ → ℕ
socket_mode file = if nat_le 6 (file / 8 % 8) then 432 else 384
