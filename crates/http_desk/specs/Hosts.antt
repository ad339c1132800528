-- The hosts for which a server answers: loopback names and addresses, and names that it is given.
use Rattle.std.specs.Prelude.{ℕ, Bool, true, false, ◌&&◌, ◌||◌, List, Option, Some, None, codes, length, drop, nat_lt}
use Rattle.std.specs.Prelude.{if◌then◌else◌}
use Rattle.std.specs.List.{list_any}
use Rattle.std.specs.Str.{bytes_eq}
use Rattle.http_head.specs.Head.{NamedHost, is_name, number_of}
use Rattle.http_desk.specs.Paths.{before, rest_after, slash, starts_with}

-- ---- a host, and a port

-- the byte between the octets of an IPv4 address
abbrev pub dot : ℕ
dot = 46

-- the byte between a host and a port
abbrev pub colon : ℕ
colon = 58

-- a number up to 255
abbrev pub is_byte : Option ℕ → Bool
is_byte None = false
is_byte (Some n) = nat_lt n 256

-- 1 to 3 digits of a number up to 255
abbrev pub is_octet : List ℕ → Bool
is_octet text = nat_lt (length text) 4 && is_byte (number_of text)

-- an address of 127.0.0.0/8
abbrev pub is_loopback_address : List ℕ → Bool
is_loopback_address host =
    bytes_eq (before dot host) (codes "127") && is_octet (before dot (rest_after dot host))
    && is_octet (before dot (rest_after dot (rest_after dot host)))
    && is_octet (rest_after dot (rest_after dot (rest_after dot host)))

-- `localhost`, an address of 127.0.0.0/8, or one of the names, without case
abbrev pub is_known_host : List (List ℕ) → List ℕ → Bool
is_known_host names host = is_name host (codes "localhost") || is_loopback_address host || list_any (is_name host) names

-- 1 to 65535
abbrev pub is_port : Option ℕ → Bool
is_port None = false
is_port (Some n) = nat_lt 0 n && nat_lt n 65536

-- nothing, or a colon and a port
abbrev pub is_port_part : List ℕ → Bool
is_port_part text =
    if nat_lt 0 (length text) then starts_with text (codes ":") && is_port (number_of (drop 1 text)) else true

-- a known host, with or without a port
abbrev pub has_known_host : List (List ℕ) → List ℕ → Bool
has_known_host names value =
    is_known_host names (before colon value) && is_port_part (drop (length (before colon value)) value)

-- `[::1]` or a known host, with or without a port
abbrev pub is_accepted_host : List (List ℕ) → List ℕ → Bool
is_accepted_host names value =
    if starts_with value (codes "[::1]") then is_port_part (drop 5 value) else has_known_host names value

-- ---- a request

-- The host that a request is for: of a target in absolute form its authority, otherwise the value of Host, if there is
-- one (RFC 9112, section 3.2.2).
abbrev pub requested_host : NamedHost → Option (List ℕ)
requested_host named =
    if starts_with (before 63 named.target) (codes "http://")
    then Some (before slash (drop 7 (before 63 named.target))) else named.host

-- a host that is not accepted
abbrev pub is_other_host : List (List ℕ) → Option (List ℕ) → Bool
is_other_host names None = false
is_other_host names (Some value) = if is_accepted_host names value then false else true

-- a host is named, and it is not accepted
abbrev pub names_other_host : List (List ℕ) → Option NamedHost → Bool
names_other_host names None = false
names_other_host names (Some named) = is_other_host names (requested_host named)

-- the request is for a host for which the server does not answer; without names it answers for all
abbrev pub is_foreign : List (List ℕ) → Option NamedHost → Bool
is_foreign names named = nat_lt 0 (length names) && names_other_host names named
