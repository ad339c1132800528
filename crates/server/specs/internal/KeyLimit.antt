-- The limit on replies to wrong keys. Times are in milliseconds. No promise of the program rests on these definitions.
use Rattle.std.specs.Prelude.{ℕ, Bool, false, ◌+◌, ◌-◌, ◌^◌, ◌==◌, ◌&&◌, Option, Some, None, is_some, min, nat_lt}
use Rattle.std.specs.Prelude.{if◌then◌else◌}
use Rattle.http_head.specs.Request.{ParseState, unfinished, refused, whole}
use Rattle.server.specs.declared.key_limit.KeyLimit.{KeyLimit}
use Rattle.server.specs.declared.key_limit.KeyReply.{KeyReply}

-- the number of wrong keys to which replies are sent at once
abbrev pub free_keys : ℕ
free_keys = 20

-- the time without a wrong key after which they are counted anew
abbrev pub quiet : ℕ
quiet = 60000

-- the time between two replies that wait
abbrev pub interval : ℕ
interval = 100

-- a sum that stops at the greatest number of 64 bits
abbrev pub sum_to_limit : ℕ → ℕ → ℕ
sum_to_limit a b = min (a + b) (2 ^ 64 - 1)

-- the number of wrong keys since a minute without one, with one more at this time
abbrev pub count_at : KeyLimit → ℕ → ℕ
count_at limit now = if nat_lt now (sum_to_limit limit.last quiet) then sum_to_limit limit.count 1 else 1

-- the time of a reply that waits: not before the next one that may be sent
abbrev pub waiting_until : KeyLimit → ℕ → ℕ
waiting_until limit now = if nat_lt now limit.next then limit.next else now

-- when the reply to a wrong key at this time may be sent
abbrev pub reply_at : KeyLimit → ℕ → KeyReply
reply_at limit now =
    if nat_lt free_keys (count_at limit now)
    then record { time = waiting_until limit now; is_first = count_at limit now == free_keys + 1 }
    else record { time = now; is_first = false }

-- the state after it
abbrev pub limit_after : KeyLimit → ℕ → KeyLimit
limit_after limit now = record {
  count = count_at limit now;
  last = now;
  next = if nat_lt free_keys (count_at limit now) then sum_to_limit (waiting_until limit now) interval else limit.next;
}

-- the status, 401, refuses the key of the request
abbrev pub is_wrong_key : Option ℕ → ParseState → Bool
is_wrong_key status unfinished = false
is_wrong_key status (refused r) = false
is_wrong_key None (whole request) = false
is_wrong_key (Some status) (whole request) = is_some request.key && status == 401
