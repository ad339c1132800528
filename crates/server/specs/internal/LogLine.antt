-- The access log: timestamp, method, path in the route table, status and member for a request; never a key. An order of
-- the control socket is logged as timestamp, `officer`, command and exit status. No promise of the program rests on
-- these definitions.
use Rattle.std.specs.Prelude.{◌≡◌, ◌⊎◌, ◌++◌, ◌+◌, ◌-◌, ◌^◌, ℕ, List, [], Option, Some, None, Result, Ok, Err, codes}
use Rattle.std.specs.Prelude.{decimal}
use Rattle.std.specs.Prelude.{Bool, ◌||◌, ◌∷◌, take, length, min, nat_lt, option_and_then, option_map, string_bytes}
use Rattle.std.specs.Prelude.{if◌then◌else◌}
use Rattle.std.specs.Char.{is_ascii_alphanumeric, is_ascii_graphic}
use Rattle.std.specs.Io.KnownBytes.{Appends}
use Rattle.std.specs.List.{list_all}
use Rattle.http_head.specs.Request.{skip_line_breaks}
use Rattle.http_bodies.specs.internal.Reply.{status_in}
use Rattle.http_desk.specs.Paths.{before, rest_after, slash, path_of}
use Rattle.http_desk.specs.Routes.{Endpoint, match_route}
use Rattle.http_desk.specs.Patterns.{pattern_of}
use Rattle.http_desk.specs.internal.Paths.{text_of}
use Rattle.http_desk.specs.declared.faults.DeskFault.{DeskFault}
use Rattle.http_desk.specs.declared.faults.DeskFault.TheVariants.{Memory, Read, Write}
use Rattle.club_requests.specs.internal.CommandName.{command_name}
use Rattle.control_socket.specs.declared.orders.Operation.{Operation}
use Rattle.control_socket.specs.declared.orders.Operation.TheVariants.{Command, Question}
use Rattle.control_socket.specs.declared.orders.OrderFault.{OrderFault}
use Rattle.server.specs.declared.access_log.LogEntry.{LogEntry}
use Rattle.server.specs.declared.access_log.LogEntry.TheVariants.{Call, Ended, Order, WrongKeys}
use Rattle.server.specs.declared.access_log.EndReason.{EndReason}
use Rattle.server.specs.declared.access_log.EndReason.TheVariants as reason
use Rattle.server.specs.declared.serve.Exchange.{Exchange}

-- the most bytes of a method in the log
abbrev pub method_limit : ℕ
method_limit = 16

-- the most bytes of a path's segment in the log: with `/` in front and `/-` behind a path has at most 200
abbrev pub segment_limit : ℕ
segment_limit = 197

-- the text, if it is printable ASCII without blanks
abbrev pub shown : List ℕ → Option (List ℕ)
shown bytes = if list_all is_ascii_graphic bytes then text_of bytes else None

-- the text, or `-`
abbrev pub or_mark : Option (List ℕ) → List ℕ
or_mark None = codes "-"
or_mark (Some text) = text

-- ---- method and path

-- the start line of a request, without the line breaks around it (RFC 9112, section 3)
abbrev pub start_line : List ℕ → List ℕ
start_line bytes = before 13 (before 10 (skip_line_breaks bytes))

-- the first word of a line
abbrev pub first_word : List ℕ → List ℕ
first_word line = before 32 line

-- the second word of a line
abbrev pub second_word : List ℕ → List ℕ
second_word line = before 32 (rest_after 32 line)

-- the bytes hold 8 letters and digits in a row, of which `n` are in front of them
abbrev pub has_run : ℕ → List ℕ → Bool
has_run n [] = nat_lt 7 n
has_run n (c ∷ bytes) = nat_lt 7 n || has_run (if is_ascii_alphanumeric c then n + 1 else 0) bytes

-- the bytes may hold a key, which has at least 8 letters and digits
abbrev pub may_hold_key : List ℕ → Bool
may_hold_key bytes = has_run 0 bytes

-- the word, cut at a limit; `-` if it may hold a key, or is not printable
abbrev pub word_written : ℕ → List ℕ → List ℕ
word_written limit word = if may_hold_key word then codes "-" else or_mark (shown (take limit word))

-- a word that is there; `-` if there is none
abbrev pub method_written : List ℕ → List ℕ
method_written method = if nat_lt 0 (length method) then word_written method_limit method else codes "-"

-- `-` for the segments of a path after the first, if there are any
abbrev pub rest_written : List ℕ → List ℕ
rest_written inner = if nat_lt (length (before slash inner)) (length inner) then codes "/-" else []

-- the first segment, which is after the first slash, of a path that no route matches, and `-` for the rest
abbrev pub unknown_path : List ℕ → List ℕ
unknown_path path =
    codes "/"
    ++ (word_written segment_limit (before slash (rest_after slash path)) ++ rest_written (rest_after slash path))

-- a path that no route matches, if there is one
abbrev pub unknown_target : Option (List ℕ) → List ℕ
unknown_target None = codes "-"
unknown_target (Some path) = unknown_path path

-- the path in the table of the route that a target matches, or an unknown path
abbrev pub path_by : Option Endpoint → Option (List ℕ) → List ℕ
path_by None path = unknown_target path
path_by (Some asked) path = pattern_of asked.route.topic

-- the path of a target
abbrev pub path_written : List ℕ → List ℕ
path_written target = path_by (match_route target) (path_of target)

-- method and path in the start line of a request, with a blank after each
abbrev pub words_written : List ℕ → List ℕ
words_written bytes =
    method_written (first_word (start_line bytes))
    ++ (codes " " ++ (path_written (second_word (start_line bytes)) ++ codes " "))

-- ---- status and member, or the reason

abbrev pub status_written : Option ℕ → List ℕ
status_written None = codes "-"
status_written (Some status) = decimal status

-- the member's name, or `-` if none is known
abbrev pub caller_written : Option (List ℕ) → List ℕ
caller_written name = or_mark (option_and_then shown name)

abbrev pub fault_written : DeskFault → List ℕ
fault_written Memory = codes "memory"
fault_written Read = codes "unreadable"
fault_written Write = codes "unwritable"

-- why a connection ends without a complete request
abbrev pub reason_written : EndReason → List ℕ
reason_written reason.Closed = codes "closed"
reason_written reason.Timeout = codes "timeout"
reason_written reason.Crowded = codes "crowded"
reason_written reason.Failed = codes "failed"

-- the line of a request and its reply: timestamp, method and path, status, member
abbrev pub line_written : ℕ → List ℕ → Option ℕ → List ℕ → List ℕ
line_written moment words status caller =
    decimal moment ++ (codes " " ++ (words ++ (status_written status ++ (codes " " ++ (caller ++ codes "\n")))))

-- the line of a connection without a complete request: timestamp, method, path, `-`, reason
abbrev pub ended_line_written : ℕ → List ℕ → EndReason → List ℕ
ended_line_written moment bytes why =
    decimal moment ++ (codes " " ++ (words_written bytes ++ (codes "- " ++ (reason_written why ++ codes "\n"))))

-- the line of a request without a reply
abbrev pub fault_line_written : ℕ → DeskFault → List ℕ
fault_line_written moment fault = decimal moment ++ (codes " - - - " ++ (fault_written fault ++ codes "\n"))

-- the line of a request and its reply, or of a request without a reply
abbrev pub call_line_written : ℕ → Result Exchange DeskFault → List ℕ
call_line_written moment (Ok done) = line_written moment (words_written done.bytes.items) (status_in done.reply.items)
    (caller_written (option_map string_bytes done.caller))
call_line_written moment (Err fault) = fault_line_written moment fault

-- the line at the beginning of the time in which replies to wrong keys wait
abbrev pub wrong_keys_written : ℕ → List ℕ
wrong_keys_written moment = decimal moment ++ codes " - - many wrong keys\n"

-- the number of lines dropped since the last one written, if there are any
abbrev pub left_out_written : ℕ → ℕ → List ℕ
left_out_written moment count =
    if nat_lt 0 count then decimal moment ++ (codes " - - " ++ (decimal count ++ codes " left out\n")) else []

-- ---- orders of the control socket

-- the subcommand of an operation, or `-`; all queries are `question`
abbrev pub word_of : Operation → List ℕ
word_of (Command given) = or_mark (command_name given)
word_of (Question asked) = codes "question"

abbrev pub order_status : Result Bool OrderFault → List ℕ
order_status (Ok done) = if done then codes "0" else codes "1"
order_status (Err fault) = codes "-"

abbrev pub order_line_written : ℕ → List ℕ → Result Bool OrderFault → List ℕ
order_line_written moment word done =
    decimal moment ++ (codes " officer " ++ (word ++ (codes " " ++ (order_status done ++ codes "\n"))))

-- ---- writing

-- the line of an event
abbrev pub IsLineOf : ℕ → LogEntry → List ℕ → Type 0
IsLineOf moment (Call done) line = line ≡ call_line_written moment done.now
IsLineOf moment (Ended bytes why) line = line ≡ ended_line_written moment bytes.now why
IsLineOf moment WrongKeys line = line ≡ wrong_keys_written moment
IsLineOf moment (Order errand done) line = line ≡ order_line_written moment (word_of errand.now) done

-- the writer gets the line, after the number of dropped lines; at a fault nothing or a prefix of that
abbrev pub IsLogged : {U : Type 0} → ℕ → ℕ → LogEntry → Option (List ℕ) → Option (List ℕ) → Result U DeskFault → Type 0
IsLogged left_out moment noted before now (Ok u) = (line : List ℕ) × IsLineOf moment noted line
    × Appends before now (left_out_written moment left_out ++ line)
IsLogged left_out moment noted before now (Err fault) = (now ≡ before)
    ⊎ ((line : List ℕ) × (n : ℕ) × IsLineOf moment noted line
    × Appends before now (take n (left_out_written moment left_out ++ line)))

-- the line was written, and the count of dropped lines is zero again
abbrev pub IsNoted : ℕ → ℕ → ℕ → LogEntry → Option (List ℕ) → Option (List ℕ) → Type 0
IsNoted left_out left_now moment noted before now =
    (left_now ≡ 0) × IsLogged {U = Unit {0}} left_out moment noted before now (Ok tt)

-- the line was dropped and counted
abbrev pub IsLeftOut : ℕ → ℕ → ℕ → LogEntry → Option (List ℕ) → Option (List ℕ) → Type 0
IsLeftOut left_out left_now moment noted before now = (left_now ≡ min (left_out + 1) (2 ^ 64 - 1))
    × ((fault : DeskFault) × IsLogged {U = Unit {0}} left_out moment noted before now (Err fault))
