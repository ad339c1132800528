-- The result of parsing a prefix of a request.
use Rattle.std.specs.Prelude.{◌≡◌, ℕ, Bool, ◌||◌, ◌==◌, codes, List, [], ◌∷◌, Option, Some, None, Result, Ok, Err}
use Rattle.std.specs.Prelude.{length, take, drop, nat_lt, if◌then◌else◌}
use Rattle.std.specs.Str.{bytes_eq}
use Rattle.httparse.specs.Grammar.{RequestHead}
use Rattle.http_head.specs.declared.refusals.HeadRefusal.{HeadRefusal}
use Rattle.http_head.specs.declared.refusals.HeadRefusal.TheVariants.{HeadTooLong}
use Rattle.http_head.specs.Framing.{head_end, head_limit, past_limit}
use Rattle.http_head.specs.Head.{ParsedHead, outline_of, IsReadAs, NamedHost, named_host_of}

-- a complete request
pub record HttpRequest : Type 0 where
  pub method : List ℕ
  pub target : List ℕ
  pub key : Option (List ℕ)
  pub body : List ℕ

-- incomplete, refused by its head, or complete
pub data ParseState : Type 0 where
  unfinished : ParseState
  refused : HeadRefusal → ParseState
  whole : HttpRequest → ParseState

-- the body is as many of the bytes after the head as the head says
abbrev pub body_seen : List ℕ → Result ParsedHead HeadRefusal → ParseState
body_seen behind (Err refusal) = refused refusal
body_seen behind (Ok o) = if nat_lt (length behind) o.length then unfinished else whole
    (record { method = o.method; target = o.target; key = o.key; body = take o.length behind })

-- the result of parsing, given the end of the head, if found, and the parsed head
abbrev pub seen_after : List ℕ → Option (ℕ × ℕ) → Option RequestHead → ParseState
seen_after bytes None read = if nat_lt head_limit (length bytes) then refused HeadTooLong else unfinished
seen_after bytes (Some end) read = body_seen (drop end.0 bytes) (outline_of end.1 read)

-- the parsed head, if the head is complete
abbrev pub IsHeadRead : List ℕ → Option (ℕ × ℕ) → Option RequestHead → Type 0
IsHeadRead bytes None read = read ≡ None
IsHeadRead bytes (Some end) read = IsReadAs end.1 (take end.0 bytes) read

-- the bytes are parsed to this result
pub record Sees (bytes : List ℕ) (seen : ParseState) : Type 0 where
  pub read : Option RequestHead
  pub is_read : IsHeadRead bytes (head_end bytes) read
  pub is_seen : seen ≡ seen_after bytes (head_end bytes) read

-- the bytes without CR and LF at the front
abbrev pub skip_line_breaks : List ℕ → List ℕ
skip_line_breaks [] = []
skip_line_breaks (b ∷ bytes) = if b == 13 || b == 10 then skip_line_breaks bytes else b ∷ bytes

-- after any CR and LF the bytes begin with HEAD and a blank
abbrev pub begin_with_head : List ℕ → Bool
begin_with_head bytes = bytes_eq (take 5 (skip_line_breaks bytes)) (codes "HEAD ")

-- the method is HEAD, in the head if it ends here, or else in the least prefix that is refused
abbrev pub asks_head_by : List ℕ → Option (ℕ × ℕ) → Bool
asks_head_by bytes None = begin_with_head (take past_limit bytes)
asks_head_by bytes (Some end) = begin_with_head (take end.0 bytes)

-- The method is HEAD, so the reply has no body. The head decides, or without one the least prefix that is refused.
unfoldable pub asks_head : List ℕ → Bool
asks_head bytes = asks_head_by bytes (head_end bytes)

-- the request is complete or refused: no further bytes change that
abbrev pub IsDecided : List ℕ → Type 0
IsDecided bytes = (seen : ParseState) × Sees bytes seen × (seen ≡ unfinished → ⊥)

-- the target and the value of Host, if the head is complete and no refusal of it comes before one of Host's value
abbrev pub named_host_after : Option (ℕ × ℕ) → Option RequestHead → Option NamedHost
named_host_after None read = None
named_host_after (Some end) read = named_host_of end.1 read

-- the bytes name this target and this Host
pub record NamesHost (bytes : List ℕ) (named : Option NamedHost) : Type 0 where
  pub read : Option RequestHead
  pub is_read : IsHeadRead bytes (head_end bytes) read
  pub is_named : named ≡ named_host_after (head_end bytes) read
