-- A head as it is read, whole or refused.
use Rattle.std.proofs.Common.{◌≡◌, ℕ, ◌≤◌, false, List, [], length, drop, nat_lt, Some, None, Option, Result}
use Rattle.std.proofs.Common.{Err, ap, refl, arith, rules, length-drop, append-nil}
use Rattle.std.proofs.lemmas.List.{drop_all}
use Rattle.httparse.specs.Grammar.{RequestHead, ReadsRequest}
use Rattle.httparse.specs.Spans.{IsRequestAt, RequestOverflows}
use Rattle.httparse.specs.declared.spans.HeaderSpan.{HeaderSpan}
use Rattle.httparse.specs.declared.spans.RequestSpans.{RequestSpans}
use Rattle.httparse.proofs.GrammarLemmas.{request_unique}
use Rattle.http_head.specs.declared.refusals.HeadRefusal.{HeadRefusal}
use Rattle.http_head.specs.declared.refusals.HeadRefusal.TheVariants.{BadHead}
use Rattle.http_head.specs.Framing.{end_from, scan_start}
use Rattle.http_head.specs.Head.{ParsedHead, outline_of, outline_from, fields_of, IsHead, IsReadAs}
use Rattle.http_head.specs.Head.{NamedHost, named_host_from, named_host_of}
use Rattle.http_head.proofs.HeadLines.{lines_of_head}

abbrev pub Gives : ℕ → List ℕ → Result ParsedHead HeadRefusal → Type 0
Gives lines bytes given = (read : Option RequestHead) × IsReadAs lines bytes read × (given ≡ outline_of lines read)

pub refused : (lines : ℕ) (bytes : List ℕ) → lines ≤ 65 → IsHead bytes None → Gives lines bytes (Err BadHead)
refused lines bytes h none = let e : nat_lt 65 lines ≡ false = search (rules, h) in (None, rw e none, rw e refl)

pub taken : (lines : ℕ) (bytes : List ℕ) (head : RequestHead) (given : Result ParsedHead HeadRefusal) → lines ≤ 65
    → ReadsRequest bytes head [] → given ≡ outline_from head.method head.target head.minor (fields_of head)
    → Gives lines bytes given
taken lines bytes head given h reads e =
    let f : nat_lt 65 lines ≡ false = search (rules, h) in (Some head, rw f reads, rw f e)

-- of a head that ends before the bytes do, no other takes them all
pub ends_early : (bytes : List ℕ) (headers : List HeaderSpan) (r : RequestSpans) (h : RequestHead)
    → IsRequestAt bytes headers r h → r.len ≤ length bytes → (r.len ≡ length bytes → ⊥) → IsHead bytes None
ends_early bytes headers r h at fits short other reads =
    let same = request_unique bytes h other (drop r.len bytes) [] at.reads reads in
    short (omega (arith, length-drop r.len bytes, ap length same.1))

-- no head has more fields than its lines allow
pub overflows : (bytes : List ℕ) (lines : ℕ) → lines ≤ 65 → end_from scan_start bytes ≡ Some (length bytes, lines)
    → RequestOverflows 64 bytes → IsHead bytes None
overflows bytes lines few found over h reads =
    let n = lines_of_head bytes h (length bytes) lines reads found in
    let m = over [] h [] (rw (append-nil bytes) reads) in
    omega arith

-- the whole head, as its spans show it
pub whole : (bytes : List ℕ) (headers : List HeaderSpan) (r : RequestSpans) (h : RequestHead)
    → IsRequestAt bytes headers r h → r.len ≡ length bytes → ReadsRequest bytes h []
whole bytes headers r h at e = rw (← drop_all r.len bytes (omega arith)) at.reads

-- ---- the host that a head names

abbrev pub Names : ℕ → List ℕ → Option NamedHost → Type 0
Names lines bytes named = (read : Option RequestHead) × IsReadAs lines bytes read × (named ≡ named_host_of lines read)

pub names_none : (lines : ℕ) (bytes : List ℕ) → lines ≤ 65 → IsHead bytes None → Names lines bytes None
names_none lines bytes h none = let e : nat_lt 65 lines ≡ false = search (rules, h) in (None, rw e none, refl)

pub names_host : (lines : ℕ) (bytes : List ℕ) (head : RequestHead) (named : Option NamedHost) → lines ≤ 65
    → ReadsRequest bytes head [] → named ≡ named_host_from head.target head.minor (fields_of head)
    → Names lines bytes named
names_host lines bytes head named h reads e =
    let f : nat_lt 65 lines ≡ false = search (rules, h) in (Some head, rw f reads, rw f e)
