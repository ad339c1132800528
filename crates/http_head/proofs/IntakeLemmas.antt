-- Looking at the bytes of a connection piece by piece.
use Rattle.std.proofs.Common.{◌≡◌, ℕ, ◌+◌, ◌-◌, ◌<◌, ◌≤◌, true, false, List, [], ◌++◌, length, take, drop, min, nat_lt}
use Rattle.std.proofs.Common.{Some, None, Option, Result, Ok, Err, ◌∙◌, ap, refl, arith, append-nil, append_assoc}
use Rattle.std.proofs.Common.{length-append, length-drop}
use Rattle.std.proofs.lemmas.List.{take-append-le, length-take-le}
use Rattle.std.proofs.Math.Seq.{take-add}
use Rattle.http_head.specs.declared.framing.Scan.{Scan}
use Rattle.http_head.specs.declared.refusals.HeadRefusal.{HeadRefusal}
use Rattle.http_head.specs.declared.refusals.HeadRefusal.TheVariants.{HeadTooLong}
use Rattle.http_head.specs.Framing.{end_from, scan_start, head_end}
use Rattle.http_head.specs.Head.{ParsedHead}
use Rattle.http_head.specs.Request.{unfinished, refused, body_seen, IsDecided}
use Rattle.http_head.specs.declared.intake.RequestReader.{RequestReader}
use Rattle.http_head.specs.declared.intake.RequestReader.TheVariants.{Head, Body}
use Rattle.http_head.specs.internal.Intake.{IsScanOf, IsBodyOf, IsIntake}
use Rattle.http_head.proofs.HeadReading.{Gives}
use Rattle.http_head.proofs.RequestLemmas.{head_alone, no_end, with_end, end_more}

-- the bytes from a place up to a limit
abbrev pub piece : List ℕ → ℕ → ℕ → List ℕ
piece bytes at limit = take (limit - at) (drop at bytes)

-- what a scan finds from its place on is found from the start
pub from_start : {bytes : List ℕ} {s : Scan} {limit : ℕ} {found : List ℕ → Option (ℕ × ℕ)} → IsScanOf s bytes
    → limit ≡ min (length bytes) 16384
    → ((more : List ℕ) → end_from s (piece bytes s.at limit ++ more) ≡ found more) → (more : List ℕ)
    → end_from scan_start (take limit bytes ++ more) ≡ found more
from_start {bytes = bytes} {s = s} {limit = limit} scan e is more =
    let places : s.at + (limit - s.at) ≡ limit = omega (arith, scan.within, scan.limit) in
    let parts = rw places at (take-add s.at (limit - s.at) bytes) in
    rw (parts, append_assoc (take s.at bytes)) (scan.rest (piece bytes s.at limit ++ more) ∙ is more)

pub scan_goes_on : (bytes : List ℕ) (s t : Scan) (limit : ℕ) → IsScanOf s bytes → limit ≡ min (length bytes) 16384
    → ((more : List ℕ) → end_from s (piece bytes s.at limit ++ more) ≡ end_from t more)
    → t.at ≡ s.at + length (piece bytes s.at limit) → t.lines ≤ t.at → IsScanOf t bytes
scan_goes_on bytes s t limit scan e none at sane =
    let size : length (piece bytes s.at limit) ≡ limit - s.at =
    length-take-le (limit - s.at) (drop s.at bytes) (omega (arith, length-drop s.at bytes, scan.within)) in
    let place : t.at ≡ limit = omega (arith, scan.within, scan.limit) in
    record {
      within = omega arith;
      limit = omega arith;
      sane = sane;
      rest = λ more. ap (λ (k : ℕ). end_from scan_start (take k bytes ++ more)) place
          ∙ from_start {found = end_from t} scan e none more;
    }

-- ---- enough

pub long_is_decided : (bytes : List ℕ) → head_end bytes ≡ None → 16384 < length bytes → IsDecided bytes
long_is_decided bytes none long = let test : nat_lt 16384 (length bytes) ≡ true = grind arith in
    (refused HeadTooLong, no_end bytes none (refused HeadTooLong) (rw test refl), λ e. cc)

-- how many bytes behind a head are enough
abbrev pub needed : Result ParsedHead HeadRefusal → ℕ
needed (Ok o) = o.length
needed (Err refusal) = 0

-- with these it is decided
closed : (behind : List ℕ) (given : Result ParsedHead HeadRefusal) → needed given ≤ length behind
    → (body_seen behind given ≡ unfinished → ⊥)
closed behind (Err refusal) enough = λ e. cc
closed behind (Ok o) enough =
    let test : nat_lt (length behind) o.length ≡ false = grind arith in
    rw test (λ e. cc)

pub is_decided : (bytes : List ℕ) (n lines : ℕ) (given : Result ParsedHead HeadRefusal) → head_end bytes ≡ Some (n, lines)
    → Gives lines (take n bytes) given → needed given ≤ length bytes - n → IsDecided bytes
is_decided bytes n lines given end reads enough = (
  body_seen (drop n bytes) given,
  with_end bytes (n, lines) reads.0 _ end reads.1 (ap (body_seen (drop n bytes)) reads.2),
  closed (drop n bytes) given (omega (arith, enough, length-drop n bytes)),
)

-- the same head, whatever follows
pub reads_more : (bytes more : List ℕ) (n lines : ℕ) (given : Result ParsedHead HeadRefusal)
    → head_end bytes ≡ Some (n, lines)
    → Gives lines (take n bytes) given → Gives lines (take n (bytes ++ more)) given
reads_more bytes more n lines given end reads =
    let alone = head_alone bytes (n, lines) end in
    rw (take-append-le n bytes more alone.0) reads

pub is_body : (bytes : List ℕ) (n lines : ℕ) (given : Result ParsedHead HeadRefusal) → head_end bytes ≡ Some (n, lines)
    → Gives lines (take n bytes) given → IsBodyOf n (needed given) bytes
is_body bytes n lines given end reads = record {
  within = (head_alone bytes (n, lines) end).0;
  enough = λ more h. is_decided (bytes ++ more) n lines given (end_more bytes more (n, lines) end)
      (reads_more bytes more n lines given end reads) h;
}

pub body_there : (bytes : List ℕ) (start count : ℕ) → IsBodyOf start count bytes → count ≤ length bytes - start
    → IsDecided bytes
body_there bytes start count body h = rw (append-nil bytes) at (body.enough [] (rw (append-nil bytes) h))

-- ---- more bytes to look at

pub intake_more : (i : RequestReader) (bytes more : List ℕ) → IsIntake i bytes → IsIntake i (bytes ++ more)
intake_more (Head s) bytes more scan = record {
  within = omega (arith, scan.within, length-append bytes more);
  limit = scan.limit;
  sane = scan.sane;
  rest = λ later. rw (take-append-le s.at bytes more scan.within) (scan.rest later);
}
intake_more (Body start count) bytes more body = record {
  within = omega (arith, body.within, length-append bytes more);
  enough = λ later h. rw (append_assoc bytes more later)
      (body.enough (more ++ later) (rw (append_assoc bytes more later) at h));
}
